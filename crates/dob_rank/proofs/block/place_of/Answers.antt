-- A run's number and its size are small.
use Rattle.dob_rank.proofs.Common.{◌*◌, ◌+◌, ◌^◌, ap, arith, ℕ, mul-le}
use Rattle.dob_rank.proofs.block.place_of.Goals as goal

pub overflow_mul-result : goal.overflow_mul-result
overflow_mul-result c =
    omega (arith, mul-le c.args.spot.run c.size_of_runs.result (2 ^ 12) (2 ^ 25) (omega (arith, c.requires.run)) c.size_of_runs.ensures.bound)

pub overflow_add-result : goal.overflow_add-result
overflow_add-result c =
    let small = mul-le c.args.spot.run c.size_of_runs.result (2 ^ 12) (2 ^ 25) (omega (arith, c.requires.run)) c.size_of_runs.ensures.bound in
    omega (arith, small, c.requires.local, c.size_of_runs.ensures.value, c.size_of_runs.ensures.bound)

pub returns : goal.returns
returns c = ap (λ (n : ℕ). c.args.spot.run * n + c.args.spot.local) c.size_of_runs.ensures.value
