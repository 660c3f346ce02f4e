-- A shift multiplies by a power of 2, and nothing is shifted out.
use Rattle.std.proofs.Common.{◌+◌, ◌≤◌, ℕ, ap, arith}
use Rattle.std.proofs.lemmas.Nat.{pow_below}
use Rattle.std.proofs.Math.Pow.{shl_lt, shl_exact}
use Rattle.dob_lists.proofs.powers.join_by_power.Goals as goal

pub overflow_add-result : goal.overflow_add-result
overflow_add-result c =
    let exact = shl_exact 31 c.args.exponent 64 c.requires.quotient (omega (arith, c.requires.exponent)) in
    let low = shl_lt 31 c.args.exponent c.requires.quotient in
    let bound = pow_below (31 + c.args.exponent) 63 (omega (arith, c.requires.exponent)) in
    omega (arith, exact, low, bound, c.requires.rest)

pub returns : goal.returns
returns c =
    let low : 31 + c.args.exponent ≤ 64 = omega (arith, c.requires.exponent) in
    ap (λ (n : ℕ). n + c.args.rest) (shl_exact 31 c.args.exponent 64 c.requires.quotient low)
