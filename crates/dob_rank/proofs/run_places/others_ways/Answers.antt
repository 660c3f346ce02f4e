-- A product of few and few.
use Rattle.dob_rank.proofs.Common.{◌*◌, ◌^◌, ◌≤◌, arith, mul-le-mul, subst, sym}
use Rattle.dob_rank.proofs.ProfileB.PlaceNumbers.{few_forms}
use Rattle.dob_rank.proofs.run_places.others_ways.Goals as goal

pub returns-clause-bound : goal.returns-clause-bound
returns-clause-bound c =
    let few : 2 ^ c.others_bits.result ≤ 16 = subst (λ n. n ≤ 16) (sym c.others_bits.ensures.value) (few_forms c.args.on_board.now c.requires) in
    let most : c.others_in.result * 2 ^ c.others_bits.result ≤ 2025 * 16 = mul-le-mul c.others_in.ensures.bound few in
    omega (arith, c.join_by_power.ensures, most)
