-- A shift divides by a power of 2, and a mask gives the remainder.
use Rattle.std.proofs.Common.{◌-◌, ℕ, ◌∙◌, ap, arith, bit_and}
use Rattle.std.proofs.lemmas.Nat.{one_shl, and_mask}
use Rattle.dob_lists.proofs.powers.split_by_power.Goals as goal

pub returns-clause-rest : goal.returns-clause-rest
returns-clause-rest c = ap (λ (x : ℕ). bit_and c.args.number (x - 1)) (one_shl c.args.exponent 64 (omega (arith, c.requires))) ∙ and_mask c.args.number c.args.exponent
