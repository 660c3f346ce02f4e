-- What the tables say of a choice.
use Rattle.std.proofs.Common.{◌≡◌, ◌∙◌, ap, ℕ, ◌-◌, arith}
use Rattle.dob_rank.proofs.Boards.Pairs.{pair_is, first_at, second_at}
use Rattle.dob_rank.proofs.placing.pair_of.Goals as goal

pub overflow_sub-from_end : goal.overflow_sub-from_end
overflow_sub-from_end c = omega (arith, (pair_is _ _ c.requires.squares c.requires.number).fits)

pub overflow_sub-from_end-2 : goal.overflow_sub-from_end-2
overflow_sub-from_end-2 c = omega (arith, (pair_is _ _ c.requires.squares c.requires.number).fits)

pub overflow_sub-result : goal.overflow_sub-result
overflow_sub-result c =
    let read : c.from.result ≡ first_at c.args.squares c.args.number = c.from.ensures in
    omega (arith, (pair_is _ _ c.requires.squares c.requires.number).first_low)

pub overflow_sub-result-2 : goal.overflow_sub-result-2
overflow_sub-result-2 c =
    let read : c.from-2.result ≡ second_at c.args.squares c.args.number = c.from-2.ensures in
    omega (arith, (pair_is _ _ c.requires.squares c.requires.number).second_low)

pub returns-clause-lower : goal.returns-clause-lower
returns-clause-lower c = ap (λ (n : ℕ). c.args.squares - 1 - n) c.from.ensures ∙ (pair_is _ _ c.requires.squares c.requires.number).lower_is

pub returns-clause-higher : goal.returns-clause-higher
returns-clause-higher c = ap (λ (n : ℕ). c.args.squares - 1 - n) c.from-2.ensures ∙ (pair_is _ _ c.requires.squares c.requires.number).higher_is
