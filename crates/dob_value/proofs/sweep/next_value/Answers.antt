-- Each branch finds a win, a loss, or that neither comes within one ply more.
use Rattle.std.proofs.Common.{inl, inr, sym, subst, ◌<◌, All, arith, length, ◌∙◌}
use Rattle.dob_value.proofs.NextValues.{have_entries, value_at_catch, not_over, value_of_win, value_of_loss, still_not_won, still_not_lost}
use Rattle.dob_value.proofs.sweep.next_value.Goals as goal

pub has_lost-requires : goal.has_lost-requires
has_lost-requires c =
    subst (λ xs. All (λ number. number < length c.args.values.now) xs) (sym c.successors_of-successors.ensures) (have_entries c.args.values.now c.requires.told)

pub are_won-requires : goal.are_won-requires
are_won-requires c =
    subst (λ xs. All (λ number. number < length c.args.values.now) xs) (sym c.successors_of-successors.ensures) (have_entries c.args.values.now c.requires.told)

pub returns-in-Caught : goal.returns-in-Caught
returns-in-Caught c =
    let win = value_at_catch c.args.values.now c.requires.told c.requires.not_won (sym c.status_of-status.ensures ∙ c.in-Caught.is) in
    record { cut_off = (omega arith, win); distance = λ _. inl win }

pub returns-in-Tried : goal.returns-in-Tried
returns-in-Tried c = absurd (not_over c.args.values.now c.requires.told c.requires.not_lost c.status_of-status.result c.status_of-status.ensures c.in-Tried.is)

pub returns-then-has_lost : goal.returns-then-has_lost
returns-then-has_lost c =
    let win = value_of_win c.args.values.now c.requires.told (sym c.status_of-status.ensures ∙ c.in-Open.is) c.successors_of-successors.result.now
    c.successors_of-successors.ensures c.requires.not_won (sym c.has_lost.ensures ∙ c.if-has_lost.true) in
    record { cut_off = (omega arith, win); distance = λ _. inl win }

pub returns-then-are_won : goal.returns-then-are_won
returns-then-are_won c =
    let loss = value_of_loss c.args.values.now c.requires.told (sym c.status_of-status.ensures ∙ c.in-Open.is) c.successors_of-successors.result.now
    c.successors_of-successors.ensures c.requires.not_lost (sym c.are_won.ensures ∙ c.if-are_won.true) in
    record { cut_off = (omega arith, loss); distance = λ _. inr loss }

pub returns-else-are_won-clause-cut_off : goal.returns-else-are_won-clause-cut_off
returns-else-are_won-clause-cut_off c = (
  still_not_won c.args.values.now c.requires.told (sym c.status_of-status.ensures ∙ c.in-Open.is) c.successors_of-successors.result.now
      c.successors_of-successors.ensures (sym c.has_lost.ensures ∙ c.if-has_lost.false),
  still_not_lost c.args.values.now c.requires.told (sym c.status_of-status.ensures ∙ c.in-Open.is) c.successors_of-successors.result.now
      c.successors_of-successors.ensures (sym c.are_won.ensures ∙ c.if-are_won.false),
)
