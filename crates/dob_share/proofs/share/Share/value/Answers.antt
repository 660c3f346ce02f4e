-- An open class has the value of its cell.
use Rattle.dob_share.proofs.Common.{◌/◌, ◌∙◌, CellValue, IsOwnOpen, ap, cell_in, open_number, opens_below, refl, status_at, status_in, subst, sym, ℕ}
use Rattle.dob_share.proofs.Owning.{value_there}
use Rattle.dob_share.proofs.share.Share.value.Goals as goal

pub returns-in-Open : goal.returns-in-Open
unfolding status_at IsOwnOpen open_number
returns-in-Open c =
    let share = c.args.self.now in
    let place = c.quotient-place.ensures ∙ ap (λ (k : ℕ). c.args.class / k) c.get.ensures.value in
    value_there share c.args.class (opens_below share.statuses.words (c.args.class / share.nodes)) c.open_value.result
    (c.requires, ap (λ (p : ℕ). status_in share.statuses.words p) (sym place) ∙ sym c.status.ensures ∙ c.in-Open.is) refl
    (subst (λ (p : ℕ). CellValue (cell_in share.slots share.pool (opens_below share.statuses.words p)) c.open_value.result)
    place c.open_value.ensures)
