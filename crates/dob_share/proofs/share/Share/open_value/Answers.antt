-- The value of the cell that is read.
use Rattle.dob_share.proofs.Common.{◌∙◌, CellValue, ap, cell_in, subst, ℕ}
use Rattle.dob_share.proofs.Applied.{IsRead, is_read, cell_same, run_within, short_here}
use Rattle.dob_share.proofs.Owning.{cell_within}
use Rattle.dob_share.proofs.share.Share.open_value.Goals.{After-index}
use Rattle.dob_share.proofs.share.Share.open_value.Goals as goal

pub index-requires : goal.index-requires
index-requires c = cell_within c.args.self.now c.args.place c.opens_before-number.result c.requires.place c.requires.bit c.opens_before-number.ensures

here : (c : After-index) → IsRead c.args.self.now.slots c.args.self.now.pool c.opens_before-number.result c.index.result.now
here c = is_read c.opens_before-number.result c.args.self.now.pooled
    (cell_within c.args.self.now c.args.place c.opens_before-number.result c.requires.place c.requires.bit c.opens_before-number.ensures) c.index.ensures

pub value_in-requires-clause-within : goal.value_in-requires-clause-within
value_in-requires-clause-within c = run_within (here (goal.at.value_in-requires-clause-within c).After-index)

pub value_in-requires-clause-short : goal.value_in-requires-clause-short
value_in-requires-clause-short c = short_here (here (goal.at.value_in-requires-clause-short c).After-index)

pub returns : goal.returns
returns c = subst (λ cell. CellValue cell c.value_in.result)
    (cell_same (here (goal.at.returns c).After-index) ∙ ap (λ (k : ℕ). cell_in c.args.self.now.slots c.args.self.now.pool k) c.opens_before-number.ensures)
    c.value_in.ensures
