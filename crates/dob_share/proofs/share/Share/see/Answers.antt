-- What is seen of the class, by its cell's number.
use Rattle.dob_share.proofs.share.Share.see.Goals as goal

pub see_cell-requires : goal.see_cell-requires
see_cell-requires c = (c.args.class, c.cell_number.ensures)

pub returns : goal.returns
returns c = c.see_cell.ensures c.args.class c.cell_number.ensures
