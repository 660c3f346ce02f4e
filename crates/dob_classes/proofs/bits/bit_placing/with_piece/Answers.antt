-- one sum
use Rattle.dob_classes.proofs.Common.{cell_of, order}
use Rattle.dob_classes.proofs.BitPlaced.{piece_seen}
use Rattle.dob_classes.proofs.bits.bit_placing.with_piece.Goals as goal

pub returns : goal.returns
returns c = λ before after long grown empty w is.
    piece_seen c.args.side before after c.args.square c.args.planes (cell_of (order c.args.layer) c.args.form) c.requires.square long grown empty w is
    c.seen_square.result c.seen_square.ensures.value c.entry.result c.entry.ensures
