-- The turn of an open position is legal.
use Rattle.dob_zugzwang.proofs.Common.{turned}
use Rattle.dob_moves.specs.Shown.{setup_on}
use Rattle.dob_zugzwang.proofs.Turned.{turn_legal}
use Rattle.dob_zugzwang.proofs.pairs.turn_of_open.Goals as goal

pub new-requires : goal.new-requires
new-requires c =
    let p = setup_on c.args.position.now.board in
    (turned p, turn_legal c.args.profile p c.args.position.now.legal c.requires, c.turned.ensures p c.args.position.now.shows)

pub returns : goal.returns
returns c =
    let p = setup_on c.args.position.now.board in
    c.new.ensures (turned p) (turn_legal c.args.profile p c.args.position.now.legal c.requires) (c.turned.ensures p c.args.position.now.shows)
