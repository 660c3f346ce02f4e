-- The digits of a spot make the position that stands there.
use Rattle.dob_rank.proofs.Positions.Found.{HasDigits-spot, made_by, made_same}
use Rattle.dob_rank.proofs.set_ranks.position_by.Goals as goal

pub setup_of-requires-clause-digits : goal.setup_of-requires-clause-digits
setup_of-requires-clause-digits c =
    HasDigits-spot c.args.set c.args.on_board.now c.args.spot.run c.args.spot.local _ c.requires.run c.requires.local c.digits_in-digits.ensures

pub new-requires : goal.new-requires
new-requires c =
    (made_by c.args.set c.args.on_board.now c.args.spot.run c.args.spot.local _ _ c.requires.on_board c.requires.run c.requires.local
    c.digits_in-digits.ensures c.setup_of.ensures).position.legal

pub returns : goal.returns
returns c =
    made_same c.args.set _ _ c.setup_of.result c.new.result.setup c.new.ensures
    (made_by c.args.set c.args.on_board.now c.args.spot.run c.args.spot.local _ _ c.requires.on_board c.requires.run c.requires.local
    c.digits_in-digits.ensures c.setup_of.ensures)
