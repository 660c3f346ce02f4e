-- the hands are those of the setup
use Rattle.dob_unmove.proofs.Common.{◌∙◌, ap, Hands, holds_caught}
use Rattle.dob_unmove.proofs.ways.Ways.holds_caught.Goals as goal

pub returns : goal.returns
returns c = λ after are. c.holds_caught.ensures ∙ ap (λ (hs : Hands). holds_caught hs.mover c.args.caught) are.board_is.hands_are
