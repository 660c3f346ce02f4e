-- The background, the board, both hands and the end, one after another.
use Rattle.std.proofs.Common.{◌∙◌}
use Rattle.dob_text.proofs.Joins.{four_after}
use Rattle.dob_text.proofs.pictures.picture_position.Goals as goal

pub returns : goal.returns
returns c =
    four_after _ _ _ _ _ _ _ _ _ _ (c.in_ok-text.ensures.ok ∙ c.first_part.ensures) c.in_ok-push_board.ensures c.in_ok-push_hand.ensures
    c.in_ok-push_hand-2.ensures c.in_ok-push_str.ensures.bytes
