-- The law, case by case: what can go by a profile is a move.
use Rattle.dob_moves.specs.declared.game_move.Move.TheVariants.{Step}
use Rattle.dob_moves.proofs.ByProfile.{can_go}
use Rattle.dob_moves.proofs.Cases.{one_step}
use Rattle.dob_moves.proofs.laws.steps_exclude.Goals as goal

pub returns : goal.returns
returns c = λ profile p kind other from to catch catches grows grow one two. one_step p kind other from to catch catches grows grow
    (can_go profile p (Step kind from to catch grows) one) (can_go profile p (Step other from to catches grow) two)
