-- The moves of a position as one list.
use Rattle.std.specs.Prelude.{◌||◌, if◌then◌else◌, Bool, List, [], ◌++◌}
use Rattle.std.specs.Option.{is_some}
use Rattle.dob_pieces.specs.declared.kind.Side.TheVariants.{Enemy}
use Rattle.dob_pieces.specs.declared.profile.Profile.{Profile}
use Rattle.dob_pieces.specs.declared.setup.Setup.{Setup}
use Rattle.dob_pieces.specs.Setups.{at, holds_lion}
use Rattle.dob_moves.specs.declared.game_move.Move.{Move}
use Rattle.dob_moves.specs.declared.first_moves.Aim.TheVariants.{AtLion, Elsewhere}
use Rattle.dob_moves.specs.Walks.{first, all_steps, all_drops}

-- some step of the mover ends on the enemy lion
abbrev pub can_catch : Setup → Bool
can_catch p = is_some (first (all_steps AtLion p))

-- the enemy lion stands on row 1
abbrev pub has_tried : Setup → Bool
has_tried p = holds_lion Enemy (at p 0) || (holds_lion Enemy (at p 1) || holds_lion Enemy (at p 2))

-- the steps and then the drops of a profile, in the move order; none where the game is over
unfoldable pub moves_of : Profile → Setup → List Move
moves_of profile p = if can_catch p || has_tried p then [] else all_steps Elsewhere p ++ all_drops profile p
