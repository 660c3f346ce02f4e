-- The move at a place of the move order.
use Rattle.std.specs.Prelude.{◌≡◌, ℕ, nat_lt, ◌&&◌, cond, Option, Some, None}
use Rattle.dob_pieces.specs.declared.kind.Kind.{Kind}
use Rattle.dob_pieces.specs.declared.kind.HandKind.{HandKind}
use Rattle.dob_pieces.specs.declared.profile.Profile.{Profile}
use Rattle.dob_pieces.specs.declared.setup.Setup.{Setup}
use Rattle.dob_pieces.specs.Pieces.{leads}
use Rattle.dob_pieces.specs.Setups.{at, held}
use Rattle.dob_moves.specs.declared.game_move.Move.{Move}
use Rattle.dob_moves.specs.declared.first_moves.Aim.{Aim}
use Rattle.dob_moves.specs.declared.position_status.Status.TheVariants.{Open}
use Rattle.dob_moves.specs.Moves.{CanGo, CatchesLion, may_put, place}
use Rattle.dob_moves.specs.Statuses.{HasStatus}
use Rattle.dob_pieces.specs.Masks.{own_kind}
use Rattle.dob_moves.specs.Walks.{step_onto, put_if}

-- the move of an open position at that place
abbrev pub IsMoveAt : Profile → Setup → ℕ → Move → Type 0
IsMoveAt profile p there move = HasStatus profile p Open × CanGo profile p move × (place move ≡ there)

-- the step at that place that catches the enemy lion
abbrev pub IsCatchAt : Setup → ℕ → Move → Type 0
IsCatchAt p there move = CatchesLion p move × (place move ≡ there)

-- ---- the same as it is looked for
abbrev pub step_of : Aim → Setup → Option Kind → ℕ → ℕ → Option Move
step_of aim p None from to = None
step_of aim p (Some kind) from to = cond (leads kind from to) (step_onto aim (at p to) kind from to) None

-- the mover's step from the one square to the other, if it ends where it is aimed
abbrev pub step_between : Aim → Setup → ℕ → ℕ → Option Move
step_between aim p from to = step_of aim p (own_kind (at p from)) from to

-- the drop of a piece in hand on a square that is empty and where the profile lets it stand
abbrev pub drop_on : Profile → Setup → HandKind → ℕ → Option Move
drop_on profile p kind to = cond (nat_lt 0 (held p.hands.mover kind) && may_put profile kind to) (put_if (at p to) kind to) None
