-- The order in which steps and drops are looked for: by square, by the square stepped to, by kind in hand.
use Rattle.std.specs.Prelude.{ℕ, nat_lt, Bool, true, false, not, cond, List, [], ◌∷◌, ◌++◌, Option, Some, None, option_to_list}
use Rattle.std.specs.List.{filter_map}
use Rattle.std.specs.Option.{is_some}
use Rattle.dob_pieces.specs.declared.kind.Kind.{Kind}
use Rattle.dob_pieces.specs.declared.kind.HandKind.{HandKind}
use Rattle.dob_pieces.specs.declared.kind.HandKind.TheVariants as hand
use Rattle.dob_pieces.specs.declared.kind.Side.{Side}
use Rattle.dob_pieces.specs.declared.kind.Side.TheVariants.{Mover, Enemy}
use Rattle.dob_pieces.specs.declared.profile.Profile.{Profile}
use Rattle.dob_pieces.specs.declared.setup.Setup.{Setup}
use Rattle.dob_pieces.specs.Lists.{each_below}
use Rattle.dob_pieces.specs.Pieces.{is_lion, steps_of, square_after}
use Rattle.dob_pieces.specs.Masks.{own_kind}
use Rattle.dob_pieces.specs.Setups.{Cell, at, held}
use Rattle.dob_moves.specs.declared.game_move.Move.{Move}
use Rattle.dob_moves.specs.declared.game_move.Move.TheVariants.{Step, Put}
use Rattle.dob_moves.specs.declared.first_moves.Aim.{Aim}
use Rattle.dob_moves.specs.declared.first_moves.Aim.TheVariants.{AtLion, Elsewhere}
use Rattle.dob_moves.specs.Moves.{grows_at, may_put}

-- the first of the moves, if there is one
abbrev pub first : List Move → Option Move
first [] = None
first (move ∷ moves) = Some move

-- a step at the enemy lion may end on it alone, and a step elsewhere on any other enemy piece
abbrev pub may_take : Aim → Side → Kind → Bool
may_take aim Mover kind = false
may_take AtLion Enemy kind = is_lion kind
may_take Elsewhere Enemy kind = not (is_lion kind)

-- a step elsewhere may end on an empty square too
abbrev pub may_end : Aim → Cell → Bool
may_end AtLion None = false
may_end Elsewhere None = true
may_end aim (Some piece) = may_take aim piece.side piece.kind

-- the step that ends on what stands there, if it may end there
abbrev pub step_onto : Aim → Cell → Kind → ℕ → ℕ → Option Move
step_onto aim cell kind from to = cond (may_end aim cell) (Some (Step kind from to (is_some cell) (grows_at kind to))) None

abbrev pub step_if : Aim → Setup → Kind → ℕ → Option ℕ → Option Move
step_if aim p kind from None = None
step_if aim p kind from (Some to) = step_onto aim (at p to) kind from to

-- the move by a step of the kind
abbrev pub step_by : Aim → Setup → Kind → ℕ → ℕ × ℕ → Option Move
step_by aim p kind from step = step_if aim p kind from (square_after from step)

-- the steps of a piece of that kind
unfoldable pub steps_by : Aim → Setup → Kind → ℕ → List Move
steps_by aim p kind from = filter_map (step_by aim p kind from) (steps_of kind)

abbrev pub steps_if : Aim → Setup → ℕ → Option Kind → List Move
steps_if aim p from None = []
steps_if aim p from (Some kind) = steps_by aim p kind from

-- the mover's steps from that square
unfoldable pub steps_from : Aim → Setup → ℕ → List Move
steps_from aim p from = steps_if aim p from (own_kind (at p from))

-- all the mover's steps that end where they are aimed
unfoldable pub all_steps : Aim → Setup → List Move
all_steps aim p = each_below (steps_from aim p) 12

abbrev pub put_if : Cell → HandKind → ℕ → Option Move
put_if None kind to = Some (Put kind to)
put_if (Some piece) kind to = None

-- the drop of that kind on that square, if it is empty and the profile lets it be made
abbrev pub put_on : Profile → Setup → HandKind → ℕ → Option Move
put_on profile p kind to = cond (may_put profile kind to) (put_if (at p to) kind to) None

-- the drops of that kind
unfoldable pub drops_of : Profile → Setup → HandKind → List Move
drops_of profile p kind = cond (nat_lt 0 (held p.hands.mover kind)) (each_below (λ to. option_to_list (put_on profile p kind to)) 12) []

-- all drops
unfoldable pub all_drops : Profile → Setup → List Move
all_drops profile p = drops_of profile p hand.Chick ++ drops_of profile p hand.Elephant ++ drops_of profile p hand.Giraffe
