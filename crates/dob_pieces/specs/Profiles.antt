-- What a profile of the rules lets stand on a square, and which setups it allows.
use Rattle.std.specs.Prelude.{◌≡◌, ℕ, suc, ◌==◌, ◌&&◌, not, Bool, true, false, List, [], ◌∷◌, Some, None}
use Rattle.dob_pieces.specs.declared.kind.Kind.{Kind}
use Rattle.dob_pieces.specs.declared.kind.Kind.TheVariants.{Chick}
use Rattle.dob_pieces.specs.declared.kind.Side.{Side}
use Rattle.dob_pieces.specs.declared.kind.Side.TheVariants.{Mover, Enemy}
use Rattle.dob_pieces.specs.declared.profile.Profile.{Profile}
use Rattle.dob_pieces.specs.declared.profile.Profile.TheVariants.{A, B}
use Rattle.dob_pieces.specs.declared.setup.Setup.{Setup}
use Rattle.dob_pieces.specs.Squares.{row}
use Rattle.dob_pieces.specs.Setups.{Cell}

-- the number of a profile, in files and in other languages
abbrev pub profile_number : Profile → ℕ
profile_number A = 0
profile_number B = 1

-- a chick on a row that is its side's far row
abbrev pub is_far : Side → Kind → ℕ → Bool
is_far Mover Chick row = row == 3
is_far Enemy Chick row = row == 0
is_far _ _ row = false

abbrev pub is_far_chick : ℕ → Cell → Bool
is_far_chick square None = false
is_far_chick square (Some piece) = is_far piece.side piece.kind (row square)

-- the profile lets that stand on the square
abbrev pub may_stand : Profile → ℕ → Cell → Bool
may_stand A square cell = true
may_stand B square cell = not (is_far_chick square cell)

-- and the cells of the squares from one on
abbrev pub may_all_stand : Profile → ℕ → List Cell → Bool
may_all_stand profile square [] = true
may_all_stand profile square (cell ∷ cells) = may_stand profile square cell && may_all_stand profile (suc square) cells

-- the profile lets all that stands on the board stand there: A asks nothing
abbrev pub is_allowed : Profile → Setup → Bool
is_allowed A setup = true
is_allowed B setup = may_all_stand B 0 setup.board

abbrev pub IsAllowed : Profile → Setup → Type 0
IsAllowed profile setup = is_allowed profile setup ≡ true
