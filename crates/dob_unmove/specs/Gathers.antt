-- The numbers that are gathered when the ways to take a move back are gone through.
use Rattle.std.specs.Prelude.{◌≡◌, ℕ, ◌++◌, [], ◌∷◌, Bool, true, false, List, None, Option, length}
use Rattle.dob_pieces.specs.declared.profile.Profile.TheVariants.{A}
use Rattle.std.specs.Option.{MatchOption, option_to_list}
use Rattle.dob_pieces.specs.declared.setup.Setup.{Setup}
use Rattle.dob_pieces.specs.Setups.{mirrored}
use Rattle.dob_moves.specs.declared.position_status.Status.TheVariants.{Open}
use Rattle.dob_moves.specs.Statuses.{HasStatus}
use Rattle.dob_unmove.specs.declared.undo.RetroMove.{RetroMove}
use Rattle.dob_unmove.specs.Undoes.{earlier}

-- the setup is an open position, and the representative of that class
abbrev pub IsOpenRepresentative : (Setup → ℕ → Type 0) → Setup → ℕ → Type 0
IsOpenRepresentative Represents p class = Represents p class × HasStatus A p Open

-- the class of which the setup is the representative, if it is an open position and one
abbrev pub Finds : (Setup → ℕ → Type 0) → Setup → Option ℕ → Type 0
Finds Represents p found = MatchOption found (¬ ((class : ℕ) × IsOpenRepresentative Represents p class)) (IsOpenRepresentative Represents p)

-- the numbers added by the ways, one after the other
abbrev pub Gathers : (Setup → ℕ → Type 0) → Setup → List RetroMove → List ℕ → List ℕ → Type 0
Gathers Represents after [] old new = old ≡ new
Gathers Represents after (undo ∷ undoes) old new =
    (found : Option ℕ) × Finds Represents (earlier after undo) found × Gathers Represents after undoes (old ++ option_to_list found) new

-- the mirror image of the setup is the representative of that class
abbrev pub OfImage : (Setup → ℕ → Type 0) → Setup → ℕ → Type 0
OfImage Represents p class = (length p.board ≡ 12) × Represents (mirrored p) class

-- the class of which the setup's mirror image is the representative, unless images don't count
abbrev pub FindsImage : Bool → (Setup → ℕ → Type 0) → Setup → Option ℕ → Type 0
FindsImage true Represents p found = found ≡ None
FindsImage false Represents p found = Finds (OfImage Represents) p found

-- the class is added of which the position is the representative
abbrev pub Appends : (Setup → ℕ → Type 0) → Setup → List ℕ → List ℕ → Type 0
Appends Represents p old new =
    (found : Option ℕ) × MatchOption found (¬ ((class : ℕ) × Represents p class)) (Represents p) × (new ≡ old ++ option_to_list found)

-- What a position before a move adds: the class of which it is the representative, and that of which its mirror image is. The latter is left out where
-- what the move led to is its own image.
pub record AddsClasses (own : Bool) (Represents : Setup → ℕ → Type 0) (p : Setup) (old new : List ℕ) : Type 0 where
  pub found : Option ℕ
  pub image : Option ℕ
  pub first : Finds Represents p found
  pub second : FindsImage own Represents p image
  pub added : new ≡ (old ++ option_to_list found) ++ option_to_list image
