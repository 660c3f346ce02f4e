-- What is listed of a class at the opening.
use Rattle.dob_history.proofs.Common.{◌<◌, ◌∙◌, ◌≡◌, AreOpenings, Family, HasClasses-classes_of, HasStatus, IsOpening, List, Open, Opening, Profile, Setup}
use Rattle.dob_history.proofs.Common.{Some, Status, class_setup, class_setup_is, classes_of, length, moves_of, moves_where, opening_of, refl, slice_get}
use Rattle.dob_history.proofs.Common.{slice_get-get_or, sym, ℕ}
use Rattle.dob_pieces.specs.Setups.{IsLegal}
use Rattle.dob_share.specs.Openings.{stuck}
use Rattle.dob_moves.proofs.MoveCounts.{other_count}

-- ---- positions
pub legal_class : (family : Family) (class : ℕ) → class < classes_of family → IsLegal (class_setup family class)
legal_class family class low = (class_setup_is family class (classes_of family) (HasClasses-classes_of family) low).0.0.of_set.legal

pub twelve_squares : (family : Family) (class : ℕ) → class < classes_of family → length (class_setup family class).board ≡ 12
twelve_squares family class low = (legal_class family class low).squares

-- a class that isn't open has no move
pub moves_open : (profile : Profile) (p : Setup) (status : Status) (moves : ℕ) → length p.board ≡ 12 → HasStatus profile p status →
    moves ≡ length (moves_of profile p) → moves_where status moves ≡ moves
moves_open profile p Open moves twelve is counted = refl
moves_open profile p status moves twelve is counted = other_count profile p status twelve is (λ e. cc) ∙ sym counted

-- ---- what is listed

-- what is listed of a class is its opening
pub opening_listed : (openings : List Opening) (place : ℕ) → place < length openings → slice_get openings place ≡ Some (opening_of openings place)
opening_listed openings place low = slice_get-get_or openings place stuck low

pub listed_opening : (family : Family) (openings : List Opening) (class : ℕ) → AreOpenings family openings → class < classes_of family →
    IsOpening family.profile (class_setup family class) (opening_of openings class)
listed_opening family openings class are low = are.each class (opening_of openings class) (opening_listed openings class (rw are.whole low))
