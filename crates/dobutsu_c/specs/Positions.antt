-- Positions as other languages see them: a number for each square, and how many pieces of each kind lie in each hand.
use Rattle.std.specs.Prelude.{◌≡◌, ℕ, ◌+◌, ◌<◌, ◌≤◌, List, Some, None, length, get_or}
use Rattle.dob_pieces.specs.declared.hand.Hand.{Hand}
use Rattle.dob_pieces.specs.declared.profile.Family.{Family}
use Rattle.dob_pieces.specs.declared.profile.Profile.{Profile}
use Rattle.dob_pieces.specs.declared.setup.Setup.{Setup}
use Rattle.dob_pieces.specs.Faults.{HasPositionFault}
use Rattle.dob_pieces.specs.Profiles.{IsAllowed}
use Rattle.dob_pieces.specs.Setups.{Cell, IsLegal}
use Rattle.dob_rank.specs.Families.{IsPositionOf, RepresentsClass}
use Rattle.dob_foreign.specs.Cells.{cell_number}
use Rattle.dob_foreign.specs.Faults.{position_number}
use Rattle.dob_foreign.specs.Profiles.{profile_number}
use Rattle.dobutsu_c.specs.declared.positions.DobutsuHand.{DobutsuHand}
use Rattle.dobutsu_c.specs.declared.positions.DobutsuPosition.{DobutsuPosition}
use Rattle.dobutsu_c.specs.declared.positions.NumbersFault.{NumbersFault}
use Rattle.dobutsu_c.specs.declared.positions.NumbersFault.TheVariants as fault
use Rattle.dobutsu_c.specs.declared.numbered.Refusal.{Refusal}
use Rattle.dobutsu_c.specs.declared.numbered.Refusal.TheVariants as refusal

abbrev pub hand_numbers : Hand → DobutsuHand
hand_numbers hand = record { chicks = hand.chicks; elephants = hand.elephants; giraffes = hand.giraffes }

-- each square's number is that of what stands there
pub record IsShownBoard (numbers : List ℕ) (board : List Cell) : Type 0 where
  pub squares : length board ≡ 12
  pub cells : (square : ℕ) → square < 12 → get_or numbers square 0 ≡ cell_number (get_or board square None)

pub record IsShown (numbers : DobutsuPosition) (setup : Setup) : Type 0 where
  pub board : IsShownBoard numbers.board setup.board
  pub mover : numbers.mover ≡ hand_numbers setup.hands.mover
  pub enemy : numbers.enemy ≡ hand_numbers setup.hands.enemy

-- why numbers are no position: they show nothing, or something that is none
abbrev pub HasNumbersFault : DobutsuPosition → NumbersFault → Type 0
HasNumbersFault numbers fault.Cell = (setup : Setup) → ¬ IsShown numbers setup
HasNumbersFault numbers (fault.Position given) = (setup : Setup) × IsShown numbers setup × HasPositionFault setup (Some given)

abbrev pub numbers_fault : NumbersFault → ℕ
numbers_fault fault.Cell = 2
numbers_fault (fault.Position given) = position_number given

-- ---- a position by numbers, and a profile by its number

-- the numbers are those of a position of the family, whose profile has that number
abbrev pub IsNumbersAsked : DobutsuPosition → ℕ → Family → Setup → Type 0
IsNumbersAsked numbers number family setup = (profile_number family.profile ≡ number) × IsShown numbers setup × IsPositionOf family setup

-- why they are none: there is no such profile, they are no position, or the profile doesn't allow it
abbrev pub HasRefusal : DobutsuPosition → ℕ → Refusal → Type 0
HasRefusal numbers number refusal.Profile = 2 ≤ number
HasRefusal numbers number (refusal.Numbers given) = (number < 2) × HasNumbersFault numbers given
HasRefusal numbers number refusal.FarChick = (profile : Profile) × (setup : Setup) × (profile_number profile ≡ number) × IsShown numbers setup
    × IsLegal setup × ¬ IsAllowed profile setup

abbrev pub refusal_number : Refusal → ℕ
refusal_number refusal.Profile = 27
refusal_number (refusal.Numbers given) = numbers_fault given
refusal_number refusal.FarChick = 26

abbrev pub IsRefused : DobutsuPosition → ℕ → ℕ → Type 0
IsRefused numbers number answer = (given : Refusal) × HasRefusal numbers number given × (answer ≡ refusal_number given)

-- the positions are the first ones of the classes from that number on
abbrev pub AreClassesFrom : Family → ℕ → List DobutsuPosition → Type 0
AreClassesFrom family first positions = (place : ℕ) → place < length positions
    → (setup : Setup) × RepresentsClass family setup (first + place) × ((e : DobutsuPosition) → IsShown (get_or positions place e) setup)
