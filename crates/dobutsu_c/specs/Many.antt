-- Many answers by one call.
use Rattle.std.specs.Prelude.{◌≡◌, ◌⊎◌, ℕ, zero, suc, ◌-◌, ◌<◌, ◌≤◌, List, length, take, drop, get_or}
use Rattle.dob_pieces.specs.declared.setup.Setup.{Setup}
use Rattle.dob_pieces.specs.Setups.{IsLegal}
use Rattle.dob_text.specs.PositionText.{text_of}
use Rattle.dobutsu_c.specs.declared.numbering.Numbering.{Numbering}
use Rattle.dobutsu_c.specs.declared.many.DobutsuAnswer.{DobutsuAnswer}
use Rattle.dobutsu_c.specs.declared.positions.DobutsuPosition.{DobutsuPosition}
use Rattle.dobutsu_c.specs.declared.positions.NumbersFault.{NumbersFault}
use Rattle.dobutsu_c.specs.Probed.{IsAnswer}
use Rattle.dobutsu_c.specs.Positions.{IsShown, HasNumbersFault, numbers_fault}

-- the text of that number: what stands between the end of the one before and its own, as far as there is anything
abbrev pub start_at : List ℕ → ℕ → ℕ
start_at ends zero = 0
start_at ends (suc place) = get_or ends place 0

abbrev pub text_at : List ℕ → List ℕ → ℕ → List ℕ
text_at texts ends place = take (get_or ends place 0 - start_at ends place) (drop (start_at ends place) texts)

-- the answer of a position's text
abbrev pub IsAnswerOf : List ℕ → Numbering → List ℕ → DobutsuAnswer → DobutsuAnswer → Type 0
IsAnswerOf file by text old new = IsAnswer file by text old.value new.value new.fault

-- each of the first texts has its answer, and the other places hold what they held
pub record AreAnswers (file : List ℕ) (by : Numbering) (texts ends : List ℕ) (old new : List DobutsuAnswer) : Type 0 where
  pub answers : (place : ℕ) (e : DobutsuAnswer) → place < length ends → place < length new
      → IsAnswerOf file by (text_at texts ends place) (get_or old place e) (get_or new place e)
  pub others : (place : ℕ) (e : DobutsuAnswer) → length ends ≤ place → get_or new place e ≡ get_or old place e

-- The answer of a position by its numbers: that of its text; or why they are none, and the value as it was.
abbrev pub IsAnswerAt : List ℕ → Numbering → DobutsuPosition → DobutsuAnswer → DobutsuAnswer → Type 0
IsAnswerAt file by numbers old new =
    ((setup : Setup) × IsLegal setup × IsShown numbers setup × IsAnswerOf file by (text_of setup) old new)
    ⊎ ((fault : NumbersFault) × HasNumbersFault numbers fault × (new.fault ≡ numbers_fault fault) × (new.value ≡ old.value))

pub record AreAnswersAt (file : List ℕ) (by : Numbering) (positions : List DobutsuPosition) (old new : List DobutsuAnswer) : Type 0 where
  pub answers : (place : ℕ) (d : DobutsuPosition) (e : DobutsuAnswer) → place < length positions → place < length new
      → IsAnswerAt file by (get_or positions place d) (get_or old place e) (get_or new place e)
  pub others : (place : ℕ) (e : DobutsuAnswer) → length positions ≤ place → get_or new place e ≡ get_or old place e
