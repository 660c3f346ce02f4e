-- A position by its text and a profile by its number, and why there is none.
use Rattle.std.specs.Prelude.{◌≡◌, ℕ, ◌≤◌, List}
use Rattle.dob_pieces.specs.declared.profile.Family.{Family}
use Rattle.dob_pieces.specs.declared.profile.Profile.{Profile as AnyProfile}
use Rattle.dob_pieces.specs.declared.setup.Setup.{Setup}
use Rattle.dob_rank.specs.Families.{IsPositionOf}
use Rattle.dob_rank.specs.Numbers.{block_of}
use Rattle.dob_foreign.specs.Faults.{text_number}
use Rattle.dob_foreign.specs.Profiles.{profile_number}
use Rattle.dob_text.specs.Faults.{HasTextFault}
use Rattle.dob_text.specs.PositionText.{Spells}
use Rattle.dobutsu_web.specs.declared.asked.Refusal.{Refusal}
use Rattle.dobutsu_web.specs.declared.asked.Refusal.TheVariants.{Profile, Text}

-- the text is that of a position of the family, whose profile has that number
abbrev pub IsTextAsked : List ℕ → ℕ → Family → Setup → Type 0
IsTextAsked text number family setup = (profile_number family.profile ≡ number) × Spells text setup × IsPositionOf family setup

abbrev pub HasRefusal : List ℕ → ℕ → Refusal → Type 0
HasRefusal text number Profile = 2 ≤ number
HasRefusal text number (Text fault) = (profile : AnyProfile) × (profile_number profile ≡ number) × HasTextFault profile text fault

abbrev pub refusal_number : Refusal → ℕ
refusal_number Profile = 27
refusal_number (Text fault) = text_number fault

-- why there is no answer, by its number
abbrev pub IsRefused : List ℕ → ℕ → ℕ → Type 0
IsRefused text number answer = (refusal : Refusal) × HasRefusal text number refusal × (answer ≡ refusal_number refusal)

-- the number of the block of the position that is asked for
abbrev pub IsBlockOf : List ℕ → ℕ → ℕ → Type 0
IsBlockOf text number block = (family : Family) × (setup : Setup) × IsTextAsked text number family setup × (block ≡ block_of family.set setup)
