-- The class of a position by numbers that ought to be the row of its block.
use Rattle.std.specs.Prelude.{ℕ, ◌≢◌, ◌≤◌, ◌⊎◌, List, length}
use Rattle.dob_pieces.specs.declared.profile.Family.{Family}
use Rattle.dob_pieces.specs.declared.setup.Setup.{Setup}
use Rattle.dob_classes.specs.BlockRows.{IsRow}
use Rattle.dob_rank.specs.Families.{IsInClass, classes_of}
use Rattle.dob_rank.specs.Numbers.{product, block_bases, block_of}
use Rattle.dobutsu_web.specs.Asked.{IsTextAsked}

-- where the numbers are the row of the position's block, its class
abbrev pub IsClassBy : Family → List ℕ → Setup → ℕ → Type 0
IsClassBy family row setup class = IsRow family (block_of family.set setup) row → IsInClass family setup class

-- the family has no block of that number, or the room isn't a row's
abbrev pub HasNoRow : Family → ℕ → List ℕ → Type 0
HasNoRow family block room = (product (block_bases family.set) ≤ block) ⊎ (length room ≢ 101)

-- the numbers are that row, and the family has no more classes than that
abbrev pub IsRightRow : Family → Setup → List ℕ → ℕ → Type 0
IsRightRow family setup row classes = IsRow family (block_of family.set setup) row × (classes_of family ≤ classes)

-- the class of the position that is asked for
abbrev pub IsToldClass : List ℕ → ℕ → List ℕ → ℕ → Type 0
IsToldClass text number row class = (family : Family) × (setup : Setup) × IsTextAsked text number family setup × IsClassBy family row setup class
