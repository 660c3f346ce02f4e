-- The blocks of a family, each with its classes.
use Rattle.std.specs.Prelude.{◌≡◌, ℕ, ◌<◌, List, length, slice_index_or}
use Rattle.dob_pieces.specs.declared.profile.Family.{Family}
use Rattle.dob_classes.specs.declared.block_classes.BlockClasses.{BlockClasses}

-- each block of the list stands at its number, and is one of the family
pub record IsBlock (family : Family) (number : ℕ) (block : BlockClasses) : Type 0 where
  pub family_is : block.family ≡ family
  pub number_is : block.number ≡ number

abbrev pub AreBlocks : Family → List BlockClasses → Type 0
AreBlocks family blocks = (number : ℕ) (other : BlockClasses) → number < length blocks → IsBlock family number (slice_index_or blocks number other)
