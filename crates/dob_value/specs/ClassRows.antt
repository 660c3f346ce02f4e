-- The classes of a family in a row, as dob_classes defines them.
pub use Rattle.dob_rank.specs.ClassRows.{marked_place}
unfoldable pub use Rattle.dob_rank.specs.Families.{class_setup}
