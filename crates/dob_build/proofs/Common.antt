-- The names that the proofs here use most, from other crates and the definitions of this one.
pub use Rattle.std.proofs.Common.{◌∙◌, ◌≡◌, Bool, List, Option, ap, inl, inr, refl, subst, sym, ℕ}
pub use Rattle.std.specs.Prelude.{Err, IsTrue}
pub use Rattle.dob_pieces.specs.declared.profile.Profile.{Profile}
pub use Rattle.dob_rank.specs.Families.{family_of}
pub use Rattle.dob_dbfile.specs.Format.{bytes_of}
pub use Rattle.dob_device.specs.Sinks.{Change}
pub use Rattle.dob_shelf.proofs.Shelves.{others_kept, unchanged}
pub use Rattle.dob_shelf.specs.Shelves.{HasJust, SameFiles, ShelfChange, ShelfState, shelf_change}
pub use Rattle.dob_files.specs.declared.fault.ProgramFault.{ProgramFault}
