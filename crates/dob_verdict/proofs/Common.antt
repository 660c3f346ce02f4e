-- The names that the proofs here use most, from other crates and the definitions of this one.
pub use Rattle.std.proofs.Common.{◌||◌, ◌∙◌, ◌≡◌, ◌⊎◌, Bool, List, false, inl, inr, subst, sym, ℕ}
pub use Rattle.std.proofs.lemmas.Result.{err_from_is_err_and}
pub use Rattle.std.specs.Prelude.{Err, IfErr, IfOk, IsTrue, Ok, Result, String}
pub use Rattle.dob_pieces.specs.declared.setup.Setup.{Setup}
pub use Rattle.dob_value.specs.Follows.{ClassTable}
pub use Rattle.dob_device.specs.Sinks.{Change}
pub use Rattle.dob_certfile.specs.Format.{Content, content}
pub use Rattle.dob_certfile.specs.Reading.{HasCertFault}
pub use Rattle.dob_shelf.proofs.Shelves.{others_kept}
pub use Rattle.dob_shelf.specs.Shelves.{FailsWhere, HasJust, SameFiles, ShelfChange, ShelfState, shelf_change}
pub use Rattle.dob_shelf.specs.declared.shelf.ShelfFault.{ShelfFault}
pub use Rattle.dob_files.specs.Faults.{fault_of_shelf, is_io}
pub use Rattle.dob_files.specs.Keeping.{AreThese, FillsSink, IsShelfFault, LeavesFiles}
pub use Rattle.dob_files.specs.Tables.{IsFileOf, IsOpeningFault, IsTextOf}
pub use Rattle.dob_files.specs.declared.fault.ProgramFault.{ProgramFault}
pub use Rattle.dob_files.specs.declared.fault.ProgramFault.TheVariants.{Certificate, Io, Memory, Table, Text}
