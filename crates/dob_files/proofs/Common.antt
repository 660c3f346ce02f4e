-- The names that the proofs here use most, from other crates and the definitions of this one.
pub use Rattle.std.proofs.Common.{◌++◌, ◌||◌, ◌∙◌, ◌∷◌, ◌≡◌, ◌⊎◌, Bool, List, None, Option, Some, [], ap, append-nil, arith, false, flat_map, inl, inr, refl}
pub use Rattle.std.proofs.Common.{string_bytes, subst, sym, true, ℕ}
pub use Rattle.std.proofs.Math.Bool.{or-false}
pub use Rattle.std.proofs.lemmas.Result.{err_from_is_err_and}
pub use Rattle.std.specs.Prelude.{Err, IfErr, IfOk, IsTrue, Ok, OnOk, Result, String}
pub use Rattle.dob_pieces.specs.declared.profile.Profile.{Profile}
pub use Rattle.dob_pieces.specs.declared.setup.Setup.{Setup}
pub use Rattle.dob_value.specs.Follows.{ClassTable, IsValueTable}
pub use Rattle.dob_dbfile.specs.Faults.{fails}
pub use Rattle.dob_device.specs.Sinks.{Change, Puts, SinkState, Stops, change}
pub use Rattle.dob_probe.specs.Faults.{IsRefusal}
pub use Rattle.dob_shelf.proofs.Shelves.{others_chain, others_kept, unchanged}
pub use Rattle.dob_shelf.specs.Shelves.{FailsWhere, Files, HasJust, SameFiles, SameOthers, ShelfChange, ShelfState, TakesLine, is_failed, shelf_change}
pub use Rattle.dob_shelf.specs.declared.shelf.ShelfFault.{ShelfFault}
pub use Rattle.dob_files.specs.Endings.{Answers, AnswersOver, Ending, GivesOver, Tells}
pub use Rattle.dob_files.specs.Faults.{fault_of_shelf, is_io}
pub use Rattle.dob_files.specs.Keeping.{FillsSink, IsShelfFault, KeepsFilled, LeavesFiles}
pub use Rattle.dob_files.specs.Tables.{HasValueFile, IsFileOf, IsOpeningFault, IsPositionFault, IsShut, IsTextOf}
pub use Rattle.dob_files.specs.Telling.{AnswersLines, AreAllLines, EndsLines, HearsLine, PutsText, TellsOf, TellsSome, Told, told_of}
pub use Rattle.dob_files.specs.declared.fault.ProgramFault.{ProgramFault}
pub use Rattle.dob_files.specs.declared.fault.ProgramFault.TheVariants.{Io, Memory, Table}
