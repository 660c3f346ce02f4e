-- The names that the proofs here use most, from other crates and the definitions of this one.
pub use Rattle.std.proofs.Common.{◌∙◌, ◌∷◌, ◌≡◌, Bool, List, None, Option, Some, [], ap, arith, codes, false, inl, inr, option_map, refl, rules, subst}
pub use Rattle.std.proofs.Common.{sym, true, true≢false, ℕ}
pub use Rattle.std.specs.Prelude.{Err, IsTrue}
pub use Rattle.dob_pieces.specs.declared.profile.Profile.{Profile}
pub use Rattle.dob_dbfile.specs.Format.{bytes_of}
pub use Rattle.dob_device.specs.Sinks.{Change, IsSame, IsUntouched, Says, SinkState, change}
pub use Rattle.dob_words.specs.Forms.{Text}
pub use Rattle.dob_words.specs.Readings.{IsOrder, IsReadingOf}
pub use Rattle.dob_words.specs.Words.{asks, meaning_of, number_in, profile_named}
pub use Rattle.dob_words.specs.declared.command.Reading.{Reading}
pub use Rattle.dob_words.specs.declared.command.orders.Order.{Order}
pub use Rattle.dob_words.specs.declared.command.orders.Order.TheVariants.{EachLine, Lines}
pub use Rattle.dob_shelf.proofs.Shelves.{unchanged}
pub use Rattle.dob_shelf.specs.Shelves.{ShelfChange, ShelfState, shelf_change}
pub use Rattle.dob_files.proofs.Endings.{answered, answered_by}
pub use Rattle.dob_files.specs.Endings.{AnswersOver, Ending, TellsOneFault}
pub use Rattle.dob_files.specs.Owed.{AnswersOwed}
pub use Rattle.dob_files.specs.Tables.{HasValueFile}
pub use Rattle.dob_files.specs.Telling.{AnswersLines, PutsAll, PutsText, StopsText, TellsOver}
pub use Rattle.dob_files.specs.declared.fault.ProgramFault.{ProgramFault}
