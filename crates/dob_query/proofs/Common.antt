-- The names that the proofs here use most, from other crates and the definitions of this one.
pub use Rattle.std.proofs.Common.{◌-◌, ◌<◌, ◌||◌, ◌∙◌, ◌≡◌, ◌⊎◌, Bool, Global, List, Option, Some, ap, arith, codes, false, inl, inr, refl, rules, subst, sym}
pub use Rattle.std.proofs.Common.{true, ℕ}
pub use Rattle.std.proofs.Math.Bool.{or-false}
pub use Rattle.std.proofs.lemmas.Result.{IfErr-weaker, IfOk-weaker, err_from_is_err_and}
pub use Rattle.std.specs.Fmt.{decimal}
pub use Rattle.std.specs.Prelude.{Err, IfErr, IfOk, IsTrue, Ok, Result, String, is_err}
pub use Rattle.std.proofs.lemmas.Option.{slice_get_within}
pub use Rattle.dob_pieces.specs.declared.profile.Family.{Family}
pub use Rattle.dob_pieces.specs.declared.profile.Profile.{Profile}
pub use Rattle.dob_pieces.specs.declared.setup.Setup.{Setup}
pub use Rattle.dob_moves.specs.declared.game_move.Move.{Move}
pub use Rattle.dob_rank.specs.Families.{IsPositionOf}
pub use Rattle.dob_value.specs.Follows.{ClassTable, IsTable}
pub use Rattle.dob_distance.specs.Values.{HasValue}
pub use Rattle.dob_distance.specs.declared.value.Value.{Value}
pub use Rattle.dob_device.specs.Devices.{Stream, whole}
pub use Rattle.dob_dbfile.specs.Faults.{CountsClasses}
pub use Rattle.dob_device.specs.Sinks.{change}
pub use Rattle.dob_dbfile.specs.declared.header.Format.{Format}
pub use Rattle.dob_dbfile.proofs.Looked.{one_record, table_has_record, table_record}
pub use Rattle.dob_dbfile.specs.Looking.{HasRecord}
pub use Rattle.dob_probe.specs.Faults.{IsRefusal}
pub use Rattle.dob_probe.specs.Lines.{GivenBy, IsLine}
pub use Rattle.dob_probe.specs.declared.by_value.ValuedMove.{ValuedMove}
pub use Rattle.dob_query.specs.Records.{IsRecorded}
pub use Rattle.dob_shelf.proofs.Shelves.{others_kept}
pub use Rattle.dob_shelf.specs.Shelves.{FailsWhere, Files, SameFiles, ShelfChange, ShelfState, shelf_change}
pub use Rattle.dob_lines.specs.Tallies.{count_line}
pub use Rattle.dob_files.specs.Endings.{AnswersOver, Ending, GivesOver}
pub use Rattle.dob_files.specs.Faults.{fault_of_value, is_io}
pub use Rattle.dob_files.specs.Keeping.{IsShelfFault}
pub use Rattle.dob_files.specs.Tables.{HasValueFile, IsFileOf, IsOpeningFault, IsTextOf}
pub use Rattle.dob_files.specs.Telling.{AnswersLines, EndsLines, TellsOf}
pub use Rattle.dob_files.specs.declared.fault.ProgramFault.{ProgramFault}
pub use Rattle.dob_files.specs.declared.fault.ProgramFault.TheVariants.{File, Memory, Table}
pub use Rattle.dob_words.specs.declared.command.orders.Asked.{Asked}
pub use Rattle.dob_words.specs.declared.command.orders.By.{By}
pub use Rattle.dob_words.specs.declared.command.orders.Question.{Question}
pub use Rattle.dob_words.specs.declared.command.orders.Question.TheVariants.{Moves, Value as OfValue}
pub use Rattle.dob_query.specs.Program.{IsFaultOf}
pub use Rattle.dob_query.specs.Questions.{AreAnswerLines, AreRightAnswerLines, GivesWhole, IsAnswerBy, IsAnswerOf}
pub use Rattle.dob_query.specs.Questions.{IsAnswerTo, IsAskFault, IsAskingFault, IsFaultOfAsking, IsFaultTo, IsGapFor, IsOfNamed, IsRecordsFault, IsRecordsGap}
pub use Rattle.dob_query.specs.Questions.{IsTableAnswer, IsTableFault, IsToldBy}
pub use Rattle.dob_query.specs.QuestionsEach.{AnswersEach, AnswersEachRight, AreEachLines, IsEachFault}
pub use Rattle.dob_query.specs.Shows.{AreDrawn, AreRightShowLines, AreShowLines, IsDrawingFault, IsShowFault, drawn_line}
