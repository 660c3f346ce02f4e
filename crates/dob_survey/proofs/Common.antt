-- The names that the proofs here use most, from other crates and the definitions of this one.
pub use Rattle.std.proofs.Common.{◌++◌, ◌+◌, ◌-◌, ◌<◌, ◌∙◌, ◌∷◌, ◌≡◌, Bool, List, None, Option, Some, [], ap, append-nil, arith, codes, drop, flat_map, fold}
pub use Rattle.std.proofs.Common.{get_or, inl, inr, length, rules, string_bytes, subst, suc, sym, take, ℕ}
pub use Rattle.std.proofs.lemmas.List.{take-append-drop, take_more}
pub use Rattle.std.proofs.lemmas.List.Elements.{Contains-append_left, Contains-get_or}
pub use Rattle.std.proofs.lemmas.Option.{slice_get_within}
pub use Rattle.std.proofs.lemmas.Result.{err_from_is_err_and}
pub use Rattle.std.specs.Fmt.{decimal}
pub use Rattle.std.specs.Prelude.{Contains, IfSome, IsTrue, String}
pub use Rattle.dob_pieces.specs.declared.profile.Profile.{Profile}
pub use Rattle.dob_rank.specs.Families.{IsPositionOf, class_number}
pub use Rattle.dob_distance.specs.declared.value.Value.{Value}
pub use Rattle.dob_value.specs.Follows.{ClassTable}
pub use Rattle.dob_probe.specs.Faults.{IsFaultOfCheck, IsRefusal}
pub use Rattle.dob_zugzwang.specs.Counts.{AreCounts, IsDeepest}
pub use Rattle.dob_zugzwang.specs.Pairs.{ArePairs}
pub use Rattle.dob_zugzwang.specs.declared.pairs.Zugzwang.{Zugzwang}
pub use Rattle.dob_shelf.proofs.Shelves.{others_kept, unchanged}
pub use Rattle.dob_shelf.specs.Shelves.{HasJust, SameFiles, ShelfChange, ShelfState, shelf_change}
pub use Rattle.dob_lines.specs.Tallies.{count_line}
pub use Rattle.dob_files.specs.Keeping.{AreThese, IsFillingFault, LeavesFiles}
pub use Rattle.dob_files.specs.Tables.{HasValueFile, IsFileOf, IsOpeningFault, IsPositionFault, IsRightFileOf}
pub use Rattle.dob_files.specs.declared.fault.ProgramFault.{ProgramFault}
pub use Rattle.dob_files.specs.declared.fault.ProgramFault.TheVariants.{Table}
pub use Rattle.dob_files.specs.Endings.{AnswersOver, Ending}
pub use Rattle.dob_survey.specs.Migrations.{AreMigrateLines, IsMigrateFault}
pub use Rattle.dob_survey.specs.Puzzles.{line_of_puzzle, puzzle_lines}
pub use Rattle.dob_survey.specs.Zugzwangs.{AreOfTable, IsOfTable, first_pairs, pair_line, zugzwang_lines}
pub use Rattle.dob_survey.specs.Stats.{group_text, longest_of, with_group, with_value}
