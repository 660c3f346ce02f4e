-- The names that the proofs here use most, from other crates and the definitions of this one.
pub use Rattle.std.proofs.Common.{◌%◌, ◌*◌, ◌+◌, ◌/◌, ◌<◌, ◌^◌, ◌∙◌, ◌≡◌, ◌≢◌, ◌≤◌, ◌⊎◌, List, ap, arith, get_or, inl, inr, length, refl, slice_set, subst, suc}
pub use Rattle.std.proofs.Common.{sym, zero, ℕ}
pub use Rattle.std.proofs.lemmas.Bool.{cases_lt}
pub use Rattle.std.proofs.lemmas.List.{get_or-set_other, get_or-set_same, length-set}
pub use Rattle.dob_pieces.specs.declared.profile.Family.{Family}
pub use Rattle.dob_rank.proofs.InRuns.RunMarks.{run_start_next}
pub use Rattle.dob_rank.proofs.InRuns.RunSums.{lions_same, lions_there, runs_by_hand}
pub use Rattle.dob_rank.proofs.Marked.Words.{marks_below-upto, marks_below_none}
pub use Rattle.dob_rank.proofs.Positions.Blocks.{blocks_small}
pub use Rattle.dob_rank.specs.Families.{is_marked}
pub use Rattle.dob_rank.specs.Marks.{marks_below}
pub use Rattle.dob_rank.specs.Numbers.{block_bases, product, sum_below}
pub use Rattle.dob_rank.specs.Runs.{lion_pairs, run_kind, run_size, run_start, runs_in}
pub use Rattle.dob_rank.specs.declared.runs.RunKind.{RunKind}
pub use Rattle.dob_rank.specs.declared.runs.RunKind.TheVariants.{First, Later, Mixed}
pub use Rattle.dob_classes.proofs.Counting.ClassesBefore.{IsAt, all_lions, are_before, by_hands, class_of_earlier, in_run_before, none_before, one_block_more}
pub use Rattle.dob_classes.proofs.Counting.ClassesBefore.{one_run_more, stands_at}
pub use Rattle.dob_classes.proofs.Counting.WalkMarks.{walked_few}
pub use Rattle.dob_classes.proofs.OfFamilies.ClassesTo.{classes_to_block, classes_to_place, classes_to_run}
pub use Rattle.dob_classes.proofs.Tables.FamilyBlocks.{classes_all, classes_few, no_classes_yet}
pub use Rattle.dob_classes.proofs.Tables.RunTables.{marks_small}
pub use Rattle.dob_classes.specs.FamilyRuns.{is_there, local_marks_in}
pub use Rattle.dob_classes.specs.Walks.{IsWalk, marks_before}
pub use Rattle.dob_classes.specs.declared.class_walks.MixedRun.{MixedRun}
pub use Rattle.dob_classes.specs.declared.class_walks.StretchCursor.{StretchCursor}
pub use Rattle.dob_index.specs.Index.{AreEntriesFrom, IsIndex, IsKeptBlock, IsKeptRun}
pub use Rattle.dob_index.specs.Layout.{entries_at, entries_in, entry_places, row_at, run_words, where_mixed, words_of}
