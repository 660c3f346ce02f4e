-- The names that the proofs here use most, from other crates and the definitions of this one.
pub use Rattle.std.proofs.Common.{◌++◌, ◌+◌, ◌∙◌, ◌∷◌, ◌≡◌, ◌≤◌, Bool, List, None, Option, Some, [], ap, append-nil, append_assoc, ap₂, arith, codes, cond}
pub use Rattle.std.proofs.Common.{drop, false, inl, inr, length, map, min, refl, rules, subst, suc, sym, take, true, true≢false, ℕ}
pub use Rattle.std.proofs.Math.Bool.{or-false}
pub use Rattle.std.proofs.lemmas.Bool.{false_from_ne_true, not-true, or_right}
pub use Rattle.std.proofs.lemmas.Bool.Decides.{Decides-eqb}
pub use Rattle.std.proofs.lemmas.List.Folds.{list_any_at}
pub use Rattle.std.proofs.lemmas.Result.{IfOk-weaker, Ok-from_Ok_iff}
pub use Rattle.std.proofs.lemmas.Slice.Eq.{bytes_eq-Decides}
pub use Rattle.std.specs.Borrow.{Bor}
pub use Rattle.std.specs.List.{after_first, before_first, list_any, starts_with}
pub use Rattle.std.specs.Option.{option_map_or}
pub use Rattle.std.specs.Prelude.{◌&&◌, ◌==◌, ◌||◌, find, fold, is_some, not, option_map, slice_get, unwrap_or}
pub use Rattle.std.specs.Str.{bytes_eq}
unfoldable pub use Rattle.std.specs.Str.{chars}
pub use Rattle.clap.proofs.WalkLemmas.{both, first_value-rows, list_any-map}
pub use Rattle.clap.specs.Kinds.{Kinds, or_else, value_kinds}
pub use Rattle.clap.specs.Lexer.{has_byte, long_of, name_and_value, usize_max}
pub use Rattle.clap.specs.Simple.{Shape, built_leaf, entered, filled, help_rule, inherited, marked_built, names_of, with_leaf_noted}
pub use Rattle.clap.specs.Takes.{is_given}
pub use Rattle.clap.specs.Words.{App, Rule, app_of, first_of, subcommand_rows_of}
pub use Rattle.clap.specs.declared.error.kind.ErrorKind.{ErrorKind}
pub use Rattle.dob_words.specs.Readings.{IsReadFor, IsReadingOf}
pub use Rattle.dob_words.specs.Shapes.{AreFit, AreProfiles, Finds, HasCommandShape, HasFit, IsFit, IsMet, IsMetBySome, IsNamed, ProfileNames, bare_app}
pub use Rattle.dob_words.specs.Shapes.{choice_rule, choice_said, dobutsu_app, flag_rule, flag_said, form_app, is_stream_for, is_stream_in, no_names, place_rule}
pub use Rattle.dob_words.specs.Shapes.{place_said, row_said, text_rule, texts_in, with_rows, with_rules}
pub use Rattle.dob_words.specs.Words.{Given, Meaning, Stand, Text, after_dashes, after_part, after_word, asked, asks, at_end, behind, between, call}
pub use Rattle.dob_words.specs.Words.{cleared, dashes, ended, fits, flag, flag_of, has_topic, help, is_clear, is_dashes, is_help_flag, is_number, is_profile}
pub use Rattle.dob_words.specs.Words.{is_stream, is_text, is_topic, is_version, kept, label_of, meaning_of, meaning_of_command, meaning_of_form}
pub use Rattle.dob_words.specs.Words.{meaning_of_other, meaning_of_topic, name_in, named_part, number_in, once, option, part_named, placed, without_conflict, streams}
pub use Rattle.dob_words.specs.Words.{takes_lines, text, text_after, texts_of, unknown, usage, valued, version, wanted, wants, writes_stream}
pub use Rattle.dob_words.specs.declared.command.Reading.{Reading}
pub use Rattle.dob_words.specs.declared.command.orders.Order.{Order}
