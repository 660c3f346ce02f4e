-- The names that the proofs here use most, from other crates and the definitions of this one.
pub use Rattle.std.proofs.Common.{◌%◌, ◌&&◌, ◌*◌, ◌++◌, ◌+◌, ◌-◌, ◌/◌, ◌<◌, ◌^◌, ◌↔◌, ◌∙◌, ◌∷◌, ◌≡◌, ◌≢◌, ◌≤◌, ◌⊎◌, Bool, List, None}
pub use Rattle.std.proofs.Common.{[], ap, arith, bit_or, cond, drop, eqb, false, get_or, inl, inr, leb, length, map, min}
pub use Rattle.std.proofs.Common.{refl, replicate, rules, set, slice_index, slice_index_or, slice_set, subst, suc, sym, take, true, vec_len, zero, ℕ}
pub use Rattle.std.proofs.Math.Nat.{div-le_self, mul-le-mul, mul-le-mul_right, mul-pos, mul_comm}
pub use Rattle.std.proofs.lemmas.Bool.{both_ways, cases_Bool, cases_eq, cases_lt, eq-eqb, le-leb, lt-leb, ne_eqb}
pub use Rattle.std.proofs.lemmas.List.{get_or-set_other, get_or-set_same, get_or_append_left, get_or_push, length-append, length-map, length-set, length-take}
pub use Rattle.std.proofs.lemmas.List.{length_push, take-append-drop}
pub use Rattle.std.proofs.lemmas.Nat.{div-add-mod', div-mul-add, div_below, le-div, mod-mul-add, mod_below, same_from_place}
pub use Rattle.std.specs.List.{All, remove}
pub use Rattle.dob_pieces.proofs.Allowed.{IsAllowed-mirrored}
pub use Rattle.dob_pieces.proofs.Boards.{at-turned}
pub use Rattle.dob_pieces.proofs.Symmetries.{mirrored-mirrored}
pub use Rattle.dob_pieces.specs.Lists.{one_if}
pub use Rattle.dob_pieces.specs.Profiles.{IsAllowed}
pub use Rattle.dob_pieces.specs.Setups.{Cell, IsLegal, at, board_by, setup_of, turned_cell}
unfoldable pub use Rattle.dob_pieces.specs.Setups.{mirrored, turned}
pub use Rattle.dob_pieces.specs.Squares.{mirrored_square}
pub use Rattle.dob_pieces.specs.declared.hand.Hands.{Hands}
pub use Rattle.dob_pieces.specs.declared.kind.Side.{Side}
pub use Rattle.dob_pieces.specs.declared.kind.Side.TheVariants.{Enemy, Mover}
pub use Rattle.dob_pieces.specs.declared.piece_set.PieceSet.{PieceSet}
pub use Rattle.dob_pieces.specs.declared.profile.Family.{Family}
pub use Rattle.dob_pieces.specs.declared.profile.Profile.{Profile}
pub use Rattle.dob_pieces.specs.declared.profile.Profile.TheVariants.{A, B}
pub use Rattle.dob_pieces.specs.declared.setup.Setup.{Setup}
pub use Rattle.dob_rank.proofs.Boards.Choices.{count_other}
pub use Rattle.dob_rank.proofs.InRuns.DigitParts.{AreFewOnBoard-digits, parts_are}
pub use Rattle.dob_rank.proofs.InRuns.RunMarks.{lions_run, marks_agree, marks_from, run_start_end, run_start_first, run_start_next, start_small}
pub use Rattle.dob_rank.proofs.InRuns.RunPlaces.{local_digits, run_size-small, spot_there}
pub use Rattle.dob_rank.proofs.Marked.Marks.{marked-first_of, numbering}
pub use Rattle.dob_rank.proofs.Marked.Representatives.{place_found}
pub use Rattle.dob_rank.proofs.Marked.Words.{marks_below-le, marks_below-upto, marks_below_more, marks_below_none}
pub use Rattle.dob_rank.proofs.OfFamilies.ClassBounds.{classes_of-below}
pub use Rattle.dob_rank.proofs.OfFamilies.Present.{HasClass-marked, HasClasses-classes_of, HasRank-rank_of, present, represents, there}
pub use Rattle.dob_rank.proofs.Positions.Blocks.{AreBases-by, AreChoices-digits, HasDigits-numbers, block_size-small, choose-positive, choose-small}
pub use Rattle.dob_rank.proofs.Positions.Blocks.{few_in_block, four_small, product-at_most, sum_below_more}
pub use Rattle.dob_rank.proofs.Positions.Digits.{HasDigits-digits, HasParts-from_position, hide_all}
pub use Rattle.dob_rank.proofs.Positions.Found.{HasDigits-spot, IsPositionOfSet-mirrored, local_in_bases, made_by, made_in_block, run_in_bases}
pub use Rattle.dob_rank.proofs.Positions.Loops.{HasDigits-drop, HasDigits-length, drop_back, product-positive, product_fits}
pub use Rattle.dob_rank.proofs.Positions.Numbering.{Before-from_rank, HasBlock-setup_in, block_of-below, on_board-block, rank_of_set-rises, rank_of_set-same}
pub use Rattle.dob_rank.specs.ClassRows.{marked_place}
pub use Rattle.dob_rank.specs.Families.{HasClass, HasClasses, HasRank, IsInClass, IsPositionOf, IsRepresentative, RepresentsClass, family_of, is_present}
unfoldable pub use Rattle.dob_rank.specs.Families.{class_number, class_setup, classes_of, is_marked, rank_of}
pub use Rattle.dob_rank.specs.Marks.{marked, marks_below}
pub use Rattle.dob_rank.specs.Numbers.{HasBlock, HasDigits, base_of, bases_by, block_bases, block_of, block_size, board_of, cell_of, choice, choose, count}
pub use Rattle.dob_rank.specs.Numbers.{digits, digits_of, empty_layers, enemy_squares, forms_number, free_squares, layer, layers_by, nth, number_of, numbers_by}
pub use Rattle.dob_rank.specs.Numbers.{on_board, order, own_squares, place_of, product, rank_of_set, settle, setup_by, setup_in, start_of, sum_below}
unfoldable pub use Rattle.dob_rank.specs.Numbers.{size_of_set}
pub use Rattle.dob_rank.specs.Order.{Before, HasCount, IsEither, IsFirstOfTwo, IsPositionOfSet, RepresentativeOf, form}
pub use Rattle.dob_rank.specs.Placing.{AreChoices, AreSomePlaces, AreSquareChoices, put}
pub use Rattle.dob_rank.specs.Runs.{AreFewOnBoard, IsInRun, form_bases, lion_pairs, lions_of, local_bases, run_bases, run_digits, run_kind, run_of, run_start}
pub use Rattle.dob_rank.specs.Runs.{runs_in, square_bases}
unfoldable pub use Rattle.dob_rank.specs.Runs.{local_of, run_size}
pub use Rattle.dob_rank.specs.Weights.{are_allowed, forms_stand, may_have}
pub use Rattle.dob_rank.specs.declared.layers.Layer.TheVariants.{Chicks, Elephants, Empty, EnemyLion, Giraffes, OwnLion}
pub use Rattle.dob_rank.specs.declared.runs.RunKind.{RunKind}
pub use Rattle.dob_rank.specs.declared.runs.RunKind.TheVariants.{First, Later, Mixed}
pub use Rattle.dob_pieces.specs.Boards.{IsBoardOf, is_chick, is_elephant, is_enemy, is_enemy_lion, is_giraffe, is_hen, is_own_lion}
pub use Rattle.dob_pieces.specs.Changes.{IsWith}
pub use Rattle.dob_pieces.specs.declared.board.Board.{Board}
pub use Rattle.dob_rank.specs.BoardDigits.{IsShownOfSet}
pub use Rattle.dob_classes.specs.BlockRows.{IsRow}
pub use Rattle.dob_classes.specs.FamilyRuns.{IsInRunOf, IsNumbered, classes_before, is_there, local_marks_in, place_of_number, run_size_in}
pub use Rattle.dob_classes.specs.RunTables.{AreRuns, HasTable, IsRun}
pub use Rattle.dob_classes.specs.Stretches.{AreStretches, EndsWith, IsStretch, IsWidth, local_marks}
pub use Rattle.dob_classes.specs.Views.{IsShown, seen_by, seen_hands, seen_owner, seen_square}
pub use Rattle.dob_classes.specs.Walks.{IsStretchIn, IsWalk, marks_before}
pub use Rattle.dob_classes.specs.declared.block_classes.BlockClasses.{BlockClasses}
pub use Rattle.dob_classes.specs.declared.runs.FirstRun.{FirstRun}
pub use Rattle.dob_classes.specs.declared.stretch_tables.StretchTable.{StretchTable}
pub use Rattle.dob_classes.proofs.OfFamilies.ClassesTo.{classes_to_block, classes_to_place, classes_to_run, classes_to_setup}
