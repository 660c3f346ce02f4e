-- The names that the proofs here use most, from other crates and the definitions of this one.
pub use Rattle.std.proofs.Common.{◌%◌, ◌&&◌, ◌*◌, ◌++◌, ◌+◌, ◌-◌, ◌/◌, ◌<◌, ◌^◌, ◌||◌, ◌∙◌, ◌∷◌, ◌≡◌, ◌≢◌, ◌≤◌, ◌⊎◌, Bool, List, None, Some, []}
pub use Rattle.std.proofs.Common.{ap, arith, bit_and, cond, drop, eqb, false, get_or, inl, inr, leb, length, ltb, map, nat_eq, nat_lt, not, refl, replicate}
pub use Rattle.std.proofs.Common.{append-nil, set, slice_index, slice_index_or, subst, suc, sym, take, true, zero, ℕ}
pub use Rattle.std.proofs.Math.Arith.{mod-mul}
pub use Rattle.std.proofs.Math.Nat.{add-mul, mod-eq_of_lt, mod-one, mul-le-mul, mul-pos, mul_assoc, mul_comm, pow-le-pow_right, pow-suc, pow-succ', pow-zero}
pub use Rattle.std.proofs.lemmas.Bool.Decides.{nat_tests}
pub use Rattle.std.proofs.lemmas.Bool.{and_parts, cases_Bool, cases_eq, cases_lt, cases_order, eq-eqb, eqb-true, le-ltb, leb-true, lt-ltb, ltb-true, ne_eqb}
pub use Rattle.std.proofs.lemmas.List.{drop_more, length-drop, length-map, length_push}
pub use Rattle.std.proofs.lemmas.Nat.{div-add-mod', div-mul-add, div_below, mod-mul-add, mod_below, mul-add-lt, mul-le, one_shl, same_from_place}
pub use Rattle.std.specs.List.{All, Contains, count_by, filter, range_with_len}
pub use Rattle.dob_pieces.proofs.Boards.{all_below, all_below-at}
pub use Rattle.dob_pieces.specs.Profiles.{is_allowed, may_all_stand}
pub use Rattle.dob_pieces.specs.Setups.{Cell, HasLionOffFarRow, HasLions, IsLegal, at, board_by, held, holds_kind, holds_lion, piece_of}
unfoldable pub use Rattle.dob_pieces.specs.Setups.{mirrored, total}
pub use Rattle.dob_pieces.specs.declared.hand.Hand.{Hand}
pub use Rattle.dob_pieces.specs.declared.kind.HandKind.{HandKind}
pub use Rattle.dob_pieces.specs.declared.kind.Kind.{Kind}
pub use Rattle.dob_pieces.specs.Lists.{one_if}
pub use Rattle.dob_pieces.specs.declared.kind.Kind.TheVariants.{Chick, Elephant, Giraffe, Hen, Lion}
pub use Rattle.dob_pieces.specs.declared.kind.Side.{Side}
pub use Rattle.dob_pieces.specs.declared.kind.Side.TheVariants.{Enemy, Mover}
pub use Rattle.dob_pieces.specs.declared.piece_set.PieceSet.{PieceSet}
pub use Rattle.dob_pieces.specs.declared.profile.Family.{Family}
pub use Rattle.dob_pieces.specs.declared.profile.Profile.{Profile}
pub use Rattle.dob_pieces.specs.declared.profile.Profile.TheVariants.{A, B}
pub use Rattle.dob_pieces.specs.declared.setup.Setup.{Setup}
pub use Rattle.dob_lists.proofs.Sums.{same_block, sum_alike, sum_below-rises, sum_blocks, sum_parts, sum_same, sum_times}
pub use Rattle.dob_rank.specs.Families.{HasRank, HasSize, IsPositionOf, IsRanked, family_of}
unfoldable pub use Rattle.dob_rank.specs.Families.{classes_of, is_marked, is_present, rank_of, size_of}
pub use Rattle.dob_rank.specs.Marks.{is_first}
unfoldable pub use Rattle.dob_rank.specs.Marks.{marked, marks_below}
pub use Rattle.dob_rank.specs.Masks.{all_squares, from_mask, layer_mask}
pub use Rattle.dob_rank.specs.Numbers.{HasBlock, HasDigits, base_of, bases_by, block_bases, block_of, board_of, cell_of, choice, choose, count}
pub use Rattle.dob_rank.specs.Numbers.{count_from, digits, digits_of, empty_layers, enemy_squares, find, forms_number, free_squares, layer, layers_by}
pub use Rattle.dob_rank.specs.Numbers.{number_of, numbers_by, on_board, order, own_squares, product, settle, setup_by, setup_in, start_of, sum_below}
pub use Rattle.dob_rank.specs.Numbers.{with_first}
unfoldable pub use Rattle.dob_rank.specs.Numbers.{block_size, nth, rank_of_set, size_of_set}
pub use Rattle.dob_rank.specs.Order.{HasCount, IsEither, IsFirstOfTwo, IsPositionOfSet, IsRepresentativeOfSet, Precedes, RepresentativeOf, form, forms}
pub use Rattle.dob_rank.specs.Order.{pieces_of, squares_from}
unfoldable pub use Rattle.dob_rank.specs.Order.{Before, key}
pub use Rattle.dob_rank.specs.Places.{IsPlaceFor, IsPresentAt, IsPresentIn, IsSpotFor}
pub use Rattle.dob_rank.specs.Placing.{AreChoices, AreFree, first_place, higher_of, lower_of, past, put, second_place}
pub use Rattle.dob_rank.specs.Runs.{AreFewOnBoard, IsInRun, enemy_square, form_bases, lion_pairs, lions_of, local_bases, local_number, run_bases, run_digits}
pub use Rattle.dob_rank.specs.Runs.{run_kind, run_number, square_bases}
unfoldable pub use Rattle.dob_rank.specs.Runs.{local_of, run_of, run_size, run_start, runs_in}
pub use Rattle.dob_rank.specs.Weights.{are_allowed, choice_weight, forms_before, forms_in, forms_on, forms_stand}
pub use Rattle.dob_rank.specs.Weights.{lions_before, lions_in, may_have, others_forms, others_squares, weight}
unfoldable pub use Rattle.dob_rank.specs.Weights.{hand_size}
pub use Rattle.dob_rank.specs.declared.layers.Layer.TheVariants.{Chicks, Elephants, Empty, EnemyLion, Giraffes, OwnLion}
