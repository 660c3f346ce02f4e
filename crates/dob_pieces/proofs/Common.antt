-- The names that the proofs here use most, from other crates and the definitions of this one.
pub use Rattle.std.proofs.Common.{◌%◌, ◌&&◌, ◌++◌, ◌+◌, ◌-◌, ◌/◌, ◌<◌, ◌==◌, ◌^◌, ◌||◌, ◌∙◌, ◌∷◌, ◌≡◌, ◌≢◌, ◌≤◌, ◌⊎◌, Bool, Contains, Err, IfOk, List, None, Ok}
pub use Rattle.std.proofs.Common.{Some, [], ap, append-nil, append_assoc, arith, bit_and, bit_or, cond, count_ones, drop, eqb, false, get_or, inl, inr, length}
pub use Rattle.std.proofs.Common.{ltb, map, not, refl, rules, set, slice_index_or, subst, suc, sym, true, true≢false, zero, ℕ, ⊎_elim}
pub use Rattle.std.proofs.lemmas.Bool.{and_from, and_parts, both_ways, cases_Bool, cases_eq, cases_lt, eq-eqb, eqb-true, false_from_ne_true, le-leb, leb-true}
pub use Rattle.std.proofs.lemmas.Bool.{lt-leb, ltb-true, ne_eqb, not-true, not_from_false}
pub use Rattle.std.proofs.lemmas.List.{drop_at, get_or-drop, get_or-map, get_or-set_other, get_or_default, get_or_past, length-append, length-drop, length-map}
pub use Rattle.std.proofs.lemmas.List.{length-set, take_all, take_at}
pub use Rattle.std.proofs.lemmas.List.FromFn.{fill_by_all, get_or-map-range_with_len, get_or-range_with_len, length-range_with_len}
pub use Rattle.std.proofs.lemmas.List.Sums.{get_or-le-sum_by, sum_by-cons, sum_by-set}
pub use Rattle.std.proofs.lemmas.Simd.{bit_mask_l, mask_l-lt, ones-mask_l}
pub use Rattle.std.specs.Int.{bit_at, bit_not, trailing_zeros, w16}
pub use Rattle.std.specs.List.{AllZip, Any, count_by, list_any, range_with_len, sum_by}
pub use Rattle.std.specs.Prelude.{MatchResult, Result, Vec, slice_get}
pub use mathlib.Core.Bool.{beq}
pub use Rattle.dob_pieces.specs.Lists.{each_below, one_if, sum_below}
pub use Rattle.dob_pieces.specs.Masks.{AreSquares, IsFirst, IsMask, bit, with_square, without_square, attacks, attacks_by, is_empty}
pub use Rattle.dob_pieces.specs.Masks.{is_end, is_own, is_piece, kind_place}
pub use Rattle.dob_pieces.specs.Masks.{own_kind, side_place}
unfoldable pub use Rattle.dob_pieces.specs.Masks.{squares_in}
pub use Rattle.dob_pieces.specs.Pieces.{is_lion, is_side, other_side}
unfoldable pub use Rattle.dob_pieces.specs.Pieces.{leads}
pub use Rattle.dob_pieces.specs.Profiles.{IsAllowed, is_allowed, is_far, may_all_stand, may_stand}
pub use Rattle.dob_pieces.specs.Setups.{Cell, HasLions, IsLegal, at, board_by, holds_lion, piece_of, setup_of, turned_cell}
unfoldable pub use Rattle.dob_pieces.specs.Setups.{mirrored, turned}
pub use Rattle.dob_pieces.specs.Squares.{mirrored_square, row, turned_square}
pub use Rattle.dob_pieces.specs.declared.hand.Hands.{Hands}
pub use Rattle.dob_pieces.specs.declared.kind.Kind.{Kind}
pub use Rattle.dob_pieces.specs.declared.kind.Kind.TheVariants.{Chick, Elephant, Giraffe, Hen, Lion}
pub use Rattle.dob_pieces.specs.declared.kind.Piece.{Piece}
pub use Rattle.dob_pieces.specs.declared.kind.Side.{Side}
pub use Rattle.dob_pieces.specs.declared.kind.Side.TheVariants.{Enemy, Mover}
pub use Rattle.dob_pieces.specs.declared.setup.Setup.{Setup}
