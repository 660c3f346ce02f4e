-- The names that the proofs here use most, from other crates and the definitions of this one.
pub use Rattle.std.proofs.Common.{if◌then◌else◌, ◌&&◌, ◌*◌, ◌++◌, ◌+◌, ◌/◌, ◌<◌, ◌==◌, ◌||◌, ◌↔◌, ◌∙◌, ◌∷◌, ◌≡◌, ◌≢◌, ◌≤◌, Bool, Contains, List}
pub use Rattle.std.proofs.Common.{MatchOption, None, Option, Some, [], ap, append_assoc, arith, bit_and, cond, count_ones, eqb, false}
pub use Rattle.std.proofs.Common.{get_or, inl, inr, length, nat_lt, not, option_to_list, refl, rules, set, slice_index_or, subst, suc, sym, true}
pub use Rattle.std.proofs.Common.{true≢false, zero, ℕ, ⊎_elim}
pub use Rattle.std.proofs.lemmas.Bool.{and_parts, cases_eq, cases_lt, eqb-false, false_from_ne_true, lt-ltb, ltb-true, not-true, not_from_false}
pub use Rattle.std.proofs.lemmas.List.{append-nil, get_or-set_other, get_or-set_same, get_or_past, length-append, length-set}
pub use Rattle.std.proofs.lemmas.List.Elements.{Contains-append_cases, Contains-append_left, Contains-append_right, filter-append, filter_map-append}
pub use Rattle.std.specs.List.{cons_option, count_by, filter, filter_map}
pub use Rattle.std.specs.Option.{is_some}
pub use Rattle.dob_pieces.proofs.Attacks.{attacks_piece, own_attacks}
pub use Rattle.dob_pieces.proofs.Boards.{HasFewPieces-turned, HasLions-turned, IsLegal-mirrored, all_below, all_below-at, at-board_by, at-turned}
pub use Rattle.dob_pieces.proofs.Boards.{board_by-from_cells, count-moved, count-set, leads-apart, leads-to_board, length-mirrored, length-turned, lions-turned}
pub use Rattle.dob_pieces.proofs.Boards.{one_lion, total-turned, within-from_piece}
pub use Rattle.dob_pieces.proofs.Lists.{Rising, cond_sound, cond_whole, cons_cases, each_sound, each_whole, head_in, none_in_empty, rising-after, rising-append}
pub use Rattle.dob_pieces.proofs.Lists.{rising-cond, rising-each, rising-lower, rising-pairs}
pub use Rattle.dob_pieces.proofs.MaskBits.{IsLowest, lowest_is, none_passes, passes_somewhere}
pub use Rattle.dob_pieces.proofs.MaskWalks.{IsCounting, IsQuiet, IsWalked, counted_items, walk_end, walk_few, walk_most, walk_next, walk_passes, walk_room}
pub use Rattle.dob_pieces.proofs.MaskWalks.{walk_room_one, walk_start}
pub use Rattle.dob_pieces.specs.Lists.{each_below, one_if}
pub use Rattle.dob_pieces.specs.Boards.{IsBoardOf, is_enemy}
pub use Rattle.dob_pieces.specs.Masks.{AreSquares, IsFirst, IsMask, attacks, is_empty, is_end, is_own, own_kind}
pub use Rattle.dob_pieces.specs.Pieces.{kind_in_hand, kind_on_board, other_side}
unfoldable pub use Rattle.dob_pieces.specs.Masks.{squares_in}
unfoldable pub use Rattle.dob_pieces.specs.Pieces.{leads}
pub use Rattle.dob_pieces.specs.Profiles.{IsAllowed, is_far, may_stand}
pub use Rattle.dob_pieces.specs.Setups.{Cell, HasFewPieces, HasLionOffFarRow, HasLions, IsLegal, at, board_by, held, holds_kind, holds_lion, piece_of, turned}
pub use Rattle.dob_pieces.specs.Setups.{turned_cell, with_one_less}
unfoldable pub use Rattle.dob_pieces.specs.Setups.{mirrored, total}
pub use Rattle.dob_pieces.specs.Squares.{mirrored_square, row}
pub use Rattle.dob_pieces.specs.declared.hand.Hand.{Hand}
pub use Rattle.dob_pieces.specs.declared.hand.Hands.{Hands}
pub use Rattle.dob_pieces.specs.declared.kind.HandKind.{HandKind}
pub use Rattle.dob_pieces.specs.declared.kind.Kind.{Kind}
pub use Rattle.dob_pieces.specs.declared.kind.Kind.TheVariants.{Chick, Elephant, Giraffe, Hen, Lion}
pub use Rattle.dob_pieces.specs.declared.kind.Side.{Side}
pub use Rattle.dob_pieces.specs.declared.kind.Side.TheVariants.{Enemy, Mover}
pub use Rattle.dob_pieces.specs.declared.profile.Profile.{Profile}
pub use Rattle.dob_pieces.specs.declared.profile.Profile.TheVariants.{A, B}
pub use Rattle.dob_pieces.specs.declared.setup.Setup.{Setup}
pub use Rattle.dob_moves.specs.Mirrors.{mirrored_move}
pub use Rattle.dob_moves.specs.Moves.{CanGo, CanTake, CatchesLion, Drops, Goes, HasOutcome, Steps, first_drop, grows_at, hand_place, hands_after_catch, may_go}
pub use Rattle.dob_moves.specs.Moves.{may_put, place}
pub use Rattle.dob_moves.specs.Outcomes.{arrives_as, moved, with_caught}
unfoldable pub use Rattle.dob_moves.specs.Outcomes.{dropped, stepped}
pub use Rattle.dob_moves.specs.Statuses.{AreMoves, CanCatch, HasStatus, HasTried, IsFirstCatch}
pub use Rattle.dob_moves.specs.Walks.{first, may_end, put_if, put_on, step_by, step_if, step_onto, steps_if}
unfoldable pub use Rattle.dob_moves.specs.Walks.{all_drops, all_steps, drops_of, steps_by, steps_from}
pub use Rattle.dob_moves.specs.declared.first_moves.Aim.{Aim}
pub use Rattle.dob_moves.specs.declared.first_moves.Aim.TheVariants.{AtLion, Elsewhere}
pub use Rattle.dob_moves.specs.declared.game_move.Move.{Move}
pub use Rattle.dob_moves.specs.declared.game_move.Move.TheVariants.{Put, Step}
pub use Rattle.dob_moves.specs.declared.position_status.Status.{Status}
pub use Rattle.dob_moves.specs.declared.position_status.Status.TheVariants.{Caught, Open, Stuck, Tried}
