-- The names that the proofs here use most, from other crates and the definitions of this one.
pub use Rattle.std.proofs.Common.{if◌then◌else◌, ◌%◌, ◌&&◌, ◌*◌, ◌++◌, ◌+◌, ◌-◌, ◌<◌, ◌==◌, ◌^◌, ◌||◌, ◌∙◌, ◌∷◌, ◌≡◌, ◌≢◌, ◌≤◌, ◌⊎◌, All, AllPairs, Bool}
pub use Rattle.std.proofs.Common.{Contains, List, None, Option, Some, [], add-one, ap, append-nil, arith, bit_and, bit_or, cond, false, get_or, inl}
pub use Rattle.std.proofs.Common.{inr, length, length-append, nat_lt, not, option_to_list, refl, rules, set, subst, suc, sym, true, true≢false, zero, ℕ}
pub use Rattle.std.proofs.lemmas.Bool.{and_parts, cases_Bool, cases_eq, cases_lt, cases_order, eq-eqb, eqb-true, lt-ltb, ltb-true, ne_eqb, not-true}
pub use Rattle.std.proofs.lemmas.List.{get_or-set_other, get_or-set_same, get_or_past, length-set, set-get_or, set-set, set_comm}
pub use Rattle.std.proofs.lemmas.List.Elements.{All-append, All-cons, All-contains, All-filter, All-head, All-nil, All-push, All-replicate, All-tail}
pub use Rattle.std.proofs.lemmas.List.Elements.{Contains-append_cases, Contains-append_left, Contains-append_right, filter_passes}
pub use Rattle.std.proofs.lemmas.List.Kept.{AllPairs-cons, AllPairs-filter}
pub use Rattle.std.proofs.lemmas.List.Sorted.{IsNonDecreasingBy-from_sort}
pub use Rattle.std.proofs.lemmas.List.Sums.{length-filter, sum_by-append, sum_by-cons, sum_by_push}
pub use Rattle.std.proofs.lemmas.Result.{on_ok_weaker}
pub use Rattle.std.specs.List.{count_by, filter}
pub use Rattle.std.specs.Option.{MatchOption, is_some}
pub use Rattle.dob_pieces.proofs.Attacks.{attacks_piece, cell_lion, is_that_lion, lion_mask, own_attacks}
pub use Rattle.dob_pieces.proofs.Boards.{HasFewPieces-turned, HasLions-turned, all_below, all_below-at, at-mirrored, at-turned, leads-apart}
pub use Rattle.dob_pieces.proofs.Boards.{leads-to_board, length-mirrored, length-turned, one_lion, own_lion, total-mirrored, within-from_piece}
pub use Rattle.dob_pieces.proofs.Lists.{cond_sound, cons_cases, each_sound, head_in, none_in_empty}
pub use Rattle.dob_pieces.proofs.MaskBits.{IsLowest, IsMask-same, empty_mask, lowest_is, none_passes, passes_somewhere}
pub use Rattle.dob_pieces.proofs.MaskWalks.{IsWalked, each_range, walk_next, walk_passes, walk_start, walk_whole}
unfoldable pub use Rattle.dob_pieces.proofs.MaskWalks.{passing}
pub use Rattle.dob_pieces.proofs.CellPlanes.{everywhere}
pub use Rattle.dob_pieces.proofs.Symmetries.{at-image, turned-mirrored, turned-turned}
pub use Rattle.dob_pieces.proofs.Targets.{IsMask-less, is_mask}
pub use Rattle.dob_pieces.specs.Lists.{each_below, one_if}
pub use Rattle.dob_pieces.specs.Masks.{AreSquares, IsFirst, IsMask, attacks, attacks_by, is_empty, is_kind, is_own, is_piece, kind_place, without_square}
unfoldable pub use Rattle.dob_pieces.specs.Masks.{squares_in}
pub use Rattle.dob_pieces.specs.Pieces.{kind_in_hand, kind_on_board}
unfoldable pub use Rattle.dob_pieces.specs.Pieces.{leads}
pub use Rattle.dob_pieces.specs.Profiles.{IsAllowed, is_far, may_stand}
pub use Rattle.dob_pieces.specs.Setups.{Cell, HasFewPieces, HasLionOffFarRow, HasLions, IsLegal, at, held, holds_kind, holds_lion, piece_of, turned}
pub use Rattle.dob_pieces.specs.Setups.{with_one_less, with_one_more}
unfoldable pub use Rattle.dob_pieces.specs.Setups.{mirrored, total}
pub use Rattle.dob_pieces.specs.Squares.{column, mirrored_square, row}
pub use Rattle.dob_pieces.specs.declared.hand.Hand.{Hand}
pub use Rattle.dob_pieces.specs.declared.hand.Hands.{Hands}
pub use Rattle.dob_pieces.specs.declared.kind.HandKind.{HandKind}
pub use Rattle.dob_pieces.specs.declared.kind.Kind.{Kind}
pub use Rattle.dob_pieces.specs.declared.kind.Kind.TheVariants.{Chick, Elephant, Giraffe, Hen, Lion}
pub use Rattle.dob_pieces.specs.declared.kind.Side.{Side}
pub use Rattle.dob_pieces.specs.declared.kind.Side.TheVariants.{Enemy, Mover}
pub use Rattle.dob_pieces.specs.declared.profile.Family.{Family}
pub use Rattle.dob_pieces.specs.declared.profile.Profile.{Profile}
pub use Rattle.dob_pieces.specs.declared.profile.Profile.TheVariants.{A, B}
pub use Rattle.dob_pieces.specs.declared.setup.Setup.{Setup}
pub use Rattle.dob_moves.proofs.Kept.{IsAllowed-Goes, none_stands}
pub use Rattle.dob_moves.proofs.Outcomes.{HasOutcome-is, lions-HasOutcome, total-HasOutcome}
pub use Rattle.dob_moves.proofs.Turns.{kind_of, side_of, sides_apart, turned_lion}
pub use Rattle.dob_moves.specs.Moves.{CanGo, Goes, HasOutcome, grows_at, place}
pub use Rattle.dob_moves.specs.Statuses.{AreMoves, CanCatch, HasStatus, HasTried}
pub use Rattle.dob_moves.specs.declared.game_move.Move.{Move}
pub use Rattle.dob_moves.specs.declared.game_move.Move.TheVariants.{Put, Step}
pub use Rattle.dob_moves.specs.declared.position_status.Status.TheVariants.{Open}
pub use Rattle.dob_rank.proofs.OfFamilies.Present.{HasClass-marked, HasClasses-classes_of}
pub use Rattle.dob_rank.specs.Families.{IsPositionOf, classes_of}
pub use Rattle.dob_rank.specs.Order.{IsEither, IsFirstOfTwo, Precedes, each_kind, forms, squares, squares_from}
unfoldable pub use Rattle.dob_rank.specs.Order.{Before, key}
pub use Rattle.dob_classes.proofs.OfFamilies.Counted.{no_longer, pairs-head, pairs-tail}
pub use Rattle.dob_classes.proofs.OfFamilies.FamilyNumbers.{IsPositionOf-mirrored}
pub use Rattle.dob_pieces.proofs.BoardChanges.{nothing_added, with_cell, with_cells, with_hands, with_one}
pub use Rattle.dob_pieces.specs.Boards.{IsBoardOf}
pub use Rattle.dob_classes.specs.Views.{IsShown}
pub use Rattle.dob_pieces.specs.Changes.{IsWith}
pub use Rattle.dob_pieces.specs.declared.board.Board.{Board}
pub use Rattle.dob_unmove.specs.Classes.{IsSeenTurned, RepresentsClass}
pub use Rattle.dob_unmove.specs.Ends.{CanWalk, setup_after}
unfoldable pub use Rattle.dob_unmove.specs.Ends.{seen_after}
pub use Rattle.dob_unmove.specs.Gathers.{Finds, Gathers, IsOpenRepresentative}
pub use Rattle.dob_unmove.specs.Threats.{AreAttackers, IsThreat, elsewhere, stood_before}
pub use Rattle.dob_unmove.specs.Undoes.{CanGiveBack, CanUndo, CanUnstep, arrives_at, choice, enemy_cell, may_give_back, without_caught}
unfoldable pub use Rattle.dob_unmove.specs.Undoes.{earlier}
pub use Rattle.dob_unmove.specs.Unmoves.{ArePredecessors, CountEdges, HasEdges, IsNumbering, LeadsInto}
pub use Rattle.dob_unmove.specs.Walks.{TakesAll, holds_any, holds_caught, if_so, is_movers, stands, uncatch, unsteps_between}
unfoldable pub use Rattle.dob_unmove.specs.Walks.{undoes, undoes_at, unputs, unsteps, unsteps_from}
pub use Rattle.dob_unmove.specs.Ways.{AreWays, HasLionHome, TellsHome, comes_home, is_home, may_come, may_have_ended}
pub use Rattle.dob_unmove.specs.declared.attackers.Attackers.{Attackers}
pub use Rattle.dob_unmove.specs.declared.attackers.Attackers.TheVariants.{Nobody, One, Several}
pub use Rattle.dob_unmove.specs.declared.attackers.Threat.{Threat}
pub use Rattle.dob_unmove.specs.declared.undo.RetroMove.{RetroMove}
pub use Rattle.dob_unmove.specs.declared.undo.RetroMove.TheVariants.{Unput, Unstep}
