-- The names that the proofs here use most, from other crates and the definitions of this one.
pub use Rattle.std.proofs.Common.{◌%◌, ◌&&◌, ◌*◌, ◌++◌, ◌+◌, ◌-◌, ◌/◌, ◌<◌, ◌^◌, ◌∙◌, ◌∷◌, ◌≡◌, ◌≢◌, ◌≤◌, ◌⊎◌, Bool, Contains, Err, List, MatchOption, None, Ok}
pub use Rattle.std.proofs.Common.{Option, Result, Some, [], add-one, ap, append_assoc, arith, cond, drop, eqb, false, get_or, inl, inr, length, ltb, map, max}
pub use Rattle.std.proofs.Common.{refl, rules, set, slice_get, subst, suc, sym, take, true, zero, ℕ}
pub use Rattle.std.proofs.Math.Nat.{div-add-mod, div-le_self, mod-eq_of_lt, mul-add-mod_self_right, mul_comm}
pub use Rattle.std.proofs.Math.Seq.{drop-append_seam, drop-cons, take-suc}
pub use Rattle.std.proofs.lemmas.Bool.{and_right, cases_Bool, cases_eq, cond_both, eq-eqb, eqb-true, false≢true, le-ltb, lt-ltb, ne_eqb}
pub use Rattle.std.proofs.lemmas.Bool.Decides.{nat_tests}
pub use Rattle.std.proofs.lemmas.List.{append-nil, get_or-set_other, get_or-set_same, get_or_append_left, get_or_default, length-append, length-map}
pub use Rattle.std.proofs.lemmas.List.{take-append-drop, take-append-le, take_all}
pub use Rattle.std.proofs.lemmas.List.Elements.{All-append, All-cons, All-contains, All-contains_itself, All-head, All-nil, All-tail, Contains-append_cases}
pub use Rattle.std.proofs.lemmas.List.Elements.{Contains-append_left, Contains-append_right}
pub use Rattle.std.proofs.lemmas.Option.{get_or_from_slice_get, same_Some, slice_get-get_or, slice_get_within}
pub use Rattle.std.proofs.lemmas.Result.{err_from_is_err_and}
pub use Rattle.std.specs.List.{All, count_by, filter, range_with_len}
pub use Rattle.std.specs.Prelude.{OnOk}
pub use Rattle.std.specs.Result.{IfErr, IsErrAnd}
pub use Rattle.std.proofs.lemmas.Nat.{same_from_place}
pub use Rattle.dob_pieces.proofs.Elements.{at_end, get_front, middle}
pub use Rattle.dob_pieces.specs.declared.profile.Family.{Family}
pub use Rattle.dob_pieces.proofs.Lists.{cons_cases, head_in, none_in_empty}
pub use Rattle.dob_pieces.specs.Lists.{each_below}
pub use Rattle.dob_pieces.specs.declared.profile.Profile.{Profile}
pub use Rattle.dob_pieces.specs.declared.setup.Setup.{Setup}
pub use Rattle.dob_moves.specs.declared.position_status.Status.{Status}
pub use Rattle.dob_moves.specs.declared.position_status.Status.TheVariants.{Caught, Open, Stuck, Tried}
pub use Rattle.dob_moves.proofs.Cases.{one_status}
pub use Rattle.dob_moves.proofs.MoveLists.{AreMoves-moves_of, not_tried_at, tried_at}
pub use Rattle.dob_moves.specs.MoveLists.{has_tried, moves_of}
pub use Rattle.dob_moves.specs.Statuses.{AreMoves, CanCatch, HasStatus, HasTried, IsFirstCatch}
pub use Rattle.dob_moves.specs.declared.game_move.Move.{Move}
pub use Rattle.dob_rank.specs.Families.{HasClasses, RepresentsClass, class_number, class_setup, classes_of}
pub use Rattle.dob_rank.proofs.OfFamilies.Present.{HasClasses-classes_of}
pub use Rattle.dob_classes.proofs.OfFamilies.FamilyRepresentatives.{class_setup_is, class_setup_only}
pub use Rattle.dob_distance.specs.Codes.{IsEntry, IsShort, value_of_code}
pub use Rattle.dob_distance.specs.declared.value.Value.{Value}
pub use Rattle.dob_distance.specs.declared.value.Value.TheVariants.{Draw, Loss, Win}
pub use Rattle.dob_distance.specs.Distances.{IsLeastLoss, plies_of}
pub use Rattle.dob_distance.specs.Entries.{is_draw}
pub use Rattle.dob_value.proofs.Consistency.{consistent_is_right, not_draw_loss, not_draw_win}
pub use Rattle.dob_value.proofs.Successors.{moves_keep_the_family}
pub use Rattle.dob_value.specs.Follows.{FollowsAt, FollowsFromSuccessors, HasInTable, HasSuccessor, IsConsistent}
pub use Rattle.dob_unmove.proofs.Edges.{ArePredecessors-predecessors, representative_below, times-predecessors}
pub use Rattle.dob_unmove.specs.Edges.{predecessors}
pub use Rattle.dob_share.proofs.Owning.{cell_short}
pub use Rattle.dob_share.specs.Cells.{Cell, CellCanTake, CellValue, Changes, IsGreatest, KnowsLossWithin, SameCell, SumsUp, changed, fresh}
pub use Rattle.dob_share.specs.Openings.{AreOwn, moves_where, opening_of, settled_among, settles}
pub use Rattle.dob_share.specs.Owners.{class_of_place, owner_of}
pub use Rattle.dob_share.specs.Shares.{HasSettled, HasValueNow, IsApplication, IsSeen, IsValue, SameClasses, cell_at}
unfoldable pub use Rattle.dob_share.specs.Shares.{Fits, IsOwn, places_of, status_at}
pub use Rattle.dob_share.specs.Statuses.{StatusesView}
pub use Rattle.dob_share.specs.declared.news.Item.{Item}
pub use Rattle.dob_share.specs.declared.news.Settlement.{Settlement}
pub use Rattle.dob_share.specs.declared.share.Share.{Share}
pub use Rattle.dob_share.specs.declared.cause.Cause.{Cause}
pub use Rattle.dob_share.proofs.Applied.{CellValue-same}
pub use Rattle.dob_share.proofs.Learning.{counted, counts, takes_next}
pub use Rattle.dob_share.proofs.Sums.{sums_up_after}
pub use Rattle.dob_share.specs.Steps.{IsTooDeep}
pub use Rattle.dob_share.specs.Values.{Better, NoWorse, is_win_in}
pub use Rattle.dob_share.specs.declared.opening.Opening.{Opening}
pub use Rattle.dob_share.specs.Items.{item_for, items_from, items_of}
pub use Rattle.dob_history.specs.OpeningLists.{opening_settlement, opening_settlements, opening_status, opening_value, start_settlements}
unfoldable pub use Rattle.dob_history.specs.SeenItems.{AreSeen}
pub use Rattle.dob_history.specs.Stores.{HistoryView, settlement_stored, settlements_from, settlements_of, start_status, starts_count, starts_of}
pub use Rattle.dob_history.specs.TakenItems.{AreKept, AreTaken, AreTakenBefore, HasItemEntries, HasParities, IsHistory, IsReason, IsTaken, StayKept, StopsAt}
pub use Rattle.dob_history.specs.TakenItems.{StopsFirst, TakesFirst, listed}
pub use Rattle.dob_history.specs.declared.history.Stored.{Stored}
pub use Rattle.dob_history.specs.Falls.{Falls, HaveFalls, IsCellWithin, IsFall, IsFirst, IsSettlement, RestsOn}
pub use Rattle.dob_history.specs.Histories.{IsChained, IsNext, copies, items_to, known, last_now, value_of}
unfoldable pub use Rattle.dob_history.specs.Histories.{all_known}
pub use Rattle.dob_history.specs.Lawful.{AreAfter, AreLawfulNodes, AreSettled, CanApply, IsNextItem, IsOneMore, known_of}
pub use Rattle.dob_history.specs.Openings.{AreOpenings, AreOpeningsBelow, AreOwnOpenings, AreOwnSoFar, IsOpening}
pub use Rattle.dob_history.specs.Quiet.{AreGathered, FollowsAtStatus, FollowsFromKnown, IsQuiet, QuietIsRight}
