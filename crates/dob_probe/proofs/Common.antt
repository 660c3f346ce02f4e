-- The names that the proofs here use most, from other crates and the definitions of this one.
pub use Rattle.std.proofs.Common.{◌%◌, ◌&&◌, ◌++◌, ◌+◌, ◌-◌, ◌<◌, ◌^◌, ◌↔◌, ◌∙◌, ◌∷◌, ◌≡◌, ◌≢◌, ◌≤◌, ◌⊎◌, All, AllPairs, Bool, Contains, Err, Global}
pub use Rattle.std.proofs.Common.{IfErr, IfOk, List, MatchResult, None, Ok, Option, Result, Some, Vec, [], ap, append-nil, arith, cond, count_by, drop}
pub use Rattle.std.proofs.Common.{false, get_or, inl, inr, insert, length, max, min, option_to_list, refl, rules, set, slice_get, subst, suc, sym, take}
pub use Rattle.std.proofs.Common.{true, true≢false, zero, ℕ}
pub use Rattle.std.proofs.lemmas.Bool.{and_parts, cases_Bool, cases_eq, cases_lt, cases_order}
pub use Rattle.std.proofs.lemmas.List.{get_or-set_other, get_or-set_same, get_or_default}
pub use Rattle.std.proofs.lemmas.List.Elements.{Contains-append_left, Contains-append_right, Contains-get_or, Contains-push, Contains-push_cases}
pub use Rattle.std.proofs.lemmas.List.Quantifiers.{all_pairs_push}
pub use Rattle.std.proofs.lemmas.Option.{get_or_from_slice_get, same_Some, slice_get_read, slice_get_within}
pub use Rattle.std.specs.List.{list_any}
pub use Rattle.dob_pieces.proofs.Boards.{one_lion}
pub use Rattle.dob_pieces.proofs.Elements.{before_or_here, get_front, standing}
pub use Rattle.dob_pieces.specs.Setups.{HasLions, at}
pub use Rattle.dob_pieces.specs.declared.kind.Side.TheVariants.{Enemy, Mover}
pub use Rattle.dob_pieces.specs.declared.profile.Family.{Family}
pub use Rattle.dob_pieces.specs.declared.profile.Profile.{Profile}
pub use Rattle.dob_pieces.specs.declared.setup.Setup.{Setup}
pub use Rattle.dob_moves.proofs.ByProfile.{can_go, goes}
pub use Rattle.dob_moves.proofs.ProfileMoves.{Goes-is}
pub use Rattle.dob_moves.specs.Moves.{CanGo, Goes, place}
pub use Rattle.dob_moves.specs.Statuses.{AreMoves, CanCatch, HasStatus, IsFirstCatch}
pub use Rattle.dob_moves.specs.declared.game_move.Move.{Move}
pub use Rattle.dob_moves.specs.declared.position_status.Status.{Status}
pub use Rattle.dob_moves.specs.declared.position_status.Status.TheVariants.{Open}
pub use Rattle.dob_rank.specs.Families.{IsInClass, IsPositionOf, class_number, class_setup, classes_of}
pub use Rattle.dob_classes.proofs.OfFamilies.FamilyNumbers.{IsInClass-class_number, class_number-below}
pub use Rattle.dob_classes.specs.Views.{IsShown}
pub use Rattle.dob_value.proofs.ClassNumbers.{one_entry, one_of_class}
pub use Rattle.dob_value.proofs.Consistency.{consistent_is_right}
pub use Rattle.dob_value.proofs.Successors.{AreSuccessorsBelow, moves_keep_the_family}
pub use Rattle.dob_distance.specs.Distances.{IsLeastLoss, greater_of, lesser_of}
pub use Rattle.dob_distance.specs.Codes.{IsEntry}
pub use Rattle.dob_value.specs.Follows.{ClassTable, FollowsFromSuccessors, IsConsistent, IsTable, IsValueTable}
pub use Rattle.dob_distance.specs.declared.value.Value.{Value}
pub use Rattle.dob_distance.specs.declared.value.Value.TheVariants.{Draw, Loss, Win}
pub use Rattle.dob_probe.specs.Checks.{ClassBreaks, ClassFollows, HasEntry}
pub use Rattle.dob_probe.specs.Faults.{IsFaultOfLine}
pub use Rattle.dob_probe.specs.Lines.{Begins, BreaksAt, Continues, EndsAt, GivenBy, GoesOnTo, IsFirstTo, IsLine, LacksMove, LeadsTo, value_wanted}
pub use Rattle.dob_probe.specs.Outlines.{AreAlike, AreLike, AreOutlines, IsOutline, IsOutlineOf, same_outline}
pub use Rattle.dob_probe.specs.Puzzles.{ArePuzzles, IsListedNext, IsPassed, IsPuzzle, IsSpread, puzzle_of}
pub use Rattle.dob_probe.specs.SingleMoves.{IsPuzzleOf, IsSingleMove}
pub use Rattle.dob_probe.specs.Slots.{AreSlots, part_of}
pub use Rattle.dob_probe.specs.Sums.{AreSummed, HasNext, IsGreatestWin, TellsDraw, value_after}
pub use Rattle.dob_probe.specs.ValuedMoves.{ComesBefore, IsBetter}
pub use Rattle.dob_probe.specs.Walks.{IsAfter, IsOrder, begin_at, class_on, place_in, places_in}
pub use Rattle.dob_probe.specs.declared.by_value.ValuedMove.{ValuedMove}
pub use Rattle.dob_probe.specs.declared.fault.Fault.{Fault}
pub use Rattle.dob_probe.specs.declared.fault.Fault.TheVariants.{Inconsistent, Memory}
pub use Rattle.dob_probe.specs.declared.puzzles.Puzzle.{Puzzle}
pub use Rattle.dob_probe.specs.declared.successors.Successors.{Successors}
