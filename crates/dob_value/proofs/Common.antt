-- The names that the proofs here use most, from other crates and the definitions of this one.
pub use Rattle.std.proofs.Common.{◌++◌, ◌+◌, ◌-◌, ◌<◌, ◌∙◌, ◌∷◌, ◌≡◌, ◌≢◌, ◌≤◌, ◌⊎◌, AllPairs, Contains, List, Some, [], ap, add-one}
pub use Rattle.std.proofs.Common.{append-nil, append_assoc, arith, drop, false, get_or, inl, inr, length, map, refl, rules, slice_get}
pub use Rattle.std.proofs.Common.{slice_index_or, slice_set, subst, suc, sym, take, true, zero, ℕ}
pub use Rattle.std.proofs.lemmas.Bool.{cases_lt}
pub use Rattle.std.proofs.lemmas.Grind.{common_steps}
pub use Rattle.std.proofs.lemmas.List.{get_or-map, length-map}
pub use Rattle.std.proofs.lemmas.List.Elements.{All-push, Contains-append_left, Contains-get_or, Contains-push, Contains-push_cases}
pub use Rattle.std.proofs.lemmas.Option.{get_or_from_slice_get, same_Some, slice_get-get_or, slice_get_read, slice_get_within}
pub use Rattle.std.specs.List.{All, list_all, list_any, range_with_len}
pub use Rattle.dob_pieces.proofs.Elements.{at_end, before_or_here, standing}
pub use Rattle.dob_pieces.specs.declared.profile.Family.{Family}
pub use Rattle.dob_pieces.specs.declared.profile.Profile.{Profile}
pub use Rattle.dob_pieces.specs.declared.setup.Setup.{Setup}
pub use Rattle.dob_moves.proofs.ProfileMoves.{IsLegal-Goes, goes_there, status_there, total-Goes}
pub use Rattle.dob_moves.specs.Moves.{CanGo, Goes}
pub use Rattle.dob_moves.specs.Statuses.{AreMoves, HasStatus}
pub use Rattle.dob_moves.specs.declared.game_move.Move.{Move}
pub use Rattle.dob_moves.specs.declared.position_status.Status.{Status}
pub use Rattle.dob_moves.specs.declared.position_status.Status.TheVariants.{Caught, Open, Stuck, Tried}
pub use Rattle.dob_rank.proofs.OfFamilies.Present.{HasClass-marked, HasClasses-classes_of}
pub use Rattle.dob_rank.specs.Families.{HasClasses, IsPositionOf, IsRepresentative, classes_of}
pub use Rattle.dob_rank.specs.Marks.{marks_below}
pub use Rattle.dob_rank.specs.Numbers.{rank_of_set}
pub use Rattle.dob_value.specs.ClassRows.{class_setup}
pub use Rattle.dob_distance.specs.Codes.{IsEntry, IsShort, value_of_code, values_of_codes}
pub use Rattle.dob_distance.specs.Depths.{SameOutlook}
pub use Rattle.dob_distance.specs.Entries.{HasDistance, IsCutOff, Tells, TellsAt, is_draw, is_loss_within, is_win_within}
pub use Rattle.dob_value.specs.Follows.{AreGiven, ClassTable, HasInTable, IsValueTable}
pub use Rattle.dob_value.specs.Graphs.{AreCutOff, AreNodes, AreSuccessors, AreSwept, AreValues, ClassStandsFor, HasEntries, IsGraph, IsNode, SomeHasDistance}
pub use Rattle.dob_value.specs.Graphs.{run_at, status_at, value_at_start}
pub use Rattle.dob_value.specs.Rosters.{SomeTooDeep}
pub use Rattle.dob_distance.specs.Values.{HasLost, HasValue, Lost, Won}
pub use Rattle.dob_distance.specs.declared.value.TheConstants.{MAX_DISTANCE}
pub use Rattle.dob_distance.specs.declared.value.Value.{Value}
pub use Rattle.dob_distance.specs.declared.value.Value.TheVariants.{Draw, Loss, Win}
