-- The names that the proofs here use most, from other crates and the definitions of this one.
pub use Rattle.std.proofs.Common.{◌%◌, ◌*◌, ◌++◌, ◌+◌, ◌-◌, ◌/◌, ◌<◌, ◌==◌, ◌^◌, ◌↔◌, ◌∙◌, ◌∷◌, ◌≡◌, ◌≢◌, ◌≤◌, ◌⊎◌, AllPairs, Bool, Contains, List, Some, []}
pub use Rattle.std.proofs.Common.{ap, append-nil, append_assoc, arith, bit_or, drop, false, get_or, inl, inr, length, length-append, min, refl, set, subst}
pub use Rattle.std.proofs.Common.{suc, sym, take, true, vec_len, w64, zero, ℕ}
pub use Rattle.std.proofs.Math.Seq.{get_or-append_seam, take-add}
pub use Rattle.std.proofs.lemmas.Bool.{cases_eq, cases_lt, eqb-true, false≢true, true≢false}
pub use Rattle.std.proofs.lemmas.List.{get_or_append_left, get_or_default, get_or_past, length-drop, length-take, length_push, nil_from_length}
pub use Rattle.std.proofs.lemmas.List.{take-append-drop, take_all, take_min, take_more}
pub use Rattle.std.proofs.lemmas.List.Elements.{Contains-append_cases, Contains-append_left, Contains-append_right}
pub use Rattle.std.proofs.lemmas.Option.{slice_get_read, slice_get_within}
pub use Rattle.std.specs.Int.{from_bool}
pub use Rattle.std.specs.List.{AllZip, range_with_len}
pub use Rattle.std.specs.Prelude.{IfOk, Result, slice_get}
pub use Rattle.rayon.proofs.ListFacts.{AllZip-weaken, IfOk-then}
pub use Rattle.dob_pieces.proofs.Lists.{cons_cases, head_in, none_in_empty, rest_in, stands_or}
pub use Rattle.dob_pieces.specs.declared.profile.Family.{Family}
pub use Rattle.dob_pieces.specs.declared.setup.Setup.{Setup}
pub use Rattle.dob_moves.proofs.ProfileMoves.{Goes-mirrored, HasStatus-mirrored}
pub use Rattle.dob_moves.specs.Moves.{Goes}
pub use Rattle.dob_moves.specs.Statuses.{AreMoves, HasStatus}
pub use Rattle.dob_moves.specs.declared.position_status.Status.TheVariants.{Open}
pub use Rattle.dob_rank.specs.Families.{IsInClass, IsPositionOf, RepresentsClass, class_number, classes_of}
pub use Rattle.dob_classes.proofs.OfFamilies.FamilyNumbers.{IsInClass-class_number, class_number-below}
pub use Rattle.dob_value.proofs.Successors.{AreSuccessorsBelow, moves_keep_the_family, successors_all, successors_more, successors_none}
pub use Rattle.dob_reach.specs.Counts.{Among, HasJust}
pub use Rattle.dob_reach.specs.Distances.{IsAway, IsReached, Met}
pub use Rattle.dob_reach.specs.Fronts.{AreExpanded, IsExpanded, IsPartAt, IsPlace, IsSifted, opens_of, outcomes_of, part_at, part_count, parts_before}
pub use Rattle.dob_reach.specs.Leads.{IsOpen, Leads}
pub use Rattle.dob_reach.specs.Marks.{AreMarked, HasBits, HaveBits, IsMarked, KeepsMarks, mark_of}
pub use Rattle.dob_reach.specs.Reached.{AreReachedFrom}
pub use Rattle.dob_reach.specs.Rounds.{AreMet, IsMarkedWithin, IsNearer}
pub use Rattle.dob_reach.specs.Searches.{IsSearched}
pub use Rattle.dob_reach.specs.declared.parts.FrontierPart.{FrontierPart}
pub use Rattle.dob_reach.specs.declared.search.Reached.{Reached}
