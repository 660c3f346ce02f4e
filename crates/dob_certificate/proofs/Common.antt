-- The names that the proofs here use most, from other crates and the definitions of this one.
pub use Rattle.std.proofs.Common.{◌+◌, ◌-◌, ◌<◌, ◌↔◌, ◌∙◌, ◌≡◌, ◌≢◌, ◌≤◌, ◌⊎◌, Bool, Contains, Err, IfErr, IfNone, IfOk, IfSome, IsTrue, List, None, Ok, Option}
pub use Rattle.std.proofs.Common.{Result, Some, add-one, ap, arith, false, get_or, inl, inr, leb, length, not, refl, rules, slice_get, subst, suc, sym, true, zero}
pub use Rattle.std.proofs.Common.{ℕ}
pub use Rattle.std.proofs.lemmas.Bool.{cases_lt}
pub use Rattle.std.proofs.lemmas.Bool.Decides.{nat_tests}
pub use Rattle.std.proofs.lemmas.List.Sorted.{IsNonDecreasingBy-from_default, answers_always}
pub use Rattle.std.proofs.lemmas.Option.{slice_get-get_or, slice_get_read}
pub use Rattle.std.proofs.lemmas.Result.{err_from_is_err_and}
pub use Rattle.dob_pieces.specs.declared.profile.Family.{Family}
pub use Rattle.dob_pieces.specs.declared.profile.Profile.{Profile}
pub use Rattle.dob_pieces.specs.declared.setup.Setup.{Setup}
pub use Rattle.dob_moves.specs.Statuses.{AreMoves, HasStatus}
pub use Rattle.dob_moves.specs.declared.position_status.Status.TheVariants.{Caught, Open, Stuck, Tried}
pub use Rattle.dob_rank.proofs.OfFamilies.Present.{HasClasses-classes_of}
pub use Rattle.dob_rank.specs.Families.{IsInClass, class_setup, classes_of}
pub use Rattle.dob_classes.proofs.OfFamilies.FamilyRepresentatives.{one_class}
pub use Rattle.dob_distance.proofs.Depths.{lost_not_caught, lost_not_open, lost_stays, won_stays}
pub use Rattle.dob_distance.specs.Values.{HasLost, HasValue, Lost, Won}
pub use Rattle.dob_certificate.specs.Ascending.{AreAscending, class_at, listed_entry}
pub use Rattle.dob_certificate.specs.Claims.{Holds, Prove, ShowsDraw, ShowsLoss, ShowsWin, ShowsWon}
pub use Rattle.dob_certificate.specs.Held.{IsHoldSupported, IsListedBeyond, IsSafe, IsSaidHeld, SupportsAllHeld, SupportsHeld, plies_asked}
pub use Rattle.dob_certificate.specs.Listed.{HasPlies, IsEntryFor, IsEntryOf}
pub use Rattle.dob_certificate.specs.Lists.{Supports}
pub use Rattle.dob_certificate.specs.Lost.{IsAnswered, IsListedWithin, IsLossSupported, IsSaidLost, SaysLost, SupportsAllLost, SupportsLost}
pub use Rattle.dob_certificate.specs.declared.claim.Claim.{Claim}
pub use Rattle.dob_certificate.specs.declared.entry.Entry.{Entry}
pub use Rattle.dob_certificate.specs.declared.entry.TheConstants.{EVER}
