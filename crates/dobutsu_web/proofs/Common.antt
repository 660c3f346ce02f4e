-- The names that the proofs here use most, from other crates and the definitions of this one.
pub use Rattle.std.proofs.Common.{◌*◌, ◌+◌, ◌-◌, ◌<◌, ◌↔◌, ◌∙◌, ◌≡◌, ◌≢◌, Bool, Contains, Err, IsTrue, List, Ok, Some, ap}
pub use Rattle.std.proofs.Common.{arith, false, inl, inr, length, nat_eq, refl, rules, slice_index, subst, sym, true, ℕ}
pub use Rattle.std.proofs.lemmas.Bool.{cases_Bool, cases_lt}
pub use Rattle.std.proofs.lemmas.Bool.Decides.{nat_tests}
pub use Rattle.std.proofs.lemmas.List.Sorted.{answers_always}
pub use Rattle.dob_pieces.specs.declared.profile.Family.{Family}
pub use Rattle.dob_pieces.specs.declared.setup.Setup.{Setup}
pub use Rattle.dob_moves.proofs.ByProfile.{can_go, goes}
pub use Rattle.dob_moves.specs.Moves.{CanGo, HasOutcome, hand_place, place}
pub use Rattle.dob_rank.specs.Families.{HasClass, IsPositionOf, IsRepresentative}
pub use Rattle.dob_classes.proofs.OfFamilies.FamilyNumbers.{IsPositionOf-mirrored, class_number-below}
pub use Rattle.dob_certificate.proofs.Cases.{not_so}
pub use Rattle.dob_certificate.specs.Claims.{Prove, Show}
pub use Rattle.dob_certificate.specs.Lists.{SupportsAll}
pub use Rattle.dob_certificate.specs.declared.claim.Claim.{Claim}
pub use Rattle.dob_certificate.specs.declared.entry.Entry.{Entry}
pub use Rattle.dobutsu_web.specs.Certified.{AreProof}
pub use Rattle.dobutsu_web.specs.Ranked.{AreRanks, IsRankAt, entries_by, entries_in, entry_by}
unfoldable pub use Rattle.dobutsu_web.specs.Ranked.{ranked_setup}
