-- The names that the proofs here use most, from other crates and the definitions of this one.
pub use Rattle.std.proofs.Common.{◌++◌, ◌-◌, ◌<◌, ◌∙◌, ◌∷◌, ◌≡◌, ◌≤◌, List, None, Option, Some, [], ap, arith, inl, inr, length, refl, subst, sym, take}
pub use Rattle.std.proofs.Common.{true, true≢false, ℕ}
pub use Rattle.std.proofs.lemmas.Bool.{cases_eq, cases_lt}
pub use Rattle.std.proofs.lemmas.List.{get_or_default, take_all, take_more}
pub use Rattle.std.proofs.lemmas.Option.{same_Some, slice_get_within}
pub use Rattle.dob_pieces.proofs.Symmetries.{turned-mirrored, turned-turned}
pub use Rattle.dob_pieces.specs.Setups.{IsLegal, mirrored, turned}
pub use Rattle.dob_pieces.specs.declared.profile.Family.{Family}
pub use Rattle.dob_pieces.specs.declared.profile.Profile.{Profile}
pub use Rattle.dob_pieces.specs.declared.setup.Setup.{Setup}
pub use Rattle.dob_moves.specs.Statuses.{HasStatus}
pub use Rattle.dob_moves.specs.declared.position_status.Status.TheVariants.{Open}
pub use Rattle.dob_rank.specs.Families.{IsInClass, IsPositionOf, RepresentsClass, class_number, classes_of}
pub use Rattle.dob_classes.proofs.OfFamilies.FamilyRepresentatives.{class_representative, in_mirror, one_class, one_representative}
pub use Rattle.dob_value.specs.Follows.{ClassTable, HasInTable}
pub use Rattle.dob_distance.specs.declared.value.Value.{Value}
pub use Rattle.dob_distance.specs.declared.value.Value.TheVariants.{Draw, Loss, Win}
pub use Rattle.dob_zugzwang.specs.Counts.{IsDeeper, IsDeepest, is_lost_by_both}
pub use Rattle.dob_zugzwang.specs.Laws.{EachIsListed, IsMutual, IsRightByValues, TurnedTwice, TurnsArePositions}
pub use Rattle.dob_zugzwang.specs.Pairs.{ArePairs, IsPair, IsPairAt, IsPairOf}
pub use Rattle.dob_zugzwang.specs.Zugzwangs.{AreBothOpen, IsWorse, IsZugzwang}
pub use Rattle.dob_zugzwang.specs.declared.pairs.Zugzwang.{Zugzwang}
