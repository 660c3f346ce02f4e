-- The names that the proofs here use most, from other crates and the definitions of this one.
pub use Rattle.std.proofs.Common.{◌*◌, ◌++◌, ◌+◌, ◌-◌, ◌<◌, ◌^◌, ◌∙◌, ◌∷◌, ◌≡◌, ◌≤◌, ◌⊎◌, Bool, Err, List, None, Ok, Option, Some, [], ap, arith, false, inl, inr}
pub use Rattle.std.proofs.Common.{length, min, refl, subst, suc, sym, take, true, zero, ℕ}
pub use Rattle.std.proofs.lemmas.Bool.{cases_lt}
pub use Rattle.std.specs.Borrow.{Bor}
pub use Rattle.std.specs.List.{AllZip, range_with_len}
pub use Rattle.std.specs.Option.{unwrap_or}
pub use Rattle.std.specs.Prelude.{IfOk, Result, is_err, slice_get}
pub use Rattle.rayon.proofs.ListFacts.{AllZip-weaken}
pub use Rattle.rayon.proofs.ToStd.{nat_range-All}
pub use Rattle.rayon.specs.Lists.{filter_by_mask}
pub use Rattle.rayon.specs.Numbers.{nat_range}
pub use Rattle.dob_pieces.proofs.Zips.{as_many, each_is, made_all}
pub use Rattle.dob_probe.proofs.Verdicts.{Verdict, answered}
pub use Rattle.dob_probe.specs.Slots.{AreSlots, part_of}
pub use Rattle.dob_probe.specs.declared.groups.Group.{Group}
pub use Rattle.dob_check.specs.Parts.{IsPart, IsPlace, part_count, part_end, part_size}
pub use Rattle.dob_check.specs.Watching.{IsToldAt, IsToldIn}
