-- The names that the proofs here use most, from other crates and the definitions of this one.
pub use Rattle.std.proofs.Common.{◌++◌, ◌+◌, ◌-◌, ◌<◌, ◌^◌, ◌∙◌, ◌∷◌, ◌≡◌, List, Some, [], ap, arith, codes, false, length, refl, string_bytes, subst, sym, ℕ}
pub use Rattle.std.proofs.lemmas.List.{append_assoc, length-append}
pub use Rattle.std.specs.Fmt.{decimal}
pub use Rattle.std.specs.List.{AllZip, range_with_len}
pub use Rattle.std.specs.Prelude.{slice_get}
pub use Rattle.dob_distance.specs.declared.value.Value.{Value}
pub use Rattle.dob_lines.specs.Objects.{played_objects, valued_objects}
pub use Rattle.dob_lines.specs.Tallies.{IsTally, IsTallyAt, class_lines, count_line}
pub use Rattle.dob_lines.specs.declared.tally.Tally.{Tally}
