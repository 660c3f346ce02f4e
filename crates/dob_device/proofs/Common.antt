-- The names that the proofs here use most, from other crates and the definitions of this one.
pub use Rattle.std.proofs.Common.{◌++◌, ◌+◌, ◌-◌, ◌∙◌, ◌∷◌, ◌≡◌, ◌≤◌, Bool, List, None, Option, Some, [], ap, append_assoc, arith, drop, false, length}
pub use Rattle.std.proofs.Common.{length-drop, length-take-le, refl, rules, subst, sym, take, take-add, true, ℕ}
pub use Rattle.std.proofs.Math.Bool.{or-false}
pub use Rattle.std.proofs.lemmas.Bool.{or_right}
pub use Rattle.std.proofs.lemmas.Grind.{common_steps}
pub use Rattle.std.proofs.lemmas.List.{drop-drop, drop-take, drop_at, take-append-le, take_rest}
pub use Rattle.std.specs.Prelude.{◌||◌}
pub use borrow.Rule.Slice.PartMut.{post_of, put_mid}
pub use Rattle.dob_device.specs.Devices.{GivesFirst, Stream, after}
pub use Rattle.dob_device.specs.Sinks.{AddsFlush, IsNotFlushed, IsSame, Puts, SinkState, SinkWorks, StopsAfter, TakesPiece, Writes, change}
