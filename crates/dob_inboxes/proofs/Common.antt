-- The names that the proofs here use most, from other crates and the definitions of this one.
pub use Rattle.std.proofs.Common.{◌*◌, ◌++◌, ◌+◌, ◌<◌, ◌∙◌, ◌∷◌, ◌≡◌, ◌≢◌, ◌≤◌, Bool, Global, List, None, Option, Some, [], ap, arith, cond, inl, inr, length}
pub use Rattle.std.proofs.Common.{length-append, length-set, map, refl, rules, set, subst, suc, sym, take, vec_len, zero, ℕ, ⊎_elim}
pub use Rattle.std.proofs.lemmas.Bool.{cases_eq, eq-eqb, ne_eqb}
pub use Rattle.std.proofs.lemmas.Option.{same_Some, slice_get_within}
pub use Rattle.std.proofs.lemmas.Result.{IfOk-weaker}
pub use Rattle.std.specs.List.{range_with_len}
pub use Rattle.std.specs.Prelude.{slice_get}
pub use Rattle.std.specs.Vec.Iter.{into_iter_items}
pub use Rattle.std.specs.declared.vec.Vec.{Vec}
pub use Rattle.dob_pieces.proofs.Elements.{at_end, get_front, get_set_other, middle, read_there, some_at}
pub use Rattle.dob_update.specs.Batches.{BatchView}
pub use Rattle.dob_chan.specs.Ends.{AreEndsOf, AreOpened, AreRejoined, IsRejoined, senders_of, taken_by}
pub use Rattle.dob_chan.specs.declared.ends.Rejoined.{Rejoined}
pub use Rattle.dob_chan.specs.declared.ends.SendEnd.{SendEnd}
pub use Rattle.dob_chan.specs.declared.ends.TakeEnd.{TakeEnd}
pub use Rattle.dob_endpoint.proofs.Links.{each_after}
pub use Rattle.dob_endpoint.specs.Slots.{held_from, slot_row}
pub use Rattle.dob_endpoint.specs.declared.slots.Inlet.{Inlet}
pub use Rattle.dob_endpoint.specs.declared.slots.Outlet.{Outlet}
pub use Rattle.dob_inboxes.specs.InboxClose.{AreEnds, AreJoined, outlet_end, outlet_slot}
pub use Rattle.dob_inboxes.specs.InboxOpen.{AreLaidUpto, AreOutlets, IsLaid, IsOneLaid, IsUntaken}
pub use Rattle.dob_inboxes.specs.Rows.{AreDealt, AreInOrder, AreRows, StandsAt}
