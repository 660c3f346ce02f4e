-- The ends gone over have their outlets, and the others are left.
use Rattle.dob_inboxes.proofs.Common.{◌≡◌, None, Some, length, ℕ, slice_get, into_iter_items, Outlet}
use Rattle.dob_endpoint.proofs.Places.{HaveGone}
use Rattle.dob_inboxes.proofs.inbox_open.outlets_of.Given as goal

abbrev pub invariant-loop-send : goal.invariant-loop-send
invariant-loop-send l = record {
  gone : HaveGone l.fn.sends.items (into_iter_items l.send-iterator) (length l.outlets.items);
  each : (k : ℕ) (outlet : Outlet) → slice_get l.outlets.items k ≡ Some outlet → (slice_get l.fn.sends.items k ≡ Some outlet.end) × (outlet.slot ≡ None);
}
