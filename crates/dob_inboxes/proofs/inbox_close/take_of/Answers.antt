-- What isn't of that sender stays in the slot, and what is leaves nothing there for any.
use Rattle.dob_inboxes.proofs.Common.{◌≡◌, ◌≢◌, Bool, None, Some, ap, cond, ℕ, eq-eqb, ne_eqb, BatchView, held_from}

held_here : (batch : BatchView) (from : ℕ) → batch.from ≡ from → held_from (Some batch) from ≡ Some batch
held_here batch from is = ap (λ (t : Bool). cond t (Some batch) None) (eq-eqb batch.from from is)

held_else : (batch : BatchView) (from : ℕ) → batch.from ≢ from → held_from (Some batch) from ≡ None
held_else batch from other = ap (λ (t : Bool). cond t (Some batch) None) (ne_eqb batch.from from other)
