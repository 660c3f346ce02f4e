-- What taking a batch from an inbox does to a runner.
use Rattle.dob_runner.proofs.Common.{◌++◌, ◌∙◌, ◌∷◌, ◌≡◌, ◌≢◌, List, Some, [], ap, arith, false, length, refl, subst, sym, true, ℕ, same_Some, Family}
use Rattle.dob_runner.proofs.Common.{BatchView, IsUnchanged, Node, taken_by, TakeEnd, IsBatchFor, HoldsFor, worked, GoesOn, IsReceived, IsUnwanted, IsWorkedIn}
use Rattle.dob_runner.proofs.Common.{RunnerTakesBatch, Runner, Inlet}

-- ---- the batch in the slot

-- the batch that is handed out is the one that was tested
module _ {family : Family} {n from to : ℕ} {inlet : Inlet} {batch : BatchView} (tested : HoldsFor family n from to inlet) (held : inlet.slot ≡ Some batch) where
  same_batch : tested.batch ≡ batch
  same_batch = same_Some tested.batch batch (sym tested.held ∙ held)

  pub of_other : batch.from ≢ to
  of_other same = tested.other (sym tested.sender ∙ ap (λ (b : BatchView). b.from) same_batch ∙ same)

  pub fits_node : IsBatchFor family n to batch
  fits_node = subst (IsBatchFor family n to) same_batch tested.fits

pub unchanged_same : (node : Node) → IsUnchanged node node
unchanged_same node = record { same = (refl, refl, refl, refl); kept = (refl, refl, refl); outboxes = refl }

-- ---- taking

module _ (old new : Runner) (mid : Inlet) (goes : GoesOn old new) (received : worked mid ≡ worked old.endpoint.inlet)
    (asked : IsReceived old.endpoint.inlet mid) (outlets : new.endpoint.outlets.items ≡ old.endpoint.outlets.items) where
  -- none came, or it isn't worked in
  pub takes_none : new.endpoint.inlet ≡ mid → IsUnchanged old.node new.node → IsUnwanted old new → RunnerTakesBatch old new false
  takes_none same unchanged unwanted = record {
    goes = goes;
    taken = subst (λ i. IsWorkedIn false old.endpoint.inlet i) (sym same) (record {
      few = asked.few;
      one = λ never. absurd (cc);
      none = λ _. received;
      empty = λ _. asked.empty;
    });
    outlets = outlets;
    nothing = λ _. unchanged;
    unwanted = λ _. unwanted;
  }

  -- one is
  pub takes_one : (batch : BatchView) → new.endpoint.inlet.end ≡ mid.end → worked new.endpoint.inlet ≡ worked mid ++ batch ∷ [] → RunnerTakesBatch old new true
  takes_one batch end more = record {
    goes = goes;
    taken = record {
      few = omega (arith, ap (λ (e : TakeEnd). length (taken_by e)) end, asked.few);
      one = λ did. (batch, more ∙ ap (λ (l : List BatchView). l ++ batch ∷ []) received);
      none = λ never. absurd (cc);
      empty = λ never. absurd (cc);
    };
    outlets = outlets;
    nothing = λ never. absurd (cc);
    unwanted = λ never. absurd (cc);
  }
