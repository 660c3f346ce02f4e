-- There is an item for each class, and the items are those of the parts.
use Rattle.dob_update.proofs.Common.{◌∙◌, ◌≡◌, length, refl, rules, subst, sym, BatchView, IsBatch}
use Rattle.dob_update.proofs.PartItems.{many_in_run}
use Rattle.dob_update.proofs.Runs.{IsBatch-from_run}
use Rattle.dob_update.proofs.batch.Batch.len.Goals as goal

pub returns-clause-len : goal.returns-clause-len
returns-clause-len c =
    let many : c.len.result ≡ length c.self.inside.classes.items = search rules in
    subst (λ (b : BatchView). c.len.result ≡ length b.items) c.self.view_is (many ∙ sym (many_in_run c.self.invariant))

pub returns-clause-batch : goal.returns-clause-batch
returns-clause-batch c =
    subst (λ (b : BatchView). IsBatch b) c.self.view_is (IsBatch-from_run _ c.self.inside.parts.items refl c.self.invariant.run)
