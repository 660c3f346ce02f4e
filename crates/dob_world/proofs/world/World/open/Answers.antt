-- The world is opened where all numbers are in their limits.
use Rattle.dob_world.proofs.Common.{IsSetting, IsSize, setting_by, subst, sym, ℕ}
use Rattle.dob_pieces.specs.declared.profile.Family.{Family}
use Rattle.dob_update.specs.Batches.{IsBatchSize, IsCapacity}
use Rattle.std.proofs.lemmas.Result.{err_from_is_err_and}
use Rattle.dob_world.proofs.world.World.open.Goals as goal

within : (family : Family) (nodes batch capacity : ℕ) → IsSize nodes → IsBatchSize batch → IsCapacity capacity → IsSetting (setting_by family nodes batch capacity)
within family nodes batch capacity of_nodes of_batch of_capacity = record { nodes = of_nodes; sizes = (of_batch, of_capacity) }

pub opened-requires : goal.opened-requires
opened-requires c =
    within c.args.family c.in-Some.node_count c.in-Some-new.batch_size c.in-Some-new-2.capacity
    (subst (λ (m : ℕ). IsSize m) (sym c.in-Some.ensures.0) c.in-Some.ensures.1)
    (subst (λ (m : ℕ). IsBatchSize m) (sym c.in-Some-new.ensures.0) c.in-Some-new.ensures.1)
    (subst (λ (m : ℕ). IsCapacity m) (sym c.in-Some-new-2.ensures.0) c.in-Some-new-2.ensures.1)

pub returns-in_err-opened : goal.returns-in_err-opened
returns-in_err-opened c =
    let p = err_from_is_err_and c.from_residual.result c.from_residual.ensures.1 in
    record {
      setting = rw p.1 tt;
      standing = rw p.1 tt;
      opened = rw p.1 tt;
      fault = rw (p.1, p.2) (within c.args.family c.args.nodes c.args.batch c.args.capacity c.in-Some.ensures.1 c.in-Some-new.ensures.1 c.in-Some-new-2.ensures.1);
    }
