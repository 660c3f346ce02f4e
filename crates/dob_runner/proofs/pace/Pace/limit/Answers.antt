-- The own level is passed over, and any other one may be the least.
use Rattle.std.proofs.Common.{◌∙◌, ◌+◌, sym, subst, ℕ, rules}
use Rattle.std.proofs.lemmas.Option.{slice_get_read}
use Rattle.dob_runner.specs.Paces.{IsLeastOther}
use Rattle.dob_runner.proofs.Pacing.{least_more, least_own}
use Rattle.dob_runner.proofs.pace.Pace.limit.Goals as goal
use Rattle.dob_runner.proofs.pace.Pace.limit.Goals.{then-node-self, else-node-self}

pub loop-node-preserved : goal.loop-node-preserved
loop-node-preserved c =
    let so_far = c.loop-node.invariant in
    let Is = λ (least : ℕ). IsLeastOther c.args.self.now.node (c.loop-node.node + 1) c.args.self.now.told.items least in
    elim c.if-node-self.branch [
      | then-node-self w ↦ subst Is (sym (w.least-is ∙ w.min-least.ensures)) (least_more c.args.self.now.node c.loop-node.node w.index.result.now
          c.args.self.now.told.items c.loop-node.least so_far w.if-node-self.true
          (slice_get_read c.args.self.now.told.items c.len-node-end.result c.loop-node.node w.index.result.now (search rules) c.loop-node-test.true w.index.ensures))
      | else-node-self w ↦ subst Is (sym w.least-is) (least_own c.args.self.now.node c.loop-node.node c.args.self.now.told.items c.loop-node.least so_far w.if-node-self.false)
    ]
