-- The gate is told how many more settlements are expanded after the work than before.
use Rattle.dob_runner.proofs.Common.{◌-◌, ◌∙◌, ◌≡◌, subst, ℕ, KeepsRunner}
use Rattle.dob_runner.proofs.TurnParts.{works_go, steps_keep}
use Rattle.dob_runner.proofs.runner.Runner.work_and_tell.Goals as goal

pub returns-clause-told : goal.returns-clause-told
returns-clause-told g c =
    let old = c.args.self.now in
    let new = c.work-did.new.self in
    let kept : KeepsRunner old new = steps_keep old new c.work-did.result (works_go old new c.work-did.result c.work-did.ensures) in
    let more : c.expanded.result - c.expanded-before.result ≡ new.node.expanded - old.node.expanded =
    λ q. c.expanded.ensures q - c.expanded-before.ensures q in
    subst (λ (p : ℕ × ℕ). g.G.Gate.told c.args.gate.now p.0 p.1)
    (λ q. (kept.endpoint.seat.node q, (c.saturating_sub-expanded.ensures ∙ more) q)) c.worked.ensures
