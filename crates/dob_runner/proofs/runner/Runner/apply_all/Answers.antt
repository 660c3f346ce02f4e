-- The runner stays lawful where its first own items are applied, and none is left where all can be.
use Rattle.dob_runner.proofs.Common.{◌↔◌, ◌∷◌, ◌≡◌, List, [], arith, false, inl, length, ltb, refl, subst, sym, ℕ, ltb-false, Item}
use Rattle.dob_endpoint.proofs.Keeping.{endpoint_same}
use Rattle.dob_runner.proofs.Keeping.{goes_by, broken_for, own_reason, node_goes}
use Rattle.dob_runner.proofs.Lawfuls.{applied_items, still_coloured}
use Rattle.dob_runner.proofs.runner.Runner.apply_all.Goals as goal

-- none is counted just where there is none
none_left : (own : List Item) (count : ℕ) → count ≡ length own → (ltb 0 count ≡ false) ↔ (own ≡ [])
none_left [] count is = (λ _. refl, λ _. subst (λ (k : ℕ). ltb 0 k ≡ false) (sym is) refl)
none_left (item ∷ own) count is = (λ none. (let no = ltb-false 0 count none in absurd (omega (arith, no, is))), λ empty. absurd (cc))

pub apply_every_own-requires-clause-going : goal.apply_every_own-requires-clause-going
apply_every_own-requires-clause-going c = (let r = c.args.self.now in node_goes r.node.failed r.failed r.agrees c.requires)

pub invariant_of-self-in-Err-clause-lawful : goal.invariant_of-self-in-Err-clause-lawful
invariant_of-self-in-Err-clause-lawful c = λ _.
    let r = c.args.self.now in
    let step = c.in-Err.ensures.step in
    still_coloured r.family r.batch_size c.apply_every_own.new.self r.endpoint c.fail_for.new.endpoint
    (applied_items r.family r.batch_size step.items r.node c.apply_every_own.new.self r.endpoint (r.lawful (inl c.requires)) step.applied
    c.in-Err.ensures.keeps.sound) c.fail_for.ensures.fails.keeps

pub invariant_of-self-clause-lawful : goal.invariant_of-self-clause-lawful
invariant_of-self-clause-lawful c = λ _.
    let r = c.args.self.now in
    let step = c.in-Ok.ensures.step in
    applied_items r.family r.batch_size step.items r.node c.apply_every_own.new.self r.endpoint (r.lawful (inl c.requires)) step.applied
    c.in-Ok.ensures.keeps.sound

pub returns-in-Err : goal.returns-in-Err
returns-in-Err c = rw c.fail_for.ensures.given
    (broken_for c.args.self.now _ c.in-Err.why c.fail_for.ensures.fails refl refl refl (own_reason _ c.in-Err.why c.in-Err.ensures.step.stopped))

pub returns-in-Ok : goal.returns-in-Ok
returns-in-Ok c = record {
  goes = goes_by (endpoint_same c.args.self.now.endpoint) refl refl refl c.requires refl refl;
  endpoint = refl;
  done = none_left c.args.self.now.node.own c.left_for_itself-count.result c.left_for_itself-count.ensures;
  none = c.in-Ok.ensures.step.all;
}
