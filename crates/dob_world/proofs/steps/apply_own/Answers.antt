-- No own item is left where the answer is false; else the first one is applied, and the lane lists it.
use Rattle.dob_world.proofs.Common.{◌++◌, ◌∙◌, ◌∷◌, Ok, [], ap, inl, inr, refl, sym, cases_Bool, HasApplied}
use Rattle.dob_world.proofs.Firsts.{none_first, first_same, some_first}
use Rattle.dob_world.proofs.steps.apply_own.Goals as goal

pub returns-in-None-clause-none : goal.returns-in-None-clause-none
returns-in-None-clause-none c = (λ e. none_first c.args.node.now.own (sym c.first_own.ensures ∙ c.in-None.is), λ e. refl)

pub returns-clause-applied : goal.returns-clause-applied
returns-clause-applied c = λ e.
    let there = sym c.first_own.ensures ∙ c.in-Some.is in
    let applied : HasApplied c.args.node.now c.apply_own.new.self = elim (cases_Bool c.in-Ok.field-0) [
      | inl done ↦ c.in-Ok.ensures.step.applied (ap Ok done)
      | inr none ↦ absurd (some_first c.args.node.now.own c.in-Some.item there (c.in-Ok.ensures.step.done.0 (ap Ok none)))
    ] in
    record {
      applied = applied;
      listed = c.push_reserved.ensures.items
          ∙ ap (λ xs. xs ++ c.in-Some.item ∷ []) c.in_ok-reserve.ensures.items
          ∙ ap (λ x. c.args.lane.now.applied.items ++ x ∷ []) (first_same c.args.node.now.own c.apply_own.new.self.own c.in-Some.item
          applied.item there applied.first);
      same = (refl, refl);
    }
