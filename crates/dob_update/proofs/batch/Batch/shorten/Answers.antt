-- The front of a run is a run.
use Rattle.dob_update.proofs.Common.{◌∙◌, ◌≡◌, ◌≤◌, ap, arith, length, length-take-le, refl, subst, sym, take, BatchView, IsFront, IsItemRun, Item, List, PartView, front}
use Rattle.dob_update.proofs.Common.{items_in_all, items_of_parts, settlements_of, ℕ}
use Rattle.dob_update.proofs.PartItems.{items_in_front, many_in_run}
use Rattle.dob_update.proofs.Runs.{run_shortened, total-front, IsFront-from_parts}
use Rattle.dob_update.proofs.batch.Batch.shorten.Goals as goal

-- the items that are left
left : (k : ℕ) (parts : List PartView) (classes : List ℕ) → items_in_all parts ≡ length classes → k ≤ length (items_of_parts parts classes) →
    length (items_of_parts parts classes) ≡ length classes → items_of_parts (front k parts) (take k classes) ≡ take k (items_of_parts parts classes)
left k parts classes all within many = items_in_front k parts classes (omega (arith, all)) (omega (arith, all, within, many))

pub invariant_of-self : goal.invariant_of-self
invariant_of-self c =
    let old = c.self.inside in
    let items = items_of_parts old.parts.items old.classes.items in
    let many = many_in_run c.self.invariant in
    let counted = c.self.invariant.counted in
    let within : c.args.k ≤ length items = subst (λ (b : BatchView). c.args.k ≤ length b.items) (sym c.self.view_is) c.requires.within in
    rw (c.keep_front.ensures, c.truncate.ensures.items) (record {
      counted = total-front old.parts.items c.args.k (omega (arith, counted, within, many))
          ∙ sym (length-take-le c.args.k old.classes.items (omega (arith, within, many)));
      run = subst (λ (xs : List Item). IsItemRun old.family old.n old.to (front c.args.k old.parts.items) old.skip xs)
          (sym (left c.args.k old.parts.items old.classes.items counted within many))
          (run_shortened old.family old.n old.to old.parts.items old.skip c.args.k items c.self.invariant.run c.requires.some within);
    })

pub returns : goal.returns
returns c =
    let old = c.self.inside in
    let parts = c.keep_front.new.parts.items in
    let classes = c.truncate.new.self.items in
    let all = items_of_parts old.parts.items old.classes.items in
    let within : c.args.k ≤ length all = subst (λ (b : BatchView). c.args.k ≤ length b.items) (sym c.self.view_is) c.requires.within in
    let view : BatchView = record { family = old.family; n = old.n; from = old.from; to = old.to; number = old.number; settlements = settlements_of old.parts.items; skip = old.skip; items = all } in
    let new : BatchView = record view { settlements = settlements_of parts; items = items_of_parts parts classes } in
    subst (λ (b : BatchView). IsFront b c.args.k new) c.self.view_is
    (IsFront-from_parts view old.parts.items parts c.args.k (items_of_parts parts classes) refl c.keep_front.ensures
    (ap (λ (ps : List PartView). items_of_parts ps classes) c.keep_front.ensures ∙ ap (λ (xs : List ℕ). items_of_parts (front c.args.k old.parts.items) xs) c.truncate.ensures.items
    ∙ left c.args.k old.parts.items old.classes.items c.self.invariant.counted within (many_in_run c.self.invariant)))
