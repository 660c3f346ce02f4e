-- The parts and the classes grow together.
use Rattle.dob_update.proofs.Common.{◌∙◌, AreQueued, List, PartView, ap, length, length-map, map, subst, sym, target_of, with_part, ℕ}
use Rattle.dob_update.proofs.Queues.{one_more}
use Rattle.dob_update.proofs.queue.ItemQueue.add.Goals as goal

pub invariant_of-self : goal.invariant_of-self
invariant_of-self c =
    let old = c.self.inside in
    let more = map target_of c.args.items.now in
    subst (λ (ps : List PartView). AreQueued ps c.push_classes.new.classes.items)
    (sym (c.push_part.ensures ∙ ap (λ (k : ℕ). with_part old.parts.items c.args.news.now k) (sym (length-map c.args.items.now target_of))))
    (subst (λ (cs : List ℕ). AreQueued (with_part old.parts.items c.args.news.now (length more)) cs) (sym c.push_classes.ensures)
    (one_more c.args.news.now more c.self.invariant).0)
