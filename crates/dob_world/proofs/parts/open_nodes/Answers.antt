-- One node more is opened.
use Rattle.dob_world.proofs.Common.{◌++◌, ◌+◌, ◌∙◌, ◌∷◌, ◌≡◌, List, [], ap, inl, inr, subst, sym, ℕ, length-append, at_end, Family, Opening}
use Rattle.dob_world.proofs.Common.{IsOpened, IsSound, Node, AreOpenedNodes}
use Rattle.dob_world.proofs.parts.open_nodes.Goals as goal

opened_more : (openings : List Opening) (family : Family) (n m : ℕ) (nodes new : List Node) (node : Node) → AreOpenedNodes openings family n m nodes →
    IsOpened openings family m n node → IsSound node → new ≡ nodes ++ node ∷ [] → AreOpenedNodes openings family n (m + 1) new
opened_more openings family n m nodes new node are opened sound is = subst (λ xs. AreOpenedNodes openings family n (m + 1) xs) (sym is) (record {
  whole = length-append nodes (node ∷ []) ∙ ap (λ (k : ℕ). k + 1) are.whole;
  each = λ i x there. elim (at_end nodes node x i there) [
    | inl before ↦ are.each i x before
    | inr last ↦ subst (λ (y : Node). IsOpened openings family i n y × IsSound y) last.1
        (subst (λ (k : ℕ). IsOpened openings family k n node) (sym (last.0 ∙ are.whole)) opened, sound)
  ];
})

pub loop-id-preserved : goal.loop-id-preserved
loop-id-preserved c = opened_more c.args.openings.now c.args.family c.args.node_count c.loop-id.id c.loop-id.nodes.items c.push.new.self.items c.in_ok-open.field-0
    c.loop-id.invariant c.in_ok-open.ensures.opened c.in_ok-open.ensures.sound c.in_ok-push.ensures.items
