-- The last part is moved in part, or nothing is left to be moved.
use Rattle.dob_update.proofs.Common.{◌++◌, ◌∙◌, ◌∷◌, ◌≡◌, [], List, PartView, ap, arith, drop, drop_more, get_or, rules, sym}
use Rattle.dob_update.proofs.PartLists.{moved_all, moved_last}
use Rattle.dob_update.proofs.outbox.push_front.Goals.{then-rest-gt0, else-rest-gt0}
use Rattle.dob_update.proofs.outbox.push_front.Goals as goal

pub returns-then-rest-items-clause-moved : goal.returns-then-rest-items-clause-moved
returns-then-rest-items-clause-moved c =
    let all = c.args.parts.now in
    let left = drop c.loop-part.part-index all in
    let first = c.args.list.now.items in
    let list = c.loop-part.list.items in
    let rest = c.loop-part.rest in
    elim c.if-rest-gt0.branch [
      | then-rest-gt0 w ↦
          let part = c.part-item.result in
          let there : part ≡ get_or all c.loop-part.part-index part = search rules in
          let read : part ≡ get_or left 0 part = there ∙ sym (ap (λ (ps : List PartView). get_or ps 0 part) (drop_more all c.loop-part.part-index part c.loop-part-test.true)) in
          rw w.list-is (moved_last c.args.k rest all left first list w.push_reserved.new.self.items part w.if-rest-gt0.true (rw c.items-items.ensures at c.if-rest-items.true)
          c.loop-part.invariant.dropping.within read c.loop-part.invariant.moving (w.push_reserved.ensures.items ∙ ap (λ (p : PartView). list ++ p ∷ []) w.with_items.ensures))
      | else-rest-gt0 w ↦ rw w.list-is (moved_all c.args.k rest all left first list (omega (arith, w.if-rest-gt0.false)) c.loop-part.invariant.moving)
    ]
