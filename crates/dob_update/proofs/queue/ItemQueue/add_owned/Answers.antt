-- The parts and the classes grow together, by those of the owner.
use Rattle.dob_update.proofs.Common.{◌++◌, ◌-◌, ◌<◌, ◌==◌, ◌^◌, ◌∙◌, ◌≡◌, AreQueued, List, PartView, QueueView, ap, ap₂, arith, count_by-le-length, filter}
use Rattle.dob_update.proofs.Common.{items_of, items_of_parts, length, length-append, length-filter, owner_of, queued, rules, subst, sym, with_part, ℕ}
use Rattle.dob_update.proofs.Queues.{one_more, room_few}
use Rattle.dob_update.proofs.queue.ItemQueue.add_owned.Goals as goal
use Rattle.dob_update.proofs.queue.ItemQueue.add_owned.Goals.{After-push_part}

abbrev owned : After-push_part → List ℕ
owned c = filter (λ class. owner_of c.args.nodes class == c.args.to) c.args.targets.now

parts_are : (c : After-push_part) → c.push_part.new.parts.items ≡ with_part c.self.inside.parts.items c.args.news.now (length (owned c))
parts_are c =
    let after : c.len.result ≡ length c.push_owned.new.classes.items = search rules in
    let before : c.len-before.result ≡ length c.self.inside.classes.items = search rules in
    let both : length c.push_owned.new.classes.items ≡ length (c.self.inside.classes.items ++ owned c) = ap length c.push_owned.ensures in
    let count : c.len.result - c.len-before.result ≡ length (owned c) = omega (arith, after, before, both, length-append c.self.inside.classes.items (owned c)) in
    c.push_part.ensures ∙ ap (λ (k : ℕ). with_part c.self.inside.parts.items c.args.news.now k) count

pub push_part-requires-clause-few : goal.push_part-requires-clause-few
push_part-requires-clause-few c =
    let is_owned = λ (class : ℕ). owner_of c.args.nodes class == c.args.to in
    let classes = c.self.inside.classes.items in
    let after : c.len.result ≡ length c.push_owned.new.classes.items = search rules in
    let before : c.len-before.result ≡ length classes = search rules in
    let both : length c.push_owned.new.classes.items ≡ length (classes ++ filter is_owned c.args.targets.now) = ap length c.push_owned.ensures in
    let most : c.args.self.now.room < 2 ^ 32 = subst (λ (q : QueueView). q.room < 2 ^ 32) c.self.view_is (room_few _ _) in
    let room = c.requires.room in
    omega (
      arith,
      after,
      before,
      both,
      length-append classes (filter is_owned c.args.targets.now),
      length-filter is_owned c.args.targets.now,
      count_by-le-length is_owned c.args.targets.now,
      room,
      most,
    )

pub invariant_of-self : goal.invariant_of-self
invariant_of-self c =
    let at = (goal.at.invariant_of-self c).After-push_part in
    subst (λ (ps : List PartView). AreQueued ps c.push_owned.new.classes.items) (sym (parts_are at))
    (subst (λ (cs : List ℕ). AreQueued (with_part c.self.inside.parts.items c.args.news.now (length (owned at))) cs) (sym c.push_owned.ensures)
    (one_more c.args.news.now (owned at) c.self.invariant).0)

pub returns-clause-items : goal.returns-clause-items
returns-clause-items c =
    let at = (goal.at.returns-clause-items c).After-push_part in
    ap₂ items_of_parts (parts_are at) c.push_owned.ensures ∙ (one_more c.args.news.now (owned at) c.self.invariant).1
    ∙ ap (λ (q : QueueView). queued q ++ items_of (λ _. c.args.targets.now) c.args.nodes c.args.to c.args.news.now) c.self.view_is
