-- Each step of a runner leaves it lawful.
use Rattle.dob_runner.proofs.Common.{◌++◌, ◌-◌, ◌<◌, ◌∙◌, ◌∷◌, ◌≡◌, ◌≢◌, ◌≤◌, List, None, Some, [], ap, append_assoc, arith, cond, drop, eqb, false, inl, inr}
use Rattle.dob_runner.proofs.Common.{length, length-append, refl, rules, subst, sym, take, true, ℕ, cases_Bool, cases_eq, true≢false, append-nil, length-take}
use Rattle.dob_runner.proofs.Common.{take-append-drop, slice_get_within, slice_get, slice_set, Family, predecessors, Item, Settlement}
use Rattle.dob_runner.proofs.Common.{Share, items_in_more, BatchView, OutboxView, empty_outbox, items_of_batches, items_from, items_of, outbox_same}
use Rattle.dob_runner.proofs.Common.{emitted_grown, emitted_more, NodeView, HasApplied, HasAppliedItems, HasCut, HasTaken, IsExpanded, IsIdle, IsSound}
use Rattle.dob_runner.proofs.Common.{IsUnchanged, outbox_to, HistoryView, IsTaken, listed, Node, batches_of, AreOut, HasChangedOne}
use Rattle.dob_runner.proofs.Common.{HasSameLinksAndColour, KnowsRight, AreLast, IsLawfulRunner, SendsRight, applied_from, items_worked, own_applied, planned}
use Rattle.dob_runner.proofs.Common.{IsOffered, offered, IsNew, Endpoint, Inlet, Outlet, kept_still}
use Rattle.dob_history.proofs.Kepts.{emitted_still}
use Rattle.dob_runner.proofs.Knowing.{own_less, own_more, own_still, applied_here, applied_else, applied_still, knows_after, taken_one, knows_same, taken_all}
use Rattle.dob_runner.proofs.Knowing.{knows_opened, history_grown, last_more, last_less, each_more}
use Rattle.dob_endpoint.proofs.Links.{each_after}
use Rattle.dob_runner.proofs.Keeping.{outbox_still}

-- ---- the endpoint alone changed
worked_still : (node : Node) (old new : Endpoint) → ((k : ℕ) → items_worked new.inlet k ≡ items_worked old.inlet k) →
    KnowsRight node.family node.n node.id node.share node.history.settlements (applied_from node old.inlet) →
    KnowsRight node.family node.n node.id node.share node.history.settlements (applied_from node new.inlet)
worked_still node old new same = search (rules, knows_same, applied_still)

pub same_inlet : (old new : Endpoint) → new.inlet ≡ old.inlet → (k : ℕ) → items_worked new.inlet k ≡ items_worked old.inlet k
same_inlet old new same k = ap (λ (i : Inlet). items_worked i k) same

-- an outlet that stood there offered the same
abbrev WasOffered : ℕ → List Outlet → Outlet → Type 0
WasOffered to outlets outlet = (before : Outlet) × (slice_get outlets to ≡ Some before) × (offered outlet ≡ offered before)

-- links that offer what they offered, and another colour or the same
relinked : (family : Family) (size : ℕ) (node : Node) (old new : Endpoint) → IsLawfulRunner family size node old → new.seat.node ≡ old.seat.node →
    new.seat.nodes ≡ old.seat.nodes →
    ((to : ℕ) (outlet : Outlet) → slice_get new.outlets.items to ≡ Some outlet → WasOffered to old.outlets.items outlet) →
    ((k : ℕ) → items_worked new.inlet k ≡ items_worked old.inlet k) → (new.seat.stand.black ≡ false → IsIdle node × AreOut new.outlets.items) →
    IsLawfulRunner family size node new
relinked family size node old new law same_node same_nodes same_outlets same_worked white = record {
  of = (law.of.0, law.of.1 ∙ sym same_node, law.of.2 ∙ sym same_nodes);
  sound = law.sound;
  sends = λ to outlet apart at. (let was = same_outlets to outlet at in
      subst (SendsRight node size to) (sym was.2) (law.sends to was.0 (λ e. apart (e ∙ sym same_node)) was.1));
  unused = λ outlet at. (let was = same_outlets new.seat.node outlet at in
      was.2 ∙ law.unused was.0 (ap (λ i. slice_get old.outlets.items i) (sym same_node) ∙ was.1));
  own = law.own;
  knows = worked_still node old new same_worked law.knows;
  white = white;
}

-- where the links are the same
pub recoloured : (family : Family) (size : ℕ) (node : Node) (old new : Endpoint) → IsLawfulRunner family size node old → new.seat.node ≡ old.seat.node →
    new.seat.nodes ≡ old.seat.nodes → new.outlets.items ≡ old.outlets.items →
    ((k : ℕ) → items_worked new.inlet k ≡ items_worked old.inlet k) →
    (new.seat.stand.black ≡ false → IsIdle node × AreOut old.outlets.items) → IsLawfulRunner family size node new
recoloured family size node old new law same_node same_nodes same_outlets same_worked white = relinked family size node old new law same_node same_nodes
    (λ to outlet at. (outlet, ap (λ os. slice_get os to) (sym same_outlets) ∙ at, refl)) same_worked
    (λ is. (let rest = white is in (rest.0, subst AreOut (sym same_outlets) rest.1)))

-- the same links and colour
pub still_coloured : (family : Family) (size : ℕ) (node : Node) (old new : Endpoint) → IsLawfulRunner family size node old → HasSameLinksAndColour old new →
    IsLawfulRunner family size node new
still_coloured family size node old new law kept =
    recoloured family size node old new law kept.links.seat.node kept.links.seat.nodes (ap (λ v. v.items) kept.links.outlets) (same_inlet old new kept.links.inlet)
    (λ is. law.white (sym kept.colour ∙ is))

-- a runner that has something to do is black
pub busy_black : (family : Family) (size : ℕ) (node : Node) (endpoint : Endpoint) → IsLawfulRunner family size node endpoint → (IsIdle node → ⊥) → endpoint.seat.stand.black ≡ true
busy_black family size node endpoint law busy = elim (cases_Bool endpoint.seat.stand.black) [ inl black ↦ black | inr white ↦ absurd (busy (law.white white).0) ]

-- the node alone changed, and what it planned and has in its outbox is the same
sends_still : (old new : Node) (size to : ℕ) (batches : List BatchView) → planned new to ≡ planned old to → outbox_to new to ≡ outbox_to old to →
    SendsRight old size to batches → SendsRight new size to batches
sends_still old new size to batches plan outbox sends = grind arith

-- the node is as it was, but for the room of its history
pub unchanged_node : (family : Family) (size : ℕ) (old new : Node) (endpoint : Endpoint) → IsLawfulRunner family size old endpoint → IsUnchanged old new → IsSound new →
    IsLawfulRunner family size new endpoint
unchanged_node family size old new endpoint law same sound =
    let settled : new.history.settlements ≡ old.history.settlements = ap (λ (h : HistoryView). h.settlements) same.kept.1 in
    let outbox : (to : ℕ) → outbox_to new to ≡ outbox_to old to = λ to. outbox_still old new to same in
    let plan : (to : ℕ) → planned new to ≡ planned old to = λ to q. items_from (predecessors (same.same.0 q)) (same.same.2 q) to (take (same.same.3 q) (settled q)) in
    let own : planned new new.id ≡ planned old old.id = plan new.id ∙ ap (λ i. planned old i) same.same.1 in
    record {
      of = (same.same.0 ∙ law.of.0, same.same.1 ∙ law.of.1, same.same.2 ∙ law.of.2);
      sound = sound;
      sends = λ to outlet apart at. sends_still old new size to (offered outlet) (plan to) (outbox to) (law.sends to outlet apart at);
      unused = law.unused;
      own = subst (λ (p : List Item × List Item). AreLast p.0 p.1) (λ q. ((sym own) q, (sym same.kept.2) q)) law.own;
      knows = knows_after old new (applied_from new endpoint.inlet) same.same.0 same.same.1 same.same.2
          (subst (λ (p : Share × List Settlement). KnowsRight old.family old.n old.id p.0 p.1 (applied_from new endpoint.inlet))
          (λ q. (sym same.kept.0 q, sym settled q))
          (knows_same old.family old.n old.id old.share old.history.settlements (applied_from old endpoint.inlet) (applied_from new endpoint.inlet)
          (applied_still old new endpoint.inlet endpoint.inlet same.same.1 (own_still old new own same.kept.2) (λ k. refl)) law.knows));
      white = λ is. (let rest = law.white is in (
        record {
          expanded = same.same.3 ∙ rest.0.expanded ∙ ap length (sym settled);
          applied = same.kept.2 ∙ rest.0.applied;
          sent = λ to. ap (λ (o : OutboxView). o.items) (outbox to) ∙ rest.0.sent to;
        },
        rest.1,
      ));
    }

-- and so it is where its runner says that it failed
pub unchanged_failed : (family : Family) (size : ℕ) (old new : Node) (endpoint now : Endpoint) → IsLawfulRunner family size old endpoint → IsUnchanged old new → IsSound new →
    HasSameLinksAndColour endpoint now → IsLawfulRunner family size new now
unchanged_failed family size old new endpoint now law same sound kept = search (rules, still_coloured, unchanged_node)

-- one outlet was offered what it was before
pub offered_again : (family : Family) (size to : ℕ) (node : Node) (old new : Endpoint) → IsLawfulRunner family size node old → new.seat ≡ old.seat →
    HasChangedOne IsOffered to old.outlets.items new.outlets.items → new.inlet ≡ old.inlet → IsLawfulRunner family size node new
offered_again family size to node old new law seat one inlet = relinked family size node old new law (ap (λ s. s.node) seat) (ap (λ s. s.nodes) seat)
    (λ j outlet at. there j outlet (set_at j outlet at)) (same_inlet old new inlet)
    (λ is. (let rest = law.white (sym (ap (λ s. s.stand.black) seat) ∙ is) in (rest.0, λ j outlet at. out rest.1 j outlet (set_at j outlet at))))
  where
    set_at : (j : ℕ) (outlet : Outlet) → slice_get new.outlets.items j ≡ Some outlet → slice_get (slice_set old.outlets.items to one.1) j ≡ Some outlet
    set_at j outlet at = subst (λ os. slice_get os j ≡ Some outlet) one.4 at

    there : (j : ℕ) (outlet : Outlet) → slice_get (slice_set old.outlets.items to one.1) j ≡ Some outlet → WasOffered j old.outlets.items outlet
    there = each_after (λ j outlet. WasOffered j old.outlets.items outlet) old.outlets.items to one.1 (λ j outlet other at. (outlet, at, refl))
        (one.0, one.2, one.3.same)

    out : AreOut old.outlets.items → (j : ℕ) (outlet : Outlet) → slice_get (slice_set old.outlets.items to one.1) j ≡ Some outlet → outlet.slot ≡ None
    out empty = each_after (λ j outlet. outlet.slot ≡ None) old.outlets.items to one.1 (λ j outlet other at. empty j outlet at)
        (elim one.3.slot [ inl same ↦ same ∙ empty to one.0 one.2 | inr gone ↦ gone ])

-- ---- the node alone changed
planned_same : (old new : Node) (to : ℕ) → new.family ≡ old.family → new.n ≡ old.n → new.expanded ≡ old.expanded →
    (more : List Settlement) → new.history.settlements ≡ old.history.settlements ++ more → old.expanded ≤ length old.history.settlements →
    planned new to ≡ planned old to
planned_same old new to family n expanded more grown within = grind (arith, emitted_grown)

-- the own list lost its first item
pub applied_own : (family : Family) (size : ℕ) (old new : Node) (endpoint : Endpoint) → IsLawfulRunner family size old endpoint → HasApplied old new → IsSound new →
    IsLawfulRunner family size new endpoint
applied_own family size old new endpoint law step sound =
    let more = step.taken.settled in
    let grown : new.history.settlements ≡ old.history.settlements ++ listed more.0 = ap (λ (h : HistoryView). h.settlements) more.2 in
    let plan : (to : ℕ) → planned new to ≡ planned old to =
    λ to. planned_same old new to step.same.0 step.same.2 step.same.3 (listed more.0) grown law.sound.emitted in record {
      of = (step.same.0 ∙ law.of.0, step.same.1 ∙ law.of.1, step.same.2 ∙ law.of.2);
      sound = sound;
      sends = λ to outlet apart at. sends_still old new size to (offered outlet) (plan to)
          (outbox_same old new to step.same.0 step.same.1 step.same.2 step.outboxes) (law.sends to outlet apart at);
      own = subst (λ w. AreLast w new.own) (sym (ap (λ i. planned new i) step.same.1 ∙ plan old.id))
          (last_less (planned old old.id) step.item new.own (subst (λ own. AreLast (planned old old.id) own) step.first law.own));
      unused = law.unused;
      knows = knows_after old new (applied_from new endpoint.inlet) step.same.0 step.same.1 step.same.2
          (taken_one old.family old.n old.id old.share new.share old.history new.history (applied_from old endpoint.inlet) (applied_from new endpoint.inlet)
          old.id law.sound.kept.one_of_n step.item
          (one_more (ap (λ i. planned new i) step.same.1 ∙ plan old.id)) (λ k other. elsewhere k other) law.sound.kept step.taken law.knows);
      white = λ is. absurd (let none = (law.white is).0.applied in let some = step.first in cc);
    }
  where
    one_more : planned new new.id ≡ planned old old.id → applied_from new endpoint.inlet old.id ≡ applied_from old endpoint.inlet old.id ++ step.item ∷ []
    one_more plan =
        applied_here new endpoint.inlet old.id (sym step.same.1)
        ∙ ap (λ (xs : List Item). take (length xs - length new.own) xs) plan
        ∙ own_less (planned old old.id) old.own step.item new.own law.own step.first
        ∙ ap (λ xs. xs ++ step.item ∷ []) (sym (applied_here old endpoint.inlet old.id refl))

    elsewhere : (k : ℕ) → k ≢ old.id → applied_from new endpoint.inlet k ≡ applied_from old endpoint.inlet k
    elsewhere k other = applied_else new endpoint.inlet k (λ e. other (e ∙ step.same.1)) ∙ sym (applied_else old endpoint.inlet k other)

-- a node stays sound where it takes the first of its own items
sound_next : (old : NodeView) (item : Item) (rest : List Item) (between : Share) (longer : HistoryView) → IsSound old →
    IsTaken item old.share between old.history longer → IsSound (record old { share = between; history = longer; own = rest })
sound_next old item rest between longer sound taken = record {
  kept = kept_still old.family old.n old.id old.share between old.history longer item sound.kept taken;
  emitted = emitted_still item old.share between old.history longer old.expanded taken sound.emitted;
  receivers = sound.receivers;
  addressed = sound.addressed;
  nothing_to_self = sound.nothing_to_self;
}

-- and its first so many
pub applied_items : (family : Family) (size : ℕ) (items : List Item) (old new : NodeView) (endpoint : Endpoint) → IsLawfulRunner family size old endpoint →
    HasAppliedItems items old new → IsSound new → IsLawfulRunner family size new endpoint
applied_items family size [] old new endpoint law step sound = unchanged_node family size old new endpoint law
    (record { same = step.same; kept = (step.taken.0, step.taken.1, sym step.first); outboxes = step.outboxes }) sound
applied_items family size (item ∷ items) old new endpoint law step sound =
    let rest : List Item = items ++ new.own in
    let mid : NodeView = record old { share = step.taken.0; history = step.taken.1; own = rest } in
    applied_items family size items mid new endpoint
    (applied_own family size old mid endpoint law
    (record { item = item; first = step.first; taken = step.taken.2; same = (refl, refl, refl, refl); outboxes = refl })
    (sound_next old item rest step.taken.0 step.taken.1 law.sound step.taken.2))
    (record { first = refl; taken = step.taken.3; same = step.same; outboxes = step.outboxes }) sound

-- a batch of another node was counted as worked in, which blackens the seat, and applied
pub applied_batch : (family : Family) (size from : ℕ) (batch : BatchView) (node after : Node) (old new : Endpoint) → IsLawfulRunner family size node old →
    from < old.seat.nodes → from ≢ old.seat.node → HasTaken batch.items node after → IsSound after →
    new.seat.node ≡ old.seat.node → new.seat.nodes ≡ old.seat.nodes → new.seat.stand.black ≡ true → new.outlets.items ≡ old.outlets.items →
    ((k : ℕ) → k ≢ from → items_worked new.inlet k ≡ items_worked old.inlet k) →
    items_worked new.inlet from ≡ items_worked old.inlet from ++ batch.items → IsLawfulRunner family size after new
applied_batch family size from batch node after old new law low apart step sound same_node same_nodes black same_outlets same_worked more_worked = record {
  of = (step.same.0 ∙ law.of.0, step.same.1 ∙ (law.of.1 ∙ sym same_node), step.same.2 ∙ (law.of.2 ∙ sym same_nodes));
  sound = sound;
  sends = λ to outlet other at. sends_still node after size to (offered outlet) (plan to)
      (outbox_same node after to step.same.0 step.same.1 step.same.2 step.outboxes)
      (law.sends to outlet (λ e. other (e ∙ sym same_node)) (ap (λ os. slice_get os to) (sym same_outlets) ∙ at));
  unused = λ outlet at. law.unused outlet (ap (λ i. slice_get old.outlets.items i) (sym same_node) ∙ ap (λ os. slice_get os new.seat.node) (sym same_outlets) ∙ at);
  own = subst (λ w. AreLast w after.own) (sym own_plan) (subst (λ own. AreLast (planned node node.id) own) (sym step.own) law.own);
  knows = knows_after node after (applied_from after new.inlet) step.same.0 step.same.1 step.same.2
      (taken_all node.family node.n node.id from (subst (λ m. from < m) (sym law.of.2) low) batch.items node.share after.share node.history after.history
      (applied_from node old.inlet) (applied_from after new.inlet) law.sound.kept step.taken one_more elsewhere law.knows);
  white = λ is. absurd (true≢false (sym black ∙ is));
}
  where
    plan : (to : ℕ) → planned after to ≡ planned node to
    plan to = (let more = history_grown batch.items node.share after.share node.history after.history step.taken in
        planned_same node after to step.same.0 step.same.2 step.same.3 more.0 more.1 law.sound.emitted)

    own_plan : planned after after.id ≡ planned node node.id
    own_plan = ap (λ i. planned after i) step.same.1 ∙ plan node.id

    not_own : from ≢ node.id
    not_own e = apart (e ∙ law.of.1)

    one_more : applied_from after new.inlet from ≡ applied_from node old.inlet from ++ batch.items
    one_more = applied_else after new.inlet from (λ e. not_own (e ∙ step.same.1)) ∙ more_worked
        ∙ ap (λ xs. xs ++ batch.items) (sym (applied_else node old.inlet from not_own))

    elsewhere : (k : ℕ) → k ≢ from → applied_from after new.inlet k ≡ applied_from node old.inlet k
    elsewhere k other =
        λ q. cond (eqb k (step.same.1 q)) (own_still node after own_plan step.own q) (same_worked k other q)

-- a settlement was expanded
pub expanded_one : (family : Family) (size : ℕ) (old new : Node) (endpoint : Endpoint) → IsLawfulRunner family size old endpoint → IsExpanded old new → IsSound new →
    IsLawfulRunner family size new endpoint
expanded_one family size old new endpoint law step sound = record {
  of = (step.same.0 ∙ law.of.0, step.same.1 ∙ law.of.1, step.same.2 ∙ law.of.2);
  sound = sound;
  sends = λ to outlet apart at. (let within = slice_get_within endpoint.outlets.items to outlet at in
      sent to (offered outlet) (low to within) (λ e. apart (e ∙ law.of.1)) (law.sends to outlet apart at));
  own = subst (λ w. AreLast w new.own) (sym (ap (λ i. planned new i) step.same.1 ∙ plan old.id))
      (subst (λ own. AreLast (planned old old.id ++ items_of (predecessors old.family) old.n old.id step.settlement) own) (sym step.own)
      (last_more (planned old old.id) old.own (items_of (predecessors old.family) old.n old.id step.settlement) law.own));
  unused = law.unused;
  knows = knows_after old new (applied_from new endpoint.inlet) step.same.0 step.same.1 step.same.2
      (subst (λ (p : Share × HistoryView). KnowsRight old.family old.n old.id p.0 p.1.settlements (applied_from new endpoint.inlet))
      (λ q. (sym step.same.3 q, sym step.same.4 q))
      (knows_same old.family old.n old.id old.share old.history.settlements (applied_from old endpoint.inlet) (applied_from new endpoint.inlet)
      (applied_still old new endpoint.inlet endpoint.inlet step.same.1 own_same (λ k. refl)) law.knows));
  white = λ is. (let all = (law.white is).0.expanded in
      let some = slice_get_within old.history.settlements old.expanded step.settlement step.first in absurd (omega (arith, all, some)));
}
  where
    low : (to : ℕ) → to < length endpoint.outlets.items → to < old.n
    low to within = omega (arith, endpoint.outlets_len, law.of.2, within)

    plan : (to : ℕ) → planned new to ≡ planned old to ++ items_of (predecessors old.family) old.n to step.settlement
    plan to =
        (λ q. items_from (predecessors (step.same.0 q)) (step.same.2 q) to (take (step.expanded q) (step.same.4 q).settlements))
        ∙ emitted_more (predecessors old.family) old.n to old.history.settlements old.expanded step.settlement step.first

    own_same : own_applied new ≡ own_applied old
    own_same =
        let more = items_of (predecessors old.family) old.n old.id step.settlement in
        ap (λ (xs : List Item). take (length xs - length new.own) xs) (ap (λ i. planned new i) step.same.1 ∙ plan old.id)
        ∙ ap (λ (xs : List Item). take (length (planned old old.id ++ more) - length xs) (planned old old.id ++ more)) step.own
        ∙ own_more (planned old old.id) old.own more

    sent : (to : ℕ) (batches : List BatchView) → to < old.n → to ≢ old.id → SendsRight old size to batches → SendsRight new size to batches
    sent to batches within apart sends =
        let items = items_of (predecessors old.family) old.n to step.settlement in
        let outbox = step.sent to within apart in record {
          items = plan to ∙ ap (λ xs. xs ++ items) sends.items ∙ append_assoc (items_of_batches batches) (outbox_to old to).items items
              ∙ ap (λ (o : OutboxView). items_of_batches batches ++ o.items) (sym outbox);
          cut = ap (λ (o : OutboxView). o.next) outbox ∙ sends.cut;
          small = sends.small;
        }

-- ---- a batch was cut and put into the slot of an outlet
pub cut_one : (family : Family) (size to : ℕ) (batch : BatchView) (node after : Node) (old new : Endpoint) → IsLawfulRunner family size node old →
    to ≢ old.seat.node → HasCut to size batch node after → IsSound after → new.seat.node ≡ old.seat.node → new.seat.nodes ≡ old.seat.nodes → new.seat.stand.black ≡ true →
    HasChangedOne (λ (x y : Outlet). (y.end ≡ x.end) × (offered y ≡ offered x ++ batch ∷ [])) to old.outlets.items new.outlets.items →
    new.inlet ≡ old.inlet → IsLawfulRunner family size after new
cut_one family size to batch node after old new law not_own step sound same_node same_nodes black one inlet = record {
  of = (step.same.0 ∙ law.of.0, step.same.1 ∙ (law.of.1 ∙ sym same_node), step.same.2 ∙ (law.of.2 ∙ sym same_nodes));
  sound = sound;
  sends = λ j outlet apart at. there j outlet (subst (λ os. slice_get os j ≡ Some outlet) one.4 at) (λ e. apart (e ∙ sym same_node));
  own = subst (λ w. AreLast w after.own) (sym (ap (λ i. planned after i) step.same.1 ∙ plan node.id))
      (subst (λ own. AreLast (planned node node.id) own) (sym step.kept.2) law.own);
  unused = λ outlet at. nothing old.seat.node outlet (subst (λ os. slice_get os old.seat.node ≡ Some outlet) one.4
      (ap (λ i. slice_get new.outlets.items i) (sym same_node) ∙ at)) refl;
  knows = knows_after node after (applied_from after new.inlet) step.same.0 step.same.1 step.same.2
      (subst (λ (p : Share × HistoryView). KnowsRight node.family node.n node.id p.0 p.1.settlements (applied_from after new.inlet))
      (λ q. (sym step.kept.0 q, sym step.kept.1 q))
      (knows_same node.family node.n node.id node.share node.history.settlements (applied_from node old.inlet) (applied_from after new.inlet)
      (applied_still node after old.inlet new.inlet step.same.1
      (own_still node after (ap (λ i. planned after i) step.same.1 ∙ plan node.id) step.kept.2) (same_inlet old new inlet)) law.knows));
  white = λ is. absurd (true≢false (sym black ∙ is));
}
  where
    nothing : (j : ℕ) (outlet : Outlet) → slice_get (slice_set old.outlets.items to one.1) j ≡ Some outlet → j ≡ old.seat.node → offered outlet ≡ []
    nothing = each_after (λ j outlet. j ≡ old.seat.node → offered outlet ≡ []) old.outlets.items to one.1
        (λ j outlet other at own. law.unused outlet (ap (λ i. slice_get old.outlets.items i) (sym own) ∙ at))
        (λ own. absurd (not_own own))

    plan : (j : ℕ) → planned after j ≡ planned node j
    plan j = planned_same node after j step.same.0 step.same.2 step.same.3 []
        (ap (λ (h : HistoryView). h.settlements) step.kept.1 ∙ sym (append-nil node.history.settlements)) law.sound.emitted

    here : SendsRight node size to (offered one.0) → SendsRight after size to (offered one.0 ++ batch ∷ [])
    here sends = record {
      items = plan to ∙ sends.items
          ∙ ap (λ xs. items_of_batches (offered one.0) ++ xs) (sym (take-append-drop size (outbox_to node to).items))
          ∙ sym (append_assoc (items_of_batches (offered one.0)) (take size (outbox_to node to).items) (drop size (outbox_to node to).items))
          ∙ ap (λ xs. (items_of_batches (offered one.0) ++ xs) ++ drop size (outbox_to node to).items) (sym step.cut.items)
          ∙ ap (λ xs. xs ++ drop size (outbox_to node to).items) (sym (items_in_more (offered one.0) batch))
          ∙ ap (λ xs. items_of_batches (offered one.0 ++ batch ∷ []) ++ xs) (sym step.cut.left);
      cut = step.cut.next ∙ (let long = length-append (offered one.0) (batch ∷ []) in let was = sends.cut in omega (arith, long, was));
      small = each_more (λ b. length b.items ≤ size) (offered one.0) batch sends.small
          (subst (λ xs. length xs ≤ size) (sym step.cut.items) (omega (arith, length-take size (outbox_to node to).items)));
    }

    there : (j : ℕ) (outlet : Outlet) → slice_get (slice_set old.outlets.items to one.1) j ≡ Some outlet → j ≢ old.seat.node → SendsRight after size j (offered outlet)
    there = each_after (λ j outlet. j ≢ old.seat.node → SendsRight after size j (offered outlet)) old.outlets.items to one.1
        (λ j outlet other at apart. sends_still node after size j (offered outlet) (plan j) (step.others j other) (law.sends j outlet apart at))
        (λ apart. subst (λ bs. SendsRight after size to bs) (sym one.3.1) (here (law.sends to one.0 apart one.2)))

-- ---- the start

-- the node was opened, and nothing was offered
pub begun : (family : Family) (size : ℕ) (node : Node) (endpoint : Endpoint) → IsNew family node endpoint → IsLawfulRunner family size node endpoint
begun family size node endpoint is = record {
  of = is.opened.of;
  sound = is.sound;
  sends = λ to outlet apart at. (let nothing : offered outlet ≡ [] = is.unsent to outlet at in
      let outbox : outbox_to node to ≡ empty_outbox family endpoint.seat.nodes endpoint.seat.node to = is.opened.outboxes to in record {
        items = planned_none to ∙ ap (λ (o : OutboxView). o.items) (sym outbox) ∙ ap (λ bs. items_of_batches bs ++ (outbox_to node to).items) (sym nothing);
        cut = ap (λ (o : OutboxView). o.next) outbox ∙ ap length (sym nothing);
        small = λ k batch there. absurd (let none : slice_get [] k ≡ Some batch = ap (λ (bs : List BatchView). slice_get bs k) (sym nothing) ∙ there in cc);
      });
  unused = λ outlet at. is.unsent endpoint.seat.node outlet at;
  own = subst (λ own. AreLast (planned node node.id) own) (sym is.opened.nothing.1) (subst (λ w. AreLast w []) (sym (planned_none node.id)) refl);
  knows = knows_at_start (applied_from node endpoint.inlet) none_applied;
  white = λ colour. absurd (true≢false (sym is.black ∙ colour));
}
  where
    planned_none : (to : ℕ) → planned node to ≡ []
    planned_none to = ap (λ e. items_from (predecessors node.family) node.n to (take e node.history.settlements)) is.opened.nothing.0

    none_applied : (k : ℕ) → applied_from node endpoint.inlet k ≡ []
    none_applied k = (let own : own_applied node ≡ [] = ap (λ (xs : List Item). take (length xs - length node.own) xs) (planned_none node.id)
        ∙ ap (λ (xs : List Item). take (0 - length xs) []) is.opened.nothing.1 in
        elim (cases_eq k node.id) [
          | inl here ↦ applied_here node endpoint.inlet k here ∙ own
          | inr other ↦ applied_else node endpoint.inlet k other ∙ ap (λ (bs : List BatchView). items_of_batches (batches_of k bs)) is.untaken
        ])

    knows_at_start : (applied : ℕ → List Item) → ((k : ℕ) → applied k ≡ []) → KnowsRight node.family node.n node.id node.share node.history.settlements applied
    knows_at_start applied none =
        subst (λ (p : Family × ℕ × ℕ). KnowsRight p.0 p.1 p.2 node.share node.history.settlements applied)
        (λ q. (sym is.opened.of.0 q, sym is.opened.of.2 q, sym is.opened.of.1 q))
        (knows_opened family endpoint.seat.nodes endpoint.seat.node is.openings node is.are_openings is.opened is.sound applied none)
