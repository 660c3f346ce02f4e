-- What is taken are the first of the own items, and gone.
use Rattle.dob_node.proofs.Common.{◌++◌, ◌∙◌, ◌≡◌, Item, List, ap, ap₂, arith, drop, going, kept_own, length, queued, refl, sym}
use Rattle.dob_share.specs.Items.{items_in_all, items_of_parts}
use Rattle.dob_share.proofs.PartItems.{items_of_parts-length}
use Rattle.dob_history.specs.TakenItems.{TakesFirst}
use Rattle.dob_history.proofs.TakenLists.{front_all, front_stops, front_taken}
use Rattle.dob_node.proofs.TakenLists.{still_sound, fault_of, taken_within}
use Rattle.dob_node.proofs.node_core.Core.apply_every_own.Goals.{After-take_parts-answer}
use Rattle.dob_node.proofs.node_core.Core.apply_every_own.Goals as goal

-- the items that are applied are all
same : (c : After-take_parts-answer) → items_of_parts c.parts.result.now c.classes.result.now ≡ queued c.args.self.now.own
same c = ap₂ items_of_parts c.parts.ensures.value c.classes.ensures

many : (c : After-take_parts-answer) → length c.classes.result.now ≡ length (queued c.args.self.now.own)
many c =
    let total : items_in_all c.parts.result.now ≡ length c.classes.result.now = c.parts.ensures.total ∙ sym (ap length c.classes.ensures) in
    sym total ∙ sym (items_of_parts-length c.parts.result.now c.classes.result.now (omega (arith, total))) ∙ ap length (same c)

pub take_parts-answer-requires-clause-kept : goal.take_parts-answer-requires-clause-kept
take_parts-answer-requires-clause-kept c = (c.args.self.now.family, kept_own c.requires.kept)

takes : (c : After-take_parts-answer) → TakesFirst (queued c.args.self.now.own) (drop c.take_parts-answer.new.taken (queued c.args.self.now.own))
    c.args.self.now.share c.take_parts-answer.new.share c.args.self.now.history c.take_parts-answer.new.history
takes c =
    let out = rw (same c, many c) at c.take_parts-answer.ensures in
    front_taken (queued c.args.self.now.own) c.take_parts-answer.new.taken c.args.self.now.share c.take_parts-answer.new.share c.args.self.now.history
    c.take_parts-answer.new.history c.take_parts-answer.result out.taken out.all out.before

pub drop_front-requires : goal.drop_front-requires
drop_front-requires c =
    let at = (goal.at.drop_front-requires c).After-take_parts-answer in
    let out = rw (same at, many at) at c.take_parts-answer.ensures in
    taken_within c.args.self.now.share c.take_parts-answer.new.share c.args.self.now.history c.take_parts-answer.new.history c.take_parts-answer.result (queued c.args.self.now.own) c.take_parts-answer.new.taken out.all out.before

pub returns-clause-step : goal.returns-clause-step
returns-clause-step c =
    let at = (goal.at.returns-clause-step c).After-take_parts-answer in
    let out = rw (same at, many at) at c.take_parts-answer.ensures in
    let own = queued c.args.self.now.own in
    let taken = c.take_parts-answer.new.taken in
    record {
      items = (takes at).front;
      applied = record {
        first = (takes at).items_are ∙ ap (λ (xs : List Item). (takes at).front ++ xs) (sym c.drop_front.ensures.items);
        taken = (takes at).taken;
        same = (refl, refl, refl, refl);
        outboxes = refl;
      };
      all = rw c.drop_front.ensures.items (front_all own taken c.args.self.now.share c.take_parts-answer.new.share c.args.self.now.history
          c.take_parts-answer.new.history c.take_parts-answer.result out.all);
      stopped = fault_of c.take_parts-answer.result _ (rw c.drop_front.ensures.items (front_stops own taken c.args.self.now.share c.take_parts-answer.new.share
          c.args.self.now.history c.take_parts-answer.new.history c.take_parts-answer.result out.before));
    }

pub returns-clause-sound : goal.returns-clause-sound
returns-clause-sound c =
    let at = (goal.at.returns-clause-sound c).After-take_parts-answer in
    still_sound {node = going c.args.self.now} refl (takes at).front c.requires (takes at).taken c.take_parts-answer.ensures.kept
