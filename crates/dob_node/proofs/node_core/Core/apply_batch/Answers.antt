-- What is taken is kept.
use Rattle.dob_node.proofs.Common.{◌∙◌, ◌≡◌, List, ap, err_from_is_err_and, going, kept_own, length, length-map, rules, sym, ℕ}
use Rattle.dob_history.proofs.TakenLists.{kept_with_room, stops_first}
use Rattle.dob_node.proofs.TakenLists.{applies_err, applies_ok, none_before, still_sound}
use Rattle.dob_share.specs.Items.{items_of_parts, target_of}
use Rattle.dob_node.proofs.node_core.Core.apply_batch.Goals as goal
use Rattle.dob_node.proofs.node_core.Core.apply_batch.Goals.{After-classes}

-- the items of the parts and classes are the batch's
same_items : (c : After-classes) → items_of_parts c.parts.result.now c.classes.result.now ≡ c.args.batch.now.items
same_items c = ap (λ (xs : List ℕ). items_of_parts c.parts.result.now xs) c.classes.ensures ∙ c.parts.ensures.items

many : (c : After-classes) → length c.classes.result.now ≡ length c.args.batch.now.items
many c = ap length c.classes.ensures ∙ length-map c.args.batch.now.items target_of

pub take_parts-requires-clause-listed : goal.take_parts-requires-clause-listed
take_parts-requires-clause-listed c = c.parts.ensures.total ∙ sym (many (goal.at.take_parts-requires-clause-listed c).After-classes)

pub returns-in_err-reserve-clause-step : goal.returns-in_err-reserve-clause-step
returns-in_err-reserve-clause-step c =
    let given = err_from_is_err_and c.from_residual.result c.from_residual.ensures.1 in
    rw (given.1, given.2) (record {
      taken = tt;
      all = tt;
      stopped = stops_first c.args.batch.now.items c.args.self.now.share c.args.self.now.history c.len.ensures.batch.some;
      before = none_before {node = going c.args.self.now} c.args.batch.now.items c.len.ensures.batch.some c.reserve.ensures.same;
      memory = search rules;
    })

pub take_parts-requires-clause-kept : goal.take_parts-requires-clause-kept
take_parts-requires-clause-kept c =
    let node = c.args.self.now in
    let kept = kept_with_room node.family node.nodes node.id node.share node.history c.reserve.new.self c.reserve.ensures.same c.requires.kept in
    (node.family, kept_own kept)

pub returns-in_err-take_parts-clause-step : goal.returns-in_err-take_parts-clause-step
returns-in_err-take_parts-clause-step c =
    let given = err_from_is_err_and c.from_residual-in_err-take_parts.result c.from_residual-in_err-take_parts.ensures.1 in
    let at = (goal.at.returns-in_err-take_parts-clause-step c).After-classes in
    let out = rw (same_items at, many at) at c.in_err-take_parts.ensures in
    rw (given.1, given.2) (applies_err {node = going c.args.self.now} c.reserve.ensures.same c.args.batch.now.items c.take_parts.new.taken _ out.stopped
    out.before (λ memory. let few = c.take_parts.ensures.memory in let room = c.in_ok-reserve.ensures in search rules))

pub returns-in_err-take_parts-clause-sound : goal.returns-in_err-take_parts-clause-sound
returns-in_err-take_parts-clause-sound c =
    let before = c.in_err-take_parts.ensures.before in
    still_sound {node = going c.args.self.now} c.reserve.ensures.same before.front c.requires before.taken c.take_parts.ensures.kept

pub returns-clause-step : goal.returns-clause-step
returns-clause-step c =
    let at = (goal.at.returns-clause-step c).After-classes in
    let out = rw (same_items at, many at) at c.in_ok-take_parts.ensures in
    applies_ok {node = going c.args.self.now} c.reserve.ensures.same c.args.batch.now.items c.take_parts.new.taken out.taken out.all

pub returns-clause-sound : goal.returns-clause-sound
returns-clause-sound c =
    let out = c.in_ok-take_parts.ensures in
    still_sound {node = going c.args.self.now} c.reserve.ensures.same (items_of_parts c.parts.result.now c.classes.result.now) c.requires out.taken out.kept
