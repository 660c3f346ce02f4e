-- The outboxes that are left are sound.
use Rattle.dob_node.proofs.Common.{◌<◌, ◌∙◌, ◌≡◌, ◌≢◌, [], BatchView, IfSome, IsCutFrom, List, None, Option, OutboxState, OutboxView, ap, empty_outbox, get_or}
use Rattle.dob_node.proofs.Common.{get_or-map, going, length, length-map, map-set, outbox_in, refl, rules, sends_of, set, subst, sym, ℕ}
use Rattle.std.proofs.Common.{IsNone}
use Rattle.std.proofs.lemmas.Option.{IfSome_then}
use Rattle.dob_node.proofs.Sends.{outbox_read, cut_read, sound_cut, cut_of}
use Rattle.dob_node.proofs.node_core.Core.cut_for.Goals.{In_ok-batch}
use Rattle.dob_node.proofs.node_core.Core.cut_for.Goals as goal

abbrev sends : OutboxState → OutboxView
sends o = o.sends

-- something is left there
some : (c : In_ok-batch) → c.index_mut-outbox.result.now.sends.items ≢ []
some c empty = let yes = c.is_empty.ensures.empty.1 empty in let no = c.if-is_empty.false in cc

not_none : (c : In_ok-batch) → IsNone c.in_ok-batch.batch → ⊥
not_none c none = some c (c.in_ok-batch.ensures.none.0 none)

-- the outbox is the one there
there : (c : In_ok-batch) → c.index_mut-outbox.result.now.sends ≡ get_or (sends_of c.args.self.now.outboxes.items) c.args.to c.index_mut-outbox.result.now.sends
there c =
    let outboxes = c.args.self.now.outboxes in
    let read = c.index_mut-outbox.result.now in
    let many = length-map outboxes.items sends in
    let low : c.args.to < length (sends_of outboxes.items) = rw c.requires.sound.receivers c.requires.to in
    ap sends c.index_mut-outbox.ensures.value ∙ sym (get_or-map sends outboxes.items c.args.to read read.sends (subst (λ (n : ℕ). c.args.to < n) many low))

-- what is cut of it
cut_there : (c : In_ok-batch) → IfSome c.in_ok-batch.batch (λ batch. IsCutFrom c.args.to c.args.size batch (sends_of c.args.self.now.outboxes.items)
    (sends_of (set c.args.self.now.outboxes.items c.args.to c.cut.new.self)))
cut_there c =
    subst (λ (xs : List OutboxView). IfSome c.in_ok-batch.batch (λ batch. IsCutFrom c.args.to c.args.size batch (sends_of c.args.self.now.outboxes.items) xs))
    (sym (map-set sends c.args.self.now.outboxes.items c.args.to c.cut.new.self))
    (cut_read c.args.to c.args.size c.in_ok-batch.batch (sends_of c.args.self.now.outboxes.items) c.index_mut-outbox.result.now.sends c.cut.new.self.sends
    (rw c.requires.sound.receivers c.requires.to) (there c) c.in_ok-batch.ensures.batch)

pub returns-clause-sound : goal.returns-clause-sound
returns-clause-sound c =
    let at = (goal.at.returns-clause-sound c).In_ok-batch in
    sound_cut (going c.args.self.now) c.args.to c.args.size c.in_ok-batch.batch _ c.requires.sound (cut_there at) (not_none at)

pub returns-clause-step : goal.returns-clause-step
returns-clause-step c =
    let at = (goal.at.returns-clause-step c).In_ok-batch in
    let node = c.args.self.now in
    let to = c.args.to in
    let read = c.index_mut-outbox.result.now.sends in
    let given = c.in_ok-batch.batch in
    let outbox = outbox_in node.family node.nodes node.id (sends_of node.outboxes.items) to in
    let is : outbox ≡ read = outbox_read node.family node.nodes node.id to (sends_of node.outboxes.items) read (rw c.requires.sound.receivers c.requires.to)
    (there at) in
    let whom = c.requires.sound.addressed to in
    record {
      none = (
        λ same. let none : given ≡ None = cc in absurd (not_none at (subst (λ (g : Option BatchView). IsNone g) (sym none) refl)),
        λ empty. absurd (some at (rw is at empty)),
      );
      nothing = λ same. let none : given ≡ None = cc in absurd (not_none at (subst (λ (g : Option BatchView). IsNone g) (sym none) refl));
      cut = IfSome_then given (cut_there at) (λ batch from. let cut = from.cut (empty_outbox node.family node.nodes node.id to) in record {
        of = cut_of cut whom;
        cut = cut;
        others = λ other apart. from.others other (empty_outbox node.family node.nodes node.id other) apart;
        same = (refl, refl, refl, refl);
        kept = (refl, refl, refl);
      });
      counts = (
        λ other. absurd (cc),
        λ both. let high = both.1 in let next = ap (λ (o : OutboxView). o.next) is in let count = c.cut_count.ensures in search rules,
      );
      why = search rules;
      unchanged = search rules;
    }
