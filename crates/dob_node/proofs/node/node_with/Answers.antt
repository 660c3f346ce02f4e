-- What is opened is sound.
use Rattle.dob_node.proofs.Common.{◌∙◌, ◌≡◌, HistoryView, List, OutboxState, OutboxView, Settlement, ap, ap₂, arith, items_of_parts, length-map, refl, sends_of}
use Rattle.dob_node.proofs.Common.{subst}
use Rattle.dob_node.proofs.Opens.{places_are, share_opened, opened_cells, opened_kept}
use Rattle.dob_node.proofs.Sends.{addressed_empty}
use Rattle.dob_node.proofs.node.node_with.Goals as goal

pub returns-clause-opened : goal.returns-clause-opened
returns-clause-opened c = λ openings are out. record {
  of = (refl, refl, refl);
  history = ap (λ (v : HistoryView). v.settlements) c.in_ok-history.ensures ∙ share_opened out c.requires.owner;
  places = places_are out c.requires.owner;
  statuses = out.statuses;
  cells = opened_cells out c.requires.owner c.args.family are;
  nothing = (refl, ap₂ items_of_parts c.new.ensures.parts c.new.ensures.classes);
  going = refl;
  outboxes = c.in_ok-outboxes.ensures.empty;
}

pub returns-clause-sound : goal.returns-clause-sound
returns-clause-sound c =
    let are = c.requires.share.1 in
    let out = c.requires.share.2 in
    record {
      kept = opened_kept out c.requires.owner c.args.family c.in_ok-history.history are
          (subst (λ (xs : List Settlement). c.in_ok-history.history ≡ record { id = c.args.id; n = c.args.nodes; settlements = xs; room = 0 })
          (share_opened out c.requires.owner) c.in_ok-history.ensures);
      emitted = omega arith;
      receivers = length-map c.in_ok-outboxes.outboxes.items (λ (o : OutboxState). o.sends) ∙ c.in_ok-outboxes.ensures.whole;
      addressed = addressed_empty c.args.family c.args.nodes c.args.id (sends_of c.in_ok-outboxes.outboxes.items) c.in_ok-outboxes.ensures.empty;
      nothing_to_self = ap (λ (o : OutboxView). o.items) (c.in_ok-outboxes.ensures.empty c.args.id);
    }
