-- The runner is lawful whether no batch came or one was applied; a refused one blackened its seat before any end, and one for which
-- there is no memory lies in the slot.
use Rattle.dob_runner.proofs.Common.{◌++◌, ◌∙◌, ◌≡◌, ◌≢◌, Err, None, ap, arith, inl, inr, refl, subst, sym, Memory, IsSound, IsUnchanged, Node, IsSameSeat}
use Rattle.dob_runner.proofs.Common.{TakesOne, NodeSeat, SeatState, KeepsEndpoint, IsLawfulRunner, HoldsFor, KeepsInlet, KeepsOutlet, worked, no_gate, Endpoint}
use Rattle.dob_runner.proofs.Common.{Runner, Inlet}
use Rattle.dob_endpoint.proofs.Links.{taken_still}
use Rattle.dob_runner.proofs.Taking.{takes_none, takes_one, of_other, fits_node, unchanged_same}
use Rattle.dob_runner.proofs.Keeping.{broken_by, goes_by, failed_first, refused_reason, node_goes, agrees_going, noted_agrees, some_cause, unspared_reason, memory_reason}
use Rattle.dob_endpoint.proofs.Keeping.{endpoint_trans, links_kept, own_still, seat_same, each_same, outlet_same}
use Rattle.dob_node.proofs.TakenLists.{before_since}
use Rattle.dob_runner.proofs.Knowing.{worked_again, worked_else, worked_more}
use Rattle.dob_runner.proofs.Lawfuls.{recoloured, same_inlet, applied_batch, unchanged_node}
use Rattle.dob_runner.proofs.runner.Runner.take_one.Goals as goal
use Rattle.dob_runner.proofs.runner.Runner.take_one.Goals.{After-accept, In-Err-apply_batch}

-- what came into the slot isn't worked yet: the runner stays lawful, and nothing is taken back
still_lawful : (r : Runner) (node : Node) (new : Endpoint) → r.failed ≡ None → IsUnchanged r.node node → IsSound node → new.seat.node ≡ r.endpoint.seat.node →
    new.seat.nodes ≡ r.endpoint.seat.nodes → new.outlets ≡ r.endpoint.outlets → worked new.inlet ≡ worked r.endpoint.inlet → new.seat.stand.black ≡ r.endpoint.seat.stand.black →
    IsLawfulRunner r.family r.batch_size node new
still_lawful r node new going same sound same_node same_nodes outlets again colour =
    let law = unchanged_node r.family r.batch_size r.node node r.endpoint (r.lawful (inl going)) same sound in
    recoloured r.family r.batch_size node r.endpoint new law same_node same_nodes (ap (λ v. v.items) outlets) (worked_again r.endpoint.inlet new.inlet again)
    (λ is. law.white (sym colour ∙ is))

kept_by : (old mid : Endpoint) → mid.seat ≡ old.seat → mid.outlets ≡ old.outlets → KeepsInlet old.inlet mid.inlet → KeepsEndpoint old mid
kept_by old mid seat outlets inlet = record {
  seat = subst (λ (s : NodeSeat). IsSameSeat old.seat s) (sym seat) (seat_same old.seat);
  outlets = each_same KeepsOutlet outlet_same old.outlets.items mid.outlets.items (ap (λ v. v.items) outlets);
  inlet = inlet;
}

-- nor where a batch was accepted, or wasn't
accepted : (g : _) (c : After-accept g) → KeepsEndpoint c.args.self.now.endpoint c.accept.new.self
accepted g c = endpoint_trans c.args.self.now.endpoint _ c.accept.new.self (kept_by c.args.self.now.endpoint _ refl refl c.receive.ensures.keeps)
    c.accept.ensures.keeps

pub reserve-requires-clause-going : goal.reserve-requires-clause-going
reserve-requires-clause-going g c = (let r = c.args.self.now in node_goes r.node.failed r.failed r.agrees c.requires)

pub accept-requires-clause-held : goal.accept-requires-clause-held
accept-requires-clause-held g c = (let tested = c.in-Some.ensures in (tested.batch, tested.held, tested.sender))

pub invariant_of-endpoint-clause-taken : goal.invariant_of-endpoint-clause-taken
invariant_of-endpoint-clause-taken g c = (let endpoint = c.args.self.now.endpoint in
    taken_still endpoint.seat.nodes endpoint.seat.stand.taken endpoint.inlet c.receive.new.self endpoint.taken c.receive.ensures.worked)

pub invariant_of-self-clause-lawful : goal.invariant_of-self-clause-lawful
invariant_of-self-clause-lawful g c = λ _. (let r = c.args.self.now in
    still_lawful r r.node _ c.requires (unchanged_same r.node) (r.lawful (inl c.requires)).sound refl refl refl c.receive.ensures.worked refl)

pub invariant_of-self-in-Err : goal.invariant_of-self-in-Err
invariant_of-self-in-Err g c =
    let fails = c.fail_for.ensures.fails in
    let links = fails.keeps.links in
    record {
      going = λ running. absurd (fails.stopped running);
      own = λ found. some_cause c.fail_for.new.failed c.in-Err.refused fails.cause;
      agrees = noted_agrees _ _ c.in-Err.refused c.in-Err.ensures.keeps.failed fails.cause;
      lawful = λ _. still_lawful c.args.self.now c.reserve.new.self c.fail_for.new.endpoint c.requires c.reserve.ensures.step.unchanged
          c.reserve.ensures.keeps.sound links.seat.node links.seat.nodes links.outlets (ap (λ (i : Inlet). worked i) links.inlet ∙ c.receive.ensures.worked) fails.keeps.colour;
    }

pub invariant_of-self-in_default-accept : goal.invariant_of-self-in_default-accept
invariant_of-self-in_default-accept g c =
    let r = c.args.self.now in
    let n = c.reserve.new.self in
    record {
      going = λ _. c.requires;
      own = λ found. r.own (own_still r.endpoint.seat c.accept.new.self.seat c.accept.ensures.halt c.accept.ensures.keeps.seat.node found);
      agrees = agrees_going n.failed _ c.in-Ok.ensures.keeps.going;
      lawful = λ _. still_lawful r n c.accept.new.self c.requires c.reserve.ensures.step.unchanged c.reserve.ensures.keeps.sound c.accept.ensures.keeps.seat.node
          c.accept.ensures.keeps.seat.nodes c.accept.ensures.outlets (ap (λ (i : Inlet). worked i) c.in_default-accept.ensures.kept ∙ c.receive.ensures.worked)
          c.in_default-accept.ensures.uncounted.1;
    }

-- the node had made room for the items of the batch, so it wasn't memory that lacked
not_memory : (g : _) (c : In-Err-apply_batch g) → c.in-Err-apply_batch.why ≢ Memory
not_memory g c memory =
    let room = c.in-Ok.ensures.step.room in
    let less = (c.in-Err-apply_batch.ensures.step.memory (ap Err memory)).1 in
    let many = c.held_items.ensures c.in-Some-accept.batch c.in-Some-accept.ensures.held in
    omega (arith, room, less, many)

pub invariant_of-self-in-Err-apply_batch : goal.invariant_of-self-in-Err-apply_batch
invariant_of-self-in-Err-apply_batch g c =
    let taken : TakesOne c.args.self.now.endpoint.seat c.accept.new.self.seat c.in-Some-accept.batch.from = c.in-Some-accept.ensures.taken in
    let why = c.in-Err-apply_batch.why in
    let before = c.in-Err-apply_batch.ensures.step.before in
    let fails = c.fail_for-in-Err-apply_batch.ensures.fails in
    record {
      going = λ running. absurd (fails.stopped running);
      own = λ found. some_cause c.fail_for-in-Err-apply_batch.new.failed why fails.cause;
      agrees = noted_agrees _ _ why c.in-Err-apply_batch.ensures.keeps.failed fails.cause;
      lawful = failed_first _ why c.fail_for-in-Err-apply_batch.new.endpoint.seat.stand.halt fails.cause
          (fails.black (ap (λ (s : SeatState). s.black) taken.counted))
          (unspared_reason before.item c.apply_batch.new.self.share why before.reason
          (not_memory g (goal.at.invariant_of-self-in-Err-apply_batch g c).In-Err-apply_batch));
    }

pub invariant_of-self-in-Ok-apply_batch : goal.invariant_of-self-in-Ok-apply_batch
invariant_of-self-in-Ok-apply_batch g c =
    let r = c.args.self.now in
    let n = c.reserve.new.self in
    let inlet = c.receive.new.self in
    let batch = c.in-Some-accept.batch in
    let taken : TakesOne r.endpoint.seat c.accept.new.self.seat batch.from = c.in-Some-accept.ensures.taken in
    let more = c.in-Some-accept.ensures.worked.1 in
    record {
      going = λ _. c.requires;
      own = λ found. r.own (own_still r.endpoint.seat c.accept.new.self.seat c.accept.ensures.halt c.accept.ensures.keeps.seat.node found);
      agrees = agrees_going c.apply_batch.new.self.failed _ c.in-Ok-apply_batch.ensures.keeps.going;
      lawful = λ _. applied_batch r.family r.batch_size batch.from batch n c.apply_batch.new.self r.endpoint c.accept.new.self
          (unchanged_node r.family r.batch_size r.node n r.endpoint (r.lawful (inl c.requires)) c.reserve.ensures.step.unchanged c.reserve.ensures.keeps.sound)
          c.in-Some-accept.ensures.within (of_other c.in-Some.ensures c.in-Some-accept.ensures.held)
          c.in-Ok-apply_batch.ensures.step.taken c.in-Ok-apply_batch.ensures.keeps.sound c.accept.ensures.keeps.seat.node c.accept.ensures.keeps.seat.nodes
          (ap (λ (s : SeatState). s.black) taken.counted) (ap (λ v. v.items) c.accept.ensures.outlets)
          (λ k other. worked_else inlet c.accept.new.self.inlet batch more k other ∙ worked_again r.endpoint.inlet inlet c.receive.ensures.worked k)
          (worked_more inlet c.accept.new.self.inlet batch more ∙ ap (λ xs. xs ++ batch.items) (worked_again r.endpoint.inlet inlet c.receive.ensures.worked batch.from));
    }

pub returns-in_default-clause-step : goal.returns-in_default-clause-step
returns-in_default-clause-step g c =
    let r = c.args.self.now in
    takes_none r _ c.receive.new.self (goes_by (kept_by r.endpoint _ refl refl c.receive.ensures.keeps) refl refl refl c.requires refl refl)
    c.receive.ensures.worked c.receive.ensures.asked refl refl (unchanged_same r.node) (inl c.in_default.ensures)

pub returns-in-Err : goal.returns-in-Err
returns-in-Err g c =
    let r = c.args.self.now in
    let fails = c.fail_for.ensures.fails in
    let links = fails.keeps.links in
    rw c.fail_for.ensures.given (record {
      step = broken_by r _ _ c.in-Err.refused (kept_by r.endpoint _ refl refl c.receive.ensures.keeps) refl fails refl refl refl
          (memory_reason no_gate _ c.in-Err.refused c.in-Err.ensures.step.memory);
      refused = λ _. record {
        from = c.in-Some.from;
        holds = subst (λ (i : Inlet). HoldsFor r.family r.endpoint.seat.nodes c.in-Some.from r.endpoint.seat.node i) (sym links.inlet) c.in-Some.ensures;
        uncounted = ap (λ (i : Inlet). worked i) links.inlet ∙ c.receive.ensures.worked;
        outlets = ap (λ v. v.items) links.outlets;
        node = c.reserve.ensures.step.unchanged;
      };
    })

pub returns-in_default-accept-clause-step : goal.returns-in_default-accept-clause-step
returns-in_default-accept-clause-step g c =
    let r = c.args.self.now in
    let kept = c.in_default-accept.ensures.kept in
    let refused = c.in_default-accept.ensures.refused in
    takes_none r _ c.receive.new.self
    (goes_by (accepted g (goal.at.returns-in_default-accept-clause-step g c).After-accept) refl refl refl c.requires c.accept.ensures.halt c.accept.ensures.still)
    c.receive.ensures.worked c.receive.ensures.asked (ap (λ v. v.items) c.accept.ensures.outlets) kept c.reserve.ensures.step.unchanged (inr (
      c.in-Some.from,
      refused.0,
      subst (λ (i : Inlet). HoldsFor r.family r.endpoint.seat.nodes c.in-Some.from r.endpoint.seat.node i) (sym kept) c.in-Some.ensures,
      refused.1,
    ))

pub returns-in-Ok-apply_batch-clause-step : goal.returns-in-Ok-apply_batch-clause-step
returns-in-Ok-apply_batch-clause-step g c =
    takes_one c.args.self.now _ c.receive.new.self
    (goes_by (accepted g (goal.at.returns-in-Ok-apply_batch-clause-step g c).After-accept) refl refl refl c.requires c.accept.ensures.halt c.accept.ensures.still)
    c.receive.ensures.worked c.receive.ensures.asked (ap (λ v. v.items) c.accept.ensures.outlets)
    c.in-Some-accept.batch c.in-Some-accept.ensures.worked.0 c.in-Some-accept.ensures.worked.1

pub returns-clause-step : goal.returns-clause-step
returns-clause-step g c =
    let r = c.args.self.now in
    let inlet = c.receive.new.self in
    let batch = c.in-Some-accept.batch in
    let why = c.in-Err-apply_batch.why in
    let failed = c.fail_for-in-Err-apply_batch.new.endpoint in
    let fails = c.fail_for-in-Err-apply_batch.ensures.fails in
    let links = fails.keeps.links in
    let kept = endpoint_trans r.endpoint c.accept.new.self failed (accepted g (goal.at.returns-clause-step g c).After-accept)
    (links_kept c.accept.new.self failed links) in
    rw c.fail_for-in-Err-apply_batch.ensures.given (broken_by r _ c.accept.new.self why (accepted g (goal.at.returns-clause-step g c).After-accept) c.accept.ensures.still fails refl refl refl
    (refused_reason _ why (record {
      was = r;
      going = c.requires;
      kept = record { endpoint = kept; family = refl; batch_size = refl; pace = refl };
      batch = batch;
      other = of_other c.in-Some.ensures c.in-Some-accept.ensures.held;
      fits = fits_node c.in-Some.ensures c.in-Some-accept.ensures.held;
      came = same_inlet c.accept.new.self failed links.inlet batch.from
          ∙ worked_more inlet c.accept.new.self.inlet batch c.in-Some-accept.ensures.worked.1
          ∙ ap (λ xs. xs ++ batch.items) (worked_again r.endpoint.inlet inlet c.receive.ensures.worked batch.from);
      before = before_since batch.items r.node c.reserve.new.self c.apply_batch.new.self why c.reserve.ensures.step.unchanged c.in-Err-apply_batch.ensures.step.before;
    })))

pub returns-clause-refused : goal.returns-clause-refused
returns-clause-refused g c memory =
    let same : c.in-Err-apply_batch.why ≡ Memory = cc (c.fail_for-in-Err-apply_batch.ensures.given, memory) in
    absurd (not_memory g (goal.at.returns-clause-refused g c).In-Err-apply_batch same)
