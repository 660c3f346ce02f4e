-- What a crew's runners leave after some turns when they are closed, and what went over its links by then.
use Rattle.std.proofs.Common.{Global, List, None, Option, Some, [], ap, arith, inl, length, length-append, map, refl, subst, sym, take, ℕ, ◌*◌, ◌++◌, ◌+◌, ◌-◌, ◌<◌, ◌∙◌, ◌≡◌, ◌≢◌, ◌≤◌}
use Rattle.std.proofs.lemmas.List.{length-map, take-append-drop}
use Rattle.std.proofs.lemmas.Option.{same_Some, slice_get_within}
use Rattle.std.specs.List.{AllZip}
use Rattle.std.specs.Prelude.{slice_get}
use Rattle.std.specs.declared.vec.Vec.{Vec}
use Rattle.dob_pieces.proofs.Elements.{some_at}
use Rattle.dob_pieces.proofs.Zips.{zip_at}
use Rattle.dob_pieces.specs.declared.profile.Family.{Family}
use Rattle.dob_share.specs.declared.news.Item.{Item}
use Rattle.dob_update.specs.Batches.{BatchView, items_of_batches}
use Rattle.dob_share.specs.declared.build_fault.BuildFault.{BuildFault}
use Rattle.dob_share.specs.declared.build_fault.BuildFault.TheVariants.{Stopped}
use Rattle.dob_node.specs.Nodes.{outbox_to}
use Rattle.dob_node.specs.declared.node.Node.{Node}
use Rattle.dob_board.specs.Seats.{AreWords}
use Rattle.dob_board.specs.declared.board.Blackboard.{Blackboard}
use Rattle.dob_board.specs.declared.board.Closed.{Closed}
use Rattle.dob_chan.specs.Ends.{IsRejoined, place_of, sent_by, taken_by, taken_of}
use Rattle.dob_chan.specs.declared.ends.Rejoined.{Rejoined}
use Rattle.dob_runner.proofs.Knowing.{applied_else, applied_here}
use Rattle.dob_endpoint.proofs.Links.{few_of, front, parts}
use Rattle.dob_runner.specs.Knows.{KnowsRight}
use Rattle.dob_runner.specs.LawfulRunners.{AreLast, IsLawfulRunner, SendsRight, applied_from, planned}
use Rattle.dob_endpoint.specs.Links.{offered, worked, worked_from}
use Rattle.dob_runner.specs.Runners.{KeepsRunner}
use Rattle.dob_endpoint.specs.Slots.{held_from, in_slot, worked_of}
use Rattle.dob_runner.specs.TurnLoop.{Ends}
use Rattle.dob_endpoint.specs.declared.endpoint.Endpoint.{Endpoint}
use Rattle.dob_runner.specs.declared.runner.Runner.{Runner}
use Rattle.dob_endpoint.specs.declared.slots.Inlet.{Inlet}
use Rattle.dob_endpoint.specs.declared.slots.Outlet.{Outlet}
use Rattle.dob_runner.specs.declared.turn_loop.Until.{Until}
use Rattle.dob_crew.proofs.CrewRunners.{are_linked, crew_low, crew_many, outlet_at, rejoined_at, seat_at, seat_there}
use Rattle.dob_run.proofs.CrewEnds.{fault_by, still_crew, stops_so}
use Rattle.dob_endpoint.proofs.Places.{map_got, get_map}
use Rattle.dob_inboxes.proofs.Rowed.{at_row}
use Rattle.dob_crew.specs.CrewClose.{AreClosed, AreLinked, IsCrew, row_of, seat_in, slots_in, slots_out}
use Rattle.dob_crew.specs.CrewRunners.{AreRunnersFor, endpoint_of, node_of}
use Rattle.dob_run.specs.CrewStops.{AreUnfailed, IsFirstFailed, StopsSo}
use Rattle.dob_run.specs.CrewTurns.{HasRun}
use Rattle.dob_run.specs.Faults.{HasBuildFault}
use Rattle.dob_inboxes.specs.InboxClose.{outlet_slot}
use Rattle.dob_crew.specs.declared.crew_close.ClosedCrew.{ClosedCrew}
use Rattle.dob_turns.specs.BoundedRun.{AreWorkers, CarriesFew, HasLeft, IsLink, IsTurned, IsWorker}
use Rattle.dob_turns.specs.declared.bounded_run.Turned.{Turned}
use Rattle.dob_turns.specs.declared.bounded_run.Worker.{Worker}
use Rattle.rayon.proofs.ListFacts.{AllZip-weaken}
use Rattle.dob_runner.specs.declared.turn_loop.Until.TheVariants as until

-- ---- what a crew's runners leave when they are closed, put together from their parts
pub left_by : (n : ℕ) (runners : List Runner) (nodes : List Node) (endpoints : List Endpoint) (ended : ClosedCrew) (turned : Turned) → nodes ≡ map node_of runners →
    endpoints ≡ map endpoint_of runners → AreClosed n endpoints ended → AreWorkers (length nodes) nodes (map row_of ended.sending.items) (map row_of ended.taking.items) turned.workers.items →
    turned.closed ≡ ended.closed → turned.links ≡ ended.links → HasLeft n runners turned
left_by n runners nodes endpoints ended turned nodes_is endpoints_is ended_is workers closed links = record {
  count = workers.count ∙ ap length nodes_is ∙ length-map runners node_of;
  workers = λ k worker at.
      let got = workers.each k worker at in
      let runner = map_got node_of runners k worker.node (ap (λ (l : List Node). slice_get l k) (sym nodes_is) ∙ got.0) in
      let endpoint_at : slice_get endpoints k ≡ Some runner.0.endpoint = ap (λ (l : List Endpoint). slice_get l k) endpoints_is ∙ get_map endpoint_of runners k runner.0 runner.1 in
      let out : slice_get (map row_of ended.sending.items) k ≡ Some (slots_out runner.0.endpoint) =
      ap (λ (l : List (List (Option BatchView))). slice_get l k) ended_is.sending ∙ get_map slots_out endpoints k runner.0.endpoint endpoint_at in
      let into : slice_get (map row_of ended.taking.items) k ≡ Some (slots_in runner.0.endpoint) =
      ap (λ (l : List (List (Option BatchView))). slice_get l k) ended_is.taking ∙ get_map slots_in endpoints k runner.0.endpoint endpoint_at in (
        runner.0,
        runner.1,
        sym runner.2,
        same_Some worker.sending.items (slots_out runner.0.endpoint) (sym got.1 ∙ out),
        same_Some worker.taking.items (slots_in runner.0.endpoint) (sym got.2 ∙ into),
      );
  words = subst (λ (p : List Endpoint × Closed). AreWords n (map seat_in p.0) p.1.words.items) (λ q. (endpoints_is q, (sym closed) q)) ended_is.words;
  links_count = ap (λ (v : Vec Rejoined Global). length v.items) links ∙ ended_is.count;
  links = λ i j outlet inlet linked.
      let found = ended_is.links i j outlet inlet (subst (λ (l : List Endpoint). AreLinked l i j outlet inlet) (sym endpoints_is) linked) in
      (found.0, ap (λ (v : Vec Rejoined Global). slice_get v.items (i * n + j)) links ∙ found.1, found.2);
}

-- as many rows as nodes
pub rows_long : {X Z : Type 0} (f : Endpoint → List X) (rows : List (Vec X Z)) (endpoints : List Endpoint) (nodes : List Node) (runners : List Runner) → map row_of rows ≡ map f endpoints →
    endpoints ≡ map endpoint_of runners → nodes ≡ map node_of runners → length rows ≡ length nodes
rows_long f rows endpoints nodes runners same endpoints_is nodes_is =
    omega (arith, length-map rows row_of, ap length same, length-map endpoints f, ap length endpoints_is, length-map runners endpoint_of, length-map runners node_of, ap length nodes_is)

-- the runners are still for that family and that size
pub for_kept : (family : Family) (size : ℕ) (old new : List Runner) → AreRunnersFor family size old → AllZip KeepsRunner old new → AreUnfailed new → AreRunnersFor family size new
for_kept family size old new are kept unfailed k runner at =
    let was = zip_at KeepsRunner old new k runner kept at in
    let is = are k was.0 was.1 in
    record { family_is = was.2.family ∙ is.family_is; size_is = was.2.batch_size ∙ is.size_is; unfailed = unfailed k runner at }

-- what isn't left, and what is
own_split : (whole own : List Item) → AreLast whole own → take (length whole - length own) whole ++ own ≡ whole
own_split whole own last =
    ap (λ (items : List Item). take (length whole - length own) whole ++ items) (sym last) ∙ take-append-drop (length whole - length own) whole

-- the items of a node that a runner has applied
abbrev applied_by : Option Runner → ℕ → List Item
applied_by None from = []
applied_by (Some runner) from = applied_from runner.node runner.endpoint.inlet from

module _ (board : Blackboard) (family : Family) (size : ℕ) (runners : List Runner) (turned : Turned) (crew : IsCrew board (map endpoint_of runners)) (left : HasLeft board.nodes runners turned)
    (are : AreRunnersFor family size runners) where
  lawful_at : (k : ℕ) (runner : Runner) → slice_get runners k ≡ Some runner → IsLawfulRunner family size runner.node runner.endpoint
  lawful_at k runner at =
      let is = are k runner at in
      subst (λ (p : Family × ℕ). IsLawfulRunner p.0 p.1 runner.node runner.endpoint) (λ q. (is.family_is q, is.size_is q)) (runner.lawful (inl is.unfailed))

  sends_at : (i j : ℕ) (from : Runner) (outlet : Outlet) → slice_get runners i ≡ Some from → slice_get from.endpoint.outlets.items j ≡ Some outlet → i ≢ j →
      SendsRight from.node size j (offered outlet)
  sends_at i j from outlet at out apart =
      (lawful_at i from at).sends j outlet (λ same. apart (sym (same ∙ (seat_at board runners crew i from at).node))) out

  worker_is : (i : ℕ) (worker : Worker) (runner : Runner) → slice_get runners i ≡ Some runner → worker.node ≡ runner.node →
      IsWorker family board.nodes i (λ from. applied_by (slice_get runners i) from) worker
  worker_is i worker runner at node_is =
      let law = lawful_at i runner at in
      let id : runner.node.id ≡ i = law.of.1 ∙ (seat_at board runners crew i runner at).node in
      let many_nodes : runner.node.n ≡ board.nodes = law.of.2 ∙ (seat_at board runners crew i runner at).nodes in
      let own : planned runner.node i ≡ applied_by (Some runner) i ++ runner.node.own =
      ap (λ (k : ℕ). planned runner.node k) (sym id) ∙ sym (own_split (planned runner.node runner.node.id) runner.node.own law.own)
      ∙ ap (λ (items : List Item). items ++ runner.node.own) (sym (applied_here runner.node runner.endpoint.inlet i (sym id))) in
      let knows : KnowsRight family board.nodes i runner.node.share runner.node.history.settlements (λ from. applied_by (Some runner) from) =
      subst (λ (p : Family × ℕ × ℕ). KnowsRight p.0 p.1 p.2 runner.node.share runner.node.history.settlements (λ from. applied_by (Some runner) from))
      (λ q. (law.of.0 q, many_nodes q, id q)) law.knows in
      let here : IsWorker family board.nodes i (λ from. applied_by (Some runner) from) worker = record {
        of = (ap (λ (n : Node). n.family) node_is ∙ law.of.0, ap (λ (n : Node). n.id) node_is ∙ id, ap (λ (n : Node). n.n) node_is ∙ many_nodes);
        own = subst (λ (node : Node). planned node i ≡ applied_by (Some runner) i ++ node.own) (sym node_is) own;
        knows = subst (λ (node : Node). KnowsRight family board.nodes i node.share node.history.settlements (λ from. applied_by (Some runner) from)) (sym node_is) knows;
      } in
      subst (λ (o : Option Runner). IsWorker family board.nodes i (λ from. applied_by o from) worker) (sym at) here

  applied_of : (i j : ℕ) (to : Runner) → slice_get runners j ≡ Some to → i ≢ j →
      applied_by (slice_get runners j) i ≡ items_of_batches (worked_from to.endpoint.inlet i)
  applied_of i j to at apart =
      ap (λ (o : Option Runner). applied_by o i) at
      ∙ applied_else to.node to.endpoint.inlet i (λ same. apart (same ∙ (lawful_at j to at).of.1 ∙ (seat_at board runners crew j to at).node))

  link_is : (i j : ℕ) (sender taker : Worker) (from to : Runner) (outlet : Outlet) (link : Rejoined) → slice_get runners i ≡ Some from →
      slice_get runners j ≡ Some to → sender.node ≡ from.node → sender.sending.items ≡ slots_out from.endpoint → taker.taking.items ≡ slots_in to.endpoint →
      slice_get from.endpoint.outlets.items j ≡ Some outlet → IsRejoined outlet.end (taken_by to.endpoint.inlet.end) link →
      IsLink board.nodes size turned.closed.words.items i j sender taker (applied_by (slice_get runners j) i) link
  link_is i j sender taker from to outlet link at_i at_j node_is out_is into_is out rejoined =
      let low_i = crew_low board runners crew i from at_i in
      let low_j = crew_low board runners crew j to at_j in
      let low : i < to.endpoint.seat.nodes = subst (λ (m : ℕ). i < m) (sym (seat_at board runners crew j to at_j).nodes) low_i in
      let inlet : Inlet = to.endpoint.inlet in
      let place = (crew.paired i j outlet inlet (are_linked runners i j from to outlet inlet at_i at_j out refl)).1 in
      let joined = rejoined_at i outlet.end (taken_by inlet.end) link place rejoined in
      record {
        sent = sent_by outlet.end;
        received = taken_of inlet.end i;
        sending = outlet.slot;
        taking = held_from inlet.slot i;
        sending_is = ap (λ (l : List (Option BatchView)). slice_get l j) out_is ∙ get_map outlet_slot from.endpoint.outlets.items j outlet out;
        taking_is = ap (λ (l : List (Option BatchView)). slice_get l i) into_is ∙ at_row to.endpoint.seat.nodes i inlet.slot low;
        sent_count = joined.0;
        received_count = joined.1;
        lawful = joined.2;
        posted = omega (
          arith,
          left.words.posted i j from.endpoint.seat (seat_there runners i from at_i) low_j,
          from.endpoint.posted j outlet out,
          length-append (sent_by outlet.end) (in_slot outlet.slot),
          joined.0,
        );
        taken = omega (
          arith,
          left.words.taken j i to.endpoint.seat (seat_there runners j to at_j) low_i,
          to.endpoint.taken i low,
          ap length (parts inlet i),
          length-append (worked_from inlet i) (in_slot (held_from inlet.slot i)),
          joined.1,
        );
        planned_is = λ apart. subst (λ (node : Node). planned node j ≡ items_of_batches (sent_by outlet.end ++ in_slot outlet.slot) ++ (outbox_to node j).items) (sym node_is)
            (sends_at i j from outlet at_i out apart).items;
        small = λ apart k batch at. (sends_at i j from outlet at_i out apart).small k batch at;
        applied_is = λ apart. applied_of i j to at_j apart ∙ ap (λ (bs : List BatchView). items_of_batches bs) (sym (front inlet i));
      }

  pub turned_is : IsTurned family board.nodes size turned
  turned_is = record {
    count = left.count ∙ crew_many board runners crew;
    words = left.words.count;
    links_count = left.links_count;
    applied = λ i j. applied_by (slice_get runners j) i;
    nodes = λ i worker at. let got = left.workers i worker at in worker_is i worker got.0 got.1 got.2;
    links = λ i j sender taker at_i at_j.
        let from = left.workers i sender at_i in
        let to = left.workers j taker at_j in
        let outlet = outlet_at board runners crew i j from.0 from.1 (crew_low board runners crew j to.0 to.1) in
        let link = left.links i j outlet.0 to.0.endpoint.inlet (are_linked runners i j from.0 to.0 outlet.0 to.0.endpoint.inlet from.1 to.1 outlet.1 refl) in
        (link.0, link.1, link_is i j sender taker from.0 to.0 outlet.0 link.0 from.1 to.1 from.2 from.3 to.4 outlet.1 link.2);
  }

-- ---- a crew that was run for some turns

module _ {No : ℕ → Type 0} {until : Until} {family : Family} {n size capacity : ℕ} {board : Blackboard} {ended : List Runner}
    (ran : HasRun No until family n size capacity board ended) where
  kept : AllZip KeepsRunner ran.old ended
  kept = AllZip-weaken (Ends No until) KeepsRunner (λ old new ends. ends.0) ran.old ended ran.ends

  pub first_fault : (fault : BuildFault) → IsFirstFailed ended fault → HasBuildFault n size capacity fault
  first_fault (Stopped node why) first = fault_by ran node why first.0 first.1
  first_fault _ first = absurd first

  pub first_stops : (fault : BuildFault) → IsFirstFailed ended fault → StopsSo IsFirstFailed No until family n size capacity fault
  first_stops fault first = stops_so IsFirstFailed No until family n size capacity board ended fault ran first

  pub has_turned : (turned : Turned) → AreUnfailed ended → HasLeft board.nodes ended turned → IsTurned family n size turned
  has_turned turned unfailed left =
      subst (λ (k : ℕ). IsTurned family k size turned) ran.opened.nodes
      (turned_is board family size ended turned (still_crew ran) left (for_kept family size ran.old ended ran.opened.each kept unfailed))

-- ---- what went over its links by then

module _ {No : ℕ → Type 0} {turns : ℕ} {family : Family} {n size capacity : ℕ} {board : Blackboard} {ended : List Runner}
    (ran : HasRun No (until.Turns turns) family n size capacity board ended) (unfailed : AreUnfailed ended) where
  few_offered : (i j : ℕ) (runner : Runner) (outlet : Outlet) → slice_get ended i ≡ Some runner → slice_get runner.endpoint.outlets.items j ≡ Some outlet →
      length (offered outlet) ≤ turns
  few_offered i j runner outlet at out =
      let was = zip_at (Ends No (until.Turns turns)) ran.old ended i runner ran.ends at in
      let few = was.2.1 (unfailed i runner at) in
      let old = some_at was.0.endpoint.outlets.items j (omega (
        arith,
        slice_get_within runner.endpoint.outlets.items j outlet out,
        runner.endpoint.outlets_len,
        was.0.endpoint.outlets_len,
        was.2.0.endpoint.seat.nodes,
      )) in
      let none = (ran.opened.new i was.0 was.1).1.unsent j old.0 old.1 in
      omega (arith, few.out j old.0 outlet old.1 out, ap length none.0)

  few_taken : (j : ℕ) (runner : Runner) → slice_get ended j ≡ Some runner → length (taken_by runner.endpoint.inlet.end) ≤ turns
  few_taken j runner at =
      let was = zip_at (Ends No (until.Turns turns)) ran.old ended j runner ran.ends at in
      let few = was.2.1 (unfailed j runner at) in
      let old : Inlet = was.0.endpoint.inlet in
      let none = (ran.opened.new j was.0 was.1).1.untaken in
      omega (
        arith,
        few.into,
        ap length old.last,
        length-append (worked_of old.end old.slot) (in_slot old.slot),
        ap length none.0,
        ap (λ (h : Option BatchView). length (in_slot h)) none.1,
      )

  carried : (turned : Turned) → HasLeft board.nodes ended turned → CarriesFew board.nodes turns turned
  carried turned left =
      let crew = still_crew ran in
      let there : (k : ℕ) → k < board.nodes → (runner : Runner) × (slice_get ended k ≡ Some runner) =
      λ k low. some_at ended k (omega (arith, crew_many board ended crew, low)) in
      record {
        counts = λ i j low_i low_j.
            let from = there i low_i in
            let to = there j low_j in
            let outlet = outlet_at board ended crew i j from.0 from.1 low_j in
            let inlet : Inlet = to.0.endpoint.inlet in (
              omega (
                arith,
                left.words.posted i j from.0.endpoint.seat (seat_there ended i from.0 from.1) low_j,
                from.0.endpoint.posted j outlet.0 outlet.1,
                few_offered i j from.0 outlet.0 from.1 outlet.1,
              ),
              omega (
                arith,
                left.words.taken j i to.0.endpoint.seat (seat_there ended j to.0 to.1) low_i,
                to.0.endpoint.taken i (subst (λ (m : ℕ). i < m) (sym (seat_at board ended crew j to.0 to.1).nodes) low_i),
                few_of i (worked inlet),
                few_taken j to.0 to.1,
                ap length inlet.last,
                length-append (worked_of inlet.end inlet.slot) (in_slot inlet.slot),
              ),
            );
        links = λ i j low_i low_j.
            let from = there i low_i in
            let to = there j low_j in
            let outlet = outlet_at board ended crew i j from.0 from.1 low_j in
            let inlet : Inlet = to.0.endpoint.inlet in
            let link = left.links i j outlet.0 inlet (are_linked ended i j from.0 to.0 outlet.0 inlet from.1 to.1 outlet.1 refl) in (
              link.0,
              link.1,
              omega (
                arith,
                link.2.0,
                few_offered i j from.0 outlet.0 from.1 outlet.1,
                length-append (sent_by outlet.0.end) (in_slot outlet.0.slot),
              ),
              omega (arith, link.2.1, few_of (place_of outlet.0.end) (taken_by inlet.end), few_taken j to.0 to.1),
            );
      }

  pub carries_few : (turned : Turned) → HasLeft board.nodes ended turned → CarriesFew n turns turned
  carries_few turned left = subst (λ (k : ℕ). CarriesFew k turns turned) ran.opened.nodes (carried turned left)
