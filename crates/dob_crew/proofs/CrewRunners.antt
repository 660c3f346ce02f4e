-- The runners of a crew: before and after their turns.
use Rattle.dob_crew.proofs.Common.{◌<◌, ◌∙◌, ◌∷◌, ◌≡◌, List, Some, [], ap, arith, length, map, refl, subst, sym, ℕ, length-map, slice_get_within, AllZip}
use Rattle.dob_crew.proofs.Common.{slice_get, some_at, zip_at, zip_long, Family, BatchView, BuildFault, Nodes, Sizes, IsSeatOf, Blackboard, IsRejoined, place_of, sent_by}
use Rattle.dob_crew.proofs.Common.{IsLawfulInbox, batches_of, Rejoined, SendEnd, KeepsInlet, IsNew, KeepsRunner, Endpoint, Runner, Inlet, Outlet, AreLinked}
use Rattle.dob_crew.proofs.Common.{IsCrew, seat_in, AreNewEndpoints, IsNewEndpoint, AreRunnersFor, IsRunnerOf, KeepsPace, endpoint_of, HasCrewFault}
use Rattle.dob_crew.proofs.Common.{HasSizeFault}
use Rattle.dob_chan.specs.Ends.{IsEndOf}
use Rattle.dob_crew.specs.declared.limits.CrewSizes.{CrewSizes}
use Rattle.dob_crew.specs.CrewSizes.{AreThese}
use Rattle.dob_endpoint.proofs.Places.{map_got, get_map}
use Rattle.dob_crew.proofs.Seated.{count_is}

-- sizes outside their limits
pub outside_none : (n batch capacity : ℕ) (fault : BuildFault) → HasSizeFault n batch capacity fault → HasCrewFault n batch capacity fault
outside_none n batch capacity Nodes why = why
outside_none n batch capacity Sizes why = why
outside_none n batch capacity _ why = absurd why

-- ---- the runners of a crew's endpoints, before and after their turns
pub endpoints_are : (family : Family) (size : ℕ) (endpoints : List Endpoint) (runners : List Runner) → AllZip (IsRunnerOf family size) endpoints runners → map endpoint_of runners ≡ endpoints
endpoints_are family size [] [] are = refl
endpoints_are family size (m ∷ endpoints) (r ∷ runners) are = λ i. are.0.0 i ∷ endpoints_are family size endpoints runners are.1 i
endpoints_are family size _ _ are = absurd are

pub runners_are : (family : Family) (size : ℕ) (endpoints : List Endpoint) (runners : List Runner) → AllZip (IsRunnerOf family size) endpoints runners → AreRunnersFor family size runners
runners_are family size endpoints runners are k runner at = (zip_at (IsRunnerOf family size) endpoints runners k runner are at).2.1

pub runners_new : (family : Family) (size capacity : ℕ) (endpoints : List Endpoint) (runners : List Runner) → AllZip (IsRunnerOf family size) endpoints runners → AreNewEndpoints capacity endpoints →
    (k : ℕ) (runner : Runner) → slice_get runners k ≡ Some runner → IsNew family runner.node runner.endpoint × IsNewEndpoint capacity runner.endpoint
runners_new family size capacity endpoints runners are new k runner at =
    let of = zip_at (IsRunnerOf family size) endpoints runners k runner are at in
    (of.2.2, subst (λ (m : Endpoint). IsNewEndpoint capacity m) (sym of.2.0) (new k of.0 of.1))

pub runners_pace : (family : Family) (size : ℕ) (endpoints : List Endpoint) (runners : List Runner) → AllZip (IsRunnerOf family size) endpoints runners →
    (k : ℕ) (runner : Runner) → slice_get runners k ≡ Some runner → KeepsPace runner
runners_pace family size endpoints runners are k runner at = (zip_at (IsRunnerOf family size) endpoints runners k runner are at).2.3

-- ---- a crew's runners

-- what went over the link from the sender at that place
pub rejoined_at : (i : ℕ) (send : SendEnd) (taken : List BatchView) (link : Rejoined) → place_of send ≡ i → IsRejoined send taken link →
    (link.sent ≡ length (sent_by send)) × (link.received ≡ length (batches_of i taken))
    × IsLawfulInbox (sent_by send) (batches_of i taken) link.waiting.items
rejoined_at i send taken link place is = grind arith

pub seat_there : (runners : List Runner) (k : ℕ) (runner : Runner) → slice_get runners k ≡ Some runner →
    slice_get (map seat_in (map endpoint_of runners)) k ≡ Some runner.endpoint.seat
seat_there runners k runner at = get_map seat_in (map endpoint_of runners) k runner.endpoint (get_map endpoint_of runners k runner at)

abbrev pub are_linked : (runners : List Runner) (i j : ℕ) (from to : Runner) (outlet : Outlet) (inlet : Inlet) → slice_get runners i ≡ Some from →
    slice_get runners j ≡ Some to → slice_get from.endpoint.outlets.items j ≡ Some outlet → to.endpoint.inlet ≡ inlet →
    AreLinked (map endpoint_of runners) i j outlet inlet
are_linked runners i j from to outlet inlet sends takes out into = record {
  sender = from.endpoint;
  taker = to.endpoint;
  sends = get_map endpoint_of runners i from sends;
  takes = get_map endpoint_of runners j to takes;
  out = out;
  into = into;
}

-- each has the seat of its place and a link for each node, and there are as many as the board has nodes
module _ (board : Blackboard) (runners : List Runner) (crew : IsCrew board (map endpoint_of runners)) where
  pub seat_at : (k : ℕ) (runner : Runner) → slice_get runners k ≡ Some runner → IsSeatOf board.rest.table_id board.nodes k runner.endpoint.seat
  seat_at k runner at = crew.seats.seats_are k runner.endpoint.seat (seat_there runners k runner at)

  pub crew_many : length runners ≡ board.nodes
  crew_many = sym (length-map runners endpoint_of) ∙ count_is board (map endpoint_of runners) crew

  pub crew_low : (k : ℕ) (runner : Runner) → slice_get runners k ≡ Some runner → k < board.nodes
  crew_low k runner at = omega (arith, slice_get_within runners k runner at, crew_many)

  pub outlet_at : (i j : ℕ) (from : Runner) → slice_get runners i ≡ Some from → j < board.nodes →
      (outlet : Outlet) × (slice_get from.endpoint.outlets.items j ≡ Some outlet)
  outlet_at i j from at low = some_at from.endpoint.outlets.items j (omega (arith, from.endpoint.outlets_len, (seat_at i from at).nodes, low))

-- a runner of which it is known where it was before its turns
was_at : (old new : List Runner) (k : ℕ) (endpoint : Endpoint) → AllZip KeepsRunner old new → slice_get (map endpoint_of new) k ≡ Some endpoint →
    (before : Runner) × (after : Runner) × (slice_get old k ≡ Some before) × KeepsRunner before after × (after.endpoint ≡ endpoint)
was_at old new k endpoint kept at =
    let after = map_got endpoint_of new k endpoint at in
    let before = zip_at KeepsRunner old new k after.0 kept after.1 in
    (before.0, after.0, before.1, before.2, after.2)

-- the runners of a crew are one after their turns
pub crew_kept : (board : Blackboard) (old new : List Runner) → IsCrew board (map endpoint_of old) → AllZip KeepsRunner old new → IsCrew board (map endpoint_of new)
crew_kept board old new crew kept = record {
  seats = record {
    count = length-map (map endpoint_of new) seat_in ∙ length-map new endpoint_of ∙ zip_long KeepsRunner old new kept ∙ crew_many board old crew;
    seats_are = λ k seat at.
        let endpoint = map_got seat_in (map endpoint_of new) k seat at in
        let was = was_at old new k endpoint.0 kept endpoint.1 in
        let before = seat_at board old crew k was.0 was.2 in
        let same = was.3.endpoint.seat in
        subst (IsSeatOf board.rest.table_id board.nodes k) (ap (λ (m : Endpoint). m.seat) was.4 ∙ endpoint.2) (record {
          node = same.node ∙ before.node;
          nodes = same.nodes ∙ before.nodes;
          board_is = same.board ∙ before.board_is;
        });
  };
  paired = λ i j outlet inlet linked.
      let from = was_at old new i linked.sender kept linked.sends in
      let to = was_at old new j linked.taker kept linked.takes in
      let out : slice_get from.1.endpoint.outlets.items j ≡ Some outlet = ap (λ (m : Endpoint). slice_get m.outlets.items j) from.4 ∙ linked.out in
      let into : to.1.endpoint.inlet ≡ inlet = ap (λ (m : Endpoint). m.inlet) to.4 ∙ linked.into in
      let outlet_before = some_at from.0.endpoint.outlets.items j
      (omega (arith, slice_get_within from.1.endpoint.outlets.items j outlet out, from.1.endpoint.outlets_len, from.0.endpoint.outlets_len, from.3.endpoint.seat.nodes)) in
      let sends = from.3.endpoint.outlets j outlet_before.0 outlet outlet_before.1 out in
      let takes = subst (λ (i : Inlet). KeepsInlet to.0.endpoint.inlet i) into to.3.endpoint.inlet in
      let were : IsEndOf to.0.endpoint.inlet.end i outlet_before.0.end = crew.paired i j outlet_before.0 to.0.endpoint.inlet
      (are_linked old i j from.0 to.0 outlet_before.0 to.0.endpoint.inlet from.2 to.2 outlet_before.1 refl) in
      (sends.0.0 ∙ were.0 ∙ sym takes.0.0, sends.0.1 ∙ were.1);
}

-- what is so of a crew of those sizes is so of them as numbers
pub sized : (P : ℕ → ℕ → ℕ → Type 0) (n items batches : ℕ) (sizes : CrewSizes) → AreThese n items batches sizes → P sizes.nodes sizes.batch_size sizes.capacity → P n items batches
sized P n items batches sizes these = subst (λ (p : ℕ × ℕ × ℕ). P p.0 p.1 p.2) (λ q. (these.nodes q, these.batch_size q, these.capacity q))
