-- A crew that has stopped: what its words say of its runners, what they know and show, and that one at its end holds the value table.
use Rattle.dob_run.proofs.Common.{◌*◌, ◌++◌, ◌+◌, ◌-◌, ◌<◌, ◌∙◌, ◌∷◌, ◌≡◌, ◌≢◌, ◌≤◌, Global, List, None, Option, Some, [], ap, arith, false, get_or, inl, inr}
use Rattle.dob_run.proofs.Common.{length, length-append, map, refl, subst, sym, take, ℕ, cases_eq, cases_lt, append-nil, length-map, take_all, slice_get-get_or}
use Rattle.dob_run.proofs.Common.{MatchOption, slice_get, slice_index, Vec, some_at, Family, classes_of, IsValueTable, Value, owner_of, HasValueNow, IsValue}
use Rattle.dob_run.proofs.Common.{cell_at, Item, Settlement, Share, BatchView, items_of_batches, items_from, Cause, BuildFault, Stopped, below_owner, value_of}
use Rattle.dob_run.proofs.Common.{IsIdle, Node, same_halt, AreWords, halt_word, posted_word, Blackboard, Closed, Halt, Ended, Failed, Running, IsRejoined, sent_by}
use Rattle.dob_run.proofs.Common.{taken_by, taken_of, IsLawfulInbox, Rejoined, applied_else, applied_here, sums_by, parts, AreOut, CanHaveMade, KnowsRight}
use Rattle.dob_run.proofs.Common.{IsLawfulRunner, SendsRight, applied_from, items_worked, own_applied, planned, offered, worked_from, held_from, in_slot}
use Rattle.dob_run.proofs.Common.{Endpoint, Runner, Inlet, Outlet, AreUnfailed, IsFirstFailed, AllKnow, AreFailureless, AreOwners, AreShownBelow, HaveStopped}
use Rattle.dob_run.proofs.Common.{IsFailure, IsFailureOf, IsOwner, share_in, IsBuilt, IsLinkDone, needed, AreClosed, IsCrew, seat_in, endpoint_of, node_of}
use Rattle.dob_run.proofs.Common.{AreFinished, AreShown, IsLawfulAt, Built, predecessors}
use Rattle.dob_history.proofs.Kept.{last_now-entry}
use Rattle.dob_endpoint.proofs.Places.{map_got, get_map}
use Rattle.dob_moves.specs.declared.position_status.Status.{Status}
use Rattle.dob_moves.specs.declared.position_status.Status.TheVariants.{Open}
use Rattle.dob_share.specs.declared.opening.Opening.{Opening}
use Rattle.dob_share.specs.Cells.{Cell}
use Rattle.dob_history.specs.Quiet.{FollowsAtStatus}
use Rattle.dob_history.specs.Lawful.{known_of, AreLawfulNodes as AreLawful}
use Rattle.dob_history.specs.Openings.{AreOpenings}
use Rattle.dob_history.proofs.Ends.{lawful_is_right}
use Rattle.dob_crew.proofs.CrewRunners.{are_linked, seat_there, rejoined_at, seat_at, crew_many, crew_low, outlet_at}
use Rattle.dob_crew.specs.declared.crew_close.ClosedCrew.{ClosedCrew as Left}
use Rattle.dob_run.proofs.Needed.{needed_fits}
use Rattle.dob_history.proofs.Found.{some_openings}

-- what is answered where none is known
abbrev pub IsNone : List Runner → Type 0
IsNone runners = AreFailureless runners × (AllKnow Ended runners → AreUnfailed runners)

module _ (runners : List Runner) (halt : Halt) (first : Runner) (at : slice_get runners 0 ≡ Some first) (halt_is : first.endpoint.seat.stand.halt ≡ halt) where
  -- where one is, each knows what the first does
  known : (node : ℕ) (why : Cause) → IsFailure runners node why → AllKnow halt runners
  known node why failure = elim failure.known [
    | inl know ↦ subst (λ (h : Halt). AllKnow h runners) (sym (know 0 first at) ∙ halt_is) know
    | inr late ↦ subst (λ (h : Halt). AllKnow h runners) (sym (late.0 0 first at) ∙ halt_is) late.0
  ]

  pub none_apart : (AllKnow halt runners → ⊥) → IsNone runners
  none_apart apart = (
    λ node why failure. apart (known node why failure),
    λ know. absurd (apart (subst (λ (h : Halt). AllKnow h runners) (sym (know 0 first at) ∙ halt_is) know)),
  )

  pub none_failed : (node : ℕ) → halt ≡ Failed node → ((why : Cause) → IsFailure runners node why → ⊥) → IsNone runners
  none_failed node fails none = (
    λ other why failure. elim failure.known [
      | inl know ↦
          let word = ap halt_word (sym (know 0 first at) ∙ halt_is ∙ fails) in
          let same : other ≡ node = omega (arith, word) in
          none why (subst (λ (k : ℕ). IsFailure runners k why) same failure)
      | inr late ↦ (let word = ap halt_word (sym (late.0 0 first at) ∙ halt_is ∙ fails) in omega (arith, word))
    ],
    λ know. absurd (let word = ap halt_word (sym (know 0 first at) ∙ halt_is ∙ fails) in omega (arith, word)),
  )

-- so it is where no failure of the node that failed the run is found
pub or_failed : (runners : List Runner) (halt : Halt) (first : Runner) → slice_get runners 0 ≡ Some first → first.endpoint.seat.stand.halt ≡ halt → (node : ℕ) →
    halt ≡ Failed node → (result : Option BuildFault) → MatchOption result ((why : Cause) → IsFailure runners node why → ⊥) (IsFailureOf runners) →
    MatchOption result (IsNone runners) (IsFailureOf runners)
or_failed runners halt first at halt_is node fails None none = none_failed runners halt first at halt_is node fails none
or_failed runners halt first at halt_is node fails (Some fault) failure = failure

-- a runner that failed although the end was announced
pub late_failure : (runners : List Runner) (fault : BuildFault) → AllKnow Ended runners → IsFirstFailed runners fault → IsFailureOf runners fault
late_failure runners (Stopped node why) know first = record {
  runner = first.0;
  at = first.1;
  cause = first.2;
  known = inr (know, λ k runner low_k at. first.3 k runner low_k at);
}
late_failure runners _ know first = absurd first

-- ---- the values that the nodes of a crew show

-- a lawful runner's node owns its classes
pub owner_is : (family : Family) (size n k : ℕ) (node : Node) (endpoint : Endpoint) → IsLawfulRunner family size node endpoint → node.id ≡ k → node.n ≡ n → IsOwner family n k node.share
owner_is family size n k node endpoint law id_is n_is = grind (arith, last_now-entry)

-- ---- a crew that has come to its end holds the value table
closed_follows : (status : Status) (cell : Cell) (v : Value) → status ≢ Open → IsValue status cell v → FollowsAtStatus status [] v
closed_follows Open cell v closed is = absurd (closed refl)
closed_follows _ cell v closed is = is

-- ---- nodes as functions of their numbers

module _ (family : Family) (n : ℕ) (some : 0 < n) (histories : ℕ → List Settlement) (applied : ℕ → ℕ → List Item) (share : ℕ → Share)
    (knows : (i : ℕ) → i < n → KnowsRight family n i (share i) (histories i) (λ k. applied k i))
    (all : (i j : ℕ) → i < n → j < n → applied i j ≡ items_from (predecessors family) n j (histories i))
    (shown : (class : ℕ) → class < classes_of family → (v : Value) × HasValueNow (share (owner_of n class)) class v) where
  abbrev value : ℕ → Value
  value class = value_of (histories (owner_of n class)) class

  abbrev cell : ℕ → Cell
  cell class = cell_at (share (owner_of n class)) class

  low_owner : (class : ℕ) → owner_of n class < n
  low_owner class = below_owner n class some

  -- the value shown
  pub shows : (class : ℕ) → class < classes_of family → (v : Value) → HasValueNow (share (owner_of n class)) class v → v ≡ value class
  shows class low v is = (knows (owner_of n class) (low_owner class)).values class v low refl is

  has_value : (class : ℕ) → class < classes_of family → HasValueNow (share (owner_of n class)) class (value class)
  has_value class low = let given = shown class low in subst (λ v. HasValueNow (share (owner_of n class)) class v) (shows class low given.0 given.1) given.1

  could : (j : ℕ) → j < n → CanHaveMade family n j histories (λ k. applied k j)
  could j low = record {
    chained = λ i low_i. (knows i low_i).chained;
    begun = λ i low_i. ([], sym (all i j low_i low) ∙ sym (append-nil (applied i j)));
  }

  pub are_lawful : AreLawful family n histories applied cell value
  are_lawful = record {
    chained = λ i low. (knows i low).chained;
    entries = λ i low. (knows i low).entries;
    begun = λ i j low_i low_j. ([], sym (all i j low_i low_j) ∙ sym (append-nil (applied i j)));
    sums = λ class low is. (let owner = knows (owner_of n class) (low_owner class) in
        sums_by (known_of family n histories applied class) (cell class)
        (owner.sums histories (could (owner_of n class) (low_owner class)) class low refl (owner.statuses class Open low refl is)));
    cell_values = λ class low is. subst (λ s. IsValue s (cell class) (value class))
        ((knows (owner_of n class) (low_owner class)).statuses class Open low refl is) (has_value class low);
    over = λ class status low is closed. closed_follows status (cell class) (value class) closed
        (subst (λ s. IsValue s (cell class) (value class)) ((knows (owner_of n class) (low_owner class)).statuses class status low refl is) (has_value class low));
    values = λ class low. refl;
  }

  pub known_is_right : (openings : List Opening) (values : List Value) → AreOpenings family openings → length values ≡ classes_of family →
      ((class : ℕ) → class < classes_of family → slice_get values class ≡ Some (value class)) → IsValueTable family values
  known_is_right openings values are whole each = lawful_is_right family n histories applied cell value openings values some are are_lawful all whole each

-- ---- links
pub nothing_of : (xs : List BatchView) → length xs ≡ 0 → xs ≡ []
nothing_of [] none = refl
nothing_of (x ∷ xs) none = absurd (omega (arith, none))

-- as much of it was worked in as was offered, so that it is the same
pub link_done : (outlet : Outlet) (inlet : Inlet) (i : ℕ) (waiting : List BatchView) → outlet.slot ≡ None →
    sent_by outlet.end ≡ taken_of inlet.end i ++ waiting → length (worked_from inlet i) ≡ length (offered outlet) → worked_from inlet i ≡ offered outlet
link_done outlet inlet i waiting empty sent long =
    let done : List BatchView = worked_from inlet i in
    let held : List BatchView = in_slot (held_from inlet.slot i) in
    let is : offered outlet ≡ (done ++ held) ++ waiting =
    ap (λ (slot : Option BatchView). sent_by outlet.end ++ in_slot slot) empty ∙ append-nil (sent_by outlet.end) ∙ sent ∙ ap (λ xs. xs ++ waiting) (parts inlet i) in
    let count : length (offered outlet) ≡ length done + length held + length waiting =
    omega (arith, ap length is, length-append (done ++ held) waiting, length-append done held) in
    let none : waiting ≡ [] = nothing_of waiting (omega (arith, count, long)) in
    let unheld : held ≡ [] = nothing_of held (omega (arith, count, long)) in
    sym (is ∙ ap (λ xs. (done ++ held) ++ xs) none ∙ append-nil (done ++ held) ∙ ap (λ xs. done ++ xs) unheld ∙ append-nil done)

outlets_long : (endpoint : Endpoint) → length endpoint.outlets.items ≡ endpoint.seat.nodes
outlets_long endpoint = omega (arith, endpoint.outlets_len)

-- ---- runners

module _ (family : Family) (n : ℕ) (some : 0 < n) (runners : List Runner) (are : AreFinished family n runners) where
  first : (r : Runner) × (slice_get runners 0 ≡ Some r)
  first = some_at runners 0 (subst (λ m. 0 < m) (sym are.count) some)

  abbrev at : ℕ → Runner
  at i = get_or runners i first.0

  stands : (i : ℕ) → i < n → slice_get runners i ≡ Some (at i)
  stands i low = slice_get-get_or runners i first.0 (subst (λ m. i < m) (sym are.count) low)

  place : (i : ℕ) → i < n → IsLawfulAt family n i (at i)
  place i low = are.each i (at i) (stands i low)

  lawful_of : (i : ℕ) → i < n → IsLawfulRunner (at i).family (at i).batch_size (at i).node (at i).endpoint
  lawful_of i low = (place i low).lawful

  idle_of : (i : ℕ) → i < n → IsIdle (at i).node × AreOut (at i).endpoint.outlets.items
  idle_of i low = (lawful_of i low).white (are.white i (at i) (stands i low))

  family_is : (i : ℕ) → i < n → (at i).node.family ≡ family
  family_is i low = (lawful_of i low).of.0 ∙ (place i low).family_is

  id_of : (i : ℕ) → i < n → (at i).node.id ≡ i
  id_of i low = (lawful_of i low).of.1 ∙ (place i low).seat.0

  n_of : (i : ℕ) → i < n → (at i).node.n ≡ n
  n_of i low = (lawful_of i low).of.2 ∙ (place i low).seat.1

  abbrev history : ℕ → List Settlement
  history i = (at i).node.history.settlements

  abbrev applied : ℕ → ℕ → List Item
  applied i j = applied_from (at j).node (at j).endpoint.inlet i

  abbrev share : ℕ → Share
  share i = (at i).node.share

  knows : (i : ℕ) → i < n → KnowsRight family n i (share i) (history i) (λ k. applied k i)
  knows i low =
      subst (λ (p : Family × ℕ × ℕ). KnowsRight p.0 p.1 p.2 (share i) (history i) (λ k. applied k i)) (λ q. (family_is i low q, n_of i low q, id_of i low q))
      (lawful_of i low).knows

  planned_all : (i j : ℕ) → i < n → planned (at i).node j ≡ items_from (predecessors family) n j (history i)
  planned_all i j low =
      (λ q. items_from (predecessors (family_is i low q)) (n_of i low q) j (take (at i).node.expanded (history i)))
      ∙ ap (λ (xs : List Settlement). items_from (predecessors family) n j xs)
      (take_all (at i).node.expanded (history i) (let emitted = (idle_of i low).0.expanded in omega (arith, emitted)))

  own_all : (j : ℕ) → j < n → own_applied (at j).node ≡ items_from (predecessors family) n j (history j)
  own_all j low =
      let node : Node = (at j).node in
      ap (λ (xs : List Item). take (length (planned node node.id) - length xs) (planned node node.id)) (idle_of j low).0.applied
      ∙ take_all (length (planned node node.id) - 0) (planned node node.id) (omega arith)
      ∙ ap (λ (m : ℕ). planned node m) (id_of j low)
      ∙ planned_all j j low

  other_all : (i j : ℕ) → i < n → j < n → i ≢ j → items_worked (at j).endpoint.inlet i ≡ items_from (predecessors family) n j (history i)
  other_all i j low_i low_j apart =
      ap (λ (bs : List BatchView). items_of_batches bs) (link_done outlet.0 (at j).endpoint.inlet i inbox.0 ((idle_of i low_i).1 j outlet.0 outlet.1) inbox.1 long)
      ∙ sym (sends.items ∙ ap (λ (xs : List Item). items_of_batches (offered outlet.0) ++ xs) ((idle_of i low_i).0.sent j) ∙ append-nil (items_of_batches (offered outlet.0)))
      ∙ planned_all i j low_i
    where
      outlet : (x : Outlet) × (slice_get (at i).endpoint.outlets.items j ≡ Some x)
      outlet = some_at (at i).endpoint.outlets.items j (let nodes = (place i low_i).seat.1 in omega (arith, outlets_long (at i).endpoint, nodes, low_j))

      inbox : (waiting : List BatchView) × (sent_by outlet.0.end ≡ taken_of (at j).endpoint.inlet.end i ++ waiting)
      inbox = are.inboxes i j outlet.0 (at j).endpoint.inlet
          (are_linked runners i j (at i) (at j) outlet.0 (at j).endpoint.inlet (stands i low_i) (stands j low_j) outlet.1 refl)

      long : length (worked_from (at j).endpoint.inlet i) ≡ length (offered outlet.0)
      long = sym ((at j).endpoint.taken i (subst (λ m. i < m) (sym (place j low_j).seat.1) low_i))
          ∙ sym (are.counts i j outlet.0 (at j).endpoint.inlet (are_linked runners i j (at i) (at j) outlet.0 (at j).endpoint.inlet (stands i low_i) (stands j low_j) outlet.1 refl)) ∙ (at i).endpoint.posted j outlet.0 outlet.1

      sends : SendsRight (at i).node (at i).batch_size j (offered outlet.0)
      sends = (lawful_of i low_i).sends j outlet.0 (λ e. apart (sym (e ∙ (place i low_i).seat.0))) outlet.1

  all_applied : (i j : ℕ) → i < n → j < n → applied i j ≡ items_from (predecessors family) n j (history i)
  all_applied i j low_i low_j = elim (cases_eq i j) [
    | inl same ↦ applied_here (at j).node (at j).endpoint.inlet i (same ∙ sym (id_of j low_j)) ∙ own_all j low_j
        ∙ ap (λ (m : ℕ). items_from (predecessors family) n j (history m)) (sym same)
    | inr apart ↦ applied_else (at j).node (at j).endpoint.inlet i (λ e. apart (e ∙ id_of j low_j)) ∙ other_all i j low_i low_j apart
  ]

  -- so the values that it shows are the value table
  pub finished_right : (openings : List Opening) (values : List Value) → AreOpenings family openings → AreShown family n runners values → IsValueTable family values
  finished_right openings values openings_are shown =
      known_is_right family n some history applied share knows all_applied given openings values openings_are shown.whole
      (λ class low. (spot class low).1 ∙ ap Some (shows family n some history applied share knows all_applied given class low (spot class low).0 (given class low).1))
    where
      spot : (class : ℕ) → class < classes_of family → (v : Value) × (slice_get values class ≡ Some v)
      spot class low = some_at values class (subst (λ m. class < m) (sym shown.whole) low)

      given : (class : ℕ) → class < classes_of family → (v : Value) × HasValueNow (share (owner_of n class)) class v
      given class low = ((spot class low).0, shown.each class (spot class low).0 (at (owner_of n class)) (spot class low).1 (stands (owner_of n class) (below_owner n class some)))

-- ---- a crew that has stopped: what its board's words say of its runners, and that its end leaves what it should

module _ {board : Blackboard} {family : Family} {size : ℕ} (runners : List Runner) {words : List ℕ} (crew : IsCrew board (map endpoint_of runners))
    (stopped : HaveStopped family size runners) (are : AreWords board.nodes (map seat_in (map endpoint_of runners)) words) where
  there : (k : ℕ) → k < board.nodes → (runner : Runner) × (slice_get runners k ≡ Some runner)
  there k within = some_at runners k (omega (arith, within, crew_many board runners crew))

  -- each seat knows the halt that the words say
  halt_is : (k : ℕ) (runner : Runner) → slice_get runners k ≡ Some runner → halt_word runner.endpoint.seat.stand.halt ≡ slice_index words 2
  halt_is k runner at = sym (are.halt_seen k runner.endpoint.seat (seat_there runners k runner at) (stopped k runner at).halted)

  -- which isn't that the run goes on
  not_running : slice_index words 2 ≢ 0
  not_running none =
      let runner = there 0 board.some in
      (stopped 0 runner.0 runner.1).halted (same_halt runner.0.endpoint.seat.stand.halt Running (halt_is 0 runner.0 runner.1 ∙ none))

  -- ---- a run that failed

  some_of : (o : Option Cause) → o ≢ None → (why : Cause) × (o ≡ Some why)
  some_of None some = absurd (some refl)
  some_of (Some why) some = (why, refl)

  module _ (node : ℕ) (failed : slice_index words 2 ≡ 2 + node) where
    culprit : (runner : Runner) × (slice_get runners node ≡ Some runner)
    culprit = there node (let within = are.halt_within in omega (arith, within, failed))

    -- the node that the words name has failed
    some_failure : (why : Cause) × IsFailure runners node why
    some_failure =
        let runner : Runner = culprit.0 in
        let halt : runner.endpoint.seat.stand.halt ≡ Failed node = are.failed node runner.endpoint.seat (seat_there runners node runner culprit.1) failed in
        let why = some_of runner.failed (runner.own (halt ∙ ap Failed (sym (seat_at board runners crew node runner culprit.1).node))) in (
          why.0,
          record {
            runner = runner;
            at = culprit.1;
            cause = why.1;
            known = inl (λ k other stands. same_halt other.endpoint.seat.stand.halt (Failed node) (halt_is k other stands ∙ failed));
          },
        )

  -- where none has failed the words say that the end was announced
  pub ended_by : AreFailureless runners → slice_index words 2 ≡ 1
  ended_by none = elim (cases_lt (slice_index words 2) 1) [
    | inl low ↦ absurd (not_running (omega (arith, low)))
    | inr some ↦ elim (cases_lt (slice_index words 2) 2) [
      | inl low ↦ omega (arith, some, low)
      | inr high ↦
          let node : ℕ = slice_index words 2 - 2 in
          let failure = some_failure node (omega (arith, high)) in
          absurd (none node failure.0 failure.1)
    ]
  ]

  -- ---- a run that ended

  module _ (ended : slice_index words 2 ≡ 1) where
    pub all_know : AllKnow Ended runners
    all_know = λ k runner at. same_halt runner.endpoint.seat.stand.halt Ended (halt_is k runner at ∙ ended)

    -- where each runner is lawful, whether it gave up afterwards or not
    law_own : (k : ℕ) (runner : Runner) → slice_get runners k ≡ Some runner → IsLawfulRunner runner.family runner.batch_size runner.node runner.endpoint
    law_own k runner at = runner.lawful (inr (inl (same_halt runner.endpoint.seat.stand.halt Ended (halt_is k runner at ∙ ended))))

    law : (k : ℕ) (runner : Runner) → slice_get runners k ≡ Some runner → IsLawfulRunner family size runner.node runner.endpoint
    law k runner at =
        let is = stopped k runner at in
        subst (λ (p : Family × ℕ). IsLawfulRunner p.0 p.1 runner.node runner.endpoint) (λ q. (is.family_is q, is.size_is q)) (law_own k runner at)

    white : (k : ℕ) (runner : Runner) → slice_get runners k ≡ Some runner → runner.endpoint.seat.stand.black ≡ false
    white k runner at = are.all_white ended k runner.endpoint.seat (seat_there runners k runner at)

    rest : (k : ℕ) (runner : Runner) → slice_get runners k ≡ Some runner → IsIdle runner.node × AreOut runner.endpoint.outlets.items
    rest k runner at = (law k runner at).white (white k runner at)

    id_is : (k : ℕ) (runner : Runner) → slice_get runners k ≡ Some runner → runner.node.id ≡ k
    id_is k runner at = (law k runner at).of.1 ∙ (seat_at board runners crew k runner at).node

    n_is : (k : ℕ) (runner : Runner) → slice_get runners k ≡ Some runner → runner.node.n ≡ board.nodes
    n_is k runner at = (law k runner at).of.2 ∙ (seat_at board runners crew k runner at).nodes

    -- there are as many shares as nodes
    count_is : (shares : List Share) → shares ≡ map share_in (map node_of runners) → length shares ≡ board.nodes
    count_is shares is = ap length is ∙ length-map (map node_of runners) share_in ∙ length-map runners node_of ∙ crew_many board runners crew

    -- the nodes own their classes
    pub owners_are : (shares : List Share) → shares ≡ map share_in (map node_of runners) → AreOwners family (length shares) shares
    owners_are shares is k share at =
        let had = map_got share_in (map node_of runners) k share (ap (λ (l : List Share). slice_get l k) (sym is) ∙ at) in
        let got = map_got node_of runners k had.0 had.1 in
        let owner = owner_is family size board.nodes k got.0.node got.0.endpoint (law k got.0 got.1) (id_is k got.0 got.1) (n_is k got.0 got.1) in
        subst (λ (m : ℕ). IsOwner family m k share) (sym (count_is shares is))
        (subst (λ (x : Share). IsOwner family board.nodes k x) (ap share_in got.2 ∙ had.2) owner)

    -- what the nodes show is what the runners show
    shown_by : (shares : List Share) (values : List Value) → shares ≡ map share_in (map node_of runners) →
        AreShownBelow (length shares) (classes_of family) shares values → AreShown family board.nodes runners values
    shown_by shares values is shown =
        let count : length shares ≡ board.nodes = count_is shares is in
        let by_shares : AreShownBelow board.nodes (classes_of family) (map share_in (map node_of runners)) values =
        subst (λ (p : ℕ × List Share). AreShownBelow p.0 (classes_of family) p.1 values) (λ q. (count q, is q)) shown in
        record {
          whole = by_shares.whole;
          each = λ class value runner at owns. by_shares.each class value at runner.node.share
              (get_map share_in (map node_of runners) (owner_of board.nodes class) runner.node (get_map node_of runners (owner_of board.nodes class) runner owns));
        }

    -- as many batches were posted as were taken
    counts : (i j : ℕ) (sender taker : Runner) → slice_get runners i ≡ Some sender → slice_get runners j ≡ Some taker →
        slice_index sender.endpoint.seat.stand.posted j ≡ slice_index taker.endpoint.seat.stand.taken i
    counts i j sender taker at_i at_j =
        sym (are.posted i j sender.endpoint.seat (seat_there runners i sender at_i) (crew_low board runners crew j taker at_j))
        ∙ are.all_taken ended i j (crew_low board runners crew i sender at_i) (crew_low board runners crew j taker at_j)
        ∙ are.taken j i taker.endpoint.seat (seat_there runners j taker at_j) (crew_low board runners crew i sender at_i)

    module _ (left : Left) (words_are : words ≡ left.closed.words.items) (has : AreClosed board.nodes (map endpoint_of runners) left) where
      pub finished : AreFinished family board.nodes runners
      finished = record {
        count = crew_many board runners crew;
        each = λ k runner at. record {
          seat = ((seat_at board runners crew k runner at).node, (seat_at board runners crew k runner at).nodes);
          family_is = (stopped k runner at).family_is;
          lawful = law_own k runner at;
        };
        white = white;
        counts = λ i j outlet inlet linked.
            let from = map_got endpoint_of runners i linked.sender linked.sends in
            let to = map_got endpoint_of runners j linked.taker linked.takes in
            ap (λ (e : Endpoint). slice_index e.seat.stand.posted j) (sym from.2) ∙ counts i j from.0 to.0 from.1 to.1
            ∙ ap (λ (e : Endpoint). slice_index e.seat.stand.taken i) to.2;
        inboxes = λ i j outlet inlet linked.
            let link = has.links i j outlet inlet linked in
            (link.0.waiting.items, (rejoined_at i outlet.end (taken_by inlet.end) link.0 (crew.paired i j outlet inlet linked).1 link.2).2);
      }

      link_is : (values : List Value) → AreShown family board.nodes runners values →
          (i j : ℕ) (sender taker : Runner) (outlet : Outlet) (inlet : Inlet) (link : Rejoined) → slice_get runners i ≡ Some sender →
          slice_get runners j ≡ Some taker → slice_get sender.endpoint.outlets.items j ≡ Some outlet → taker.endpoint.inlet ≡ inlet →
          IsRejoined outlet.end (taken_by inlet.end) link → IsLinkDone family board.nodes size words values i j link
      link_is values shown i j sender taker outlet inlet link sends takes out into rejoined = record {
        posted = posted;
        taken = sym (are.all_taken ended i j low_i low_j) ∙ posted;
        received = omega (arith, is.0, is.1, sent, same, took);
        waiting = nothing_of link.waiting.items (omega (arith, sent, same, took));
        enough = λ apart. subst (λ (m : ℕ). needed family board.nodes values i j ≤ m * size) (sym is_sent)
            (needed_fits family board.nodes size i j sender.node sender.endpoint outlet values (law i sender sends) (rest i sender sends).0
            (id_is i sender sends) (n_is i sender sends) apart out shown.whole
            (λ class value low owns at. shown.each class value sender at (ap (λ (m : ℕ). slice_get runners m) owns ∙ sends)));
      }
        where
          is : (link.sent ≡ length (sent_by outlet.end)) × (link.received ≡ length (taken_of inlet.end i))
              × IsLawfulInbox (sent_by outlet.end) (taken_of inlet.end i) link.waiting.items
          is = rejoined_at i outlet.end (taken_by inlet.end) link (crew.paired i j outlet inlet (are_linked runners i j sender taker outlet inlet sends takes out into)).1 rejoined

          low_i : i < board.nodes
          low_i = crew_low board runners crew i sender sends

          low_j : j < board.nodes
          low_j = crew_low board runners crew j taker takes

          -- nothing lies in the sending slot
          empty : outlet.slot ≡ None
          empty = (rest i sender sends).1 j outlet out

          offered_is : offered outlet ≡ sent_by outlet.end
          offered_is = ap (λ (slot : Option BatchView). sent_by outlet.end ++ in_slot slot) empty ∙ append-nil (sent_by outlet.end)

          is_sent : link.sent ≡ length (offered outlet)
          is_sent = is.0 ∙ ap length (sym offered_is)

          posted : slice_index words (posted_word board.nodes i j) ≡ link.sent
          posted = are.posted i j sender.endpoint.seat (seat_there runners i sender sends) low_j ∙ sender.endpoint.posted j outlet out ∙ sym is_sent

          taken_is : slice_index taker.endpoint.seat.stand.taken i ≡ length (worked_from inlet i)
          taken_is = taker.endpoint.taken i (subst (λ (m : ℕ). i < m) (sym (seat_at board runners crew j taker takes).nodes) low_i)
              ∙ ap (λ (l : Inlet). length (worked_from l i)) into

          same : length (worked_from inlet i) ≡ length (sent_by outlet.end)
          same = sym taken_is ∙ sym (counts i j sender taker sends takes) ∙ sender.endpoint.posted j outlet out ∙ ap length offered_is

          sent : length (sent_by outlet.end) ≡ length (taken_of inlet.end i) + length link.waiting.items
          sent = ap length is.2 ∙ length-append (taken_of inlet.end i) link.waiting.items

          took : length (worked_from inlet i) ≤ length (taken_of inlet.end i)
          took = omega (arith, ap length (parts inlet i), length-append (worked_from inlet i) (in_slot (held_from inlet.slot i)))

      pub built_is : (shares : List Share) (built : Built) → shares ≡ map share_in (map node_of runners) → built.table.family ≡ family →
          AreShownBelow (length shares) (classes_of family) shares built.table.values → built.closed ≡ left.closed → built.links ≡ left.links →
          IsBuilt family board.nodes size built
      built_is shares built shares_are family_is shown closed links =
          let values : List Value = built.table.values in
          let by_runners : AreShown family board.nodes runners values = shown_by shares values shares_are shown in
          let openings = some_openings family in
          let items : words ≡ built.closed.words.items = words_are ∙ ap (λ (c : Closed). c.words.items) (sym closed) in
          record {
            family_is = family_is;
            values = finished_right family board.nodes board.some runners finished openings.0 values openings.1 by_runners;
            words = ap length (sym items) ∙ are.count;
            ended = ap (λ (l : List ℕ). slice_index l 2) (sym items) ∙ ended;
            count = ap (λ (v : Vec Rejoined Global). length v.items) links ∙ has.count;
            links = λ i j low_i low_j.
                let from = there i low_i in
                let to = there j low_j in
                let outlet = outlet_at board runners crew i j from.0 from.1 low_j in
                let inlet : Inlet = to.0.endpoint.inlet in
                let link = has.links i j outlet.0 inlet (are_linked runners i j from.0 to.0 outlet.0 inlet from.1 to.1 outlet.1 refl) in (
                  link.0,
                  ap (λ (v : Vec Rejoined Global). slice_get v.items (i * board.nodes + j)) links ∙ link.1,
                  subst (λ (l : List ℕ). IsLinkDone family board.nodes size l values i j link.0) items
                      (link_is values by_runners i j from.0 to.0 outlet.0 inlet link.0 from.1 to.1 outlet.1 refl link.2),
                );
          }
