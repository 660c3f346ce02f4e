-- A crew that was run, and the faults of a crew.
use Rattle.dob_run.proofs.Common.{◌<◌, ◌∙◌, ◌≡◌, Bool, List, Result, Some, arith, map, subst, sym, true, ℕ, AllZip, Err, IfOk, Ok, OnOk, slice_get, some_at}
use Rattle.dob_run.proofs.Common.{zip_at, Family, Cause, BuildFault, Memory, Stopped, AreWords, Blackboard, IsReasonFor, KeepsRunner, Ends, EndsBy, Runner, Until}
use Rattle.dob_run.proofs.Common.{AreUnfailed, IsUnheld, StopsSo, HaveStopped, IsFailureOf, IsBuilt, IsCrew, seat_in, AreRunnersFor, IsNewCrew, endpoint_of}
use Rattle.dob_run.proofs.Common.{AllSuit, AreLetOn, HasRun, AreWithin, HasBuildFault, HasCrewFault, Built, AllZip-weaken}
use Rattle.dob_run.specs.Builds.{Builds, IsLeftByCrew}
use Rattle.dob_crew.proofs.CrewRunners.{crew_kept, crew_low, crew_many, seat_at}
use Rattle.dob_runner.specs.declared.turn_loop.Until.TheVariants as until

-- a crew that isn't opened leaves nothing
pub unbegun_fault : (n batch capacity : ℕ) (fault : BuildFault) → HasCrewFault n batch capacity fault → HasBuildFault n batch capacity fault
unbegun_fault n batch capacity (Stopped node cause) why = absurd why
unbegun_fault n batch capacity _ why = why

-- and holds no node back
pub unbegun_unheld : (n batch capacity : ℕ) (fault : BuildFault) → HasCrewFault n batch capacity fault → IsUnheld fault
unbegun_unheld n batch capacity (Stopped node cause) why = absurd why
unbegun_unheld n batch capacity _ why = tt

module _ (Names : List Runner → BuildFault → Type 0) (No : ℕ → Type 0) (until : Until) (family : Family) (n size capacity : ℕ) where
  -- and no node of it is named
  pub unbegun_stops : (fault : BuildFault) → HasCrewFault n size capacity fault → StopsSo Names No until family n size capacity fault
  unbegun_stops (Stopped node cause) why = absurd why
  unbegun_stops _ why = tt

  -- what stopped the runners of a crew that was run
  pub stops_so : (board : Blackboard) (ended : List Runner) (fault : BuildFault) → HasRun No until family n size capacity board ended →
      Names ended fault → StopsSo Names No until family n size capacity fault
  stops_so board ended (Stopped node why) ran names = record { board = board; ended = ended; ran = ran; names = names }
  stops_so board ended _ ran names = tt

-- ---- a crew that was run, from what its threads promise to what is made of it

-- its runners can make turns
pub all_suit : (family : Family) (size : ℕ) (runners : List Runner) → AreRunnersFor family size runners → AllSuit family runners
all_suit family size runners are k runner at = let is = are k runner at in record { family_is = sym is.family_is; unfailed = is.unfailed }

module _ {No : ℕ → Type 0} {until : Until} {family : Family} {n size capacity : ℕ} {board : Blackboard} {ended : List Runner}
    (ran : HasRun No until family n size capacity board ended) where
  kept : AllZip KeepsRunner ran.old ended
  kept = AllZip-weaken (Ends No until) KeepsRunner (λ old new ends. ends.0) ran.old ended ran.ends

  pub still_crew : IsCrew board (map endpoint_of ended)
  still_crew = crew_kept board ran.old ended ran.opened.crew kept

  -- what is made of it is made within the limits
  pub is_within : {A : Type 0} (result : Result A BuildFault) → OnOk result (AreWithin n size capacity)
  is_within (Ok made) = ran.within
  is_within (Err why) = tt

  -- a runner that has failed is one of the crew
  pub fault_by : (node : ℕ) (why : Cause) (runner : Runner) → slice_get ended node ≡ Some runner → HasBuildFault n size capacity (Stopped node why)
  fault_by node why runner at =
      let low : node < n = omega (arith, crew_low board ended still_crew node runner at, ran.opened.nodes) in
      (ran.within, low)

-- ---- who was let on

-- of a new crew, whose run went on
pub are_let_on : (Says : ℕ → Bool → Type 0) (until : Until) (family : Family) (n size capacity : ℕ) (board : Blackboard) (old ended : List Runner) →
    IsNewCrew family n size capacity board old → AllZip (EndsBy Says until) old ended → IsCrew board (map endpoint_of ended) → AreLetOn Says until ended
are_let_on Says (until.Turns count) family n size capacity board old ended opened ends crew = tt
are_let_on Says until.Halted family n size capacity board old ended opened ends crew = λ k runner at unfailed.
    let was = zip_at (EndsBy Says until.Halted) old ended k runner ends at in
    subst (λ (m : ℕ). Says m true) (seat_at board ended crew k runner at).node (was.2.1 (opened.new k was.0 was.1).0.running unfailed)

-- and so each of its nodes, where none has failed
pub all_let_on : (Says : ℕ → Bool → Type 0) (n : ℕ) (board : Blackboard) (ended : List Runner) → board.nodes ≡ n → IsCrew board (map endpoint_of ended) →
    AreLetOn Says until.Halted ended → (result : Result Built BuildFault) → OnOk result (AreUnfailed ended) → OnOk result ((node : ℕ) → node < n → Says node true)
all_let_on Says n board ended nodes crew are (Ok built) unfailed = λ node low.
    let runner = some_at ended node (omega (arith, crew_many board ended crew, nodes, low)) in
    are node runner.0 runner.1 (unfailed node runner.0 runner.1)
all_let_on Says n board ended nodes crew are (Err why) unfailed = tt

-- ---- where it was run to its end

-- no node was held back where the gate never says no
pub unheld : (No : ℕ → Type 0) (family : Family) (n size capacity : ℕ) → ((node : ℕ) → ¬ No node) → (fault : BuildFault) →
    StopsSo IsFailureOf No until.Halted family n size capacity fault → IsUnheld fault
unheld No family n size capacity never (Stopped node why) stops = λ held.
    let runner = stops.names.runner in
    let was = zip_at (Ends No until.Halted) stops.ran.old stops.ended node runner stops.ran.ends stops.names.at in
    never runner.endpoint.seat.node (subst (IsReasonFor No runner) held (was.2.2 why stops.names.cause))
unheld No family n size capacity never _ stops = tt

module _ {No : ℕ → Type 0} {family : Family} {n size capacity : ℕ} {board : Blackboard} {ended : List Runner}
    (ran : HasRun No until.Halted family n size capacity board ended) where
  pub have_stopped : HaveStopped family size ended
  have_stopped = λ k runner at.
      let was = zip_at (Ends No until.Halted) ran.old ended k runner ran.ends at in
      let is = ran.opened.each k was.0 was.1 in
      record { family_is = was.2.0.family ∙ is.family_is; size_is = was.2.0.batch_size ∙ is.size_is; halted = was.2.1 }

  pub is_built : (built : Built) → ((m : ℕ) → HaveStopped family m ended → IsBuilt family board.nodes m built) → IsBuilt family n size built
  is_built built is = subst (λ (k : ℕ). IsBuilt family k size built) ran.opened.nodes (is size have_stopped)

  pub fault_for : (fault : BuildFault) → IsFailureOf ended fault → HasBuildFault n size capacity fault
  fault_for (Stopped node why) failure = fault_by ran node why failure.runner failure.at
  fault_for Memory failure = ran.within
  fault_for _ failure = absurd failure

  -- the crew that leaves what its seats counted
  pub by_crew : (result : Result Built BuildFault) →
      IfOk result (λ built. AreWords board.nodes (map seat_in (map endpoint_of ended)) built.closed.words.items) →
      IfOk result (IsLeftByCrew No family n size capacity)
  by_crew (Ok built) words = record {
    board = board;
    ended = ended;
    ran = ran;
    words = subst (λ (k : ℕ). AreWords k (map seat_in (map endpoint_of ended)) built.closed.words.items) ran.opened.nodes words;
  }
  by_crew (Err why) words = tt

-- what is built where memory is refused before a crew has run
pub without_crew : (Says : ℕ → Bool → Type 0) (family : Family) (n size capacity : ℕ) → AreWithin n size capacity → Builds Says family n size capacity (Err Memory)
without_crew Says family n size capacity within = record {
  built = tt;
  crew = tt;
  let_on = tt;
  unheld = λ never. tt;
  fault = within;
  stopped = tt;
}
