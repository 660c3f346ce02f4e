-- A crew that has come to its end: nothing is left to do anywhere.
use Rattle.std.specs.Prelude.{◌≡◌, ℕ, ◌<◌, ◌++◌, List, Some, false, length, map, slice_get, slice_index}
use Rattle.dob_pieces.specs.declared.profile.Family.{Family}
use Rattle.dob_rank.specs.Families.{classes_of}
use Rattle.dob_distance.specs.declared.value.Value.{Value}
use Rattle.dob_value.specs.Follows.{IsValueTable}
use Rattle.dob_share.specs.declared.opening.Opening.{Opening}
use Rattle.dob_share.specs.Owners.{owner_of}
use Rattle.dob_share.specs.Shares.{HasValueNow}
use Rattle.dob_update.specs.Batches.{BatchView}
use Rattle.dob_history.specs.Openings.{AreOpenings}
use Rattle.dob_chan.specs.Ends.{sent_by, taken_of}
use Rattle.dob_endpoint.specs.declared.slots.Outlet.{Outlet}
use Rattle.dob_endpoint.specs.declared.slots.Inlet.{Inlet}
use Rattle.dob_runner.specs.declared.runner.Runner.{Runner}
use Rattle.dob_runner.specs.LawfulRunners.{IsLawfulRunner}
use Rattle.dob_crew.specs.CrewClose.{AreLinked}
use Rattle.dob_crew.specs.CrewRunners.{endpoint_of}

-- the runner is lawful, and stands at that place of a crew of n for the family
pub record IsLawfulAt (family : Family) (n place : ℕ) (runner : Runner) : Type 0 where
  pub seat : (runner.endpoint.seat.node ≡ place) × (runner.endpoint.seat.nodes ≡ n)
  pub family_is : runner.family ≡ family
  pub lawful : IsLawfulRunner runner.family runner.batch_size runner.node runner.endpoint

-- The crew of n has ended: each runner is lawful and white; on each link as many batches were posted as were taken, and what
-- came out of the inbox of the first is the beginning of what the second sent.
pub record AreFinished (family : Family) (n : ℕ) (runners : List Runner) : Type 0 where
  pub count : length runners ≡ n
  pub each : (i : ℕ) (runner : Runner) → slice_get runners i ≡ Some runner → IsLawfulAt family n i runner
  pub white : (i : ℕ) (runner : Runner) → slice_get runners i ≡ Some runner → runner.endpoint.seat.stand.black ≡ false
  pub counts : (i j : ℕ) (outlet : Outlet) (inlet : Inlet) (linked : AreLinked (map endpoint_of runners) i j outlet inlet) →
      slice_index linked.sender.seat.stand.posted j ≡ slice_index linked.taker.seat.stand.taken i
  pub inboxes : (i j : ℕ) (outlet : Outlet) (inlet : Inlet) → AreLinked (map endpoint_of runners) i j outlet inlet →
      (waiting : List BatchView) × (sent_by outlet.end ≡ taken_of inlet.end i ++ waiting)

-- each value is what the owner of its class shows
pub record AreShown (family : Family) (n : ℕ) (runners : List Runner) (values : List Value) : Type 0 where
  pub whole : length values ≡ classes_of family
  pub each : (class : ℕ) (value : Value) (runner : Runner) → slice_get values class ≡ Some value → slice_get runners (owner_of n class) ≡ Some runner →
      HasValueNow runner.node.share class value

-- what such a crew shows is the value table
abbrev pub FinishedIsRight : Type 0
FinishedIsRight = (family : Family) (n : ℕ) (runners : List Runner) (openings : List Opening) (values : List Value) → 0 < n →
    AreOpenings family openings → AreFinished family n runners → AreShown family n runners values → IsValueTable family values
