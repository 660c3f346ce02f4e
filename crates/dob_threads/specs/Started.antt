-- Runners whose threads were started, and what became of them.
use Rattle.std.specs.Prelude.{◌≡◌, ⊤, ℕ, Bool, List, [], ◌∷◌, Some, slice_get}
use Rattle.std.specs.Global.{Global}
use Rattle.rtrb.specs.declared.AnyItems.{AnyItems}
use Rattle.rtrb.specs.declared.producer.Producer.{Producer}
use Rattle.rtrb.specs.declared.consumer.Consumer.{Consumer}
use Rattle.rtrb.specs.Ring.{sent, received, IsPair, SameConsumer}
use Rattle.dob_pieces.specs.declared.profile.Family.{Family}
use Rattle.dob_share.specs.declared.cause.Cause.TheVariants.{Memory}
use Rattle.dob_runner.specs.declared.runner.Runner.{Runner}
use Rattle.dob_runner.specs.declared.turn_loop.Until.{Until}
use Rattle.dob_runner.specs.Runners.{HasFailed, IsHeldBack}
use Rattle.dob_runner.specs.TurnLoop.{Suits, EndsBy}
use Rattle.dob_threads.specs.declared.handed.Handed.{Handed}
use Rattle.dob_threads.specs.declared.threads.Ran.{Ran}
use Rattle.dob_threads.specs.declared.threads.Kept.{Kept}
use Rattle.dob_threads.specs.declared.threads.Started.{Started}
use Rattle.dob_threads.specs.declared.threads.Started.TheVariants.{Runs, GaveUp}

-- each runner can work with the classes of that family
abbrev pub AllSuit : Family → List Runner → Type 0
AllSuit family runners = (k : ℕ) (runner : Runner) → slice_get runners k ≡ Some runner → Suits family runner

-- The thread took one runner, the first that came over its ring, and let it make its turns for so long, with a gate that may answer so.
pub record HasTaken (Says : ℕ → Bool → Type 0) (until : Until) (taking : Consumer Handed Global AnyItems) (ran : Ran) : Type 0 where
  pub same : SameConsumer taking ran.taking
  pub handed : Handed
  pub came : received ran.taking ≡ handed ∷ []
  pub ends : EndsBy Says until handed.runner ran.runner

-- The runner has made no turn: its node and its links are as they were. It has failed for lack of memory.
pub record GivesUp (old new : Runner) : Type 0 where
  pub failed : HasFailed old new Memory
  pub same : IsHeldBack old new

module _ {G : Type 0} where
  -- the two ends of the ring by which the runner went are those of one
  abbrev pub IsJoinable : Started G → Type 0
  IsJoinable (Runs handle giving) = IsPair giving handle.promise.taking.value
  IsJoinable (GaveUp runner) = ⊤

  abbrev pub AreJoinable : List (Started G) → Type 0
  AreJoinable started = (k : ℕ) (one : Started G) → slice_get started k ≡ Some one → IsJoinable one

module _ {G : Type 0} (Says : G → ℕ → Bool → Type 0) where
  -- The runner, and no other one, was handed to a thread, which promises to let it make its turns for so long, with that gate.
  pub record IsHandedOn (gate : G) (until : Until) (runner : Runner) (giving : Producer Handed Global AnyItems) (promise : Kept G) : Type 0 where
    pub handed : Handed
    pub sent_is : sent giving ≡ handed ∷ []
    pub runner_is : handed.runner ≡ runner
    pub pair : IsPair giving promise.taking.value
    pub until_is : promise.until.value ≡ until
    pub gate_is : promise.gate.value ≡ gate

  -- The thread of the runner runs; or none could be made, and the runner has made no turn.
  abbrev pub IsStartOf : G → Until → Runner → Started G → Type 0
  IsStartOf gate until runner (Runs handle giving) = IsHandedOn gate until runner giving handle.promise
  IsStartOf gate until runner (GaveUp now) = GivesUp runner now

  -- What became of it: the runner that went first over the ring has made its turns, and the one that gave up is as it was.
  abbrev pub IsEndOf : Started G → Runner → Type 0
  IsEndOf (Runs handle giving) now = (handed : Handed) × (rest : List Handed) × (sent giving ≡ handed ∷ rest)
      × EndsBy (Says handle.promise.gate.value) handle.promise.until.value handed.runner now
  IsEndOf (GaveUp runner) now = now ≡ runner
