-- Things that go one by one, each with its answer, and runners whose threads are started and ended so.
use Rattle.dob_threads.proofs.Common.{◌++◌, ◌∙◌, ◌∷◌, ◌≡◌, Bool, List, [], ap, rules, subst, sym, ℕ, AllZip, ConsumerLooked, IsPair, ProducerLooked}
use Rattle.dob_threads.proofs.Common.{SameProducer, known_items, received, sent, zip_at, HasFailed, EndsBy, Runner, Until, AreJoinable, IsEndOf, IsHandedOn}
use Rattle.dob_threads.proofs.Common.{IsJoinable, IsStartOf, Handed, Kept}
use Rattle.dob_threads.specs.declared.threads.Started.{Started}
use Rattle.dob_threads.specs.declared.threads.Started.TheVariants.{Runs, GaveUp}
use Rattle.dob_share.specs.declared.cause.Cause.TheVariants.{Memory}
use Rattle.dob_runner.proofs.TurnParts.{ended_without_memory}
use Rattle.std.specs.Global.{Global}
use Rattle.rtrb.specs.declared.AnyItems.{AnyItems}
use Rattle.rtrb.specs.declared.producer.Producer.{Producer}
use Rattle.rtrb.specs.declared.consumer.Consumer.{Consumer}

-- ---- what goes over a ring for one

-- and where the giver has sent more
pub still_given : (giving after : Producer Handed Global AnyItems) (taking : Consumer Handed Global AnyItems) → IsPair giving taking →
    SameProducer giving after → IsPair after taking
still_given giving after taking pair same = (pair.0 ∙ sym same.0.0, pair.1 ∙ sym same.0.1, pair.2 ∙ sym same.0.2, pair.3 ∙ sym same.0.3)

-- the one that was taken went first
pub went_first : (giving after : Producer Handed Global AnyItems) (taking looked : Consumer Handed Global AnyItems) (handed : Handed) →
    received taking ≡ handed ∷ [] → ConsumerLooked taking looked → ProducerLooked giving after →
    received looked ++ known_items looked ≡ sent after → sent giving ≡ handed ∷ known_items looked
went_first giving after taking looked handed came seen told fifo = search rules

-- ---- runners whose threads were started

-- a runner that was given first, to the thread that promised so
pub handed_on : {G : Type 0} (Says : G → ℕ → Bool → Type 0) (gate : G) (until : Until) (runner : Runner) (giving after : Producer Handed Global AnyItems)
    (taking : Consumer Handed Global AnyItems) (promise : Kept G) (handed : Handed) → sent giving ≡ [] → sent after ≡ sent giving ++ handed ∷ [] →
    handed.runner ≡ runner → IsPair giving taking → SameProducer giving after → promise.taking.value ≡ taking → promise.until.value ≡ until →
    promise.gate.value ≡ gate → IsHandedOn Says gate until runner after promise
handed_on Says gate until runner giving after taking promise handed none given runner_is pair same taking_is until_is gate_is = record {
  handed = handed;
  sent_is = given ∙ ap (λ (l : List Handed). l ++ handed ∷ []) none;
  runner_is = runner_is;
  pair = subst (λ (x : Consumer Handed Global AnyItems). IsPair after x) (sym taking_is) (still_given giving after taking pair same);
  until_is = until_is;
  gate_is = gate_is;
}

-- the first of two lists that are one
same_first : {X : Type 0} (x y : X) (xs ys : List X) → x ∷ xs ≡ y ∷ ys → x ≡ y
same_first x y xs ys same = cc

module _ {G : Type 0} (Says : G → ℕ → Bool → Type 0) (gate : G) (until : Until) where
  ended : (runner now : Runner) (started : Started G) → IsStartOf Says gate until runner started → IsEndOf Says started now →
      EndsBy (Says gate) until runner now
  ended runner now (Runs handle giving) start end =
      let same : end.0.runner ≡ runner = ap (λ (h : Handed). h.runner) (same_first end.0 start.handed end.1 [] (sym end.2 ∙ start.sent_is)) ∙ start.runner_is in
      subst (λ (p : G × Until × Runner). EndsBy (Says p.0) p.1 p.2 now) (λ i. (start.gate_is i, start.until_is i, same i)) end.3
  ended runner now (GaveUp was) start end =
      ended_without_memory (Says gate) until runner now (subst (λ (r : Runner). HasFailed runner r Memory) (sym end) start.failed)

  -- the ends of the ring by which a started runner went belong together
  joinable : (runner : Runner) (started : Started G) → IsStartOf Says gate until runner started → IsJoinable started
  joinable runner (Runs handle giving) start = start.pair
  joinable runner (GaveUp was) start = tt

  pub all_joinable : (runners : List Runner) (started : List (Started G)) → AllZip (IsStartOf Says gate until) runners started →
      AreJoinable started
  all_joinable runners started starts = λ k one at.
      let was = zip_at (IsStartOf Says gate until) runners started k one starts at in
      joinable was.0 one was.2

  -- each runner that was started and ended is where it was in its crew, and through with its turns
  pub all_ended : (runners : List Runner) (started : List (Started G)) (after : List Runner) → AllZip (IsStartOf Says gate until) runners started →
      AllZip (IsEndOf Says) started after → AllZip (EndsBy (Says gate) until) runners after
  all_ended [] [] [] starts ends = tt
  all_ended [] [] (e ∷ after) starts ends = absurd ends
  all_ended [] (s ∷ started) after starts ends = absurd starts
  all_ended (r ∷ runners) [] after starts ends = absurd starts
  all_ended (r ∷ runners) (s ∷ started) [] starts ends = absurd ends
  all_ended (r ∷ runners) (s ∷ started) (e ∷ after) starts ends = (ended r e s starts.0 ends.0, all_ended runners started after starts.1 ends.1)
