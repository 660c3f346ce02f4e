-- Runs and rounds of events: one event more of a run, one event more of a round, one round more, and the end where no event of a round can happen.
use Rattle.dob_world.proofs.Common.{◌%◌, ◌*◌, ◌++◌, ◌+◌, ◌-◌, ◌/◌, ◌<◌, ◌∙◌, ◌∷◌, ◌≡◌, ◌≢◌, ◌≤◌, Bool, List, None, Some, [], add-one, ap, arith, false, get_or}
use Rattle.dob_world.proofs.Common.{inl, inr, length, nat_eq, refl, subst, sym, take, true, ℕ, mod-eq-sub-div-mul, cases_Bool, cases_lt, eqb-true, div-mul-add}
use Rattle.dob_world.proofs.Common.{mul-add-lt, slice_get-get_or, BuildFault, IsMade, IsSkipped, IsStopped, IsWorldUnchanged, CanHappen, Headline, StillIsEnded}
use Rattle.dob_world.proofs.Common.{HasDriven, HasMadeRound, HasRunEvents, HasStoppedAt, SomeCan, StopsInRounds, IsStill, round_event, round_length, IsAfter}
use Rattle.dob_world.proofs.Common.{IsAfterSteps, IsDoneOrSkipped, IsStepOf, ring_of, setting_of, state_of, world_shown, IsSetting, IsStanding, IsWorldStart}
use Rattle.dob_world.proofs.Common.{IsLeftBy, IsStopBy, IsStopInRounds, HaveFallsIn, IsAtRest, IsLinked, Matches, Setting, State, Detector, Event, Announce}
use Rattle.dob_world.proofs.Common.{Expand, Own, Pass, Post, Take, World}
use Rattle.std.proofs.Math.Seq.{take-suc}
use Rattle.std.proofs.lemmas.Bool.Decides.{nat_tests}
use Rattle.std.proofs.lemmas.List.FromFn.{map-range_with_len_more}
use Rattle.dob_world.specs.Rounds.{round_front, round_of, rounds_of}
use Rattle.dob_world.specs.declared.step.Step.{Step}
use Rattle.dob_world.specs.declared.step.Step.TheVariants.{Done, Skipped}
use Rattle.dob_world.proofs.Firsts.{nothing_in}
use Rattle.dob_world.proofs.Promise.{standing_headline}

-- ---- events one after the other

-- without the number of those that are done
is_after : (k : Setting) (old new : State) (events : List Event) (done : ℕ) → IsAfterSteps k old events done new → IsAfter k old events new
is_after k old new [] done after = after.0
is_after k old new (event ∷ events) done after = (after.0, is_step after.3, is_after k after.0 new events after.2 after.4)
  where
    is_step : IsStepOf k old event after.1 after.0 → IsDoneOrSkipped k old event after.0
    is_step (inl made) = inl (made.0, made.1)
    is_step (inr none) = inr (none.0, none.1)

-- one alone
one_event : (k : Setting) (old new : State) (event : Event) (done : ℕ) → IsStepOf k old event done new → IsAfterSteps k old (event ∷ []) done new
one_event k old new event done step = (new, done, 0, step, (refl, refl), omega arith)

-- events, and then others
both_after : (k : Setting) (old between new : State) (front behind : List Event) (one other : ℕ) → IsAfterSteps k old front one between →
    IsAfterSteps k between behind other new → IsAfterSteps k old (front ++ behind) (one + other) new
both_after k old between new [] behind one other first then =
    subst (λ (w : State). IsAfterSteps k w behind (one + other) new) first.0
    (subst (λ (m : ℕ). IsAfterSteps k between behind m new) (let e : other ≡ one + other = omega (arith, first.1) in e) then)
both_after k old between new (event ∷ front) behind one other first then = (
  first.0,
  first.1,
  first.2 + other,
  first.3,
  both_after k first.0 between new front behind first.2 other first.4 then,
  omega (arith, first.5),
)

-- where all events done are counted
after_between : (k : Setting) (old between new : State) (front behind : List Event) (a b c : ℕ) → a ≤ b → b ≤ c → IsAfterSteps k old front (b - a) between →
    IsAfterSteps k between behind (c - b) new → IsAfterSteps k old (front ++ behind) (c - a) new
after_between k old between new front behind a b c low high one other =
    subst (λ (m : ℕ). IsAfterSteps k old (front ++ behind) m new) (let e : (b - a) + (c - b) ≡ c - a = omega arith in e)
    (both_after k old between new front behind (b - a) (c - b) one other)

-- ---- one step
state_same : (old new : World) → IsWorldUnchanged old new → state_of new ≡ state_of old
state_same old new same = λ d. record {
  world = world_shown (same.setting d).family (same.setting d).n (same.nodes d) (same.lanes d);
  ring = ring_of (same.detector d);
}

-- What a step makes of a world of that setting.
pub record Stepped (k : Setting) (event : Event) (old new : World) : Type 0 where
  pub setting : setting_of new ≡ k
  pub step : IsStepOf k (state_of old) event (new.steps - old.steps) (state_of new)
  pub steps : new.steps ≤ old.steps + 1
  pub least : old.steps ≤ new.steps

stepped_here : (event : Event) (old new : World) (given : Step) → (given ≡ Done → IsMade event old new × (new.steps ≡ old.steps + 1)) →
    (given ≡ Skipped → IsSkipped event old new) → Stepped (setting_of old) event old new
stepped_here event old new Done done skipped = let made = done refl in
    record {
      setting = made.0.setting;
      step = inl (made.0.can, made.0.happens, omega (arith, made.1));
      steps = omega (arith, made.1);
      least = omega (arith, made.1);
    }
stepped_here event old new Skipped done skipped = let none = skipped refl in
    record {
      setting = none.unchanged.setting;
      step = inr (none.cannot, state_same old new none.unchanged, omega (arith, none.unchanged.steps));
      steps = omega (arith, none.unchanged.steps);
      least = omega (arith, none.unchanged.steps);
    }

pub stepped : (k : Setting) (event : Event) (old new : World) (given : Step) → setting_of old ≡ k →
    (given ≡ Done → IsMade event old new × (new.steps ≡ old.steps + 1)) → (given ≡ Skipped → IsSkipped event old new) → Stepped k event old new
stepped k event old new given setting done skipped =
    subst (λ (s : Setting). Stepped s event old new) setting (stepped_here event old new given done skipped)

-- ---- a run

-- what holds of a run where its end is such a world
pub ran : (k : Setting) (start : State) (events : List Event) (world : World) → setting_of world ≡ k → IsWorldStart k start →
    IsAfterSteps k start events world.steps (state_of world) → IsStanding world → world.failed ≡ None → HasRunEvents k events world
ran k start events world setting is_start after standing going = record {
  setting = setting;
  start = start;
  is_start = is_start;
  after = after;
  standing = standing;
  going = going;
  headline = subst (λ (s : Setting). Headline s (state_of world)) setting (standing_headline world standing);
  falls = subst (λ (s : Setting). HaveFallsIn s (state_of world).world.nodes) setting standing.falls;
}

-- one event more
pub ran_more : (k : Setting) (events : List Event) (place : ℕ) (default : Event) (old new : World) → place < length events →
    HasRunEvents k (take place events) old → Stepped k (get_or events place default) old new → new.failed ≡ None → IsStanding new →
    HasRunEvents k (take (place + 1) events) new
ran_more k events place default old new low run step going standing =
    let event = get_or events place default in
    subst (λ xs. HasRunEvents k xs new) (sym (rw add-one (take-suc events place default low)))
    (ran k run.start (take place events ++ event ∷ []) new step.setting run.is_start
    (subst (λ (m : ℕ). IsAfterSteps k run.start (take place events ++ event ∷ []) m (state_of new))
    (let e : old.steps + (new.steps - old.steps) ≡ new.steps = omega (arith, step.least) in e)
    (both_after k run.start (state_of old) (state_of new) (take place events) (event ∷ []) old.steps (new.steps - old.steps) run.after
    (one_event k (state_of old) (state_of new) event (new.steps - old.steps) step.step))) standing going)

-- the event after those of a run stops a node
pub run_stops : (k : Setting) (events : List Event) (place : ℕ) (default : Event) (world : World) (fault : BuildFault) → place < length events →
    HasRunEvents k (take place events) world → IsStopBy (setting_of world) (state_of world) (get_or events place default) fault → HasStoppedAt k events fault
run_stops k events place default world fault low run stop = record {
  setting = subst IsSetting run.setting run.standing.setting;
  start = run.start;
  is_start = run.is_start;
  stop = record {
    place = place;
    event = get_or events place default;
    there = slice_get-get_or events place default low;
    state = state_of world;
    after = is_after k run.start (state_of world) (take place events) world.steps run.after;
    stop = subst (λ (s : Setting). IsStopBy s (state_of world) (get_or events place default) fault) run.setting stop;
  };
}

-- ---- the events of a round by their places

-- the sender and the receiver by the place of their pair
sender : (n i j : ℕ) → j < n → (i * n + j) / n ≡ i
sender n i j low = div-mul-add i n j low

receiver : (n i j : ℕ) → j < n → (i * n + j) % n ≡ j
receiver n i j low = mod-eq-sub-div-mul (i * n + j) n ∙ ap (λ (a : ℕ). i * n + j - a * n) (sender n i j low) ∙ omega arith

pair_is : (n i j before : ℕ) → before + (i * n + j) - before ≡ i * n + j
pair_is n i j before = omega arith

expand_at : (n i : ℕ) → i < n → round_event n (2 * i) ≡ Expand i
expand_at n i low = let half : (2 * i) / 2 ≡ i = omega arith in grind (arith, nat_tests)

own_at : (n i : ℕ) → i < n → round_event n (2 * i + 1) ≡ Own i
own_at n i low = let half : (2 * i + 1) / 2 ≡ i = omega arith in grind (arith, nat_tests)

post_at : (n i j : ℕ) → i < n → j < n → round_event n (2 * n + (i * n + j)) ≡ Post i j
post_at n i j low_i low_j = let within : i * n + j < n * n = mul-add-lt i n j n low_i low_j in
    grind (arith, nat_tests, pair_is n i j (2 * n), sender n i j low_j, receiver n i j low_j)

take_at : (n i j : ℕ) → i < n → j < n → round_event n (2 * n + n * n + (i * n + j)) ≡ Take i j
take_at n i j low_i low_j = let within : i * n + j < n * n = mul-add-lt i n j n low_i low_j in
    grind (arith, nat_tests, pair_is n i j (2 * n + n * n), sender n i j low_j, receiver n i j low_j)

pass_at : (n i : ℕ) → i < n → round_event n (3 * n + 2 * (n * n) - 1 - i) ≡ Pass i
pass_at n i low = grind (arith, nat_tests)

announce_at : (n : ℕ) → round_event n (3 * n + 2 * (n * n)) ≡ Announce
announce_at n = grind (arith, nat_tests)

-- ---- a still world

module _ (k : Setting) (state : State) (setting : IsSetting k) (linked : IsLinked k state.world) (matches : Matches k state) (still : IsStill k state) where
  cant : (place : ℕ) (event : Event) → place < round_length k.n → round_event k.n place ≡ event → CanHappen k state event → ⊥
  cant place event low is = subst (λ (e : Event). CanHappen k state e → ⊥) is (still place low)

  no_take : (i j : ℕ) → i < k.n → j < k.n → CanHappen k state (Take i j) → ⊥
  no_take i j low_i low_j = let within : i * k.n + j < k.n * k.n = mul-add-lt i k.n j k.n low_i low_j in
      cant (2 * k.n + k.n * k.n + (i * k.n + j)) (Take i j) (omega arith) (take_at k.n i j low_i low_j)

  no_post : (i j : ℕ) → i < k.n → j < k.n → CanHappen k state (Post i j) → ⊥
  no_post i j low_i low_j = let within : i * k.n + j < k.n * k.n = mul-add-lt i k.n j k.n low_i low_j in
      cant (2 * k.n + (i * k.n + j)) (Post i j) (omega arith) (post_at k.n i j low_i low_j)

  no_waiting : (i j : ℕ) → i < k.n → j < k.n → i ≢ j → state.world.waiting i j ≡ []
  no_waiting i j low_i low_j differs = nothing_in (state.world.waiting i j) (λ some. no_take i j low_i low_j (low_i, low_j, differs, some))

  still_rest : IsAtRest k state.world
  still_rest = record {
    expanded = λ i low. elim (cases_lt (state.world.expanded i) (length (state.world.nodes.history i))) [
      | inl more ↦ absurd (cant (2 * i) (Expand i) (let n = k.n in omega arith) (expand_at k.n i low) (low, more))
      | inr all ↦ omega (arith, all, linked.expanded i low)
    ];
    own = λ i low. nothing_in (state.world.own i) (λ some. cant (2 * i + 1) (Own i) (let n = k.n in omega arith) (own_at k.n i low) (low, some));
    outboxes = λ i j low_i low_j differs. nothing_in (state.world.outbox i j) (λ some. no_post i j low_i low_j (
      low_i,
      low_j,
      differs,
      some,
      omega (arith, ap length (no_waiting i j low_i low_j differs), setting.sizes.1.0),
    ));
    links = no_waiting;
  }

  -- if it weren't, the token could be passed or the end announced
  still_ended : state.ring.announced ≡ true
  still_ended = let at = state.ring.token.at in let low = matches.lawful.at in elim (cases_Bool state.ring.announced) [
    | inl ended ↦ ended
    | inr running ↦ absurd (cant (3 * k.n + 2 * (k.n * k.n) - 1 - at) (Pass at) (omega arith) (pass_at k.n at low) (
      low,
      refl,
      record {
        expanded = still_rest.expanded at low;
        own = still_rest.own at low;
        outboxes = λ j low_j differs. still_rest.outboxes at j low low_j (λ same. differs (sym same));
      },
      running,
      λ first may. cant (3 * k.n + 2 * (k.n * k.n)) Announce (omega arith) (announce_at k.n) (may, running),
    ))
  ]

pub still_is_ended : StillIsEnded
still_is_ended k state setting linked matches still = (
  still_ended k state setting linked matches still,
  still_rest k state setting linked matches still,
)

-- ---- a round

-- The first so many events of a round are made.
pub record Partway (old new : World) (upto : ℕ) : Type 0 where
  pub setting : setting_of new ≡ setting_of old
  pub after : IsAfterSteps (setting_of old) (state_of old) (round_front old.node_count upto) (new.steps - old.steps) (state_of new)
  pub standing : IsStanding new
  pub going : new.failed ≡ None
  pub least : old.steps ≤ new.steps
  pub most : new.steps ≤ old.steps + upto
  pub done : old.steps < new.steps → SomeCan (setting_of old) (state_of old) upto
  pub quiet : new.steps ≡ old.steps → (state_of new ≡ state_of old)
      × ((place : ℕ) → place < upto → CanHappen (setting_of old) (state_of old) (round_event old.node_count place) → ⊥)

pub one_more : (old mid new : World) (place : ℕ) → Partway old mid place → Stepped (setting_of old) (round_event old.node_count place) mid new →
    IsStanding new → new.failed ≡ None → Partway old new (place + 1)
one_more old mid new place before step standing going =
    let k = setting_of old in
    let event = round_event old.node_count place in
    record {
      setting = step.setting;
      after = subst (λ events. IsAfterSteps k (state_of old) events (new.steps - old.steps) (state_of new))
          (sym (map-range_with_len_more (round_event old.node_count) 0 place place (let same : 0 + place ≡ place = omega arith in same)))
          (after_between k (state_of old) (state_of mid) (state_of new) (round_front old.node_count place) (event ∷ []) old.steps mid.steps new.steps
          before.least step.least before.after (one_event k (state_of mid) (state_of new) event (new.steps - mid.steps) step.step));
      standing = standing;
      going = going;
      least = omega (arith, step.least, before.least);
      most = omega (arith, step.steps, before.most);
      done = λ less. elim step.step [
        | inl both ↦ (
          place,
          omega arith,
          state_of mid,
          is_after k (state_of old) (state_of mid) (round_front old.node_count place) (mid.steps - old.steps) before.after,
          both.0,
        )
        | inr none ↦ let w = before.done (omega (arith, none.2, step.least, less)) in (w.0, omega (arith, w.1), w.2, w.3, w.4)
      ];
      quiet = λ same. elim step.step [
        | inl both ↦ absurd (omega (arith, both.2, same, before.least))
        | inr none ↦
            let were = before.quiet (omega (arith, step.least, before.least, same)) in (
              none.1 ∙ were.0,
              λ p low. elim (cases_lt p place) [
                | inl less ↦ were.1 p less
                | inr most ↦ subst (λ (m : ℕ). CanHappen k (state_of old) (round_event old.node_count m) → ⊥) (let e : place ≡ p = omega arith in e)
                    (subst (λ (w : State). CanHappen k w event → ⊥) were.0 none.0)
              ],
            )
      ];
    }

pub round_done : (old new : World) (upto : ℕ) → Partway old new upto → upto ≡ round_length old.node_count → HasMadeRound old (nat_eq new.steps old.steps) new
round_done old new upto way whole = record {
  setting = way.setting;
  least = way.least;
  after = subst (λ (m : ℕ). IsAfterSteps (setting_of old) (state_of old) (round_front old.node_count m) (new.steps - old.steps) (state_of new)) whole way.after;
  standing = way.standing;
  going = way.going;
  steps = omega (arith, whole, way.most);
  same = λ is. ((way.quiet (quiet is)).0, quiet is);
  still = left;
  ended = λ is. still_ended (setting_of new) (state_of new) way.standing.setting way.standing.linked way.standing.matches
      (subst (λ (s : Setting). IsStill s (state_of new)) (sym way.setting) (left is));
  busy = more_count new.steps old.steps way.least;
  done = λ no. let w = way.done (more_count new.steps old.steps way.least no) in (w.0, omega (arith, whole, w.1), w.2, w.3, w.4);
}
  where
    quiet : nat_eq new.steps old.steps ≡ true → new.steps ≡ old.steps
    quiet = eqb-true new.steps old.steps

    left : nat_eq new.steps old.steps ≡ true → IsStill (setting_of old) (state_of new)
    left is = let were = way.quiet (quiet is) in
        subst (λ (w : State). IsStill (setting_of old) w) (sym were.0) (λ place low. were.1 place (omega (arith, whole, low)))

    more_count : (a b : ℕ) → b ≤ a → nat_eq a b ≡ false → b < a
    more_count a b least is = grind (arith, nat_tests)

-- An event of the round stops a node.
pub round_stops : (old mid new : World) (place : ℕ) (fault : BuildFault) → Partway old mid place → place < round_length old.node_count →
    IsStopped (round_event old.node_count place) fault mid new → new.failed ≡ Some fault → StopsInRounds old 1 fault new
round_stops old mid new place fault way low stopped failed = record {
  setting = stopped.setting ∙ way.setting;
  least = omega (arith, way.least, stopped.same.1);
  stop = record {
    made = 0;
    few = omega arith;
    place = place;
    low = low;
    state = state_of mid;
    after = subst (λ (m : ℕ). IsAfterSteps (setting_of old) (state_of old) (round_front old.node_count place) m (state_of mid))
        (ap (λ (m : ℕ). m - old.steps) (sym stopped.same.1)) way.after;
    stop = subst (λ (k : Setting). IsStopBy k (state_of mid) (round_event old.node_count place) fault) way.setting stopped.stop;
    left = subst (λ (k : Setting). IsLeftBy k (state_of mid).world (round_event old.node_count place) fault (state_of new).world) way.setting stopped.left;
    ring = ap (λ (d : Detector). ring_of d) stopped.same.0;
  };
  failed = failed;
}

-- ---- rounds
pub no_rounds : (world : World) → IsStanding world → world.failed ≡ None → HasDriven world 0 false world
no_rounds world standing going = record {
  made = 0;
  few = omega arith;
  setting = refl;
  least = omega arith;
  after = (refl, omega arith);
  standing = standing;
  going = going;
  steps = omega arith;
  before = λ round low. absurd (omega (arith, low));
  busy = λ no. (refl, λ round is. absurd (omega (arith, is)));
  still = λ yes. absurd cc;
  ended = λ yes. absurd cc;
}

-- a world that so many rounds have driven, all of them busy, and a round more
pub round_more : (old mid new : World) (rounds : ℕ) (still : Bool) → HasDriven old rounds false mid → HasMadeRound mid still new →
    HasDriven old (rounds + 1) still new
round_more old mid new rounds still before round =
    let k = setting_of old in
    let all = before.busy refl in
    let same_n : mid.node_count ≡ old.node_count = ap (λ (k : Setting). k.n) before.setting in
    let first : IsAfterSteps k (state_of old) (rounds_of old.node_count rounds) (mid.steps - old.steps) (state_of mid) =
    subst (λ (m : ℕ). IsAfterSteps k (state_of old) (rounds_of old.node_count m) (mid.steps - old.steps) (state_of mid)) all.0 before.after in
    let front : IsAfter k (state_of old) (rounds_of old.node_count rounds) (state_of mid) =
    is_after k (state_of old) (state_of mid) (rounds_of old.node_count rounds) (mid.steps - old.steps) first in
    record {
      made = rounds + 1;
      few = omega arith;
      setting = round.setting ∙ before.setting;
      least = omega (arith, before.least, round.least);
      after = subst (λ events. IsAfterSteps k (state_of old) events (new.steps - old.steps) (state_of new)) (sym (rw add-one refl))
          (after_between k (state_of old) (state_of mid) (state_of new) (rounds_of old.node_count rounds) (round_of old.node_count)
          old.steps mid.steps new.steps before.least round.least first
          (subst (λ (s : Setting). IsAfterSteps s (state_of mid) (round_of s.n) (new.steps - mid.steps) (state_of new)) before.setting round.after));
      standing = round.standing;
      going = round.going;
      steps = steps_more old.steps mid.steps new.steps rounds (round_length old.node_count)
          (subst (λ (m : ℕ). mid.steps ≤ old.steps + m * round_length old.node_count) all.0 before.steps)
          (subst (λ (m : ℕ). new.steps ≤ mid.steps + round_length m) same_n round.steps);
      before = λ r low. elim (cases_lt (r + 1) rounds) [
        | inl less ↦ before.before r (omega (arith, less, all.0))
        | inr last ↦ all.1 r (omega (arith, last, low, all.0))
      ];
      busy = λ no. (
        refl,
        λ r is. (
          state_of mid,
          subst (λ (m : ℕ). IsAfter k (state_of old) (rounds_of old.node_count m) (state_of mid)) (let e : rounds ≡ r = omega (arith, is) in e) front,
          subst (λ (s : Setting). SomeCan s (state_of mid) (round_length s.n)) before.setting (round.done no),
        ),
      );
      still = λ yes. (
        rounds,
        refl,
        (
          subst (λ (w : State). IsAfter k (state_of old) (rounds_of old.node_count rounds) w) (sym (round.same yes).0) front,
          subst (λ (s : Setting). IsStill s (state_of new)) before.setting (round.still yes),
        ),
      );
      ended = round.ended;
    }
  where
    steps_more : (a b c r l : ℕ) → b ≤ a + r * l → c ≤ b + l → c ≤ a + (r + 1) * l
    steps_more a b c r l one other = let is : (r + 1) * l ≡ r * l + l = rw add-one (omega arith) in omega (arith, one, other, is)

-- a still world is driven by more rounds too
pub still_longer : (old new : World) (few rounds : ℕ) → HasDriven old few true new → few ≤ rounds → HasDriven old rounds true new
still_longer old new few rounds driven less = record {
  made = driven.made;
  few = omega (arith, driven.few);
  setting = driven.setting;
  least = driven.least;
  after = driven.after;
  standing = driven.standing;
  going = driven.going;
  steps = driven.steps;
  before = driven.before;
  busy = λ no. absurd cc;
  still = driven.still;
  ended = driven.ended;
}

-- An event of a round after others stops a node.
pub drive_stops : (old mid new : World) (made rounds : ℕ) (fault : BuildFault) → HasDriven old made false mid → made < rounds →
    StopsInRounds mid 1 fault new → StopsInRounds old rounds fault new
drive_stops old mid new made rounds fault driven few stopped =
    let k = setting_of old in
    let here : IsStopInRounds k (state_of mid) 1 fault (new.steps - mid.steps) (state_of new) =
    subst (λ (s : Setting). IsStopInRounds s (state_of mid) 1 fault (new.steps - mid.steps) (state_of new)) driven.setting stopped.stop in
    let first : here.made ≡ 0 = omega (arith, here.few) in
    let before : driven.made ≡ made = (driven.busy refl).0 in
    record {
      setting = stopped.setting ∙ driven.setting;
      least = omega (arith, driven.least, stopped.least);
      stop = record {
        made = made;
        few = few;
        place = here.place;
        low = here.low;
        state = here.state;
        after = after_between k (state_of old) (state_of mid) here.state (rounds_of old.node_count made) (round_front old.node_count here.place)
            old.steps mid.steps new.steps driven.least stopped.least
            (subst (λ (m : ℕ). IsAfterSteps k (state_of old) (rounds_of old.node_count m) (mid.steps - old.steps) (state_of mid)) before driven.after)
            (subst (λ (m : ℕ). IsAfterSteps k (state_of mid) (rounds_of old.node_count m ++ round_front old.node_count here.place) (new.steps - mid.steps)
            here.state) first here.after);
        stop = here.stop;
        left = here.left;
        ring = here.ring;
      };
      failed = stopped.failed;
    }
