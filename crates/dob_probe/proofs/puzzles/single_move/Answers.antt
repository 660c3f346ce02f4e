-- The moves are gone over; a second one that leads to the value makes both none.
use Rattle.std.specs.Option.{is_some}
use Rattle.dob_probe.proofs.Common.{◌<◌, ◌≡◌, ◌≤◌, ◌↔◌, ◌∙◌, arith, false, length, rules, true, true≢false, slice_get_within, subst, sym, ℕ, Setup, IsPositionOf, class_setup, GivenBy}
use Rattle.dob_moves.specs.MoveWalks.{IsWalk}
use Rattle.dob_moves.specs.Shown.{setup_on}
use Rattle.dob_value.specs.Outcomes.{IsOutcome}
use Rattle.dob_probe.proofs.OnlyMoves.{single_all, single_skipped, single_taken, single_twice}
use Rattle.dob_probe.proofs.Entries.{one_given}
use Rattle.dob_probe.proofs.Ways.{other_value}
use Rattle.dob_probe.proofs.puzzles.single_move.Goals as goal
use Rattle.dob_probe.proofs.puzzles.single_move.Goals.{After-start-status, After-outcome_at-played, After-eq, then-eq+else-is_some, else-eq}

pub representative_of-position-requires : goal.representative_of-position-requires
representative_of-position-requires c =
    rw c.classes.ensures.family (subst (λ (n : ℕ). c.args.class < n) (sym c.classes.ensures.count) c.requires)

-- the walk is over the moves of the class's representative, a position of the family
walk_is : (c : After-start-status) → IsPositionOf c.args.table.now.family (class_setup c.args.table.now.family c.args.class)
    × IsWalk c.args.table.now.family.profile (class_setup c.args.table.now.family c.args.class) c.start-status.new.self
walk_is c =
    let found = rw c.classes.ensures.family at c.representative_of-position.ensures in
    let walk = rw c.family-family.ensures.family at c.start-status.ensures.walk in (
      subst (λ (s : Setup). IsPositionOf c.args.table.now.family s) found.setup found.represents.0.0,
      subst (λ (s : Setup). IsWalk c.args.table.now.family.profile s c.start-status.new.self) found.setup walk,
    )

pub outcome_at-played-requires-clause-walk : goal.outcome_at-played-requires-clause-walk
outcome_at-played-requires-clause-walk c =
    let is = walk_is (goal.at.outcome_at-played-requires-clause-walk c).After-start-status in
    rw c.family-family.ensures.family (class_setup c.args.table.now.family c.args.class, is.0, is.1)

-- what comes after the move that is gone over
next : (c : After-outcome_at-played) → IsPositionOf c.args.table.now.family (class_setup c.args.table.now.family c.args.class)
    → IsWalk c.args.table.now.family.profile (class_setup c.args.table.now.family c.args.class) c.start-status.new.self
    → IsOutcome c.args.table.now.family (class_setup c.args.table.now.family c.args.class) c.outcome_at-played.result.played
    (setup_on c.outcome_at-played.result.position.board)
next c member walk = (rw c.family-family.ensures.family at c.outcome_at-played.ensures.outcome) (class_setup c.args.table.now.family c.args.class) member walk

pub value_on-requires : goal.value_on-requires
value_on-requires c =
    let is = walk_is (goal.at.value_on-requires c).After-start-status in
    (next (goal.at.value_on-requires c).After-outcome_at-played is.0 is.1).member

-- whether its value is the one that is wanted
compared : (c : After-eq) → (c.eq.result ≡ true) ↔ (c.value_on.result ≡ c.args.wanted)
compared c = search rules

pub returns-then-is_some : goal.returns-then-is_some
returns-then-is_some c =
    let some : is_some c.loop-place.single ≡ true = search rules in
    let same = (compared (goal.at.returns-then-is_some c).After-eq).0 c.if-eq.true in
    let at = goal.at.returns-then-is_some c in
    let family = c.args.table.now.family in
    let p = class_setup family c.args.class in
    let legal = c.start-status.new.self.moves.items in
    let played = c.outcome_at-played.result.played in
    let q = setup_on c.outcome_at-played.result.position.board in
    let is = walk_is at.After-start-status in
    let after = next at.After-outcome_at-played is.0 is.1 in
    single_twice family.profile (GivenBy c.args.table.now) p c.args.wanted legal
    c.loop-place.place played c.loop-place.single q some is.1.moves
    (slice_get_within legal c.loop-place.place played c.outcome_at-played.ensures.played) c.outcome_at-played.ensures.played
    (record { goes_on = after.is_open; goes = after.goes; has = subst (λ v. GivenBy c.args.table.now q v) same c.value_on.ensures }) c.loop-place.invariant

pub loop-place-preserved : goal.loop-place-preserved
loop-place-preserved c =
    let table = c.args.table.now in
    let p = class_setup table.family c.args.class in
    let legal = c.start-status.new.self.moves.items in
    let played = c.outcome_at-played.result.played in
    let q = setup_on c.outcome_at-played.result.position.board in
    elim c.if-eq.branch [
      | then-eq+else-is_some w ↦
          let none : is_some c.loop-place.single ≡ false = search rules in
          let same = (compared (goal.at.loop-place-preserved c).After-eq).0 w.if-eq.true in
          let is = walk_is (goal.at.loop-place-preserved c).After-start-status in
          let after = next (goal.at.loop-place-preserved c).After-outcome_at-played is.0 is.1 in
          rw w.single-is (single_taken table.family.profile (GivenBy table) p c.args.wanted legal c.loop-place.place played
          c.loop-place.single q none c.outcome_at-played.ensures.played
          (record { goes_on = after.is_open; goes = after.goes; has = subst (λ v. GivenBy table q v) same c.value_on.ensures }) c.loop-place.invariant)
      | else-eq w ↦
          let other : ¬ (c.value_on.result ≡ c.args.wanted) =
          λ same. true≢false (sym ((compared (goal.at.loop-place-preserved c).After-eq).1 same) ∙ w.if-eq.false) in
          let is = walk_is (goal.at.loop-place-preserved c).After-start-status in
          let after = next (goal.at.loop-place-preserved c).After-outcome_at-played is.0 is.1 in
          rw w.single-is (single_skipped table.family.profile (GivenBy table) p c.args.wanted legal c.loop-place.place played
          c.loop-place.single c.outcome_at-played.ensures.played (other_value table.family (GivenBy table) (one_given table) p played c.value_on.result c.args.wanted
          is.0 (λ r by. subst (λ (s : Setup). GivenBy table s c.value_on.result) (after.alone r by) c.value_on.ensures) other) c.loop-place.invariant)
    ]

pub returns : goal.returns
returns c =
    let legal = c.start-status.new.self.moves.items in
    let all : length legal ≤ c.loop-place.place = omega (arith, c.len-place-end.ensures, c.loop-place-test.false, c.loop-place.auto.place-end) in
    let is = walk_is (goal.at.returns c).After-start-status in
    single_all c.args.table.now.family.profile (GivenBy c.args.table.now) (class_setup c.args.table.now.family c.args.class) c.args.wanted legal
    c.loop-place.place c.loop-place.single is.1.moves all c.loop-place.invariant
