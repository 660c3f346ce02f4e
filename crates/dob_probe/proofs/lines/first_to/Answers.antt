-- No earlier move leads to the value that is wanted.
use Rattle.dob_moves.specs.Shown.{setup_on}
use Rattle.dob_probe.proofs.Common.{◌≤◌, arith, length, rules, subst, Setup}
use Rattle.dob_probe.proofs.Ways.{first_here, none_here, none_leads, other_value}
use Rattle.dob_probe.proofs.lines.first_to.Goals as goal

pub outcome_at-outcome-requires-clause-walk : goal.outcome_at-outcome-requires-clause-walk
outcome_at-outcome-requires-clause-walk g c = (setup_on c.args.position.now.board, c.requires.member, c.start-status.ensures.walk)

pub value_at-requires-clause-member : goal.value_at-requires-clause-member
value_at-requires-clause-member g c =
    rw c.requires.family
    (c.outcome_at-outcome.ensures.outcome (setup_on c.args.position.now.board) c.requires.member c.start-status.ensures.walk).member

pub returns-in-Err-clause-missing : goal.returns-in-Err-clause-missing
returns-in-Err-clause-missing g c = λ held holds.
    let is = c.outcome_at-outcome.ensures.outcome (setup_on c.args.position.now.board) c.requires.member c.start-status.ensures.walk in (
      setup_on c.outcome_at-outcome.result.position.board,
      (c.outcome_at-outcome.result.played, is.goes),
      c.in-Err.ensures.fault held (c.loop-place.invariant.held held holds),
    )

pub returns-then-eq-clause-found : goal.returns-then-eq-clause-found
returns-then-eq-clause-found g c = λ held holds.
    let p = setup_on c.args.position.now.board in
    let is = c.outcome_at-outcome.ensures.outcome p c.requires.member c.start-status.ensures.walk in
    first_here c.args.classes.now.family.profile (g.V.ValueSource.says c.args.by.now held) p c.args.wanted
    c.start-status.new.self.moves.items c.loop-place.place c.outcome_at-outcome.result.played c.start-status.ensures.walk.moves is.is_open
    c.outcome_at-outcome.ensures.played (c.loop-place.invariant.none held holds) (setup_on c.outcome_at-outcome.result.position.board) c.in-Ok.value
    is.goes (c.in-Ok.ensures.said held (c.loop-place.invariant.held held holds)) (search rules)

pub returns-then-eq-clause-member : goal.returns-then-eq-clause-member
returns-then-eq-clause-member g c =
    (c.outcome_at-outcome.ensures.outcome (setup_on c.args.position.now.board) c.requires.member c.start-status.ensures.walk).member

pub loop-place-preserved : goal.loop-place-preserved
loop-place-preserved g c =
    let family = c.args.classes.now.family in
    let p = setup_on c.args.position.now.board in
    let is = c.outcome_at-outcome.ensures.outcome p c.requires.member c.start-status.ensures.walk in
    record {
      held = λ held holds. c.in-Ok.ensures.held held (c.loop-place.invariant.held held holds);
      none = λ held holds.
          let Has = g.V.ValueSource.says c.args.by.now held in
          let said = c.in-Ok.ensures.said held (c.loop-place.invariant.held held holds) in
          none_here family.profile Has p c.args.wanted c.start-status.new.self.moves.items c.loop-place.place
          c.outcome_at-outcome.result.played c.start-status.ensures.walk.moves is.is_open c.outcome_at-outcome.ensures.played
          (c.loop-place.invariant.none held holds)
          (other_value family Has (c.requires.single held) p c.outcome_at-outcome.result.played c.in-Ok.value c.args.wanted c.requires.member
          (λ q by. subst (λ (s : Setup). Has s c.in-Ok.value) (is.alone q by) said) (search rules));
      failed = search rules;
    }

pub returns-clause-missing : goal.returns-clause-missing
returns-clause-missing g c = λ held is.
    let all : length c.start-status.new.self.moves.items ≤ c.loop-place.place = omega (arith, c.len-place-end.ensures, c.loop-place-test.false, c.loop-place.auto.place-end) in (
      c.class_of.ensures.class,
      none_leads c.args.classes.now.family.profile (g.V.ValueSource.says c.args.by.now held) (setup_on c.args.position.now.board) c.args.wanted
          c.start-status.new.self.moves.items c.loop-place.place c.start-status.ensures.walk.moves all (c.loop-place.invariant.none held is),
    )
