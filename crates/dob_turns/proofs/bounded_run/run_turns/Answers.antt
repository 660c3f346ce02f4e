-- A crew that isn't opened or has a failed runner is refused with that cause; else its runners are closed as a crew.
use Rattle.std.proofs.Common.{List, rules, subst}
use Rattle.dob_history.proofs.TakenLists.{carried}
use Rattle.dob_runner.specs.Runners.{says_no}
use Rattle.dob_runner.specs.declared.runner.Runner.{Runner}
use Rattle.dob_runner.specs.declared.turn_loop.Until.TheVariants.{Turns}
use Rattle.dob_crew.proofs.CrewRunners.{outside_none}
use Rattle.dob_run.proofs.CrewEnds.{still_crew, unbegun_fault, unbegun_stops}
use Rattle.dob_run.specs.CrewStops.{AreUnfailed, IsFirstFailed, StopsSo}
use Rattle.dob_run.specs.Faults.{HasBuildFault}
use Rattle.dob_turns.proofs.TurnedCrews.{carries_few, first_fault, first_stops, has_turned}
use Rattle.dob_turns.proofs.bounded_run.run_turns.Goals as goal

pub returns-in_err-sizes : goal.returns-in_err-sizes
returns-in_err-sizes g c =
    let fault = c.in_err-sizes.field-0.0 in
    let refused = c.from_residual.result in
    let is = c.from_residual.ensures.1 in
    let none = outside_none _ _ _ fault c.in_err-sizes.ensures.fault in
    record {
      turned = search rules;
      few = search rules;
      within = search rules;
      fault = carried (HasBuildFault c.args.nodes c.args.batch_size c.args.capacity) refused fault is
          (unbegun_fault c.args.nodes c.args.batch_size c.args.capacity fault none);
      stopped = carried (StopsSo IsFirstFailed (says_no (g.G.Gate.says c.args.gate.now)) (Turns c.args.turns) c.args.family c.args.nodes c.args.batch_size
          c.args.capacity) refused fault is
          (unbegun_stops IsFirstFailed (says_no (g.G.Gate.says c.args.gate.now)) (Turns c.args.turns) c.args.family c.args.nodes c.args.batch_size
          c.args.capacity fault none);
    }

pub returns-in_err-find_failed : goal.returns-in_err-find_failed
returns-in_err-find_failed g c =
    let fault = c.in_err-find_failed.field-0.0 in
    let refused = c.from_residual-in_err-find_failed.result in
    let is = c.from_residual-in_err-find_failed.ensures.1 in
    let ran = c.in_ok-board.ensures.ran _ _ _ c.in_ok-sizes.ensures.sizes in
    let first = subst (λ (l : List Runner). IsFirstFailed l fault) c.deref.ensures.value c.in_err-find_failed.ensures.first in
    record {
      turned = search rules;
      few = search rules;
      within = search rules;
      fault = carried (HasBuildFault c.args.nodes c.args.batch_size c.args.capacity) refused fault is (first_fault ran fault first);
      stopped = carried (StopsSo IsFirstFailed (says_no (g.G.Gate.says c.args.gate.now)) (Turns c.args.turns) c.args.family c.args.nodes c.args.batch_size
          c.args.capacity)
          refused fault is (first_stops ran fault first);
    }

pub close_crew-requires : goal.close_crew-requires
close_crew-requires g c = still_crew (c.in_ok-board.ensures.ran _ _ _ c.in_ok-sizes.ensures.sizes)

pub returns-clause-turned : goal.returns-clause-turned
returns-clause-turned g c =
    has_turned (c.in_ok-board.ensures.ran _ _ _ c.in_ok-sizes.ensures.sizes)
    c.in_ok-turned.turned (subst (λ (l : List Runner). AreUnfailed l) c.deref.ensures.value c.in_ok-find_failed.ensures.going) c.in_ok-turned.ensures

pub returns-clause-within : goal.returns-clause-within
returns-clause-within g c = c.in_ok-sizes.ensures.within

pub returns-clause-few : goal.returns-clause-few
returns-clause-few g c =
    carries_few (c.in_ok-board.ensures.ran _ _ _ c.in_ok-sizes.ensures.sizes)
    (subst (λ (l : List Runner). AreUnfailed l) c.deref.ensures.value c.in_ok-find_failed.ensures.going) c.in_ok-turned.turned c.in_ok-turned.ensures
