-- The crew that was run has stopped: it leaves a table, or the fault says why it leaves nothing.
use Rattle.dob_run.proofs.Common.{subst, sym, refl, ℕ, Err, IfOk, Family, Memory, says_no, Halted, IsUnheld, StopsSo, HaveStopped, IsFailureOf, IsBuilt}
use Rattle.dob_run.proofs.Common.{HasBuildFault, IfErr-weaker, IfOk-weaker}
use Rattle.std.proofs.lemmas.Result.{err_from_is_err_and}
use Rattle.dob_run.specs.Builds.{Builds}
use Rattle.dob_run.proofs.CrewEnds.{still_crew, have_stopped, is_built, fault_for, all_let_on, unheld, stops_so, by_crew, without_crew}
use Rattle.dob_crew.specs.CrewSizes.{AreThese}
use Rattle.dob_crew.proofs.CrewRunners.{sized}
use Rattle.dob_run.proofs.build.build_by.Goals as goal
use Rattle.dob_run.proofs.build.build_by.Goals.{In_ok-classes}

pub returns-in_err-classes : goal.returns-in_err-classes
returns-in_err-classes g c = λ nodes size capacity these.
    let Says = g.G.Gate.says c.args.gate.now in
    let given = err_from_is_err_and c.from_residual.result c.from_residual.ensures.1 in
    rw (given.1, given.2) (
    sized (λ a b d. Builds Says c.args.family a b d (Err Memory)) nodes size capacity c.args.sizes.now these
    (without_crew Says c.args.family c.args.sizes.now.nodes c.args.sizes.now.batch_size c.args.sizes.now.capacity c.args.sizes.now.within)
    )

-- the sizes are these
these : (g : _) (c : In_ok-classes g) → AreThese c.args.sizes.now.nodes c.args.sizes.now.batch_size c.args.sizes.now.capacity c.args.sizes.now
these g c = record { nodes = refl; batch_size = refl; capacity = refl }

pub finish-requires-clause-crew : goal.finish-requires-clause-crew
finish-requires-clause-crew g c = λ κs lives.
    still_crew (c.in_ok-classes.ensures.ran _ _ _ (these g (goal.at.finish-requires-clause-crew g c).In_ok-classes))

pub finish-requires-clause-stopped : goal.finish-requires-clause-stopped
finish-requires-clause-stopped g c = λ κs lives. (
  c.args.sizes.now.batch_size,
  subst (λ (s : Family). HaveStopped s c.args.sizes.now.batch_size c.in_ok-classes.field-0.runners.items) (sym c.in_ok-classes.ensures.family)
      (have_stopped (c.in_ok-classes.ensures.ran _ _ _ (these g (goal.at.finish-requires-clause-stopped g c).In_ok-classes))),
)

pub returns : goal.returns
returns g c = λ nodes size capacity these.
    let ran = c.in_ok-classes.ensures.ran nodes size capacity these in
    let runners = c.in_ok-classes.field-0.runners.items in
    let board = c.in_ok-classes.field-0.board in
    let made = c.finish.result in
    let Says = g.G.Gate.says c.args.gate.now in
    let No = says_no Says in
    let Stops = StopsSo IsFailureOf No Halted c.args.family nodes size capacity in
    let stopped = IfErr-weaker made (IsFailureOf runners) Stops
    (λ fault failure. stops_so IsFailureOf No Halted c.args.family nodes size capacity board runners fault ran failure) c.finish.ensures.failed in
    record {
      built = IfOk-weaker made (λ built. (m : ℕ) → HaveStopped c.args.family m runners → IsBuilt c.args.family board.nodes m built)
          (IsBuilt c.args.family nodes size) (is_built ran)
          (subst (λ (s : Family). IfOk made (λ built. (m : ℕ) → HaveStopped s m runners → IsBuilt s board.nodes m built)) c.in_ok-classes.ensures.family
          c.finish.ensures.built);
      crew = by_crew ran made c.finish.ensures.words;
      let_on = all_let_on Says nodes board runners ran.opened.nodes (still_crew ran) c.in_ok-classes.ensures.let_on made c.finish.ensures.unfailed;
      unheld = λ never. IfErr-weaker made Stops IsUnheld (unheld No c.args.family nodes size capacity never) stopped;
      fault = IfErr-weaker made (IsFailureOf runners) (HasBuildFault nodes size capacity) (fault_for ran) c.finish.ensures.failed;
      stopped = stopped;
    }
