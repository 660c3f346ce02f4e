-- Sizes outside their limits are refused; a crew of sizes within them builds.
use Rattle.dob_run.proofs.Common.{Err, BuildFault, Ok, OnOk, Result, rules, carried, says_no, Halted, IsUnheld, StopsSo, IsFailureOf, HasBuildFault}
use Rattle.dob_crew.proofs.CrewRunners.{outside_none}
use Rattle.dob_run.proofs.CrewEnds.{unbegun_fault, unbegun_stops, unbegun_unheld}
use Rattle.dob_run.proofs.build.run_nodes.Goals as goal

pub returns-in_err-sizes : goal.returns-in_err-sizes
returns-in_err-sizes g c =
    let fault = c.in_err-sizes.field-0.0 in
    let refused = c.from_residual.result in
    let is = c.from_residual.ensures.1 in
    let none = outside_none _ _ _ fault c.in_err-sizes.ensures.fault in
    record {
      builds = record {
        built = search rules;
        crew = search rules;
        let_on = search rules;
        unheld = λ never. carried IsUnheld refused fault is (unbegun_unheld c.args.nodes c.args.batch_size c.args.capacity fault none);
        fault = carried (HasBuildFault c.args.nodes c.args.batch_size c.args.capacity) refused fault is
            (unbegun_fault c.args.nodes c.args.batch_size c.args.capacity fault none);
        stopped = carried (StopsSo IsFailureOf (says_no (g.G.Gate.says c.args.gate.now)) Halted c.args.family c.args.nodes c.args.batch_size c.args.capacity)
            refused fault is
            (unbegun_stops IsFailureOf (says_no (g.G.Gate.says c.args.gate.now)) Halted c.args.family c.args.nodes c.args.batch_size c.args.capacity fault none);
      };
      within = search rules;
    }

on_any : {A B : Type 0} (r : Result A BuildFault) → B → OnOk r B
on_any (Ok x) so = so
on_any (Err why) so = tt

pub returns : goal.returns
returns g c = record {
  builds = c.build_by.ensures c.args.nodes c.args.batch_size c.args.capacity c.in_ok-sizes.ensures.sizes;
  within = on_any c.build_by.result c.in_ok-sizes.ensures.within;
}
