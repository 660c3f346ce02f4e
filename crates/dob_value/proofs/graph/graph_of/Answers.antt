-- Each class's status and successors go to the ends of the lists.
use Rattle.dob_value.proofs.Common.{◌∙◌, ◌≡◌, arith, subst, classes_of, AreNodes}
use Rattle.std.proofs.lemmas.Result.{err_from_is_err_and}
use Rattle.dob_value.proofs.Nodes.{nodes_grown}
use Rattle.dob_value.proofs.graph.graph_of.Goals as goal

pub loop-number-preserved : goal.loop-number-preserved
loop-number-preserved c =
    let family = c.args.classes.now.family in
    let number = c.loop-number.number in
    let found = c.in_ok-status.ensures in
    let status = c.in_ok-status.status in
    nodes_grown family number c.loop-number.statuses.items c.loop-number.starts.items c.loop-number.successors.items status found.0
    _ _ _ _ c.loop-number.invariant found.2 c.in_ok-push-2.ensures.items c.in_ok-push-3.ensures.items
    (c.len.ensures ∙ c.push_successors.new.successors.ok.0) found.1

pub returns-clause-graph : goal.returns-clause-graph
returns-clause-graph c =
    let all : c.loop-number.number ≡ classes_of c.args.classes.now.family =
    omega (arith, c.class_count-number-end.ensures.number, c.loop-number-test.false, c.loop-number.auto.number-end) in
    subst (λ n. AreNodes c.args.classes.now.family n c.loop-number.statuses.items c.loop-number.starts.items c.loop-number.successors.items) all c.loop-number.invariant

pub returns-in_err-status-clause-family : goal.returns-in_err-status-clause-family
returns-in_err-status-clause-family c =
    let p = err_from_is_err_and c.from_residual-in_err-status.result c.from_residual-in_err-status.ensures.1 in rw p.1 tt

pub returns-in_err-status-clause-graph : goal.returns-in_err-status-clause-graph
returns-in_err-status-clause-graph c =
    let p = err_from_is_err_and c.from_residual-in_err-status.result c.from_residual-in_err-status.ensures.1 in rw p.1 tt
