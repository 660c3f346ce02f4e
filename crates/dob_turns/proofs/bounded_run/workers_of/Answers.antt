-- Each node finds a row of sending and one of taking slots left, those at its place, until all are workers.
use Rattle.std.proofs.Common.{length, map, refl, rules, subst, ℕ, ⊎_elim, ◌∙◌, ◌≡◌}
use Rattle.dob_endpoint.proofs.Places.{each_more, get_map, gone_all, next_at, one_gone, one_longer}
use Rattle.dob_crew.specs.CrewClose.{row_of}
use Rattle.dob_turns.specs.BoundedRun.{AreWorkers}
use Rattle.dob_turns.proofs.bounded_run.workers_of.Goals as goal

pub loop-node-preserved : goal.loop-node-preserved
loop-node-preserved c =
    let on = c.loop-node.invariant in
    let done = length c.loop-node.workers.items in
    let steps = c.in-Some.ensures.steps in
    let more = c.in_ok-push.ensures.items in record {
      nodes_are = one_gone on.nodes_are steps.0.0.0 (one_longer _ _ more);
      sending_are = one_gone on.sending_are steps.0.1.0 (one_longer _ _ more);
      taking_are = one_gone on.taking_are steps.1.0 (one_longer _ _ more);
      so_far = record {
        count = refl;
        each = each_more _ _ _ _ _ refl more on.so_far.each (
          next_at on.nodes_are steps.0.0.0,
          get_map row_of c.args.sending.items done c.in-Some.sending (next_at on.sending_are steps.0.1.0),
          get_map row_of c.args.taking.items done c.in-Some.taking (next_at on.taking_are steps.1.0),
        );
      };
    }

pub returns : goal.returns
returns c =
    let on = c.loop-node.invariant in
    let workers = c.loop-node.workers.items in
    let all : length workers ≡ length c.args.nodes.items = ⊎_elim
    (λ pair. ⊎_elim (λ node. gone_all on.nodes_are (search (rules, node.1.0)))
    (λ row. gone_all on.sending_are (search (rules, row.1.0)) ∙ c.requires.sending) pair.1)
    (λ row. gone_all on.taking_are (search (rules, row.1.0)) ∙ c.requires.taking) c.in-None.ensures.steps in
    subst (λ (k : ℕ). AreWorkers k c.args.nodes.items (map row_of c.args.sending.items) (map row_of c.args.taking.items) workers) all on.so_far
