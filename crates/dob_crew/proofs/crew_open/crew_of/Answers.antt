-- The crew's endpoints are its runners' own, and each runner is for the family and the size, unfailed and before any step.
use Rattle.dob_crew.proofs.Common.{◌∙◌, List, rules, subst, sym, Endpoint, IsCrew}
use Rattle.dob_crew.proofs.CrewRunners.{endpoints_are, runners_are, runners_new, runners_pace}
use Rattle.dob_crew.proofs.Seated.{nodes_are}
use Rattle.dob_crew.proofs.crew_open.crew_of.Goals as goal

pub runners_of-requires : goal.runners_of-requires
runners_of-requires g c = (
  search rules,
  (
    (c.args.sizes.now.capacity, c.in_ok-board.ensures.new),
    λ k endpoint at.
        nodes_are c.in_ok-board.board c.in_ok-board.endpoints.items c.in_ok-board.ensures.crew k endpoint at ∙ c.in_ok-board.ensures.nodes,
  ),
)

pub returns : goal.returns
returns g c =
    let family = c.args.classes.now.family in
    let endpoints = c.in_ok-board.endpoints.items in
    let runners = c.in_ok-runners.runners.items in
    let are = c.in_ok-runners.ensures in
    record {
      nodes = c.in_ok-board.ensures.nodes;
      crew = subst (λ (l : List Endpoint). IsCrew c.in_ok-board.board l) (sym (endpoints_are family c.args.sizes.now.batch_size endpoints runners are)) c.in_ok-board.ensures.crew;
      each = runners_are family c.args.sizes.now.batch_size endpoints runners are;
      new = runners_new family c.args.sizes.now.batch_size c.args.sizes.now.capacity endpoints runners are c.in_ok-board.ensures.new;
      pace = runners_pace family c.args.sizes.now.batch_size endpoints runners are;
    }
