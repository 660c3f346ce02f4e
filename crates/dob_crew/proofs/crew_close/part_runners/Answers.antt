-- The node of each runner is put behind the others, and its endpoint behind the parts of those before it, until none is left.
use Rattle.dob_crew.proofs.Common.{◌+◌, ◌≡◌, List, [], ◌∷◌, arith, length, map, refl, rules, subst, sym, vec_len, ℕ, Endpoint, Runner, ArePartsOf, endpoint_of, node_of}
use Rattle.std.proofs.lemmas.List.{map-append}
use Rattle.dob_endpoint.proofs.Places.{ends_up, gone_are, moves_on, next_at, none_gone, one_gone}
use Rattle.dob_crew.proofs.Seated.{parts_more}
use Rattle.dob_crew.proofs.crew_close.part_runners.Goals as goal

pub loop-runner-init : goal.loop-runner-init
loop-runner-init c =
    let count : c.len.result ≡ vec_len c.args.runners = search rules in record {
      nodes_are = search rules;
      done = 0;
      gone = none_gone c.into_iter-runner-iterator.ensures.into_iter_gives.0 refl;
      are = subst (λ (k : ℕ). ArePartsOf k [] c.in_ok-parts.parts) count c.in_ok-parts.ensures;
    }

pub add-requires : goal.add-requires
add-requires c =
    let on = c.loop-runner.invariant in
    let rows : length c.loop-runner.parts.sends.items ≡ vec_len c.args.runners = on.are.sends_rows.count in
    let nodes : c.in-Some.runner.endpoint.seat.nodes ≡ vec_len c.args.runners =
    c.requires _ c.in-Some.runner (next_at on.gone c.in-Some.ensures.steps.0) in
    search rules

pub loop-runner-preserved : goal.loop-runner-preserved
loop-runner-preserved c =
    let on = c.loop-runner.invariant in
    let step = c.in-Some.ensures.steps.0 in
    let runner = c.in-Some.runner in
    let nodes : runner.endpoint.seat.nodes ≡ vec_len c.args.runners = c.requires _ runner (next_at on.gone step) in
    record {
      nodes_are = moves_on node_of _ _ _ _ _ _ _ on.nodes_are step refl c.in_ok-push.ensures.items;
      done = on.done + 1;
      gone = one_gone on.gone step refl;
      are = subst (λ (endpoints : List Endpoint). ArePartsOf (vec_len c.args.runners) endpoints c.add.new.self)
          (sym (map-append endpoint_of on.gone.gone (runner ∷ [])))
          (parts_more (vec_len c.args.runners) (map endpoint_of on.gone.gone) runner.endpoint c.loop-runner.parts c.add.new.self on.are c.in_ok-add.ensures
          (omega (arith, runner.endpoint.outlets_len, nodes)));
    }

pub returns-clause-nodes : goal.returns-clause-nodes
returns-clause-nodes c = ends_up node_of _ _ _ c.loop-runner.invariant.nodes_are (search rules)

pub returns-clause-parts : goal.returns-clause-parts
returns-clause-parts c =
    subst (λ (gone : List Runner). ArePartsOf (vec_len c.args.runners) (map endpoint_of gone) c.loop-runner.parts)
    (gone_are c.loop-runner.invariant.gone (search rules)) c.loop-runner.invariant.are
