-- The runner has the endpoint and a node just opened, which has made no step, and nothing has gone over its links.
use Rattle.dob_crew.proofs.Common.{◌∙◌, ap, subst, sym, ℕ, Some, IsOpened, Node, IsNew, Endpoint}
use Rattle.dob_runner.specs.Paces.{kept_member}
use Rattle.dob_crew.proofs.crew_open.open_runner.Goals as goal
use Rattle.dob_crew.proofs.crew_open.open_runner.Goals.{In_ok-node}

is_new : (c : In_ok-node) → IsNew c.args.classes.now.family c.in_ok-node.node c.args.endpoint
is_new c =
    let new = c.requires.new.1 in
    let opened = c.in_ok-node.ensures.opened in record {
      openings = opened.0;
      are_openings = opened.1;
      opened = subst (λ (k : ℕ). IsOpened opened.0 c.args.classes.now.family c.args.endpoint.seat.node k c.in_ok-node.node) (sym c.requires.nodes) opened.2;
      sound = c.in_ok-node.ensures.sound;
      black = new.black;
      running = new.running;
      unsent = λ to outlet at. (new.unsent to outlet at).0;
      untaken = new.untaken.0;
    }

pub new-runner-requires : goal.new-runner-requires
new-runner-requires c = is_new (goal.at.new-runner-requires c).In_ok-node

pub returns : goal.returns
returns c =
    let made = c.new-runner.ensures in
    let kept = c.keep_pace.ensures in
    let endpoint = kept.endpoint ∙ made.endpoint in
    let node = kept.node ∙ made.node in (
      endpoint,
      record { family_is = kept.family ∙ made.family; size_is = kept.batch_size ∙ made.batch_size; unfailed = kept.failed ∙ made.unfailed },
      subst (λ (p : Node × Endpoint). IsNew c.args.classes.now.family p.0 p.1) (λ i. ((sym node) i, (sym endpoint) i)) (is_new (goal.at.returns c).In_ok-node),
      ap kept_member kept.pace ∙ ap Some (c.in_ok-pace.ensures ∙ λ i. (c.args.endpoint.seat.node, (sym c.requires.nodes) i))
          ∙ ap (λ (m : Endpoint). Some (m.seat.node, m.seat.nodes)) (sym endpoint),
    )
