-- The squares of the set are gone over from the first on, and the others give nothing.
use Rattle.dob_moves.proofs.Common.{◌++◌, ◌∙◌, ◌∷◌, ◌≡◌, List, [], and_parts, ap, arith, length, refl, rules, sym, is_some, walk_end, walk_next, walk_room_one}
use Rattle.dob_moves.proofs.Common.{walk_start, at, grows_at, is_end, is_enemy, leads, Elsewhere, Move, Step}
use Rattle.dob_moves.proofs.Tables.{steps_by-squares}
use Rattle.dob_moves.proofs.Listed.{end_catch, may_step, steps_to, steps_counting, steps_quiet, step_there}
use Rattle.dob_moves.proofs.listing.push_steps_by.Goals as goal

pub loop-to-init : goal.loop-to-init
loop-to-init c = λ setup are ends.
    rw c.into_iter-to-iterator.ensures.into_iter_gives (walk_start (may_step setup c.args.kind c.args.from) (steps_to setup c.args.kind c.args.from)
    _ c.args.moves.now.items (c.and-to-items.ensures _ _ c.targets.ensures ends))

pub push-requires : goal.push-requires
push-requires c = omega (
  arith,
  walk_room_one (c.loop-to.invariant c.requires.0 c.requires.1 c.requires.2) c.in-Some.ensures.steps
      (steps_quiet c.requires.0 c.args.kind c.args.from) (steps_counting c.requires.0 c.args.kind c.args.from),
  ap length (steps_by-squares Elsewhere c.requires.0 c.args.kind c.args.from (search rules)),
  c.requires.3,
)

pub loop-to-preserved : goal.loop-to-preserved
loop-to-preserved c = λ setup are ends.
    walk_next (c.loop-to.invariant setup are ends) c.in-Some.ensures.steps refl
    (λ passes.
    let to = c.in-Some.to in
    let catch : c.has.result ≡ is_some (at setup to) = c.has.ensures (λ s. is_enemy (at setup s)) are.enemies_are
    ∙ end_catch (at setup to) (and_parts (leads c.args.kind c.args.from to) (is_end (at setup to)) passes).1 in
    let step : Step c.args.kind c.args.from to c.has.result c.grows_at.result
    ≡ Step c.args.kind c.args.from to (is_some (at setup to)) (grows_at c.args.kind to)
    = (λ i. Step c.args.kind c.args.from to (catch i) (c.grows_at.ensures i)) in
    c.push.ensures.items ∙ ap (λ (m : Move). c.loop-to.moves.items ++ m ∷ []) step
    ∙ ap (λ (ms : List Move). c.loop-to.moves.items ++ ms) (sym (step_there setup c.args.kind c.args.from to passes)))

pub returns : goal.returns
returns c = λ setup are ends.
    walk_end (c.loop-to.invariant setup are ends) (steps_quiet setup c.args.kind c.args.from) c.in-None.ensures.steps.0
    ∙ ap (λ (ms : List Move). c.args.moves.now.items ++ ms) (sym (steps_by-squares Elsewhere setup c.args.kind c.args.from (search rules)))
