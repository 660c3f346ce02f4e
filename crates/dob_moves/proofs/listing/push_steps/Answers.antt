-- The mover's squares are gone over from the first on, and the others give nothing.
use Rattle.dob_moves.proofs.Common.{◌++◌, ◌∙◌, List, Move, ap, arith, length, refl, sym, walk_end, walk_next, walk_passes, walk_room, walk_start, all_steps}
use Rattle.dob_moves.proofs.Common.{steps_from, Elsewhere}
use Rattle.dob_moves.proofs.Listed.{own_at, from_kind, from_quiet}
use Rattle.dob_moves.proofs.listing.push_steps.Goals as goal

pub loop-from-init : goal.loop-from-init
loop-from-init c = λ setup are.
    rw c.into_iter-from-iterator.ensures.into_iter_gives
    (walk_start (own_at setup) (steps_from Elsewhere setup) _ c.args.moves.now.items (c.own-from-items.ensures setup are))

pub push_steps_by-requires : goal.push_steps_by-requires
unfolding all_steps
push_steps_by-requires c =
    let setup = c.requires.0 in
    let walk = c.loop-from.invariant setup c.requires.1 in
    let kind = c.own_kind.ensures setup c.requires.1 (walk_passes walk c.in-Some.ensures.steps) in
    let same = ap length (from_kind setup c.own_kind.result c.in-Some.from kind) in (
      setup,
      c.requires.1,
      c.ends-ends.ensures setup c.requires.1,
      omega (arith, walk_room walk c.in-Some.ensures.steps (from_quiet setup), same, c.requires.2),
    )

pub loop-from-preserved : goal.loop-from-preserved
loop-from-preserved c = λ setup are.
    walk_next (c.loop-from.invariant setup are) c.in-Some.ensures.steps refl
    (λ passes. c.push_steps_by.ensures setup are (c.ends-ends.ensures setup are)
    ∙ ap (λ (ms : List Move). c.loop-from.moves.items ++ ms) (sym (from_kind setup c.own_kind.result c.in-Some.from (c.own_kind.ensures setup are passes))))

pub returns : goal.returns
unfolding all_steps
returns c = λ setup are. walk_end (c.loop-from.invariant setup are) (from_quiet setup) c.in-None.ensures.steps.0
