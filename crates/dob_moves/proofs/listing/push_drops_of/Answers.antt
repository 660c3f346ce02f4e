-- The squares of the set are gone over from the first on, and the others give nothing.
use Rattle.dob_moves.proofs.Common.{◌++◌, ◌∙◌, ◌≡◌, List, ap, append-nil, arith, held, length, refl, sym, walk_end, walk_next, walk_room_one, walk_start, Hand}
use Rattle.dob_moves.proofs.Common.{Move}
use Rattle.dob_moves.proofs.Listed.{can_put, puts_counting, puts_on, puts_quiet, put_there, drops_none, drops_all}
use Rattle.dob_moves.proofs.listing.push_drops_of.Goals as goal

pub returns-then-count-eq0 : goal.returns-then-count-eq0
returns-then-count-eq0 c = λ setup empty hand_is.
    let same : held c.args.hand c.args.kind ≡ held setup.hands.mover c.args.kind = ap (λ (hand : Hand). held hand c.args.kind) hand_is in
    sym (ap (λ (ms : List Move). c.args.moves.now.items ++ ms) (drops_none c.args.profile setup c.args.kind (omega (arith, same))) ∙ append-nil c.args.moves.now.items)

pub loop-to-init : goal.loop-to-init
loop-to-init c = λ setup empty.
    rw c.into_iter-to-iterator.ensures.into_iter_gives (walk_start (can_put c.args.profile setup c.args.kind) (puts_on c.args.profile setup c.args.kind)
    _ c.args.moves.now.items (c.and-to-items.ensures _ _ empty c.squares_for.ensures))

pub push-requires : goal.push-requires
push-requires c =
    let setup = c.requires.0 in
    let same : held c.args.hand c.args.kind ≡ held setup.hands.mover c.args.kind = ap (λ (hand : Hand). held hand c.args.kind) c.requires.2 in
    omega (
      arith,
      walk_room_one (c.loop-to.invariant setup c.requires.1) c.in-Some.ensures.steps
          (puts_quiet c.args.profile setup c.args.kind) (puts_counting c.args.profile setup c.args.kind),
      ap length (drops_all c.args.profile setup c.args.kind (omega (arith, same))),
      c.requires.3,
    )

pub loop-to-preserved : goal.loop-to-preserved
loop-to-preserved c = λ setup empty.
    walk_next (c.loop-to.invariant setup empty) c.in-Some.ensures.steps refl
    (λ passes. c.push.ensures.items
    ∙ ap (λ (ms : List Move). c.loop-to.moves.items ++ ms) (sym (put_there c.args.profile setup c.args.kind c.in-Some.to passes)))

pub returns : goal.returns
returns c = λ setup empty hand_is.
    let same : held c.args.hand c.args.kind ≡ held setup.hands.mover c.args.kind = ap (λ (hand : Hand). held hand c.args.kind) hand_is in
    walk_end (c.loop-to.invariant setup empty) (puts_quiet c.args.profile setup c.args.kind) c.in-None.ensures.steps.0
    ∙ ap (λ (ms : List Move). c.args.moves.now.items ++ ms) (sym (drops_all c.args.profile setup c.args.kind (omega (arith, same))))
