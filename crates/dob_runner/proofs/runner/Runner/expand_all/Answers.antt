-- The settlements expanded so far and the next make one step, over classes of the same family, or a failed one.
use Rattle.dob_runner.proofs.Common.{◌≡◌, ◌⊎◌, None, arith, false, inl, inr, length, refl, true, ℕ, ExpandsSome, IsAbove, IsHeldUp, Runner}
use Rattle.dob_runner.proofs.Keeping.{runner_same, goes_same, broken_on}
use Rattle.dob_runner.proofs.TurnParts.{expanded_more, within_none, within_one, none_expanded, some_expanded}
use Rattle.dob_runner.proofs.runner.Runner.expand_all.Goals as goal
use Rattle.dob_runner.proofs.runner.Runner.expand_all.Goals.{In_ok-more}

nothing_expanded : (limit : ℕ) (r : Runner) → r.failed ≡ None → IsHeldUp r ⊎ IsAbove limit r.node ⊎ (r.node.expanded ≡ length r.node.history.settlements) →
    ExpandsSome limit r r false
nothing_expanded limit r unfailed = none_expanded limit r r (goes_same r unfailed) refl refl

pub returns-then-is_held_up : goal.returns-then-is_held_up
returns-then-is_held_up c =
    nothing_expanded c.args.limit c.args.self.now c.requires.unfailed (inl (c.is_held_up.ensures.0 c.if-is_held_up.true))

pub returns-then-is_above : goal.returns-then-is_above
returns-then-is_above c =
    nothing_expanded c.args.limit c.args.self.now c.requires.unfailed (inr (inl (c.is_above.ensures.0 c.if-is_above.true)))

pub returns-in_err-any : goal.returns-in_err-any
returns-in_err-any c = broken_on (ExpandsSome c.args.limit) c.args.self.now c.args.self.now c.expand_one.new.self c.from_residual.result c.in_err-any.field-0.0
    c.from_residual.ensures.1 (runner_same c.args.self.now) refl c.in_err-any.ensures

pub returns-then-not-any : goal.returns-then-not-any
returns-then-not-any c =
    let one = c.in_ok-any.ensures in
    none_expanded c.args.limit c.args.self.now c.expand_one.new.self one.goes one.endpoint (one.nothing c.if-not-any.true) (inr (inr (one.done.0 c.if-not-any.true)))

pub loop-init : goal.loop-init
loop-init c =
    let one = c.in_ok-any.ensures in
    some_expanded c.args.limit c.args.self.now c.expand_one.new.self c.is_held_up.result c.is_above.result c.in_ok-any.any one.goes one.endpoint
    (let more = (one.expanded c.if-not-any.false).expanded in omega (arith, more))
    (within_one c.args.limit c.args.self.now.node c.args.self.now c.expand_one.new.self c.in_ok-any.any c.is_above.result
    (within_none c.args.limit c.args.self.now.node) c.if-is_above.false c.is_above.ensures.1 one)
    c.if-is_held_up.false c.is_held_up.ensures.1 c.if-is_above.false c.is_above.ensures.1 c.if-not-any.false one.done.1

pub returns-in_err-more : goal.returns-in_err-more
returns-in_err-more c = broken_on (ExpandsSome c.args.limit) c.args.self.now c.loop.self c.expand_one-in-loop.new.self c.from_residual-in_err-more.result c.in_err-more.field-0.0
    c.from_residual-in_err-more.ensures.1 c.loop.invariant.goes.keeps c.loop.invariant.goes.still c.in_err-more.ensures

-- with the next settlement
next : (c : In_ok-more) → ExpandsSome c.args.limit c.args.self.now c.expand_one-in-loop.new.self true
next c = expanded_more c.args.limit c.args.self.now c.loop.self c.expand_one-in-loop.new.self c.in_ok-more.more c.is_above-in-loop.result c.loop.invariant
    c.in_ok-more.ensures c.if-is_above-2.false c.is_above-in-loop.ensures.1

pub returns-then-not-more : goal.returns-then-not-more
returns-then-not-more c = next (goal.at.returns-then-not-more c).In_ok-more

pub loop-preserved : goal.loop-preserved
loop-preserved c = next (goal.at.loop-preserved c).In_ok-more
