-- One more has come, until all have.
use Rattle.dob_update.proofs.Common.{◌+◌, ◌≡◌, arith, drop, length, subst, take, ℕ}
use Rattle.dob_update.proofs.Forward.{coming_all, coming_none}
use Rattle.dob_update.proofs.queue.bring_forward.Goals as goal

pub loop-place-init : goal.loop-place-init
loop-place-init g c = coming_none c.args.k c.args.list.now.items

pub returns-clause-front : goal.returns-clause-front
returns-clause-front g c =
    let old = c.args.list.now in
    let end = c.loop-place.auto.place-end in
    let long = old.ok.0 in
    let all : c.loop-place.place + c.args.k ≡ length old.items = omega (arith, end, long, c.loop-place-test.false, c.len.ensures, c.requires) in
    subst (λ (m : ℕ). take m c.loop-place.list.items ≡ drop c.args.k old.items) (omega (arith, long, all))
    (coming_all c.args.k c.loop-place.place old.items c.loop-place.list.items all c.loop-place.invariant)
