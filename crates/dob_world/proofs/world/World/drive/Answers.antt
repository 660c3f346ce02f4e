-- One round more, after which the world is still or not.
use Rattle.dob_world.proofs.Common.{◌*◌, ◌+◌, ◌-◌, ◌<◌, ◌≡◌, ◌≤◌, Bool, ap, arith, false, mul-add-lt, refl, round_length, subst, sym, true, ℕ, classes_of, HasMadeRound, Setting}
use Rattle.dob_world.proofs.Promise.{kept_left}
use Rattle.dob_world.proofs.Driven.{no_rounds, round_more, still_longer, drive_stops}
use Rattle.dob_world.proofs.world.World.drive.Goals as goal

pub loop-round-init : goal.loop-round-init
loop-round-init c = no_rounds c.args.self.now c.requires.standing c.requires.going

pub round-requires-clause-few : goal.round-requires-clause-few
round-requires-clause-few c =
    let on = c.loop-round.invariant in
    let per : ℕ = round_length c.args.self.now.node_count in
    let some : 0 < per = omega arith in
    let steps = subst (λ (k : ℕ). c.loop-round.self.steps ≤ c.args.self.now.steps + k * per) (on.busy refl).0 on.steps in
    let next = mul-add-lt c.loop-round._round per (per - 1) c.args.rounds c.loop-round-test.true (omega (arith, some)) in
    let same : round_length c.loop-round.self.node_count ≡ per = ap (λ (k : Setting). round_length k.n) on.setting in
    omega (arith, c.requires.few, some, steps, next, same)

pub returns-in-Ok-true-clause-driven : goal.returns-in-Ok-true-clause-driven
returns-in-Ok-true-clause-driven c =
    let low : c.loop-round._round + 1 ≤ c.args.rounds = omega (arith, c.loop-round-test.true) in
    still_longer c.args.self.now c.round.new.self (c.loop-round._round + 1) c.args.rounds
    (round_more c.args.self.now c.loop-round.self c.round.new.self c.loop-round._round true c.loop-round.invariant
    (subst (λ (b : Bool). HasMadeRound c.loop-round.self b c.round.new.self) c.in-Ok-true.field-0-test c.in-Ok-true.ensures.made)) low

pub loop-round-preserved : goal.loop-round-preserved
loop-round-preserved c = round_more c.args.self.now c.loop-round.self c.round.new.self c.loop-round._round false c.loop-round.invariant
    (subst (λ (b : Bool). HasMadeRound c.loop-round.self b c.round.new.self) c.in-Ok-false.field-0-test c.in-Ok-false.ensures.made)

pub returns-in-Err-clause-memory : goal.returns-in-Err-clause-memory
returns-in-Err-clause-memory c = λ few.
    c.in-Err.ensures.memory (subst (λ (k : Setting). classes_of k.family < 65535) (sym c.loop-round.invariant.setting) few)

pub returns-in-Err-clause-stopped : goal.returns-in-Err-clause-stopped
returns-in-Err-clause-stopped c = drive_stops c.args.self.now c.loop-round.self c.round.new.self c.loop-round._round c.args.rounds c.in-Err.fault
    c.loop-round.invariant c.loop-round-test.true c.in-Err.ensures.stopped

pub returns-in-Err-clause-unannounced : goal.returns-in-Err-clause-unannounced
returns-in-Err-clause-unannounced c = (kept_left c.round.new.self c.in-Err.fault c.in-Err.ensures.stopped.failed c.in-Err.ensures.kept).unannounced
