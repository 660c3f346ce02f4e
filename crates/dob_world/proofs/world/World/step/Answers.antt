-- The world stands on after the event, and so the promise of the whole holds of it; or it has stopped, and is left as that stop leaves it.
use Rattle.dob_world.proofs.Common.{◌+◌, ◌∙◌, ◌≡◌, None, Ok, ap, rules, IsEventDone, IsSkipped, setting_of, state_of, IsLeft, IsStanding}
use Rattle.dob_world.proofs.Kept.{few_stop}
use Rattle.dob_world.proofs.Promise.{standing_headline, stood_headline, stand_unchanged, left_shown, stop_leaves}
use Rattle.dob_world.proofs.world.World.step.Goals as goal
use Rattle.dob_world.proofs.world.World.step.Goals.{In-Ok-true, In-Ok-false, In-Err}

-- the event is done
done : (c : In-Ok-true) → IsEventDone c.args.event c.args.self.now c.make.new.self
done c = c.in-Ok-true.ensures.done (ap Ok c.in-Ok-true.field-0-test)

-- or it is skipped, and the world stands as it stood
skipped : (c : In-Ok-false) → IsSkipped c.args.event c.args.self.now c.make.new.self
skipped c = c.in-Ok-false.ensures.skipped (ap Ok c.in-Ok-false.field-0-test)

still : (c : In-Ok-false) → IsStanding c.make.new.self
still c = stand_unchanged c.args.self.now c.make.new.self (skipped c).unchanged (search rules)

-- or it stops the world
left : (c : In-Err) → IsLeft c.in-Err.fault c.make.new.self
left c = stop_leaves c.args.self.now c.make.new.self c.args.event c.in-Err.fault (search rules) c.in-Err.ensures.stopped

pub returns-in-Ok-true-clause-done : goal.returns-in-Ok-true-clause-done
returns-in-Ok-true-clause-done c = λ e.
    let is = done (goal.at.returns-in-Ok-true-clause-done c).In-Ok-true in
    (record { setting = is.made.setting; can = is.made.can; happens = is.made.happens }, ap (λ n. n + 1) is.same.1)

pub returns-in-Ok-true-clause-headline : goal.returns-in-Ok-true-clause-headline
returns-in-Ok-true-clause-headline c =
    let world = c.make.new.self in
    stood_headline (setting_of world) world.nodes.items world.lanes.items world.detector (world.steps + 1)
    (done (goal.at.returns-in-Ok-true-clause-headline c).In-Ok-true).stands

pub returns-in-Ok-true-clause-beginnings : goal.returns-in-Ok-true-clause-beginnings
returns-in-Ok-true-clause-beginnings c = (returns-in-Ok-true-clause-headline c).beginnings

pub returns-in-Ok-true-clause-silent : goal.returns-in-Ok-true-clause-silent
returns-in-Ok-true-clause-silent c = λ ended.
    let standing : IsStanding c.args.self.now = search rules in
    absurd (((standing_headline c.args.self.now standing).silence ended).nothing c.args.event (done (goal.at.returns-in-Ok-true-clause-silent c).In-Ok-true).made.can)

pub returns-in-Ok-false-clause-headline : goal.returns-in-Ok-false-clause-headline
returns-in-Ok-false-clause-headline c = standing_headline c.make.new.self (still (goal.at.returns-in-Ok-false-clause-headline c).In-Ok-false)

pub returns-in-Ok-false-clause-beginnings : goal.returns-in-Ok-false-clause-beginnings
returns-in-Ok-false-clause-beginnings c = (returns-in-Ok-false-clause-headline c).beginnings

pub returns-in-Ok-false-clause-going : goal.returns-in-Ok-false-clause-going
returns-in-Ok-false-clause-going c =
    let at = (goal.at.returns-in-Ok-false-clause-going c).In-Ok-false in
    ((skipped at).unchanged.failed ∙ (let none : c.args.self.now.failed ≡ None = search rules in none), still at)

pub returns-in-Err-clause-shown : goal.returns-in-Err-clause-shown
returns-in-Err-clause-shown c = λ memory.
    let old = c.args.self.now in
    left_shown (setting_of old) (state_of old).world c.args.event c.in-Err.fault (state_of c.make.new.self).world c.in-Err.ensures.stopped.left memory

pub returns-in-Err-clause-unannounced : goal.returns-in-Err-clause-unannounced
returns-in-Err-clause-unannounced c = (left (goal.at.returns-in-Err-clause-unannounced c).In-Err).unannounced

pub returns-in-Err-clause-beginnings : goal.returns-in-Err-clause-beginnings
returns-in-Err-clause-beginnings c = (left (goal.at.returns-in-Err-clause-beginnings c).In-Err).beginnings

pub returns-in-Err-clause-kept : goal.returns-in-Err-clause-kept
returns-in-Err-clause-kept c =
    let is = left (goal.at.returns-in-Err-clause-kept c).In-Err in
    record { stop = is.stop; unannounced = is.unannounced; beginnings = is.beginnings; headline = is.headline }

pub returns-in-Err-clause-memory : goal.returns-in-Err-clause-memory
returns-in-Err-clause-memory c = λ going few.
    let old = c.args.self.now in
    let standing : IsStanding old = search rules in
    few_stop (setting_of old) (state_of old) c.args.event c.in-Err.fault standing.setting.nodes.0 standing.lawful standing.linked standing.falls few
    c.in-Err.ensures.stopped.stop

pub returns-in-Err-clause-silent : goal.returns-in-Err-clause-silent
returns-in-Err-clause-silent c = λ ended.
    let before : IsStanding c.args.self.now = search rules in
    absurd (((standing_headline c.args.self.now before).silence ended).nothing c.args.event c.in-Err.ensures.stopped.stop.0)
