-- what is taken goes into its sender's room, until nothing is left
use Rattle.dob_chan.proofs.Common.{ap, rules, view}
use Rattle.dob_chan.proofs.Deliveries.{takes_left, left}
use Rattle.dob_chan.proofs.Rejoinings.{has_room, filling_goes_on, all_filled}
use Rattle.dob_chan.proofs.rejoins.take_left.Goals as goal

pub pop_as-requires-clause-rule : goal.pop_as-requires-clause-rule
pop_as-requires-clause-rule g c = (
  takes_left _ _ (ap (λ v. v.takes) c.loop.invariant.1.role),
  left _ _ (ap (λ v. v.takes) c.loop.invariant.1.role),
)

pub returns-in_default : goal.returns-in_default
returns-in_default g c = all_filled (view c.args.pass.now) (view c.loop.pass) c.args.joined.now.items c.loop.joined.items c.loop.invariant.1
    (search rules) c.in_default.ensures.rule.1

pub keep_left-requires-clause-room : goal.keep_left-requires-clause-room
keep_left-requires-clause-room g c =
    let told = c.in-Some-pop_as.ensures.rule in
    λ room at. has_room (view c.args.pass.now) (view c.loop.pass) (view c.pop_as.new.pass) c.args.joined.now.items c.loop.joined.items
    c.in-Some-pop_as.batch room c.loop.invariant.1 (search rules) c.requires.room at told.0 told.2

pub loop-preserved : goal.loop-preserved
loop-preserved g c =
    let told = c.in-Some-pop_as.ensures.rule in (
      search rules,
      filling_goes_on (view c.args.pass.now) (view c.loop.pass) (view c.pop_as.new.pass) c.args.joined.now.items c.loop.joined.items
          c.keep_left.new.joined.items c.in-Some-pop_as.batch c.loop.invariant.1 told.0 c.keep_left.ensures.count c.keep_left.ensures.here c.keep_left.ensures.others,
    )
