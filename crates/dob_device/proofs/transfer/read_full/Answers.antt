-- The room filled grows by what a call gives.
use Rattle.dob_device.proofs.Common.{◌-◌, ◌∙◌, arith, length, rules, subst, or-false, common_steps}
use Rattle.dob_device.proofs.Streams.{filled_more, after-after}
use Rattle.dob_device.proofs.transfer.read_full.Goals as goal

pub loop-done-preserved : goal.loop-done-preserved
loop-done-preserved g c =
    let done = c.loop-done.done in
    let count = c.in-Ok.count in (
      search rules,
      c.in-Ok.ensures.failed ∙ or-false _ ∙ c.loop-done.invariant.1,
      λ stream shows. c.read.ensures.shown stream (c.loop-done.invariant.2 stream shows),
      λ stream gives.
          let before = c.loop-done.invariant.3 stream gives in
          let given = c.in-Ok.ensures.given _ before.2 in
          let more = filled_more stream done count (length c.loop-done.room - done) c.loop-done.room c.read.new.room
          c.loop-done.invariant.0 c.in-Ok.ensures.within before.0 before.1 given.0 in
          (more.0, more.1, subst (g.R.Source.gives c.read.new.self) (after-after stream done count) given.1),
    )

pub returns-in-Ok-2-clause-given : goal.returns-in-Ok-2-clause-given
returns-in-Ok-2-clause-given c = grind (arith, common_steps)
