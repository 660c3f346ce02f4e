-- the next sender ends, and in the end all have
use Rattle.dob_chan.proofs.Rejoinings.{next_ends, ending_goes_on}
use Rattle.dob_chan.proofs.rejoins.end_all.Goals as goal

pub end_next-requires-clause-end : goal.end_next-requires-clause-end
end_next-requires-clause-end c =
    next_ends c.args.sends.items _ _ c.in-Some.send c.args.pass.now c.loop-send.pass c.loop-send.invariant c.in-Some.ensures.steps.0 c.requires.ends

pub loop-send-preserved : goal.loop-send-preserved
loop-send-preserved c = ending_goes_on c.args.sends.items _ _ c.in-Some.send c.args.pass.now c.loop-send.pass c.end_next.new.pass c.loop-send.invariant
    c.in-Some.ensures.steps.0 c.end_next.ensures.seat c.end_next.ensures.role
