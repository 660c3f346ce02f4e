-- A batch lies in the slot, and the items left make a whole one, just where the node holds the runner up.
use Rattle.dob_runner.proofs.Common.{◌≡◌, None, arith, le-leb, leb-true}
use Rattle.dob_runner.proofs.Sending.{outlet_at, slot_there}
use Rattle.dob_runner.proofs.runner.Runner.is_held_up_by.Goals as goal

pub returns : goal.returns
returns c = (
  λ yes. record {
    outlet = c.index.result.now;
    at = outlet_at c.args.self.now.endpoint c.args.to c.index.result.now c.requires.node c.index.ensures;
    unsent = c.is_full.ensures.full c.if-not-is_full.false;
    whole = omega (arith, leb-true c.get.result c.left_for.result yes, c.left_for.ensures, c.get.ensures.value);
  },
  λ held. le-leb c.get.result c.left_for.result (omega (arith, held.whole, c.left_for.ensures, c.get.ensures.value)),
)

pub returns-then-not-is_full : goal.returns-then-not-is_full
returns-then-not-is_full c = (
  λ never. absurd (cc),
  λ held. absurd (held.unsent (slot_there c.args.self.now.endpoint c.args.to c.index.result.now c.requires.node c.index.ensures (λ s. s ≡ None)
      (c.is_full.ensures.empty c.if-not-is_full.true) held.outlet held.at)),
)
