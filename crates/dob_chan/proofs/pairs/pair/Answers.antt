-- the one end of an inbox of one sender is at place 0
use Rattle.dob_chan.proofs.Common.{◌∙◌, ◌≡◌, ap, Some, slice_get}
use Rattle.dob_chan.proofs.pairs.pair.Goals as goal
use Rattle.dob_chan.proofs.pairs.pair.Goals.{After-only_one}

first : (c : After-only_one) → slice_get c.in_ok-sends.sends.items 0 ≡ Some c.only_one.result
first c = ap (λ l. slice_get l 0) c.only_one.ensures

pub returns-clause-paired : goal.returns-clause-paired
returns-clause-paired c = let ends = c.in_ok-sends.ensures.senders in
    (ends.0 ∙ c.one.ensures, ends.1.1 0 c.only_one.result (first (goal.at.returns-clause-paired c).After-only_one))

pub returns-clause-capacity : goal.returns-clause-capacity
returns-clause-capacity c = (c.in_ok-sends.ensures.opened 0 c.only_one.result (first (goal.at.returns-clause-capacity c).After-only_one)).2

pub returns-clause-nothing : goal.returns-clause-nothing
returns-clause-nothing c =
    ((c.in_ok-sends.ensures.opened 0 c.only_one.result (first (goal.at.returns-clause-nothing c).After-only_one)).4, c.in_ok-sends.ensures.nothing)
