-- The bits below a layer's squares are the squares of later layers before them.
use Rattle.std.proofs.Common.{sym, ◌∙◌, arith}
use Rattle.dob_rank.proofs.Boards.LayerCounts.{choice_none}
use Rattle.dob_rank.proofs.Boards.LayerMasks.{one_choice, two_choice}
use Rattle.dob_rank.proofs.masks.choice_of.Goals as goal

pub returns-then-pieces-eq0 : goal.returns-then-pieces-eq0
returns-then-pieces-eq0 c = λ t ls low few mask_is later_is counted. sym (choice_none t ls (counted ∙ c.if-pieces-eq0.true))

pub returns-then-pieces-eq1 : goal.returns-then-pieces-eq1
returns-then-pieces-eq1 c = λ t ls low few mask_is later_is counted.
    one_choice t ls c.args.mask c.args.later _ _ mask_is later_is c.saturating_sub-below.ensures c.from-first.ensures (counted ∙ c.if-pieces-eq1.true)

pub returns : goal.returns
returns c = λ t ls low few mask_is later_is counted.
    two_choice t ls c.args.mask c.args.later _ _ _ _ _ _ few mask_is later_is c.saturating_sub-below.ensures c.from-first.ensures c.saturating_sub-rest.ensures
    c.from-second.ensures c.from-open.ensures c.saturating_sub.ensures (omega arith)
