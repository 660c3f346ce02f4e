-- The bits before a place are those of a remainder.
use Rattle.dob_share.proofs.Common.{◌-◌, ◌∙◌, and_mask, ap, bit_and, one_shl, ones, ℕ}
use Rattle.dob_share.proofs.Words.{ones_below}
use Rattle.dob_share.proofs.statuses.ones_before.Goals as goal

pub returns : goal.returns
returns c = ap (λ (m : ℕ). ones (bit_and c.args.word (m - 1))) (one_shl c.args.place 64 c.requires)
    ∙ ap ones (and_mask c.args.word c.args.place) ∙ ones_below c.args.word c.args.place
