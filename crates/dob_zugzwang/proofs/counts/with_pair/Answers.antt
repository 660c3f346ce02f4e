-- A pair that isn't lost by both changes nothing; else the deeper one stays.
use Rattle.std.proofs.Common.{◌∙◌, sym}
use Rattle.dob_zugzwang.proofs.Deepest.{begun, passed_over, replaced}
use Rattle.dob_zugzwang.proofs.counts.with_pair.Goals as goal

pub returns-then-not-is_lost_by_both : goal.returns-then-not-is_lost_by_both
returns-then-not-is_lost_by_both c = λ done is.
    passed_over done c.args.pair c.args.best (sym c.is_lost_by_both.ensures ∙ c.if-not-is_lost_by_both.true) is

pub returns-in_default : goal.returns-in_default
returns-in_default c = λ done is.
    begun done c.args.pair c.args.best c.in_default.not-Some (sym c.is_lost_by_both.ensures ∙ c.if-not-is_lost_by_both.false) is

pub returns-then-is_deeper : goal.returns-then-is_deeper
returns-then-is_deeper c = λ done is.
    replaced done c.args.pair c.in-Some.other (sym c.is_lost_by_both.ensures ∙ c.if-not-is_lost_by_both.false) (c.is_deeper.ensures.0 c.if-is_deeper.true) (rw c.in-Some.is at is)
