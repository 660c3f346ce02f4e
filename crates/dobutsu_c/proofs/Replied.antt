-- What a certificate says of a position is what its bytes say of the position's text.
use Rattle.dobutsu_c.proofs.Common.{◌≡◌, Err, List, MatchResult, Ok, Result, Some, subst, ℕ, Family, Setup, IsListVerdict, Refusal, Content}
use Rattle.dob_certificate.specs.declared.entry.Entry.{Entry}
use Rattle.dob_certificate.specs.declared.list_kind.ListKind.TheVariants.{Lost}
use Rattle.dob_certificate.specs.declared.refusal.Refusal.TheVariants as refusal
use Rattle.dob_certificate.specs.Lists.{Supports}
use Rattle.dob_certificate.specs.Lost.{SupportsLost, SupportsAllLost}
use Rattle.dob_certificate.proofs.Firsts.{not_all}
use Rattle.dob_certify.specs.declared.replies.Reply.{Reply}
use Rattle.dobutsu_c.specs.declared.replies.ReplyFault.{ReplyFault}
use Rattle.dobutsu_c.specs.declared.replies.ReplyFault.TheVariants.{Unsupported, Unlisted}
use Rattle.dobutsu_c.specs.Replies.{AreAsked, HasNoReply, HasReplyFault, IsRepliedBy, IsReplyBy}
use Rattle.std.proofs.Common.{arith}

-- where an entry is refused not all are supported, and no list is refused for a claim
module _ (family : Family) (lost : List Entry) (r : Result (Unit {0}) Refusal) (verdict : IsListVerdict (Supports Lost family lost) lost r) where
  pub unsupported_by : (class : ℕ) → r ≡ Err (refusal.Unsupported class) → ¬ SupportsAllLost family lost
  unsupported_by class is = not_all (SupportsLost family lost) lost class (rw is at verdict)

  pub no_claim : r ≡ Err refusal.Claim → ⊥
  no_claim is = subst (IsListVerdict (Supports Lost family lost) lost) is verdict

pub asked_replied : (file text : List ℕ) (said : Content) (p : Setup) (r : Result Reply ReplyFault) → AreAsked file text said p
    → MatchResult r (λ found. IsReplyBy said p (Some found)) (HasNoReply said p) → MatchResult r (IsRepliedBy file text) (HasReplyFault file text)
asked_replied file text said p (Ok found) asked is = (said, p, asked, is)
asked_replied file text said p (Err Unsupported) asked is = (said, p, asked, is)
asked_replied file text said p (Err Unlisted) asked is = (said, p, asked, is)
asked_replied file text said p r asked is = grind arith
