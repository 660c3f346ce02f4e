-- What the lists prove holds.
use Rattle.dob_certificate.proofs.Common.{sym}
use Rattle.std.proofs.Common.{◌∙◌, true≢false}
use Rattle.dob_certificate.proofs.Exact.{proved_claim}
use Rattle.dob_certificate.proofs.verifying.check_claim.Goals as goal

pub is_shown-requires-clause-member : goal.is_shown-requires-clause-member
is_shown-requires-clause-member c = rw c.of-position.ensures c.requires.member

pub returns-then-is_shown-clause-proof : goal.returns-then-is_shown-clause-proof
returns-then-is_shown-clause-proof c = record {
  lost_supported = c.requires.lost;
  held_supported = c.requires.held;
  shown = (rw c.of-position.ensures at c.is_shown.ensures).0 c.if-is_shown.true;
}

pub returns-then-is_shown-clause-holds : goal.returns-then-is_shown-clause-holds
returns-then-is_shown-clause-holds c =
    proved_claim c.args.classes.now.family c.args.certificate.now.lost c.args.certificate.now.held c.args.position.now.setup c.args.claim
    (returns-then-is_shown-clause-proof c)

pub returns-else-is_shown-clause-refusal : goal.returns-else-is_shown-clause-refusal
returns-else-is_shown-clause-refusal c = (
  c.requires.lost,
  c.requires.held,
  λ shown. true≢false (sym ((rw c.of-position.ensures at c.is_shown.ensures).1 shown) ∙ c.if-is_shown.false),
)
