-- What a list of supported entries says to be lost is so.
use Rattle.dob_certificate.proofs.Common.{◌≡◌, false, rules}
use Rattle.dob_certificate.proofs.Bounds.{said_lost}
use Rattle.dob_certificate.proofs.verifying.is_lost_within.Goals as goal

pub returns-then-supports_all_lost-clause-lost : goal.returns-then-supports_all_lost-clause-lost
returns-then-supports_all_lost-clause-lost c = λ here.
    said_lost c.args.classes.now.family c.args.certificate.now.lost (c.supports_all_lost.ensures.0 (search rules)) c.args.plies
    c.args.position.now.setup ((rw c.of.ensures at c.is_said_lost.ensures).0 here)

pub returns-then-supports_all_lost-clause-proof : goal.returns-then-supports_all_lost-clause-proof
returns-then-supports_all_lost-clause-proof c =
    (λ here. (c.supports_all_lost.ensures.0 (search rules), (rw c.of.ensures at c.is_said_lost.ensures).0 here), λ both. (rw c.of.ensures at c.is_said_lost.ensures).1 both.1)

pub returns-else-supports_all_lost-clause-proof : goal.returns-else-supports_all_lost-clause-proof
returns-else-supports_all_lost-clause-proof c =
    (λ here. let none : c.supports_all_lost.result ≡ false = search rules in absurd (cc), λ both. c.supports_all_lost.ensures.1 both.0)

pub is_said_lost-requires-clause-member : goal.is_said_lost-requires-clause-member
is_said_lost-requires-clause-member c = rw c.of.ensures c.requires
