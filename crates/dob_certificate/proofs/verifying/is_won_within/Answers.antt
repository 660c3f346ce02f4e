-- What is shown to be won is so.
use Rattle.dob_certificate.proofs.Common.{◌≡◌, false, rules}
use Rattle.dob_certificate.proofs.Exact.{shown_won}
use Rattle.dob_certificate.proofs.verifying.is_won_within.Goals as goal

pub returns-then-supports_all_lost-clause-won : goal.returns-then-supports_all_lost-clause-won
returns-then-supports_all_lost-clause-won c = λ here.
    shown_won c.args.classes.now.family c.args.certificate.now.lost c.args.position.now.setup (c.supports_all_lost.ensures.0 (search rules))
    c.args.plies ((rw c.of.ensures at c.shows_won.ensures).0 here)

pub returns-then-supports_all_lost-clause-proof : goal.returns-then-supports_all_lost-clause-proof
returns-then-supports_all_lost-clause-proof c =
    (λ here. (c.supports_all_lost.ensures.0 (search rules), (rw c.of.ensures at c.shows_won.ensures).0 here), λ both. (rw c.of.ensures at c.shows_won.ensures).1 both.1)

pub returns-else-supports_all_lost-clause-proof : goal.returns-else-supports_all_lost-clause-proof
returns-else-supports_all_lost-clause-proof c =
    (λ here. let none : c.supports_all_lost.result ≡ false = search rules in absurd (cc), λ both. c.supports_all_lost.ensures.1 both.0)

pub shows_won-requires-clause-member : goal.shows_won-requires-clause-member
shows_won-requires-clause-member c = rw c.of.ensures c.requires
