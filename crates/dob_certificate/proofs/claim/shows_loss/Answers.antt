-- A loss shows by both lists.
use Rattle.dob_certificate.proofs.Common.{◌≡◌, arith, false, rules, nat_tests}
use Rattle.dob_certificate.proofs.claim.shows_loss.Goals as goal

pub returns-then-plies-eq0 : goal.returns-then-plies-eq0
returns-then-plies-eq0 g c = (
  λ here. (c.is_said_lost.ensures.0 (search rules), λ some. absurd (omega (arith, some, c.if-plies-eq0.true))),
  λ shown. grind (arith, nat_tests, c.if-plies-eq0.true),
)

pub returns-else-plies-eq0 : goal.returns-else-plies-eq0
returns-else-plies-eq0 g c = (
  λ held. (c.is_said_lost.ensures.0 (search rules), λ some. c.is_said_held.ensures.0 held),
  λ shown. c.is_said_held.ensures.1 (shown.1 (omega (arith, c.if-plies-eq0.false))),
)

pub returns-else-is_said_lost : goal.returns-else-is_said_lost
returns-else-is_said_lost g c = (
  λ here. let none : c.is_said_lost.result ≡ false = search rules in absurd (cc),
  λ shown. c.is_said_lost.ensures.1 shown.0,
)
