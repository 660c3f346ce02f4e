-- A draw shows by what the list says and by each move.
use Rattle.dob_certificate.proofs.Common.{◌≡◌, false, rules}
use Rattle.dob_certificate.proofs.claim.shows_draw.Goals as goal

pub returns-then-is_said_held : goal.returns-then-is_said_held
returns-then-is_said_held g c =
    (λ safe. (c.is_said_held.ensures.0 (search rules), c.is_safe.ensures.0 safe), λ shown. c.is_safe.ensures.1 shown.1)

pub returns-else-is_said_held : goal.returns-else-is_said_held
returns-else-is_said_held g c = (
  λ here. let none : c.is_said_held.result ≡ false = search rules in absurd (cc),
  λ shown. c.is_said_held.ensures.1 shown.0,
)
