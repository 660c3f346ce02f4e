-- A win shows by both lists where it has more than one ply.
use Rattle.dob_certificate.proofs.Common.{◌≡◌, arith, false, rules}
use Rattle.dob_certificate.proofs.claim.shows_win.Goals as goal

pub returns-then-plies-lt2 : goal.returns-then-plies-lt2
returns-then-plies-lt2 g c =
    (λ here. (c.shows_won.ensures.0 here, λ two. absurd (omega (arith, two, c.if-plies-lt2.true))), λ shown. c.shows_won.ensures.1 shown.0)

pub returns-then-shows_won : goal.returns-then-shows_won
returns-then-shows_won g c =
    (λ safe. (c.shows_won-2.ensures.0 (search rules), λ two. c.is_safe.ensures.0 safe), λ shown. c.is_safe.ensures.1 (shown.1 c.if-plies-lt2.false))

pub returns-else-shows_won : goal.returns-else-shows_won
returns-else-shows_won g c = (
  λ here. let none : c.shows_won-2.result ≡ false = search rules in absurd (cc),
  λ shown. c.shows_won-2.ensures.1 shown.0,
)
