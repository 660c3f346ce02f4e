-- A win shows by an answer in one ply less.
use Rattle.dob_certificate.proofs.Common.{arith}
use Rattle.dob_certificate.proofs.Cases.{lost_shown}
use Rattle.dob_certificate.proofs.claim.shows_won.Goals as goal

pub returns : goal.returns
returns g c =
    let given = lost_shown _ c.finds_won.result c.finds_won.ensures in
    (λ here. (omega (arith, c.if-plies-eq0.false), given.0 here), λ shown. given.1 shown.1)
