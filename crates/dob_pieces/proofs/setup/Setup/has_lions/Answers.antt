-- Each side has one lion where both counts are 1.
use Rattle.dob_pieces.proofs.Common.{◌∙◌, sym, eq-eqb, eqb-true, Enemy, Mover}
use Rattle.dob_pieces.proofs.Legality.{HasLions-from_counts}
use Rattle.dob_pieces.proofs.setup.Setup.has_lions.Goals as goal

pub returns-then-lions-eq1 : goal.returns-then-lions-eq1
returns-then-lions-eq1 c = (
  λ t. HasLions-from_counts c.args.self.now (sym c.lions.ensures ∙ c.if-lions-eq1.true) (sym c.lions-then-lions-eq1.ensures ∙ eqb-true _ _ t),
  λ h. eq-eqb _ _ (c.lions-then-lions-eq1.ensures ∙ h Enemy),
)

pub returns-else-lions-eq1 : goal.returns-else-lions-eq1
returns-else-lions-eq1 c =
    (λ t. absurd (c.if-lions-eq1.false (eqb-true _ _ t)), λ h. eq-eqb _ _ (c.lions.ensures ∙ h Mover))
