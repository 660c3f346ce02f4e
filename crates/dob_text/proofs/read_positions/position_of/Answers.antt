-- Each answer of `Position::of` says what it means, and a position is looked at once more by the profile.
use Rattle.dob_text.proofs.Common.{Err, ap, refl, subst, sym, both_ways, IsAllowed, Setup}
use Rattle.dob_pieces.specs.declared.fault.PositionFault.{PositionFault}
use Rattle.dob_text.proofs.read_positions.position_of.Goals as goal

pub returns-then-is_allowed : goal.returns-then-is_allowed
returns-then-is_allowed c = (
  c.in-Ok.ensures.legal.0 refl,
  subst (λ (s : Setup). IsAllowed c.args.profile s) c.in-Ok.ensures.setup (c.is_allowed.ensures.0 c.if-is_allowed.true),
  c.in-Ok.ensures.setup,
)

pub returns-else-is_allowed : goal.returns-else-is_allowed
returns-else-is_allowed c = (
  c.in-Ok.ensures.legal.0 refl,
  λ allowed. both_ways _ c.if-is_allowed.false
      (c.is_allowed.ensures.1 (subst (λ (s : Setup). IsAllowed c.args.profile s) (sym c.in-Ok.ensures.setup) allowed)),
)

pub returns-in-Err-Count : goal.returns-in-Err-Count
returns-in-Err-Count c = c.in-Err-Count.ensures.count.0 (ap (λ (f : PositionFault). Err f) c.in-Err-Count.field-0-is)

pub returns-in-Err-FarLion : goal.returns-in-Err-FarLion
returns-in-Err-FarLion c = c.in-Err-FarLion.ensures.far_lion.0 (ap (λ (f : PositionFault). Err f) c.in-Err-FarLion.field-0-is)
