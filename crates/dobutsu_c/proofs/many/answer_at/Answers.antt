-- A position's answer is that of its text.
use Rattle.dobutsu_c.proofs.Common.{inl, refl, text_of}
use Rattle.dobutsu_c.proofs.many.answer_at.Goals as goal

pub returns-in-Ok : goal.returns-in-Ok
returns-in-Ok c =
    let position = c.in-Ok.position in inl (
      position.setup,
      position.legal,
      c.in-Ok.ensures,
      c.answer_position-fault.ensures (text_of position.setup) (position.legal, record { squares = position.legal.squares; spelled = refl }),
    )
