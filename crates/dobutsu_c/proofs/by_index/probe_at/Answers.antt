-- The numbers lead to a record of the file, or outside of it.
use Rattle.dobutsu_c.proofs.Common.{inr, refl, text_of}
use Rattle.dobutsu_c.proofs.by_index.probe_at.Goals as goal

pub value_by-requires-clause-held : goal.value_by-requires-clause-held
value_by-requires-clause-held c =
    let position = c.args.position in
    (c.in-Ok.ensures (text_of position.setup) (position.legal, record { squares = position.legal.squares; spelled = refl })).held

pub value_by-requires-clause-member : goal.value_by-requires-clause-member
value_by-requires-clause-member c =
    let position = c.args.position in
    (c.in-Ok.ensures (text_of position.setup) (position.legal, record { squares = position.legal.squares; spelled = refl })).member

pub returns-in-None : goal.returns-in-None
returns-in-None c = λ text named.
    let held = c.in-Ok.asked.held in
    let asked = c.in-Ok.ensures text named in
    (held.format, held.family, c.in-Ok.asked.position.setup, asked.named, inr (c.in-None.ensures, inr (held.classes, asked.held, asked.member)))
