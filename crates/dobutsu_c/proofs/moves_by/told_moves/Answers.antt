-- The moves were listed, or the numbers lead outside of the file, or memory ran out.
use Rattle.dobutsu_c.proofs.IndexedMoves.{gap_told}
use Rattle.dobutsu_c.proofs.moves_by.told_moves.Goals as goal

pub returns-in-Ok-moves_by-clause-told : goal.returns-in-Ok-moves_by-clause-told
returns-in-Ok-moves_by-clause-told c =
    let held = c.in-Ok.asked.held in
    (held.format, held.family, held.classes, c.in-Ok.asked.position.setup, c.in-Ok.ensures, c.in-Ok-moves_by.ensures.moves tt tt)

pub returns-in-Err-moves_by-clause-told : goal.returns-in-Err-moves_by-clause-told
returns-in-Err-moves_by-clause-told c =
    let held = c.in-Ok.asked.held in
    rw c.number_of.ensures.number (gap_told c.args.file.now c.args.by held.format held.family held.classes c.in-Ok.asked.position.setup c.args.text.now
    c.in-Err-moves_by.gap c.in-Ok.ensures (c.in-Err-moves_by.ensures.fault tt tt))
