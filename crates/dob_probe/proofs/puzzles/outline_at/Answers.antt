-- The class's representative is the one that its number gives, and has one lion a side.
use Rattle.dob_probe.proofs.puzzles.outline_at.Goals as goal

pub returns : goal.returns
returns c = λ played.
    let here = (rw c.classes.ensures.family at c.class_at.ensures).setup in
    record { lions = rw here at c.class_at.result.legal.lions; same = rw here at c.outline_of.ensures }
