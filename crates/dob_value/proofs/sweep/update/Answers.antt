-- A draw that stands for a class not yet settled is written over where the class is won or lost one ply later.
use Rattle.std.proofs.Common.{sym, ◌∙◌}
use Rattle.dob_value.proofs.Tables.{successors_told, open_here, swept_written}
use Rattle.dob_value.proofs.sweep.update.Goals as goal

pub next_value-value-requires-clause-told : goal.next_value-value-requires-clause-told
next_value-value-requires-clause-told c =
    successors_told c.args.depth c.args.number c.args.graph.now.family c.args.values.now _ _ _ c.requires.swept
    (c.requires.graph.known c.args.number c.requires.within)

pub next_value-value-requires-clause-not_won : goal.next_value-value-requires-clause-not_won
next_value-value-requires-clause-not_won c =
    (open_here c.args.depth c.args.number c.args.graph.now.family c.args.values.now _ c.requires.swept c.requires.within c.entry_at.ensures
    (sym c.is_draw.ensures ∙ c.if-not-is_draw.false)).0

pub next_value-value-requires-clause-not_lost : goal.next_value-value-requires-clause-not_lost
next_value-value-requires-clause-not_lost c =
    (open_here c.args.depth c.args.number c.args.graph.now.family c.args.values.now _ c.requires.swept c.requires.within c.entry_at.ensures
    (sym c.is_draw.ensures ∙ c.if-not-is_draw.false)).1

pub returns-clause-swept : goal.returns-clause-swept
returns-clause-swept c =
    swept_written c.args.depth c.args.number c.args.graph.now.family c.args.values.now _ c.requires.within c.requires.swept
    c.next_value-value.ensures.cut_off

pub returns-clause-found : goal.returns-clause-found
returns-clause-found c _ =
    (c.args.number, c.requires.within, c.next_value-value.ensures.distance (sym c.is_draw-2.ensures ∙ c.if-is_draw.false))
