-- A class that is won, or whose representative or its turn isn't open, has no pair.
use Rattle.dob_zugzwang.proofs.Common.{subst, Family, RepresentsClass, AreBothOpen}
use Rattle.dob_moves.specs.Shown.{setup_on}
use Rattle.dob_zugzwang.proofs.Pairing.{both_open, no_win}
use Rattle.dob_zugzwang.proofs.pairs.pair_at.Goals as goal

pub returns-then-is_win : goal.returns-then-is_win
returns-then-is_win c = λ pair same.
    let won = c.is_win.ensures.0 c.if-is_win.true in
    no_win c.args.table.now c.args.class pair same c.value-value.result won.0 c.value-value.ensures won.1

pub returns-in-None : goal.returns-in-None
returns-in-None c = λ pair same.
    let family = c.args.table.now.family in
    let position = setup_on c.representative_of-position.result.board in
    let represents : RepresentsClass family position c.args.class
    = subst (λ (f : Family). RepresentsClass f position c.args.class) c.classes.ensures.family c.representative_of-position.ensures.represents in
    let closed : ¬ AreBothOpen family.profile position = subst (λ (f : Family). ¬ AreBothOpen f.profile position) c.family.ensures.family (rw c.in-None.is at c.open_turn.ensures) in
    both_open c.args.table.now c.args.class pair same position represents closed

pub pair_with-requires-clause-turn : goal.pair_with-requires-clause-turn
pair_with-requires-clause-turn c = record {
  representative = setup_on c.representative_of-position.result.board;
  represents = rw c.classes.ensures.family at c.representative_of-position.ensures.represents;
  opens = rw c.family.ensures.family at c.in-Some.ensures.1;
  same = c.in-Some.ensures.0;
}
