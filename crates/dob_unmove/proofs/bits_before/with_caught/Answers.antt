-- by whether there is one
use Rattle.dob_unmove.proofs.Common.{Option, rules, subst, Kind, nothing_added, IsWith, enemy_cell}
use Rattle.dob_unmove.proofs.bits_before.with_caught.Goals as goal

pub returns-in-None : goal.returns-in-None
returns-in-None c = λ before after empty w are.
    nothing_added before after c.args.square (search rules) c.args.board are empty
    (subst (λ (o : Option Kind). IsWith before after c.args.square (enemy_cell o)) c.in-None.is w)

pub returns-in-Some : goal.returns-in-Some
returns-in-Some c = λ before after empty w are.
    c.with_enemy.ensures before after empty (subst (λ (o : Option Kind). IsWith before after c.args.square (enemy_cell o)) c.in-Some.is w) are
