-- By the enemy lion's square, and the pieces that attack it.
use Rattle.dob_unmove.proofs.Undone.{turned_squares, turned_lions}
use Rattle.dob_unmove.proofs.attackers.Threat.of.Goals as goal

pub enemy_lion_square-lion-requires : goal.enemy_lion_square-lion-requires
enemy_lion_square-lion-requires c =
    let legal = c.requires.1 in
    (c.requires.0, (turned_squares c.requires.0 legal, turned_lions c.requires.0 legal), c.requires.2)

pub returns : goal.returns
returns c = λ after legal are. record {
  lion = c.enemy_lion_square-lion.ensures after (turned_squares after legal, turned_lions after legal) are;
  attackers = c.attackers_in.ensures after c.enemy_lion_square-lion.result (c.attackers.ensures after are);
}
