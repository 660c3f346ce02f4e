-- A legal setup has at most two of each kind in each hand.
use Rattle.std.proofs.Common.{arith}
use Rattle.dob_pieces.specs.declared.kind.HandKind.TheVariants as hand
use Rattle.dob_pieces.specs.declared.setup.Setup.{Setup}
use Rattle.dob_pieces.specs.Setups.{IsLegal, total}
use Rattle.dob_foreign.specs.Texts.{AreFew}

pub few_own : (p : Setup) → IsLegal p → AreFew p.hands.mover
unfolding total
few_own p legal =
    let chicks = legal.few hand.Chick in let elephants = legal.few hand.Elephant in let giraffes = legal.few hand.Giraffe in
    record { chicks = omega (arith, chicks); elephants = omega (arith, elephants); giraffes = omega (arith, giraffes) }

pub few_theirs : (p : Setup) → IsLegal p → AreFew p.hands.enemy
unfolding total
few_theirs p legal =
    let chicks = legal.few hand.Chick in let elephants = legal.few hand.Elephant in let giraffes = legal.few hand.Giraffe in
    record { chicks = omega (arith, chicks); elephants = omega (arith, elephants); giraffes = omega (arith, giraffes) }
