-- The parts, the board and the hands, one after another.
use Rattle.std.proofs.lemmas.Grind.{common_steps}
use Rattle.std.proofs.Common.{arith}
use Rattle.dob_text.proofs.Common.{refl, AreParts}
use Rattle.dob_text.proofs.Whole.{shape_by, letters_by, no_mover, no_enemy, spelled_by, same_setup}
use Rattle.dob_text.proofs.setups.read_setup.Goals as goal

pub returns-in_default-hand_of : goal.returns-in_default-hand_of
returns-in_default-hand_of c =
    let parts : AreParts c.args.text.now _ _ _ = c.in-Some.ensures.1 in (
      shape_by _ _ _ _ c.in-Some.ensures.0 parts,
      letters_by _ _ _ _ c.in-Some-board_of.board parts c.in-Some-board_of.ensures.1,
      no_mover _ _ _ _ parts c.in_default-hand_of.ensures,
    )

pub returns-in_default-hand_of-2 : goal.returns-in_default-hand_of-2
returns-in_default-hand_of-2 c =
    let parts : AreParts c.args.text.now _ _ _ = c.in-Some.ensures.1 in (
      shape_by _ _ _ _ c.in-Some.ensures.0 parts,
      letters_by _ _ _ _ c.in-Some-board_of.board parts c.in-Some-board_of.ensures.1,
      no_enemy _ _ _ _ parts c.in_default-hand_of-2.ensures,
    )

pub returns : goal.returns
returns c =
    let parts : AreParts c.args.text.now _ _ _ = c.in-Some.ensures.1 in (
      record { board = c.in-Some-board_of.board; hands = record { mover = c.in-Some-hand_of.ensures.0; enemy = c.in-Some-hand_of-2.ensures.0 } },
      spelled_by _ _ _ _ c.in-Some-board_of.board c.in-Some-hand_of.ensures.0 c.in-Some-hand_of-2.ensures.0 parts c.in-Some-board_of.ensures.0
          c.in-Some-board_of.ensures.1 c.in-Some-hand_of.ensures.1 c.in-Some-hand_of-2.ensures.1,
      same_setup _ _ refl c.in-Some-hand_of.ensures.2 c.in-Some-hand_of-2.ensures.2,
    )

pub returns-in_default : goal.returns-in_default
returns-in_default c = grind (arith, common_steps)

pub returns-in_default-board_of : goal.returns-in_default-board_of
returns-in_default-board_of c = grind (arith, common_steps)
