-- What is found of the class's representative is found of the class.
use Rattle.dob_probe.proofs.Common.{◌≡◌, arith, refl, rules, slice_get_within, class_setup, Win}
use Rattle.dob_rank.specs.Families.{RepresentsClass}
use Rattle.dob_value.proofs.Rows.{class_setup_is}
use Rattle.dob_probe.proofs.OnlyMoves.{puzzle_missing}
use Rattle.dob_probe.proofs.puzzles.puzzle_of.Goals as goal
use Rattle.dob_probe.proofs.puzzles.puzzle_of.Goals.{After-value}

-- the representative of the class
represents : (c : After-value) → RepresentsClass c.args.table.now.family (class_setup c.args.table.now.family c.args.class) c.args.class
represents c =
    class_setup_is c.args.table.now.family c.args.class c.class_count.result c.class_count.ensures.count (omega (arith, c.if-class-class_count.false))

pub returns-in-None : goal.returns-in-None
returns-in-None c =
    let is = represents (goal.at.returns-in-None c).After-value in
    let won : c.value.result ≡ Win c.args.plies = search rules in
    puzzle_missing c.args.table.now c.args.plies c.args.class (class_setup c.args.table.now.family c.args.class)
    (record { represents = is.0; number = is.1; entry = rw won at c.value.ensures }) (rw c.in-None.is at c.single_move.ensures)

pub returns-then-class-class_count : goal.returns-then-class-class_count
returns-then-class-class_count c = λ puzzle is given.
    let low = slice_get_within c.args.table.now.values puzzle.class _ given.won.entry in
    omega (arith, low, is, c.class_count.ensures.length, c.if-class-class_count.true)

pub returns-in-Some : goal.returns-in-Some
returns-in-Some c =
    let is = represents (goal.at.returns-in-Some c).After-value in
    let won : c.value.result ≡ Win c.args.plies = search rules in (
      refl,
      record {
        representative = (class_setup c.args.table.now.family c.args.class);
        won = record { represents = is.0; number = is.1; entry = rw won at c.value.ensures };
        solved = c.in-Some.ensures;
      },
    )
