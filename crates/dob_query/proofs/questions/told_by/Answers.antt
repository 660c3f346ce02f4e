-- A position has one value as it is said, so what is said after the moves are their values.
use Rattle.dob_query.proofs.Common.{◌∙◌, ap}
use Rattle.dob_probe.proofs.ByValue.{said_valued}
use Rattle.dob_query.specs.Questions.{moves_told}
use Rattle.dob_query.proofs.questions.told_by.Goals as goal

pub returns-in_ok-moves_told-in-Moves : goal.returns-in_ok-moves_told-in-Moves
returns-in_ok-moves_told-in-Moves g c =
    let family = c.args.classes.now.family in
    let p = c.args.position.now.setup in
    let legal = c.in_ok-legal-in-Moves in
    rw c.in-Moves.is (record {
      ok = λ held holds. (
        legal.legal.items,
        said_valued family (g.V.ValueSource.says c.args.by.now held) (g.V.ValueSource.says c.args.by.now held) (λ q v says. says) (c.requires.single held) p c.requires.member
            legal.legal.items (legal.ensures.moves held holds),
        c.in_ok-moves_told-in-Moves.ensures ∙ ap (moves_told c.in-Moves.form p) c.deref.ensures.value,
      );
      fault = λ held holds. tt;
      still = legal.ensures.held;
      failed = legal.ensures.failed;
    })
