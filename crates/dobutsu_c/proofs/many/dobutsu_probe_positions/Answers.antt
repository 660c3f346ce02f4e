-- Each position's answer stays.
use Rattle.dobutsu_c.proofs.Common.{◌<◌, ◌∙◌, arith, get_or, length, ℕ, length-set, IsAnswerAt, DobutsuAnswer, Numbering}
use Rattle.dobutsu_c.proofs.Common.{DobutsuPosition}
use Rattle.dobutsu_c.specs.declared.numbering.Numbering.TheVariants as numbering
use Rattle.dobutsu_c.proofs.Answered.{one_written, others_left, read_there}
use Rattle.dobutsu_c.proofs.many.dobutsu_probe_positions.Goals as goal

pub loop-place-preserved : goal.loop-place-preserved
loop-place-preserved c =
    let loop = c.loop-place in
    let file = c.args.file.now in
    let index : Numbering = numbering.Index c.args.index in
    let positions = c.args.positions.now in
    let old = c.args.answers.now in
    let P = λ (k : ℕ) (before after : DobutsuAnswer). (d : DobutsuPosition) → IsAnswerAt file index (get_or positions k d) before after in
    let within : loop.place < length loop.answers = omega (arith, loop.invariant.size, c.loop-place-test.true, c.min-count.ensures) in
    let there : loop.place < length positions = omega (arith, c.loop-place-test.true, c.min-count.ensures) in
    let answers = λ (k : ℕ) (e : DobutsuAnswer) (below : k < loop.place) (d : DobutsuPosition). loop.invariant.answers k d e below in
    record {
      size = length-set loop.answers loop.place c.answer_at.result ∙ loop.invariant.size;
      answers = λ k d e below. one_written P old loop.answers loop.place c.answer_at.result within answers loop.invariant.others
          (λ e d. read_there (λ (numbers : DobutsuPosition) (before : DobutsuAnswer). IsAnswerAt file index numbers before c.answer_at.result) positions
          loop.answers old loop.place _ d _ e there within (loop.invariant.others loop.place e (omega arith)) c.answer_at.ensures) k e below d;
      others = others_left P old loop.answers loop.place c.answer_at.result within answers loop.invariant.others;
    }

pub returns-clause-answers : goal.returns-clause-answers
returns-clause-answers c = record {
  answers = λ place d e within room. c.loop-place.invariant.answers place d e
      (omega (arith, within, room, c.min-count.ensures, c.loop-place-test.false, c.loop-place.invariant.size));
  others = λ place e behind. c.loop-place.invariant.others place e (omega (arith, behind, c.min-count.ensures, c.loop-place-test.false));
}
