-- Each text is read from where the one before ended, and its answer stays.
use Rattle.dobutsu_c.proofs.Common.{◌-◌, ◌<◌, ◌∙◌, ◌≡◌, List, ap, arith, drop, get_or, length, refl, subst, sym, take, ℕ, get_or_default, length-set}
use Rattle.dobutsu_c.proofs.Common.{IsAnswerOf, text_at, DobutsuAnswer, Numbering}
use Rattle.dobutsu_c.specs.declared.numbering.Numbering.TheVariants as numbering
use Rattle.dobutsu_c.proofs.Answered.{begins_next, one_written, others_left}
use Rattle.dobutsu_c.proofs.many.dobutsu_probe_many.Goals as goal

pub loop-place-init : goal.loop-place-init
loop-place-init c = record {
  begins = refl;
  size = refl;
  answers = λ k e below. absurd (omega (arith, below));
  others = λ k e above. refl;
}

pub loop-place-preserved : goal.loop-place-preserved
loop-place-preserved c =
    let loop = c.loop-place in
    let file = c.args.file.now in
    let index : Numbering = numbering.Index c.args.index in
    let texts = c.args.texts.now in
    let ends = c.args.ends.now in
    let old = c.args.answers.now in
    let P = λ (k : ℕ) (before after : DobutsuAnswer). IsAnswerOf file index (text_at texts ends k) before after in
    let within : loop.place < length loop.answers = omega (arith, loop.invariant.size, c.loop-place-test.true, c.min-count.ensures) in
    let text : c.text_between.result.now ≡ text_at texts ends loop.place =
    c.text_between.ensures ∙ ap (λ (start : ℕ). take (get_or ends loop.place 0 - start) (drop start texts)) loop.invariant.begins in
    record {
      begins = sym (begins_next ends loop.place);
      size = length-set loop.answers loop.place c.answer_by.result ∙ loop.invariant.size;
      answers = one_written P old loop.answers loop.place c.answer_by.result within loop.invariant.answers loop.invariant.others (λ e.
          subst (λ (t : List ℕ). IsAnswerOf file index t (get_or old loop.place e) c.answer_by.result) text
          (subst (λ (before : DobutsuAnswer). IsAnswerOf file index c.text_between.result.now before c.answer_by.result)
          (get_or_default loop.answers loop.place _ e within ∙ loop.invariant.others loop.place e (omega arith)) c.answer_by.ensures));
      others = others_left P old loop.answers loop.place c.answer_by.result within loop.invariant.answers loop.invariant.others;
    }
