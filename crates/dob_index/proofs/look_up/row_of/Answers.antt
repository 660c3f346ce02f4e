-- The row's own numbers, which are small.
use Rattle.dob_index.proofs.Common.{◌%◌, ◌+◌, ◌∙◌, ap, arith, get_or, ℕ, classes_to_block, classes_few}
use Rattle.dob_index.proofs.Read.{row_read, row_small}
use Rattle.dob_index.proofs.look_up.row_of.Goals as goal

pub returns : goal.returns
returns c = λ family within is.
    let block = c.args.block in
    let lions = c.args.run % 99 in
    let words = c.args.words.now in
    let row = c.row_at-row.ensures in
    let in_row = λ (i : ℕ). ap (λ (at : ℕ). get_or words (at + i) 0) row in
    let before = in_row 100 ∙ (is.rows block within).before_is in
    let few = classes_few family block (omega (arith, within)) in
    let hand_small = row_small family block 99 words is within (omega arith) in
    let hand = in_row 99 in
    let run_small = row_small family block lions words is within (omega arith) in
    let run = in_row lions in
    record {
      before_is = c.word.ensures.value (omega (arith, before, few)) ∙ before;
      hand_is = ap (λ (n : ℕ). classes_to_block family block + n) (c.word-2.ensures.value (omega (arith, hand_small, hand)) ∙ hand)
          ∙ row_read family block 99 words is within (omega arith);
      run_is = ap (λ (n : ℕ). classes_to_block family block + n) (c.word-3.ensures.value (omega (arith, run_small, run)) ∙ run)
          ∙ row_read family block lions words is within (omega arith);
    }
