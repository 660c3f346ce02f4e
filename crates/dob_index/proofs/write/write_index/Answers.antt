-- The blocks before stay where one more is written, and all of them where the first three numbers are.
use Rattle.dob_index.proofs.Common.{◌<◌, ◌∙◌, ◌≡◌, ◌≤◌, ap, arith, inl, inr, refl, slice_set, subst, ℕ, cases_lt, block_bases, product, lion_pairs, classes_all}
use Rattle.dob_index.proofs.Common.{no_classes_yet, IsKeptBlock, entries_at, row_at, words_of}
use Rattle.dob_index.proofs.Places.{block_more, run_within, after_rows, words_few}
use Rattle.dob_index.proofs.Kept.{block_stays, headed}
use Rattle.dob_index.proofs.write.write_index.Goals as goal

pub loop-block-init : goal.loop-block-init
loop-block-init c = record {
  size = c.requires;
  before = no_classes_yet c.args.family;
  at = (let row = c.row_at-at.ensures ∙ ap row_at c.count_blocks-blocks.ensures in omega (arith, row));
  blocks_are = λ b low. absurd (omega (arith, low));
  others = λ i behind. refl;
}

pub loop-block-preserved : goal.loop-block-preserved
loop-block-preserved c =
    let set = c.args.family.set in
    let block = c.loop-block.block in
    let low : block < product (block_bases set) = omega (arith, c.loop-block-test.true, c.count_blocks-blocks.ensures) in
    let at = c.loop-block.invariant.at in
    let size = c.loop-block.invariant.size in
    let rows = after_rows set block 0 in
    let behind : row_at (product (block_bases set)) ≤ c.loop-block.at = omega (arith, rows, at) in
    let next = c.write_block-classes.ensures.first in
    let more = block_more set block in
    let all = after_rows set (product (block_bases set)) 0 in
    let upto = run_within set block lion_pairs low (omega arith) in
    let further : c.loop-block.at ≤ c.write_block-classes.result.1 = omega (arith, at, next, more) in
    record {
      size = (let long = c.write_block-classes.ensures.size in omega (arith, long, size));
      before = c.write_block-classes.ensures.before;
      at = next;
      blocks_are = λ b below. elim (cases_lt b block) [
        | inl lt ↦ block_stays c.args.family b c.loop-block.at c.write_block-classes.result.1 c.loop-block.words c.write_block-classes.new.words further
            (λ i from upto. c.write_block-classes.ensures.others i (inl (omega (arith, upto, lt))) (inl (omega (arith, upto, lt, low, behind))))
            (λ i from upto. c.write_block-classes.ensures.others i (inr (omega (arith, from, low))) (inl upto))
            (c.loop-block.invariant.blocks_are b lt)
        | inr ge ↦ subst (λ (n : ℕ). IsKeptBlock c.args.family n c.write_block-classes.result.1 c.write_block-classes.new.words)
            (let e : block ≡ b = omega (arith, ge, below) in e) c.write_block-classes.ensures.block
      ];
      others = λ i after.
          c.write_block-classes.ensures.others i (inr (omega (arith, all, low, after))) (inr (omega (arith, next, more, upto, after)))
          ∙ c.loop-block.invariant.others i after;
    }

pub returns : goal.returns
returns c =
    let family = c.args.family in
    let set = family.set in
    let words = c.loop-block.words in
    let all : c.loop-block.block ≡ product (block_bases set) = omega (arith, c.loop-block.auto.block-end, c.loop-block-test.false, c.count_blocks-blocks.ensures) in
    let size = c.loop-block.invariant.size in
    let end : c.loop-block.at ≡ words_of set = c.loop-block.invariant.at ∙ ap (λ (n : ℕ). entries_at set n 0) all in
    let rows = after_rows set (product (block_bases set)) 0 in
    let few = words_few set in
    let head = headed words c.mark_of.result c.loop-block.before c.loop-block.at (omega (arith, rows, size)) in
    let kept : (b : ℕ) → b < product (block_bases set) → IsKeptBlock family b c.loop-block.at
    (slice_set (slice_set (slice_set words 0 c.mark_of.result) 1 c.loop-block.before) 2 c.loop-block.at) = λ b low.
    block_stays family b c.loop-block.at c.loop-block.at words _ (omega arith) (λ i from upto. head.others i (omega (arith, from)))
    (λ i from upto. head.others i (omega (arith, from))) (c.loop-block.invariant.blocks_are b (omega (arith, low, all))) in
    record {
      index = record {
        marked = record {
          mark_is = head.first_is ∙ c.mark_of.ensures;
          length_is = head.third_is ∙ end;
          whole = (let long = head.size in omega (arith, long, size));
        };
        count_is = head.second_is ∙ classes_all family c.loop-block.block c.loop-block.before all c.loop-block.invariant.before;
        rows = λ block low. (kept block low).row;
        runs = λ block lions low below. ((kept block low).runs lions below).next;
        entries = λ block lions low below kind. ((kept block low).runs lions below).entries kind;
        small = λ block lions low below kind. (let upto = ((kept block low).runs lions below).within kind in omega (arith, upto, end, few));
      };
      others = λ i behind. head.others i (omega (arith, rows, behind)) ∙ c.loop-block.invariant.others i behind;
    }
