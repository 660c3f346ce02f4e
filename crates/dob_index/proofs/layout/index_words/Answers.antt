-- Each block adds its own entries.
use Rattle.dob_index.proofs.Common.{◌∙◌, ◌≡◌, ap, arith, ℕ, blocks_small, block_bases, product, entries_at}
use Rattle.dob_index.proofs.Places.{words_few, run_within, block_more}
use Rattle.dob_index.proofs.layout.index_words.Goals as goal

pub overflow_add-count : goal.overflow_add-count
overflow_add-count c =
    let low = c.loop-block-test.true in
    let blocks = c.count_blocks-blocks.ensures in
    omega (
      arith,
      run_within c.args.set c.loop-block.block 99 (omega (arith, low, blocks)) (omega arith),
      words_few c.args.set,
      c.loop-block.invariant,
      c.block_words-count.ensures,
    )

pub loop-block-preserved : goal.loop-block-preserved
loop-block-preserved c = omega (arith, block_more c.args.set c.loop-block.block, c.loop-block.invariant, c.block_words-count.ensures)

pub row_at-count-requires : goal.row_at-count-requires
row_at-count-requires c = (let few = blocks_small c.args.set in let is = c.count_blocks-blocks.ensures in omega (arith, few, is))

pub returns : goal.returns
returns c =
    let same : c.loop-block.block ≡ product (block_bases c.args.set) = omega (arith, c.count_blocks-blocks.ensures, c.loop-block.auto.block-end, c.loop-block-test.false) in
    let whole = c.loop-block.invariant ∙ ap (λ (n : ℕ). entries_at c.args.set n 0) same in
    let few = words_few c.args.set in
    record { value = whole; bound = omega (arith, whole, few) }
