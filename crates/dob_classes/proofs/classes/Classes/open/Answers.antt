-- Each block goes to the end of the list, and begins with the classes that the one before it ends with.
use Rattle.dob_classes.proofs.Common.{◌∙◌, ◌≡◌, arith, sym, block_bases, product}
use Rattle.dob_classes.proofs.Tables.FamilyBlocks.{AreBlocks-none, AreBlocks-push, new_block, no_classes_yet, classes_all}
use Rattle.dob_classes.proofs.classes.Classes.open.Goals as goal

pub loop-number-init : goal.loop-number-init
loop-number-init c = record {
  blocks_are = AreBlocks-none c.args.family c.new-blocks.result.items c.new-blocks.ensures.items;
  long = c.new-blocks.ensures.len;
  count_is = no_classes_yet c.args.family;
}

pub loop-number-preserved : goal.loop-number-preserved
loop-number-preserved c =
    let block = c.in_ok-block.block in
    let new = new_block c.args.family c.loop-number.number block c.in_ok-block.ensures.family c.in_ok-block.ensures.number in
    record {
      blocks_are = AreBlocks-push c.args.family c.loop-number.blocks.items _ block c.loop-number.number c.loop-number.invariant.blocks_are
          (sym c.loop-number.blocks.ok.0 ∙ c.loop-number.invariant.long) new.is c.in_ok-push.ensures.items;
      long = omega (arith, c.in_ok-push.ensures.len, c.loop-number.invariant.long);
      count_is = new.after_is;
    }

pub invariant_of-result : goal.invariant_of-result
invariant_of-result c =
    let number : c.loop-number.number ≡ product (block_bases c.args.family.set) =
    omega (arith, c.blocks-number-end.ensures.value, c.loop-number.auto.number-end, c.loop-number-test.false) in
    record {
      whole = c.loop-number.invariant.long ∙ number;
      table = c.loop-number.invariant.blocks_are;
      counted = classes_all c.args.family c.loop-number.number c.loop-number.count number c.loop-number.invariant.count_is;
    }
