-- The digits of the class's spot make its representative.
use Rattle.dob_classes.proofs.Common.{◌*◌, ◌+◌, refl, subst, Family, HasBlock, HasDigits-spot, block_bases, local_bases, made_by, number_of, product}
use Rattle.dob_rank.proofs.Positions.Found.{made_same}
use Rattle.dob_classes.proofs.OfFamilies.FamilyNumbers.{IsAtClass}
use Rattle.dob_classes.proofs.OfFamilies.FamilyRepresentatives.{setup_at_class}
use Rattle.dob_classes.proofs.Tables.FamilyBlocks.{IsSpotOf, at_spot_in, spot_in_block}
use Rattle.dob_classes.proofs.classes.Classes.class_at.Goals as goal
use Rattle.dob_classes.proofs.classes.Classes.class_at.Goals.{After-digits_at-digits, After-setup_of}

spot : (c : After-digits_at-digits) → IsSpotOf c.block_of-block.result.now.family c.block_of-block.result.now c.spot_at.result.run c.spot_at.result.local
spot c = (let block = c.block_of-block.result.now in
    spot_in_block block.family c.spot_at.result.run c.spot_at.result.local block refl c.spot_at.ensures.run c.spot_at.ensures.local)

pub setup_of-requires : goal.setup_of-requires
setup_of-requires c =
    let block = c.block_of-block.result.now in
    let at = spot (goal.at.setup_of-requires c).After-digits_at-digits in
    record {
      on_board = at.on_board_has;
      digits = HasDigits-spot block.family.set block.on_board c.spot_at.result.run c.spot_at.result.local _ at.run_below at.local_below
          c.digits_at-digits.ensures;
    }

made : (c : After-setup_of) → let block = c.block_of-block.result.now in
    HasBlock block.family.set (number_of (block_bases block.family.set) block.on_board)
    (c.spot_at.result.run * product (local_bases block.on_board) + c.spot_at.result.local) c.setup_of.result
made c =
    let block = c.block_of-block.result.now in
    let at = spot_in_block block.family c.spot_at.result.run c.spot_at.result.local block refl c.spot_at.ensures.run c.spot_at.ensures.local in
    made_by block.family.set block.on_board c.spot_at.result.run c.spot_at.result.local _ _ at.on_board_has at.run_below at.local_below
    c.digits_at-digits.ensures c.setup_of.ensures

pub new-requires : goal.new-requires
new-requires c = (made (goal.at.new-requires c).After-setup_of).position.legal

pub returns : goal.returns
returns c =
    let block = c.block_of-block.result.now in
    let there = made_same block.family.set _ _ c.setup_of.result c.new.result.setup c.new.ensures (made (goal.at.returns c).After-setup_of) in
    let at : IsAtClass c.args.self.now.family c.new.result.setup c.args.class = subst (λ (f : Family). IsAtClass f c.new.result.setup c.args.class)
    c.block_of-block.ensures.family
    (at_spot_in block.family c.spot_at.result.run c.spot_at.result.local c.args.class block c.new.result.setup refl c.spot_at.ensures.mark
    c.spot_at.ensures.class there) in
    record {
      representative = at.representative;
      class = at.before;
      number = at.number_is;
      setup = setup_at_class c.args.self.now.family c.new.result.setup c.args.class at;
    }
