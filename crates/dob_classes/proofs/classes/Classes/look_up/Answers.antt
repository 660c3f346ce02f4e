-- The position's block knows its run and its number there.
use Rattle.dob_classes.proofs.Common.{◌∙◌, arith, Setup, block_of-below, IsShown}
use Rattle.dob_classes.proofs.Tables.FamilyBlocks.{IsSpotFor, spot_read}
use Rattle.dob_classes.proofs.classes.Classes.look_up.Goals as goal
use Rattle.dob_classes.proofs.classes.Classes.look_up.Goals.{After-index}

spot : (c : After-index) (setup : Setup) → IsShown c.args.self.now.family setup c.args.board.now
    → IsSpotFor c.args.self.now.family setup c.index.result.now.family c.index.result.now.number c.spot_in-block.result.1.run c.spot_in-block.result.1.local
spot c setup shown =
    let below = block_of-below c.args.self.now.family.set setup shown.position.of_set in
    let at = c.spot_in-block.ensures in
    spot_read c.args.self.now.family setup c.args.self.now.blocks.items _ _ _ c.index.result.now shown.position
    (at.block setup shown) (at.run setup shown) (at.local setup shown) c.args.self.now.table
    (omega (arith, below, at.block setup shown, c.args.self.now.whole, c.args.self.now.blocks.ok)) c.index.ensures

pub index-requires : goal.index-requires
index-requires c =
    let below = block_of-below c.args.self.now.family.set c.requires.0 c.requires.1.position.of_set in
    omega (arith, below, c.spot_in-block.ensures.block c.requires.0 c.requires.1, c.args.self.now.whole)

pub look_up-requires : goal.look_up-requires
look_up-requires c =
    let at_spot = spot (goal.at.look_up-requires c).After-index c.requires.0 c.requires.1 in
    record { run = at_spot.run_below; local = at_spot.number_below }

pub returns : goal.returns
returns c =
    let at_spot = spot (goal.at.returns c).After-index in
    record {
      mark = λ setup shown. c.look_up.ensures.mark ∙ (at_spot setup shown).mark_is;
      before = λ setup shown. c.look_up.ensures.before ∙ (at_spot setup shown).before_is;
    }
