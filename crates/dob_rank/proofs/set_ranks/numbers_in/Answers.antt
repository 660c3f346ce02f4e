-- Each set has as many squares as its layer has cells.
use Rattle.dob_rank.proofs.Common.{◌∙◌, map, layer, order, Chicks, Elephants, Giraffes}
use Rattle.dob_rank.proofs.Boards.BoardLayers.{masks_are}
use Rattle.dob_rank.proofs.Boards.BoardMasks.{three}
use Rattle.dob_rank.proofs.set_ranks.numbers_in.Goals as goal

pub returns : goal.returns
returns c = λ setup is twelve.
    let are = masks_are setup c.args.board.now twelve is in
    let layers = map layer setup.board in
    three _ _ _ _ _ _ (c.count.ensures.value (order Chicks) layers (c.from.ensures ∙ are.chicks_are))
    (c.count-2.ensures.value (order Elephants) layers (c.from-2.ensures ∙ are.elephants_are))
    (c.count-3.ensures.value (order Giraffes) layers (c.from-3.ensures ∙ are.giraffes_are))
