-- The lions stand where the position's board has them.
use Rattle.dob_probe.proofs.Common.{ap, at, ◌∙◌}
use Rattle.dob_probe.proofs.outlines.outline_of.Goals as goal

pub returns : goal.returns
returns c =
    let p = c.args.position.now in
    record {
      chicks = c.on_board.ensures;
      elephants = c.on_board-2.ensures;
      giraffes = c.on_board-3.ensures;
      lion = ap (at p.setup) c.index.ensures.value ∙ c.own_lion_square.ensures p.setup (p.legal.squares, p.legal.lions) c.of-board.ensures;
      enemy_lion = ap (at p.setup) c.index-2.ensures.value ∙ c.enemy_lion_square.ensures p.setup (p.legal.squares, p.legal.lions) c.of-board.ensures;
    }
