-- The sets say the form of a piece whose layer is known.
use Rattle.dob_rank.proofs.Common.{◌∙◌, ap, order}
use Rattle.dob_rank.proofs.Boards.BoardLayers.{chick_found}
use Rattle.dob_rank.proofs.masks.form_at.Goals as goal

pub returns-in-Chicks-clause-value : goal.returns-in-Chicks-clause-value
returns-in-Chicks-clause-value c = λ setup are is.
    chick_found setup c.args.board.now c.args.square _ _ c.requires are (is ∙ ap order c.in-Chicks.is)
    c.bit_of-enemy.ensures.value c.bit_of.ensures.value
