-- A mask has as many bits as its layer has squares.
use Rattle.std.proofs.Common.{ap, ◌∙◌}
use lib.Count.{ones}
use Rattle.dob_rank.proofs.Boards.LayerMasks.{ones-layer_mask}
use Rattle.dob_rank.proofs.masks.count.Goals as goal

pub returns-clause-value : goal.returns-clause-value
returns-clause-value c = λ t ls is. c.from.ensures ∙ ap ones is ∙ ones-layer_mask t ls
