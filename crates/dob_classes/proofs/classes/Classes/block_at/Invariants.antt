-- All blocks from the one reached on begin behind the class.
use Rattle.dob_classes.proofs.Common.{◌<◌, classes_to_block}
use Rattle.dob_classes.proofs.classes.Classes.block_at.Given as goal

abbrev pub invariant-loop-block : goal.invariant-loop-block
invariant-loop-block l = l.class < classes_to_block l.self.family l.block
