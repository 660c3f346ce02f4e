-- The totals of the pieces are the set's numbers.
use Rattle.std.proofs.Common.{◌∙◌}
use Rattle.dob_pieces.specs.declared.kind.HandKind.TheVariants as hand
use Rattle.dob_rank.proofs.Boards.BoardMasks.{numbers_are, small_total}
use Rattle.dob_rank.proofs.set_ranks.piece_set_of.Goals as goal

pub in_all-requires : goal.in_all-requires
in_all-requires c = small_total _ _ (numbers_are c.args.position.now.setup c.args.on_board.now c.args.position.now.legal c.requires).all_chicks
    (c.args.position.now.legal.few hand.Chick)

pub in_all-requires-2 : goal.in_all-requires-2
in_all-requires-2 c = small_total _ _ (numbers_are c.args.position.now.setup c.args.on_board.now c.args.position.now.legal c.requires).all_elephants
    (c.args.position.now.legal.few hand.Elephant)

pub in_all-requires-3 : goal.in_all-requires-3
in_all-requires-3 c = small_total _ _ (numbers_are c.args.position.now.setup c.args.on_board.now c.args.position.now.legal c.requires).all_giraffes
    (c.args.position.now.legal.few hand.Giraffe)

pub returns-clause-chicks : goal.returns-clause-chicks
returns-clause-chicks c = c.in_all.ensures.value ∙ (numbers_are c.args.position.now.setup c.args.on_board.now c.args.position.now.legal c.requires).all_chicks

pub returns-clause-elephants : goal.returns-clause-elephants
returns-clause-elephants c = c.in_all-2.ensures.value
    ∙ (numbers_are c.args.position.now.setup c.args.on_board.now c.args.position.now.legal c.requires).all_elephants

pub returns-clause-giraffes : goal.returns-clause-giraffes
returns-clause-giraffes c = c.in_all-3.ensures.value
    ∙ (numbers_are c.args.position.now.setup c.args.on_board.now c.args.position.now.legal c.requires).all_giraffes

pub invariant_of-result : goal.invariant_of-result
invariant_of-result c =
    record { few_chicks = c.in_all.ensures.bound; few_elephants = c.in_all-2.ensures.bound; few_giraffes = c.in_all-3.ensures.bound }
