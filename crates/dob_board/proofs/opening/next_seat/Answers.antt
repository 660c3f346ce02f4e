-- The first node of the rest may be split off, and the rest stands for the nodes behind it.
use Rattle.std.proofs.Common.{rules, arith, ap, ◌∙◌, []}
use Rattle.dob_board.proofs.Names.{View, others_of}
use Rattle.dob_board.proofs.Allowed.{Seated}
use Rattle.dob_board.proofs.Starts.{splits_call, others-unseated}
use Rattle.dob_board.proofs.opening.next_seat.Goals as goal

pub split_seat-seat-requires : goal.split_seat-seat-requires
split_seat-seat-requires c = (
  search rules,
  rw (c.deref.ensures, c.requires.board) (omega arith),
  splits_call _ c.args.nodes c.args.node _ _ (search rules) c.requires.within c.requires.rest,
)

pub returns-clause-rest : goal.returns-clause-rest
returns-clause-rest c =
    c.split_seat-seat.ensures.2 ∙ ap (λ (me : Seated). (others_of me.0, me.1)) c.requires.rest
    ∙ ap (λ (v : View). (v, [])) (others-unseated c.args.nodes c.args.node c.requires.within)
