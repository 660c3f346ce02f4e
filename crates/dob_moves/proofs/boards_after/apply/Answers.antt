-- What is built is the move's one outcome, and legal since the position is open.
use Rattle.dob_moves.proofs.Common.{◌∙◌, subst, sym, IsBoardOf, IsLegal, turned, Setup, HasOutcome, moved}
use Rattle.dob_moves.proofs.Outcomes.{HasOutcome-moved, IsLegal-HasOutcome}
use Rattle.dob_moves.proofs.boards_after.apply.Goals as goal
use Rattle.dob_moves.proofs.boards_after.apply.Goals.{After-board_after}

-- it is legal, and the board shows it
shown : (c : After-board_after) → let q = turned (moved c.args.position.now.setup c.args.played) in IsLegal q × IsBoardOf q c.board_after.result
shown c =
    let p = c.args.position.now.setup in
    let outcome = HasOutcome-moved p c.args.played c.requires.can_go in (
      IsLegal-HasOutcome p c.args.played (turned (moved p c.args.played)) outcome c.args.position.now.legal c.requires.open.1,
      c.board_after.ensures p (turned (moved p c.args.played)) c.args.position.now.legal (c.turned-seen.ensures p c.of.ensures) outcome,
    )

pub new-requires : goal.new-requires
new-requires c =
    let is = shown (goal.at.new-requires c).After-board_after in
    (turned (moved c.args.position.now.setup c.args.played), is.0, is.1)

pub returns : goal.returns
returns c =
    let p = c.args.position.now.setup in
    let is = shown (goal.at.returns c).After-board_after in
    subst (λ (q : Setup). HasOutcome p c.args.played q)
    (sym (c.position.ensures ∙ c.new.ensures (turned (moved p c.args.played)) is.0 is.1)) (HasOutcome-moved p c.args.played c.requires.can_go)
