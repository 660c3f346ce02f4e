-- By the first of the cases that holds.
use Rattle.dob_moves.proofs.Common.{◌∙◌, ◌≡◌, Some, arith, at, piece_of, sym, true≢false, Enemy, Lion}
use Rattle.dob_moves.proofs.Masked.{tried_by}
use Rattle.dob_moves.proofs.Shown.{setup_on}
use Rattle.dob_moves.proofs.status_of.shared_status.Goals as goal
use Rattle.dob_moves.proofs.status_of.shared_status.Goals.{After-can_catch}

-- where the enemy lion stands
stands : (c : After-can_catch) → at (setup_on c.args.position.now.board) c.enemy_lion_square-lion.result ≡ Some (piece_of Enemy Lion)
stands c =
    let legal = c.args.position.now.legal in
    c.enemy_lion_square-lion.ensures (setup_on c.args.position.now.board) (legal.squares, legal.lions) c.args.position.now.shows

pub returns-then-can_catch : goal.returns-then-can_catch
returns-then-can_catch c = (c.can_catch.ensures (stands (goal.at.returns-then-can_catch c).After-can_catch)).0 c.if-can_catch.true

pub returns-then-row-eq0 : goal.returns-then-row-eq0
returns-then-row-eq0 c =
    let lion = stands (goal.at.returns-then-row-eq0 c).After-can_catch in
    (λ catch. true≢false (sym ((c.can_catch.ensures lion).1 catch) ∙ c.if-can_catch.false), (c.enemy_lion_square-lion.result, omega arith, lion))

pub returns-then-can_move : goal.returns-then-can_move
returns-then-can_move c =
    let lion = stands (goal.at.returns-then-can_move c).After-can_catch in (
      λ catch. true≢false (sym ((c.can_catch.ensures lion).1 catch) ∙ c.if-can_catch.false),
      λ tried. c.if-row-eq0.false
          (c.row.ensures.value ∙ tried_by (setup_on c.args.position.now.board) _ c.args.position.now.legal.lions lion tried),
      c.can_move.ensures.0 c.if-can_move.true,
    )

pub returns-else-can_move : goal.returns-else-can_move
returns-else-can_move c =
    let lion = stands (goal.at.returns-else-can_move c).After-can_catch in (
      λ catch. true≢false (sym ((c.can_catch.ensures lion).1 catch) ∙ c.if-can_catch.false),
      λ tried. c.if-row-eq0.false
          (c.row.ensures.value ∙ tried_by (setup_on c.args.position.now.board) _ c.args.position.now.legal.lions lion tried),
      λ move can. true≢false (sym (c.can_move.ensures.1 (move, can)) ∙ c.if-can_move.false),
    )
