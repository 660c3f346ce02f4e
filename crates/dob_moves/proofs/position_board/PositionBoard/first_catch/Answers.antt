-- The lowest attacker catches first.
use Rattle.dob_moves.proofs.Common.{IsFirstCatch, Move, subst, sym}
use Rattle.dob_moves.proofs.Masked.{no_attack, first_attack}
use Rattle.dob_moves.proofs.Shown.{setup_on}
use Rattle.dob_moves.proofs.position_board.PositionBoard.first_catch.Goals as goal

pub returns-in-None : goal.returns-in-None
returns-in-None c =
    let p = setup_on c.args.self.now.board in
    let legal = c.args.self.now.legal in
    let are = c.args.self.now.shows in
    no_attack p c.enemy_lion_square-to.result c.attackers-attackers.result legal.squares legal.lions
    (c.enemy_lion_square-to.ensures p (legal.squares, legal.lions) are) (c.attackers-attackers.ensures p are) c.in-None.ensures

pub returns-in-Some : goal.returns-in-Some
returns-in-Some c =
    let p = setup_on c.args.self.now.board in
    let legal = c.args.self.now.legal in
    let are = c.args.self.now.shows in
    subst (λ (m : Move). IsFirstCatch p m) (sym c.catch_by.ensures)
    (first_attack p c.enemy_lion_square-to.result c.attackers-attackers.result c.in-Some.from c.own_kind.result legal.squares legal.lions
    (c.enemy_lion_square-to.ensures p (legal.squares, legal.lions) are) (c.attackers-attackers.ensures p are) c.in-Some.ensures
    (c.own_kind.ensures p are))
