-- Steps stand at the places of their two squares, drops behind them.
use Rattle.dob_moves.proofs.Common.{◌*◌, ◌+◌, ◌≡◌, arith, subst, CanGo, first_drop, hand_place}
use Rattle.dob_moves.proofs.ByPlace.{IsFoundAt, step_goes, drop_goes, none_after}
use Rattle.dob_moves.proofs.at_place.move_of_open.Goals as goal

pub returns-then-place-lt-FIRST_DROP : goal.returns-then-place-lt-FIRST_DROP
returns-then-place-lt-FIRST_DROP c =
    let p = c.args.position.now.setup in
    let squares = c.squares_at-from in
    subst (IsFoundAt (CanGo c.args.profile p) c.step_between.result) squares.ensures.place
    (step_goes c.args.profile p squares.result.0 squares.result.1 c.step_between.result squares.ensures.first squares.ensures.last c.step_between.ensures)

pub returns-then-place-lt-END : goal.returns-then-place-lt-END
returns-then-place-lt-END c =
    let p = c.args.position.now.setup in
    let kind = c.hand_kind.result in
    let to = c.new-to.result in
    let there : first_drop + 12 * hand_place kind + to ≡ c.args.place =
    omega (arith, c.hand_kind.ensures, c.new-to.ensures, c.if-place-lt-FIRST_DROP.false) in
    subst (IsFoundAt (CanGo c.args.profile p) c.drop_on.result) there
    (drop_goes c.args.profile p kind to c.drop_on.result c.args.position.now.legal.squares (omega (arith, c.new-to.ensures)) c.drop_on.ensures)

pub returns-else-place-lt-END : goal.returns-else-place-lt-END
returns-else-place-lt-END c =
    none_after c.args.profile c.args.position.now.setup c.args.place c.args.position.now.legal.squares (omega (arith, c.if-place-lt-END.false))
