-- The drops of each kind, from the hand that the board has.
use Rattle.dob_moves.proofs.Common.{◌≡◌, ap, arith, is_empty, length, length-append, AreSquares, Hands, all_drops, drops_of}
use Rattle.dob_pieces.specs.declared.kind.HandKind.TheVariants as hand
use Rattle.dob_moves.proofs.Appends.{three_appended}
use Rattle.dob_moves.proofs.FewMoves.{drops_in_all}
use Rattle.dob_moves.proofs.listing.push_drops.Goals as goal
use Rattle.dob_moves.proofs.listing.push_drops.Goals.{After-empty-empty}

-- what each of the three asks of the board
asked : (c : After-empty-empty) → AreSquares c.requires.0 is_empty c.empty-empty.result × (c.args.board.now.hands.mover ≡ c.requires.0.hands.mover)
asked c = (c.empty-empty.ensures c.requires.0 c.requires.1, ap (λ (hands : Hands). hands.mover) c.requires.1.hands_are)

pub push_drops_of-requires : goal.push_drops_of-requires
push_drops_of-requires c =
    let setup = c.requires.0 in
    let is = asked (goal.at.push_drops_of-requires c).After-empty-empty in
    (setup, is.0, is.1, omega (arith, drops_in_all c.args.profile setup, c.requires.2))

pub push_drops_of-requires-2 : goal.push_drops_of-requires-2
push_drops_of-requires-2 c =
    let setup = c.requires.0 in
    let is = asked (goal.at.push_drops_of-requires-2 c).After-empty-empty in (
      setup,
      is.0,
      is.1,
      omega (
        arith,
        drops_in_all c.args.profile setup,
        c.requires.2,
        ap length (c.push_drops_of.ensures setup is.0 is.1),
        length-append c.args.moves.now.items (drops_of c.args.profile setup hand.Chick),
      ),
    )

pub push_drops_of-requires-3 : goal.push_drops_of-requires-3
push_drops_of-requires-3 c =
    let setup = c.requires.0 in
    let is = asked (goal.at.push_drops_of-requires-3 c).After-empty-empty in (
      setup,
      is.0,
      is.1,
      omega (
        arith,
        drops_in_all c.args.profile setup,
        c.requires.2,
        ap length (c.push_drops_of.ensures setup is.0 is.1),
        length-append c.args.moves.now.items (drops_of c.args.profile setup hand.Chick),
        ap length (c.push_drops_of-2.ensures setup is.0 is.1),
        length-append c.push_drops_of.new.moves.items (drops_of c.args.profile setup hand.Elephant),
      ),
    )

pub returns : goal.returns
unfolding all_drops
returns c = λ setup are.
    let empty = c.empty-empty.ensures setup are in
    let held = ap (λ (hands : Hands). hands.mover) are.hands_are in
    three_appended _ _ _ _ _ _ _ (c.push_drops_of.ensures setup empty held) (c.push_drops_of-2.ensures setup empty held)
    (c.push_drops_of-3.ensures setup empty held)
