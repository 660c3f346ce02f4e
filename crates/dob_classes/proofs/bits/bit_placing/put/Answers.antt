-- by the number of pieces
use Rattle.dob_classes.proofs.Common.{◌%◌, ◌/◌, ◌<◌, arith, set, subst, sym, ℕ, setup_of, cell_of, order, put}
use Rattle.dob_classes.specs.Views.{AreSeen}
use Rattle.dob_classes.proofs.BitPlaced.{one_put, two_put, at_least_two}
use Rattle.dob_classes.proofs.bits.bit_placing.put.Goals as goal

pub returns-in-0 : goal.returns-in-0
returns-in-0 c = λ setup twelve free are.
    subst (λ (p : ℕ). AreSeen c.args.side (setup_of (put (order c.args.layer) p c.args.squares.0 c.args.squares.1 c.args.number setup.board)
    setup.hands) c.args.planes) (sym c.in-0.is) are

pub returns-in-1 : goal.returns-in-1
returns-in-1 c = λ setup twelve free are.
    let t = order c.args.layer in
    subst (λ (p : ℕ). AreSeen c.args.side (setup_of (put t p c.args.squares.0 c.args.squares.1 c.args.number setup.board)
    setup.hands) c.with_piece.result) (sym c.in-1.is)
    (subst (λ (base : ℕ). AreSeen c.args.side (setup_of (set setup.board c.args.squares.0 (cell_of t (c.args.number % base))) setup.hands)
    c.with_piece.result) c.base_of-base.ensures.value
    (one_put setup c.args.squares.0 (cell_of t (c.args.number % c.base_of-base.result))
    (λ s. AreSeen c.args.side s c.args.planes) (λ s. AreSeen c.args.side s c.with_piece.result) twelve
    (c.requires.first (omega (arith, c.in-1.is))) (free.first_free (omega (arith, c.in-1.is))) c.with_piece.ensures are))

pub returns-in_default : goal.returns-in_default
returns-in_default c = λ setup twelve free are.
    let t = order c.args.layer in
    let base = c.base_of-base.result in
    let two : 1 < c.args.pieces = omega arith in
    at_least_two c.args.pieces two
    (λ (p : ℕ). AreSeen c.args.side (setup_of (put t p c.args.squares.0 c.args.squares.1 c.args.number setup.board)
    setup.hands) c.with_piece-in_default.result)
    (λ (p : ℕ). subst (λ (base : ℕ). AreSeen c.args.side (setup_of (set (set setup.board c.args.squares.1 (cell_of t (c.args.number % base)))
    c.args.squares.0 (cell_of t (c.args.number / base % base))) setup.hands)
    c.with_piece-in_default.result) c.base_of-base.ensures.value
    (two_put setup c.args.squares.0 c.args.squares.1 (cell_of t (c.args.number / base % base)) (cell_of t (c.args.number % base))
    (λ s. AreSeen c.args.side s c.args.planes) (λ s. AreSeen c.args.side s c.with_piece-with_second.result)
    (λ s. AreSeen c.args.side s c.with_piece-in_default.result) twelve
    (c.requires.first (omega (arith, two))) (c.requires.second two) (free.first_free (omega (arith, two))) (free.second_free two) (free.are_two two)
    c.with_piece-with_second.ensures c.with_piece-in_default.ensures are))
