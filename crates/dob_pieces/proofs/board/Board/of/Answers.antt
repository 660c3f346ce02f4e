-- Each square adds its bits.
use Rattle.dob_pieces.proofs.Common.{◌∙◌, ◌≡◌, ap, arith, drop, length, refl, rules, ℕ}
use Rattle.std.proofs.Common.{◌*◌, ◌+◌, ◌-◌, ◌^◌}
use Rattle.dob_pieces.proofs.BoardPlanes.{word_read, none_read}
use Rattle.dob_pieces.specs.Boards.{planes_of}
use Rattle.dob_pieces.proofs.CellPlanes.{IsRead}
use Rattle.dob_pieces.proofs.board.Board.of.Goals as goal
use Rattle.dob_pieces.proofs.board.Board.of.Goals.{After-entry_of-entry}

pub loop-square-init : goal.loop-square-init
loop-square-init c = none_read c.args.setup.now.board (search rules)

-- one more square is read
read : (c : After-entry_of-entry) → IsRead c.loop-square.planes (2 * c.loop-square.planes + c.entry_of-entry.result) (2 ^ 60)
    (planes_of (drop (c.loop-square.square - 1) c.args.setup.now.board))
read c = word_read c.args.setup.now.board c.loop-square.square c.loop-square.planes c.entry_of-entry.result (search rules) (omega arith) (omega arith)
    c.loop-square.invariant c.entry_of-entry.ensures

pub overflow_mul-planes : goal.overflow_mul-planes
overflow_mul-planes c = let small = (read (goal.at.overflow_mul-planes c).After-entry_of-entry).small in record { fits = omega (arith, small) }

pub overflow_add-planes : goal.overflow_add-planes
overflow_add-planes c = let small = (read (goal.at.overflow_add-planes c).After-entry_of-entry).small_next in record { fits = omega (arith, small) }

pub loop-square-preserved : goal.loop-square-preserved
loop-square-preserved c = (read (goal.at.loop-square-preserved c).After-entry_of-entry).next_is

pub returns : goal.returns
returns c =
    let twelve : length c.args.setup.now.board ≡ 12 = search rules in
    let none : c.loop-square.square ≡ 0 = omega arith in
    let word : c.loop-square.planes ≡ planes_of c.args.setup.now.board =
    c.loop-square.invariant ∙ ap (λ (k : ℕ). planes_of (drop k c.args.setup.now.board)) none in
    c.in_planes.ensures c.args.setup.now twelve word refl
