-- The squares of the pieces are those that the layers before leave, and the board is the one of the settled layers.
use Rattle.dob_rank.proofs.Common.{◌-◌, ◌∙◌, None, ap, replicate, set, slice_index, ℕ, Cell, cell_of, free_squares, order, past, Chicks, Elephants, Giraffes}
use Rattle.dob_rank.proofs.Common.{OwnLion}
use Rattle.dob_rank.proofs.Boards.Placed.{after_lions, after_chicks, after_elephants, with_lions, with_chicks, with_elephants, AreChosen, chicks_below}
use Rattle.dob_rank.proofs.Boards.Placed.{elephants_below, giraffes_below, whole_board, put-same}
use Rattle.dob_rank.proofs.placing.board_by.Goals as goal
use Rattle.dob_rank.proofs.placing.board_by.Goals.{After-among-chick_squares, After-among-elephant_squares, After-among-giraffe_squares}

pub places_by-places-requires : goal.places_by-places-requires
places_by-places-requires c = record {
  chicks = c.requires.chicks;
  elephants = c.requires.elephants;
  giraffes = c.requires.giraffes;
  chick_squares = c.requires.chick_squares;
  elephant_squares = c.requires.elephant_squares;
  giraffe_squares = c.requires.giraffe_squares;
}

chicks : (c : After-among-chick_squares) → AreChosen (after_lions c.args.digits.now) free_squares (slice_index c.args.on_board.now 0)
    (slice_index c.args.digits.now 5) c.among-chick_squares.result.0 c.among-chick_squares.result.1
chicks c = (
  c.among-chick_squares.ensures.first ∙ ap (after_lions c.args.digits.now) (c.wide.ensures.first ∙ c.places_by-places.ensures.first_chick),
  c.among-chick_squares.ensures.second ∙ ap (after_lions c.args.digits.now) (c.wide.ensures.second ∙ c.places_by-places.ensures.second_chick),
)

elephants : (c : After-among-elephant_squares) → AreChosen (after_chicks c.args.on_board.now c.args.digits.now) (free_squares - slice_index c.args.on_board.now 0) (slice_index c.args.on_board.now 1)
    (slice_index c.args.digits.now 6) c.among-elephant_squares.result.0 c.among-elephant_squares.result.1
elephants c = (
  c.among-elephant_squares.ensures.first ∙ ap (after_lions c.args.digits.now) (c.wide-2.ensures.first ∙ c.places_by-places.ensures.first_elephant),
  c.among-elephant_squares.ensures.second ∙ ap (after_lions c.args.digits.now) (c.wide-2.ensures.second ∙ c.places_by-places.ensures.second_elephant),
)

giraffes : (c : After-among-giraffe_squares) → AreChosen (after_elephants c.args.on_board.now c.args.digits.now) (free_squares - slice_index c.args.on_board.now 0 - slice_index c.args.on_board.now 1) (slice_index c.args.on_board.now 2)
    (slice_index c.args.digits.now 7) c.among-giraffe_squares.result.0 c.among-giraffe_squares.result.1
giraffes c = (
  c.among-giraffe_squares.ensures.first ∙ ap (after_lions c.args.digits.now) (c.wide-3.ensures.first ∙ c.places_by-places.ensures.first_giraffe),
  c.among-giraffe_squares.ensures.second ∙ ap (after_lions c.args.digits.now) (c.wide-3.ensures.second ∙ c.places_by-places.ensures.second_giraffe),
)

pub put-requires-clause-first : goal.put-requires-clause-first
put-requires-clause-first c = (chicks_below c.args.on_board.now c.args.digits.now _ _ c.requires (chicks (goal.at.put-requires-clause-first c).After-among-chick_squares)).0

pub put-requires-clause-second : goal.put-requires-clause-second
put-requires-clause-second c = (chicks_below c.args.on_board.now c.args.digits.now _ _ c.requires (chicks (goal.at.put-requires-clause-second c).After-among-chick_squares)).1

pub put-requires-2-clause-first : goal.put-requires-2-clause-first
put-requires-2-clause-first c = (elephants_below c.args.on_board.now c.args.digits.now _ _ c.requires (elephants (goal.at.put-requires-2-clause-first c).After-among-elephant_squares)).0

pub put-requires-2-clause-second : goal.put-requires-2-clause-second
put-requires-2-clause-second c = (elephants_below c.args.on_board.now c.args.digits.now _ _ c.requires (elephants (goal.at.put-requires-2-clause-second c).After-among-elephant_squares)).1

pub put-requires-3-clause-first : goal.put-requires-3-clause-first
put-requires-3-clause-first c = (giraffes_below c.args.on_board.now c.args.digits.now _ _ c.requires (giraffes (goal.at.put-requires-3-clause-first c).After-among-giraffe_squares)).0

pub put-requires-3-clause-second : goal.put-requires-3-clause-second
put-requires-3-clause-second c = (giraffes_below c.args.on_board.now c.args.digits.now _ _ c.requires (giraffes (goal.at.put-requires-3-clause-second c).After-among-giraffe_squares)).1

pub returns : goal.returns
returns c =
    let on_board = c.args.on_board.now in
    let digits = c.args.digits.now in
    let at = goal.at.returns c in
    c.put-3.ensures
    ∙ put-same (order Giraffes) (slice_index on_board 2) _ _ (slice_index digits 10) _ _ _ (with_elephants on_board digits)
    (giraffes at.After-among-giraffe_squares).0 (giraffes at.After-among-giraffe_squares).1
    (c.put-2.ensures
    ∙ put-same (order Elephants) (slice_index on_board 1) _ _ (slice_index digits 9) _ _ _ (with_chicks on_board digits)
    (elephants at.After-among-elephant_squares).0 (elephants at.After-among-elephant_squares).1
    (c.put.ensures
    ∙ put-same (order Chicks) (slice_index on_board 0) _ _ (slice_index digits 8) _ _ _ (with_lions digits)
    (chicks at.After-among-chick_squares).0 (chicks at.After-among-chick_squares).1
    (ap (λ (cell : Cell). set (set (replicate 12 None) (slice_index digits 3) cell) c.past.result c.cell_of-2.result) c.cell_of.ensures
    ∙ ap (λ (square : ℕ). set (set (replicate 12 None) (slice_index digits 3) (cell_of (order OwnLion) 0)) square c.cell_of-2.result) c.past.ensures.value
    ∙ ap (set (set (replicate 12 None) (slice_index digits 3) (cell_of (order OwnLion) 0))
    (past (slice_index digits 3) (slice_index digits 4))) c.cell_of-2.ensures)))
    ∙ whole_board on_board digits c.requires
