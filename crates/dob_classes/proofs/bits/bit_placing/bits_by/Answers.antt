-- As the board's pieces come one layer after the other, so do those of the sets.
use Rattle.dob_classes.proofs.Common.{◌-◌, ◌<◌, ◌∙◌, ◌≡◌, List, None, ap, arith, length, refl, replicate, set, slice_index, slice_index_or, subst, sym, ℕ}
use Rattle.dob_classes.proofs.Common.{length-set, Cell, setup_of, cell_of, empty_layers, enemy_squares, free_squares, numbers_by, order, settle, Chicks}
use Rattle.dob_classes.proofs.Common.{Elephants, EnemyLion, Giraffes, OwnLion, IsBoardOf, seen_by}
use Rattle.dob_rank.specs.Placing.{past}
use Rattle.dob_classes.specs.Views.{AreSeen}
use Rattle.dob_classes.proofs.BitPlaced.{empty_seen, hands_seen, long_seen, put_moved, one_put, past_lt}
use Rattle.dob_rank.proofs.Boards.Placed.{after_lions, after_chicks, after_elephants, with_lions, with_chicks, with_elephants, lions_by, chicks_by}
use Rattle.dob_rank.proofs.Boards.Placed.{elephants_by, start, own_lion_stands, lions_stand, chicks_stand, elephants_stand, whole_board, AreChosen}
use Rattle.dob_rank.proofs.Boards.Placed.{chicks_below, elephants_below, giraffes_below, free_at, are_free}
use Rattle.dob_classes.proofs.bits.bit_placing.bits_by.Goals as goal
use Rattle.dob_classes.proofs.bits.bit_placing.bits_by.Goals.{After-among, After-among-2, After-among-3}

chicks : (c : After-among) → AreChosen (after_lions c.args.digits.now) free_squares (slice_index c.args.on_board.now 0)
    (slice_index c.args.digits.now 5) c.among.result.0 c.among.result.1
chicks c = (
  c.among.ensures.first ∙ ap (after_lions c.args.digits.now) (c.wide.ensures.first ∙ c.requires.places.first_chick),
  c.among.ensures.second ∙ ap (after_lions c.args.digits.now) (c.wide.ensures.second ∙ c.requires.places.second_chick),
)

elephants : (c : After-among-2) → AreChosen (after_chicks c.args.on_board.now c.args.digits.now) (free_squares - slice_index c.args.on_board.now 0) (slice_index c.args.on_board.now 1)
    (slice_index c.args.digits.now 6) c.among-2.result.0 c.among-2.result.1
elephants c = (
  c.among-2.ensures.first ∙ ap (after_lions c.args.digits.now) (c.wide-2.ensures.first ∙ c.requires.places.first_elephant),
  c.among-2.ensures.second ∙ ap (after_lions c.args.digits.now) (c.wide-2.ensures.second ∙ c.requires.places.second_elephant),
)

giraffes : (c : After-among-3) → AreChosen (after_elephants c.args.on_board.now c.args.digits.now) (free_squares - slice_index c.args.on_board.now 0 - slice_index c.args.on_board.now 1) (slice_index c.args.on_board.now 2)
    (slice_index c.args.digits.now 7) c.among-3.result.0 c.among-3.result.1
giraffes c = (
  c.among-3.ensures.first ∙ ap (after_lions c.args.digits.now) (c.wide-3.ensures.first ∙ c.requires.places.first_giraffe),
  c.among-3.ensures.second ∙ ap (after_lions c.args.digits.now) (c.wide-3.ensures.second ∙ c.requires.places.second_giraffe),
)

pub put-with_chicks-requires : goal.put-with_chicks-requires
put-with_chicks-requires c =
    let low = chicks_below c.args.on_board.now c.args.digits.now _ _ c.requires.choices (chicks (goal.at.put-with_chicks-requires c).After-among) in
    record { few = c.requires.choices.chicks; first = low.0; second = low.1 }

pub put-with_elephants-requires : goal.put-with_elephants-requires
put-with_elephants-requires c =
    let low = elephants_below c.args.on_board.now c.args.digits.now _ _ c.requires.choices (elephants (goal.at.put-with_elephants-requires c).After-among-2) in
    record { few = c.requires.choices.elephants; first = low.0; second = low.1 }

pub put-planes-requires : goal.put-planes-requires
put-planes-requires c =
    let low = giraffes_below c.args.on_board.now c.args.digits.now _ _ c.requires.choices (giraffes (goal.at.put-planes-requires c).After-among-3) in
    record { few = c.requires.choices.giraffes; first = low.0; second = low.1 }

pub returns : goal.returns
returns c =
    let on_board = c.args.on_board.now in
    let digits = c.args.digits.now in
    let at = goal.at.returns c in
    let choices = c.requires.choices in
    let hands = c.args.hands in
    let numbers = numbers_by digits in
    let own = slice_index digits 3 in
    let enemy = slice_index digits 4 in
    let lion = cell_of (order OwnLion) 0 in
    let low = choices.own_lion in
    let first = one_put (setup_of (replicate 12 None) hands) own lion
    (λ s. AreSeen c.args.side s 0) (λ s. AreSeen c.args.side s c.with_piece-own_lion.result)
    refl (omega (arith, low))
    (free_at numbers (order OwnLion) 12 empty_layers (replicate 12 None) (λ n. n) (omega arith) (start numbers) own (omega (arith, low)))
    c.with_piece-own_lion.ensures (empty_seen c.args.side hands) in
    let board = set (replicate 12 None) own lion in
    let long : length (set (replicate 12 None) own lion) ≡ 12 = length-set (replicate 12 None) own lion in
    let both = (subst (λ (square : ℕ). square < 12 → slice_index_or (set (replicate 12 None) own lion) square None ≡ None
    → AreSeen c.args.side (setup_of (set (set (replicate 12 None) own lion) square (cell_of (order EnemyLion) 0)) hands)
    c.with_piece-both_lions.result) c.past.ensures.value
    (λ lt empty. one_put (setup_of board hands) c.past.result (cell_of (order EnemyLion) 0)
    (λ s. AreSeen c.args.side s c.with_piece-own_lion.result) (λ s. AreSeen c.args.side s c.with_piece-both_lions.result)
    long lt empty c.with_piece-both_lions.ensures first))
    (past_lt own enemy low choices.other_lion)
    (free_at numbers (order EnemyLion) enemy_squares (settle (order OwnLion) 1 own empty_layers) (set (replicate 12 None) own lion) (past own) (omega arith)
    (own_lion_stands on_board digits choices) enemy choices.other_lion) in
    let lions_long = length-set (set (replicate 12 None) own lion) (past own enemy) (cell_of (order EnemyLion) 0) ∙ long in
    let chicks_there = put_moved (λ s. AreSeen c.args.side s c.with_piece-both_lions.result) (λ s. AreSeen c.args.side s c.put-with_chicks.result)
    (order Chicks) (slice_index on_board 0) c.among.result.0 c.among.result.1 (slice_index digits 8)
    _ _ (chicks at.After-among).0 (chicks at.After-among).1
    c.put-with_chicks.ensures (setup_of (with_lions digits) hands) lions_long
    (are_free numbers (order Chicks) (slice_index on_board 0) (slice_index digits 5) free_squares (lions_by digits) (with_lions digits) (after_lions digits)
    (omega arith) choices.chicks choices.chick_squares (lions_stand on_board digits choices)) both in
    let elephants_there = put_moved (λ s. AreSeen c.args.side s c.put-with_chicks.result) (λ s. AreSeen c.args.side s c.put-with_elephants.result)
    (order Elephants) (slice_index on_board 1) c.among-2.result.0 c.among-2.result.1 (slice_index digits 9)
    _ _ (elephants at.After-among-2).0 (elephants at.After-among-2).1
    c.put-with_elephants.ensures (setup_of (with_chicks on_board digits) hands) chicks_there.0
    (are_free numbers (order Elephants) (slice_index on_board 1) (slice_index digits 6) (free_squares - slice_index on_board 0) (chicks_by on_board digits) (with_chicks on_board digits) (after_chicks on_board digits)
    (omega arith) choices.elephants choices.elephant_squares (chicks_stand on_board digits choices)) chicks_there.1 in
    let giraffes_there = put_moved (λ s. AreSeen c.args.side s c.put-with_elephants.result) (λ s. AreSeen c.args.side s c.put-planes.result)
    (order Giraffes) (slice_index on_board 2) c.among-3.result.0 c.among-3.result.1 (slice_index digits 10)
    _ _ (giraffes at.After-among-3).0 (giraffes at.After-among-3).1
    c.put-planes.ensures (setup_of (with_elephants on_board digits) hands) elephants_there.0
    (are_free numbers (order Giraffes) (slice_index on_board 2) (slice_index digits 7) (free_squares - slice_index on_board 0 - slice_index on_board 1) (elephants_by on_board digits) (with_elephants on_board digits) (after_elephants on_board digits)
    (omega arith) choices.giraffes choices.giraffe_squares (elephants_stand on_board digits choices)) elephants_there.1 in
    let long = long_seen c.args.side _ hands giraffes_there.0 in
    subst (λ (cells : List Cell). IsBoardOf (seen_by c.args.side (setup_of cells hands)) c.in_planes.result) (whole_board on_board digits choices)
    (c.in_planes.ensures _ long giraffes_there.1 (c.seen_hands.ensures ∙ sym (hands_seen c.args.side _ hands)))
