-- Planes with a piece more, as either side sees them.
use Rattle.dob_classes.proofs.Common.{◌%◌, ◌*◌, ◌+◌, ◌/◌, ◌<◌, ◌^◌, ◌∙◌, ◌≡◌, ◌≢◌, List, None, ap, arith, length, refl, replicate, rules, set, slice_index_or}
use Rattle.dob_classes.proofs.Common.{suc, zero, ℕ, get_or-set_other, length-set, at-turned, Cell, at, setup_of, turned, Hands, Side, Enemy, Mover, Setup}
use Rattle.dob_classes.proofs.Common.{base_of, cell_of, enemy_squares, order, own_squares, put, Chicks, Elephants, Empty, Giraffes, IsWith, seen_by, seen_hands}
use Rattle.dob_classes.proofs.Common.{seen_owner, seen_square}
use Rattle.dob_classes.specs.Views.{AreSeen, seen_cell}
use Rattle.dob_rank.specs.Placing.{past, AreFree}
use Rattle.dob_rank.proofs.Boards.EmptySquares.{past-upto}
use Rattle.dob_pieces.proofs.Boards.{length-turned}
use Rattle.dob_pieces.proofs.BoardChanges.{with_one}
use Rattle.dob_pieces.proofs.BoardPlanes.{piece_comes}
use Rattle.dob_pieces.specs.Boards.{entry}
unfoldable use Rattle.dob_pieces.specs.Boards.{planes_of}

-- ---- what a side sees of a change
seen_below : (side : Side) (square : ℕ) → square < 12 → seen_square side square < 12
seen_below Mover square lt = lt
seen_below Enemy square lt = omega arith

hands_turned : (before after : Setup) → after.hands ≡ before.hands → (turned after).hands ≡ (turned before).hands
unfolding turned
hands_turned before after e = ap (λ (hands : Hands). record { mover = hands.enemy; enemy = hands.mover }) e

seen_with : (side : Side) (before after : Setup) (square : ℕ) (cell : Cell) → square < 12 → IsWith before after square cell
    → IsWith (seen_by side before) (seen_by side after) (seen_square side square) (seen_cell side cell)
seen_with Mover before after square cell lt w = w
seen_with Enemy before after square cell lt w = grind (arith, at-turned, hands_turned)

seen_empty : (side : Side) (before : Setup) (square : ℕ) → square < 12 → at before square ≡ None → at (seen_by side before) (seen_square side square) ≡ None
seen_empty Mover before square lt e = e
seen_empty Enemy before square lt e = grind (arith, at-turned)

seen_long : (side : Side) (setup : Setup) → length setup.board ≡ 12 → length (seen_by side setup).board ≡ 12
seen_long Mover setup twelve = twelve
seen_long Enemy setup twelve = length-turned setup

-- ---- what the pieces of each layer add
pub lion_entry : (side : Side) (owner : ℕ) → owner < 2 → 1 + 4096 * seen_owner side owner ≡ entry (seen_cell side (cell_of owner 0))
lion_entry Mover zero lt = refl
lion_entry Mover (suc zero) lt = refl
lion_entry Enemy zero lt = refl
lion_entry Enemy (suc zero) lt = refl
lion_entry _ (suc (suc n)) lt = absurd (omega arith)

pub chick_entry : (side : Side) (form : ℕ) → form < 4
    → 16777216 + 281474976710656 * (form % 2) + 4096 * seen_owner side (form / 2) ≡ entry (seen_cell side (cell_of (order Chicks) form))
chick_entry Mover zero lt = refl
chick_entry Mover (suc zero) lt = refl
chick_entry Mover (suc (suc zero)) lt = refl
chick_entry Mover (suc (suc (suc zero))) lt = refl
chick_entry Enemy zero lt = refl
chick_entry Enemy (suc zero) lt = refl
chick_entry Enemy (suc (suc zero)) lt = refl
chick_entry Enemy (suc (suc (suc zero))) lt = refl
chick_entry _ (suc (suc (suc (suc n)))) lt = absurd (omega arith)

-- an elephant, and a giraffe
pub other_entry : (side : Side) (form : ℕ) → form < 2
    → (68719476736 + 4096 * seen_owner side form ≡ entry (seen_cell side (cell_of (order Elephants) form)))
    × (281474976710656 + 4096 * seen_owner side form ≡ entry (seen_cell side (cell_of (order Giraffes) form)))
other_entry Mover zero lt = (refl, refl)
other_entry Mover (suc zero) lt = (refl, refl)
other_entry Enemy zero lt = (refl, refl)
other_entry Enemy (suc zero) lt = (refl, refl)
other_entry _ (suc (suc n)) lt = absurd (omega arith)

pub no_entry : (side : Side) (form : ℕ) → 0 ≡ entry (seen_cell side (cell_of (order Empty) form))
no_entry Mover form = refl
no_entry Enemy form = refl

-- a piece comes on an empty square
pub piece_seen : (side : Side) (before after : Setup) (square planes : ℕ) (cell : Cell) → square < 12 → length before.board ≡ 12 → length after.board ≡ 12
    → at before square ≡ None → IsWith before after square cell → AreSeen side before planes
    → (place : ℕ) → place ≡ seen_square side square → (added : ℕ) → added ≡ entry (seen_cell side cell)
    → AreSeen side after ((planes + added * 2 ^ place % 2 ^ 64) % 2 ^ 64)
piece_seen side before after square planes cell lt long grown empty w is place at_place added adds =
    rw (at_place, adds) (piece_comes (seen_by side before) (seen_by side after) (seen_square side square) planes (seen_cell side cell)
    (seen_long side before long) (seen_long side after grown) (seen_below side square lt)
    (seen_empty side before square lt empty) (seen_with side before after square cell lt w) is)

-- ---- pieces of a layer, one after the other

-- what a piece on an empty square makes of one fact about a setup
abbrev Adds : ℕ → Cell → (Setup → Type 0) → (Setup → Type 0) → Type 0
Adds square cell A B = (before after : Setup) → length before.board ≡ 12 → length after.board ≡ 12 → at before square ≡ None
    → IsWith before after square cell → A before → B after

-- one piece
pub one_put : (setup : Setup) (first : ℕ) (cell : Cell) (A B : Setup → Type 0) → length setup.board ≡ 12 → first < 12
    → slice_index_or setup.board first None ≡ None → Adds first cell A B → A setup → B (setup_of (set setup.board first cell) setup.hands)
one_put setup first cell A B twelve lt empty step are =
    step setup (setup_of (set setup.board first cell) setup.hands) twelve (length-set setup.board first cell ∙ twelve) empty (with_one setup first cell twelve lt) are

-- two pieces, the second one first
pub two_put : (setup : Setup) (first second : ℕ) (cell other : Cell) (A B C : Setup → Type 0) → length setup.board ≡ 12 → first < 12 → second < 12
    → slice_index_or setup.board first None ≡ None → slice_index_or setup.board second None ≡ None → first ≢ second
    → Adds second other A B → Adds first cell B C → A setup → C (setup_of (set (set setup.board second other) first cell) setup.hands)
two_put setup first second cell other A B C twelve lt low empty free apart one two are =
    one_put (setup_of (set setup.board second other) setup.hands) first cell B C (length-set setup.board second other ∙ twelve) lt
    (get_or-set_other setup.board second first other None apart ∙ empty) two (one_put setup second other A B twelve low free one are)

length-put : (t p a b n : ℕ) (cells : List Cell) → length (put t p a b n cells) ≡ length cells
length-put t zero a b n cells = refl
length-put t (suc zero) a b n cells = length-set cells a (cell_of t (n % base_of t))
length-put t (suc (suc p)) a b n cells = search rules

-- what pieces on two squares leave, by other words for the squares
pub put_moved : (P Q : Setup → Type 0) (t p a b n a' b' : ℕ) → a ≡ a' → b ≡ b'
    → ((setup : Setup) → length setup.board ≡ 12 → AreFree p a b setup.board → P setup → Q (setup_of (put t p a b n setup.board) setup.hands))
    → (setup : Setup) → length setup.board ≡ 12 → AreFree p a' b' setup.board → P setup
    → (length (put t p a' b' n setup.board) ≡ 12) × Q (setup_of (put t p a' b' n setup.board) setup.hands)
put_moved P Q t p a b n a' b' e f step setup twelve free are = grind (arith, length-put)

pub at_least_two : (p : ℕ) → 1 < p → (Holds : ℕ → Type 0) → ((n : ℕ) → Holds (suc (suc n))) → Holds p
at_least_two zero h Holds each = absurd (omega arith)
at_least_two (suc zero) h Holds each = absurd (omega arith)
at_least_two (suc (suc n)) h Holds each = each n

-- ---- the empty board
pub empty_seen : (side : Side) (hands : Hands) → AreSeen side (setup_of (replicate 12 None) hands) 0
unfolding turned planes_of
empty_seen Mover hands = refl
empty_seen Enemy hands = refl

pub long_seen : (side : Side) (cells : List Cell) (hands : Hands) → length cells ≡ 12 → length (seen_by side (setup_of cells hands)).board ≡ 12
long_seen side cells hands = seen_long side (setup_of cells hands)

pub hands_seen : (side : Side) (board : List Cell) (hands : Hands) → (seen_by side (setup_of board hands)).hands ≡ seen_hands side hands
unfolding turned
hands_seen Mover board hands = refl
hands_seen Enemy board hands = refl

-- the enemy lion's square is on the board
pub past_lt : (own enemy : ℕ) → own < own_squares → enemy < enemy_squares → past own enemy < 12
past_lt own enemy low less = (let le = past-upto own enemy in omega (arith, le, less))
