-- A position has few moves: each piece of the mover has at most eight steps, and of each kind in hand there are at most as many drops as squares are empty.
use Rattle.dob_moves.proofs.Common.{if◌then◌else◌, ◌*◌, ◌++◌, ◌+◌, ◌<◌, ◌||◌, ◌∷◌, ◌≡◌, ◌≤◌, ⊎_elim, Bool, List, None, Option, Some, [], arith, false, length, suc}
use Rattle.dob_moves.proofs.Common.{true, zero, ℕ, length-append, option_to_list, slice_index_or, cases_lt, filter_map, cons_option, count_by, is_some, one_if, all_drops, ap, refl, Side}
use Rattle.dob_moves.proofs.Common.{all_steps, drops_of, put_if, steps_by, steps_from, steps_if, step_by, cond, is_empty, own_kind, may_put, Cell, IsLegal, at, held, holds_kind, piece_of}
use Rattle.dob_moves.proofs.Common.{rules, append_assoc, holds_lion, total, HandKind, Kind, Lion, Mover, Enemy, Profile, Setup, Elsewhere, Move}
use Rattle.dob_moves.proofs.Listed.{drops_all, drops_none, puts_on}
use Rattle.dob_moves.specs.MoveLists.{can_catch, has_tried, moves_of}
use Rattle.dob_pieces.proofs.Lists.{length-each}
use Rattle.dob_pieces.specs.Lists.{sum_below}
use Rattle.dob_pieces.specs.Pieces.{steps_of}
use Rattle.dob_pieces.specs.declared.kind.HandKind.TheVariants as hand
use Rattle.std.specs.List.{sum_by}
use Rattle.std.proofs.lemmas.List.Sums.{sum_by-cons}

-- ---- steps

-- one where a piece of the mover stands
abbrev own_there : Cell → ℕ
own_there cell = one_if (is_some (own_kind cell))

steps_few : (kind : Kind) → length (steps_of kind) ≤ 8
steps_few Lion = omega arith
steps_few _ = omega arith

cons_short : {X : Type 0} (o : Option X) (xs : List X) → length (cons_option o xs) ≤ suc (length xs)
cons_short None xs = omega arith
cons_short (Some x) xs = omega arith

found_short : {X Y : Type 0} (f : X → Option Y) (xs : List X) → length (filter_map f xs) ≤ length xs
found_short f [] = omega arith
found_short f (x ∷ xs) = omega (arith, cons_short (f x) (filter_map f xs), found_short f xs)

by_few : (p : Setup) (kind : Kind) (from : ℕ) → length (steps_by Elsewhere p kind from) ≤ 8
unfolding steps_by
by_few p kind from = omega (arith, found_short (step_by Elsewhere p kind from) (steps_of kind), steps_few kind)

if_few : (p : Setup) (from : ℕ) (o : Option Kind) → length (steps_if Elsewhere p from o) ≤ 8 * one_if (is_some o)
if_few p from None = omega arith
if_few p from (Some kind) = omega (arith, by_few p kind from)

from_few : (p : Setup) (from : ℕ) → length (steps_from Elsewhere p from) ≤ 8 * own_there (at p from)
unfolding steps_from
from_few p from = if_few p from (own_kind (at p from))

-- ---- sums
scaled : (f g : ℕ → ℕ) (times n : ℕ) → ((k : ℕ) → f k ≤ times * g k) → sum_below f n ≤ times * sum_below g n
scaled f g times zero few = omega arith
scaled f g times (suc n) few = omega (arith, few n, scaled f g times n few)

-- a sum over the squares is one over the board
squares_summed : (f : Cell → ℕ) (board : List Cell) → length board ≡ 12 → sum_below (λ k. f (slice_index_or board k None)) 12 ≡ sum_by f board
squares_summed f (a ∷ b ∷ c ∷ d ∷ e ∷ i ∷ j ∷ k ∷ l ∷ m ∷ n ∷ o ∷ []) twelve = omega arith
squares_summed f board twelve = absurd (omega arith)

-- ---- drops

-- one where nothing stands
abbrev free_there : Cell → ℕ
free_there cell = one_if (is_empty cell)

put_few : (cell : Cell) (b : Bool) (kind : HandKind) (to : ℕ) → length (option_to_list (cond b (put_if cell kind to) None)) ≤ 1 * free_there cell
put_few None true kind to = omega arith
put_few None false kind to = omega arith
put_few (Some piece) true kind to = omega arith
put_few (Some piece) false kind to = omega arith

-- no drop without a piece in hand, else one an empty square at most
pub record AreFewDrops (drops free pieces : ℕ) : Type 0 where
  pub none : pieces ≡ 0 → drops ≡ 0
  pub few : drops ≤ free

drops_few : (profile : Profile) (p : Setup) (kind : HandKind) → length p.board ≡ 12 →
    AreFewDrops (length (drops_of profile p kind)) (sum_by free_there p.board) (held p.hands.mover kind)
drops_few profile p kind twelve = record { none = none; few = few }
  where
    none : held p.hands.mover kind ≡ 0 → length (drops_of profile p kind) ≡ 0
    none e = ap length (drops_none profile p kind e)

    each : sum_below (λ to. length (puts_on profile p kind to)) 12 ≤ 1 * sum_below (λ to. free_there (at p to)) 12
    each = scaled (λ to. length (puts_on profile p kind to)) (λ to. free_there (at p to)) 1 12 (λ to. put_few (at p to) (may_put profile kind to) kind to)

    few : length (drops_of profile p kind) ≤ sum_by free_there p.board
    few = ⊎_elim
        (λ (some : 0 < held p.hands.mover kind). omega (
          arith,
          ap length (drops_all profile p kind some),
          length-each (puts_on profile p kind) 12,
          each,
          squares_summed free_there p.board twelve,
        ))
        (λ (less : held p.hands.mover kind ≤ 0). omega (arith, none (omega (arith, less))))
        (cases_lt 0 (held p.hands.mover kind))

-- ---- pieces

-- what counts as a kind in hand
abbrev kind_there : HandKind → Cell → ℕ
kind_there kind cell = one_if (holds_kind kind cell)

-- a piece of the mover is its lion, or counts as one of the kinds in hand
piece_counts : (side : Side) (kind : Kind) → own_there (Some (piece_of side kind)) ≤ one_if (holds_lion Mover (Some (piece_of side kind)))
    + kind_there hand.Chick (Some (piece_of side kind)) + kind_there hand.Elephant (Some (piece_of side kind)) + kind_there hand.Giraffe (Some (piece_of side kind))
piece_counts Enemy kind = omega arith
piece_counts Mover Lion = omega arith
piece_counts Mover _ = omega arith

own_counts : (cell : Cell) → own_there cell ≤ one_if (holds_lion Mover cell) + kind_there hand.Chick cell + kind_there hand.Elephant cell + kind_there hand.Giraffe cell
own_counts None = omega arith
own_counts (Some piece) = piece_counts piece.side piece.kind

piece_or_free : (side : Side) (kind : Kind) → own_there (Some (piece_of side kind)) ≤ 1
piece_or_free Mover kind = omega arith
piece_or_free Enemy kind = omega arith

own_or_free : (cell : Cell) → own_there cell + free_there cell ≤ 1
own_or_free None = omega arith
own_or_free (Some piece) = omega (arith, piece_or_free piece.side piece.kind)

own_few : (board : List Cell) → sum_by own_there board
    ≤ count_by (holds_lion Mover) board + count_by (holds_kind hand.Chick) board + count_by (holds_kind hand.Elephant) board + count_by (holds_kind hand.Giraffe) board
own_few [] = omega arith
own_few (cell ∷ cells) = omega (
  arith,
  own_few cells,
  own_counts cell,
  sum_by-cons own_there cell cells,
  sum_by-cons (λ (c : Cell). one_if (holds_lion Mover c)) cell cells,
  sum_by-cons (kind_there hand.Chick) cell cells,
  sum_by-cons (kind_there hand.Elephant) cell cells,
  sum_by-cons (kind_there hand.Giraffe) cell cells,
)

free_few : (board : List Cell) → sum_by own_there board + sum_by free_there board ≤ length board
free_few [] = omega arith
free_few (cell ∷ cells) = omega (arith, free_few cells, own_or_free cell, sum_by-cons own_there cell cells, sum_by-cons free_there cell cells)

-- ---- all moves

-- at most seven pieces of the mover, those in its hand among them; three kinds in hand at most
in_all : (own free chick elephant giraffe chicks elephants giraffes : ℕ) → own + chick + elephant + giraffe ≤ 7 → own + free ≤ 12 →
    AreFewDrops chicks free chick → AreFewDrops elephants free elephant → AreFewDrops giraffes free giraffe → 8 * own + (chicks + elephants + giraffes) ≤ 63
in_all own free zero zero zero chicks elephants giraffes few apart c e g = omega (arith, few, c.none refl, e.none refl, g.none refl)
in_all own free (suc i) zero zero chicks elephants giraffes few apart c e g = omega (arith, few, apart, c.few, e.none refl, g.none refl)
in_all own free zero (suc j) zero chicks elephants giraffes few apart c e g = omega (arith, few, apart, c.none refl, e.few, g.none refl)
in_all own free zero zero (suc k) chicks elephants giraffes few apart c e g = omega (arith, few, apart, c.none refl, e.none refl, g.few)
in_all own free (suc i) (suc j) zero chicks elephants giraffes few apart c e g = omega (arith, few, apart, c.few, e.few, g.none refl)
in_all own free (suc i) zero (suc k) chicks elephants giraffes few apart c e g = omega (arith, few, apart, c.few, e.none refl, g.few)
in_all own free zero (suc j) (suc k) chicks elephants giraffes few apart c e g = omega (arith, few, apart, c.none refl, e.few, g.few)
in_all own free (suc i) (suc j) (suc k) chicks elephants giraffes few apart c e g = omega (arith, few, apart, c.few, e.few, g.few)

-- the mover's pieces, on the board and in its hand
pieces_few : (p : Setup) → IsLegal p →
    sum_by own_there p.board + held p.hands.mover hand.Chick + held p.hands.mover hand.Elephant + held p.hands.mover hand.Giraffe ≤ 7
unfolding total
pieces_few p legal = omega (arith, own_few p.board, legal.lions Mover, legal.few hand.Chick, legal.few hand.Elephant, legal.few hand.Giraffe)

steps_in_all : (p : Setup) → length p.board ≡ 12 → length (all_steps Elsewhere p) ≤ 8 * sum_by own_there p.board
unfolding all_steps
steps_in_all p twelve = omega (
  arith,
  length-each (steps_from Elsewhere p) 12,
  scaled (λ from. length (steps_from Elsewhere p from)) (λ from. own_there (at p from)) 8 12 (from_few p),
  squares_summed own_there p.board twelve,
)

joined_long : (xs ys zs : List Move) → length (xs ++ ys ++ zs) ≡ length xs + length ys + length zs
joined_long xs ys zs = search (rules, length-append, append_assoc, arith)

pub drops_in_all : (profile : Profile) (p : Setup) → length (all_drops profile p)
    ≡ length (drops_of profile p hand.Chick) + length (drops_of profile p hand.Elephant) + length (drops_of profile p hand.Giraffe)
unfolding all_drops
drops_in_all profile p =
    joined_long (drops_of profile p hand.Chick) (drops_of profile p hand.Elephant) (drops_of profile p hand.Giraffe)

if_over : (over : Bool) (moves : List Move) (most : ℕ) → length moves ≤ most → length (if over then [] else moves) ≤ most
if_over true moves most few = omega arith
if_over false moves most few = few

-- the steps and drops of a position, whatever its status
pub walks_few : (profile : Profile) (p : Setup) → IsLegal p → length (all_steps Elsewhere p) + length (all_drops profile p) ≤ 63
walks_few profile p legal =
    let twelve : length p.board ≡ 12 = legal.squares in
    omega (
      arith,
      steps_in_all p twelve,
      drops_in_all profile p,
      in_all (sum_by own_there p.board) (sum_by free_there p.board) (held p.hands.mover hand.Chick) (held p.hands.mover hand.Elephant)
          (held p.hands.mover hand.Giraffe) (length (drops_of profile p hand.Chick)) (length (drops_of profile p hand.Elephant))
          (length (drops_of profile p hand.Giraffe)) (pieces_few p legal) (omega (arith, free_few p.board, twelve))
          (drops_few profile p hand.Chick twelve) (drops_few profile p hand.Elephant twelve) (drops_few profile p hand.Giraffe twelve),
    )

pub moves_few : (profile : Profile) (p : Setup) → IsLegal p → length (moves_of profile p) ≤ 63
unfolding moves_of
moves_few profile p legal =
    if_over (can_catch p || has_tried p) (all_steps Elsewhere p ++ all_drops profile p) 63
    (omega (arith, length-append (all_steps Elsewhere p) (all_drops profile p), walks_few profile p legal))
