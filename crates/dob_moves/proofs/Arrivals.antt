-- What the enemy sees of a move.
use Rattle.std.specs.Prelude.{◌-◌}
use Rattle.dob_moves.proofs.Common.{◌<◌, ◌∙◌, ◌≡◌, ◌≢◌, Bool, None, Some, ap, arith, inl, inr, length, refl, set, sym, ℕ, cases_eq}
use Rattle.dob_moves.proofs.Common.{get_or-set_other, get_or-set_same, length-set, at-turned, length-turned, at, piece_of}
use Rattle.dob_moves.proofs.Common.{turned_cell, with_one_less, Kind, Enemy, Mover, Setup, dropped, stepped, HandKind, Hand, Hands, kind_on_board}
use Rattle.dob_moves.proofs.Common.{Cell, arrives_as, is_own, false, kind_in_hand, true, with_caught}
use Rattle.dob_pieces.proofs.BoardChanges.{with_cell}
use Rattle.dob_pieces.specs.Setups.{turned}
use Rattle.dob_pieces.specs.Changes.{IsWith}
use Rattle.dob_moves.specs.Arrivals.{HasArrived, Met}
use Rattle.dob_moves.specs.Outcomes.{with_any}
use Rattle.dob_moves.proofs.Turns.{kind_of}

-- the square that was left is empty for the enemy too, and the piece arrived
pub step_arrived : (p : Setup) (kind : Kind) (from to : ℕ) (grows : Bool) → length p.board ≡ 12 → from < 12 → to < 12 →
    HasArrived (with_cell (turned p) (11 - from) None) (turned (stepped p kind from to grows)) (11 - to) (arrives_as kind grows)
unfolding stepped
step_arrived p kind from to grows twelve low_from low_to = record {
  here = at-turned (stepped p kind from to grows) (11 - to) (omega (arith, low_to))
      ∙ ap (λ (k : ℕ). turned_cell (at (stepped p kind from to grows) k)) (let twice : 11 - (11 - to) ≡ to = omega (arith, low_to) in twice)
      ∙ ap turned_cell (get_or-set_same (set p.board from None) to (Some (piece_of Mover (arrives_as kind grows))) None
      (let long = length-set p.board from None in omega (arith, twelve, low_to)));
  there = λ s below apart. elsewhere s below apart;
}
  where
    elsewhere : (s : ℕ) → s < 12 → s ≢ 11 - to → at (turned (stepped p kind from to grows)) s ≡ at (with_cell (turned p) (11 - from) None) s
    elsewhere s below apart = elim (cases_eq s (11 - from)) [
      | inl is ↦
          at-turned (stepped p kind from to grows) s below
          ∙ ap turned_cell (get_or-set_other (set p.board from None) to (11 - s) _ None (omega (arith, low_to, below, apart))
          ∙ ap (λ (k : ℕ). at (with_cell p from None) k) (let twice : 11 - s ≡ from = omega (arith, low_from, is) in twice)
          ∙ get_or-set_same p.board from None None (omega (arith, twelve, low_from)))
          ∙ sym (ap (λ (k : ℕ). at (with_cell (turned p) (11 - from) None) k) is ∙ get_or-set_same (turned p).board (11 - from) None None
          (let long = length-turned p in omega (arith, long, low_from)))
      | inr other ↦
          at-turned (stepped p kind from to grows) s below
          ∙ ap turned_cell (get_or-set_other (set p.board from None) to (11 - s) _ None (omega (arith, low_to, below, apart))
          ∙ get_or-set_other p.board from (11 - s) None None (omega (arith, low_from, below, other)))
          ∙ sym (at-turned p s below)
          ∙ sym (get_or-set_other (turned p).board (11 - from) s None None other)
    ]

pub drop_arrived : (p : Setup) (kind : HandKind) (to : ℕ) → length p.board ≡ 12 → to < 12 →
    HasArrived (turned p) (turned (dropped p kind to)) (11 - to) (kind_on_board kind)
unfolding dropped
drop_arrived p kind to twelve low_to =
    let twice : 11 - (11 - to) ≡ to = omega (arith, low_to) in record {
      here = rw (at-turned (dropped p kind to) (11 - to) (omega (arith, low_to)), twice, get_or-set_same p.board to (Some (piece_of Mover (kind_on_board kind))) None (omega (arith, twelve, low_to))) refl;
      there = λ s below apart. rw (at-turned (dropped p kind to) s below, at-turned p s below, get_or-set_other p.board to (11 - s) (Some (piece_of Mover (kind_on_board kind))) None (omega (arith, low_to, below, apart))) refl;
    }

-- the mover's hand, as the enemy sees it
pub hand_seen : (p : Setup) (hands : Hands) → hands ≡ (turned p).hands → hands.enemy ≡ p.hands.mover
unfolding turned
hand_seen p hands is = ap (λ (h : Hands). h.enemy) is

-- the enemy sees what is caught as its own
pub caught_seen : (p : Setup) (to square : ℕ) (kind : Kind) → to < 12 → square ≡ 11 - to → Met p to true →
    (is_own (at (turned p) square) ≡ true → at (turned p) square ≡ Some (piece_of Mover kind)) → at p to ≡ Some (piece_of Enemy kind)
caught_seen p to square kind low is met given =
    let taken = met.1 in
    let twice : 11 - (11 - to) ≡ to = omega (arith, low) in
    let seen : at (turned p) square ≡ Some (piece_of Mover taken.0) =
    ap (at (turned p)) is ∙ at-turned p (11 - to) (omega (arith, low)) ∙ ap (λ (k : ℕ). turned_cell (at p k)) twice ∙ ap turned_cell taken.1 in
    let same : taken.0 ≡ kind = ap kind_of (sym seen ∙ given (ap is_own seen)) in
    taken.1 ∙ ap (λ (k : Kind). let cell : Cell = Some (piece_of Enemy k) in cell) same

pub caught_hand : (p : Setup) (to : ℕ) (hand : Hand) (kind : Kind) → hand ≡ p.hands.mover → at p to ≡ Some (piece_of Enemy kind) →
    with_any hand (kind_in_hand kind) ≡ with_caught p.hands.mover (at p to)
caught_hand p to hand kind is there = rw (is, there) refl

pub caught_none : (p : Setup) (to : ℕ) → Met p to false → p.hands.mover ≡ with_caught p.hands.mover (at p to)
caught_none p to none = rw none refl

-- the hands after a move
pub hands_after_step : (p : Setup) (kind : Kind) (from to : ℕ) (grows : Bool) (hands : Hands) (hand : Hand) → hands ≡ (turned p).hands →
    hand ≡ with_caught p.hands.mover (at p to) → (turned (stepped p kind from to grows)).hands ≡ record { mover = hands.mover; enemy = hand }
unfolding turned stepped
hands_after_step p kind from to grows hands hand are is = rw (are, is) refl

pub hands_after_drop : (p : Setup) (kind : HandKind) (to : ℕ) (hands : Hands) (hand : Hand) → hands ≡ (turned p).hands →
    hand ≡ with_one_less hands.enemy kind → (turned (dropped p kind to)).hands ≡ record { mover = hands.mover; enemy = hand }
unfolding turned dropped
hands_after_drop p kind to hands hand are is = rw (is, are) refl

-- the square cleared and the hands as they are afterwards, the piece alone is more
pub arrived_on : (before after : Setup) (square : ℕ) (kind : Kind) → length before.board ≡ 12 → square < 12 → HasArrived before after square kind →
    IsWith (record (with_cell before square None) { hands = after.hands }) after square (Some (piece_of Enemy kind))
arrived_on before after square kind twelve low arrived = record {
  here = arrived.here;
  there = λ s below apart. arrived.there s below apart ∙ sym (get_or-set_other before.board square s None None apart);
  hands_stay = refl;
}
