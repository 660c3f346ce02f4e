-- A position has the same status by the rules of each profile: where a chick lies in hand, a square below row 4 is empty.
use Rattle.dob_moves.proofs.Common.{◌+◌, ◌<◌, ◌↔◌, ◌∷◌, ◌≡◌, ◌≤◌, Bool, List, None, Some, [], arith, false, length, refl, slice_index_or, suc, true, zero, ℕ}
use Rattle.dob_moves.proofs.Common.{count_by, all_below-at, one_if, Cell, IsLegal, at, held, holds_kind, holds_lion, total, Enemy, Mover, Profile, A, B, Setup}
use Rattle.dob_moves.proofs.Common.{CanGo, may_put, HasStatus, Move, Put, Step, Status, Caught, Open, Stuck, Tried}
use Rattle.std.proofs.Common.{rules}
use Rattle.std.proofs.lemmas.List.Sums.{sum_by-cons}
use Rattle.dob_pieces.specs.declared.kind.HandKind.TheVariants as hand
use Rattle.dob_moves.proofs.ByProfile.{can_go}

-- ---- an empty square
abbrev is_taken : Cell → Bool
is_taken None = false
is_taken (Some piece) = true

one_more : (test : Cell → Bool) (cell : Cell) (cells : List Cell) → count_by test (cell ∷ cells) ≡ one_if (test cell) + count_by test cells
one_more test cell cells = sum_by-cons (λ x. one_if (test x)) cell cells

-- each piece is one side's lion or one of the kinds
one_each : (cell : Cell) → one_if (is_taken cell)
    ≡ one_if (holds_lion Mover cell) + one_if (holds_lion Enemy cell)
    + one_if (holds_kind hand.Chick cell) + one_if (holds_kind hand.Elephant cell) + one_if (holds_kind hand.Giraffe cell)
one_each None = refl
one_each (Some piece) = grind arith

pieces_counted : (cells : List Cell) → count_by is_taken cells
    ≡ count_by (holds_lion Mover) cells + count_by (holds_lion Enemy) cells
    + count_by (holds_kind hand.Chick) cells + count_by (holds_kind hand.Elephant) cells + count_by (holds_kind hand.Giraffe) cells
pieces_counted [] = refl
pieces_counted (cell ∷ cells) = omega (arith, pieces_counted cells, one_each cell, one_more)

-- of more squares than there are pieces one is empty
empty_below : (n : ℕ) (cells : List Cell) → count_by is_taken cells < n → n ≤ length cells → (k : ℕ) × (k < n) × (slice_index_or cells k None ≡ None)
empty_below zero cells few enough = absurd (omega (arith, few))
empty_below (suc n) [] few enough = absurd (omega (arith, enough))
empty_below (suc n) (None ∷ cells) few enough = (0, omega arith, refl)
empty_below (suc n) (Some piece ∷ cells) few enough =
    let later = empty_below n cells (omega (arith, few, one_more is_taken (Some piece) cells)) (omega (arith, enough)) in
    (suc later.0, omega (arith, later.1), later.2)

-- at most seven pieces stand on the board beside a chick in hand
few_stand : (p : Setup) → IsLegal p → 0 < held p.hands.mover hand.Chick → count_by is_taken p.board < 9
unfolding total
few_stand p legal some = search (rules, pieces_counted)

pub room : (p : Setup) → IsLegal p → 0 < held p.hands.mover hand.Chick → (to : ℕ) × (to < 9) × (at p to ≡ None)
room p legal some = let twelve = legal.squares in empty_below 9 p.board (few_stand p legal some) (omega (arith, twelve))

-- ---- a move

-- where a move can go one can by the rules of each profile
move_in : (profile : Profile) (p : Setup) → IsLegal p → (m : Move) → CanGo A p m → (move : Move) × CanGo profile p move
move_in A p legal m can = (m, can)
move_in B p legal (Step kind from to catch grows) can = (Step kind from to catch grows, (can.0, (can.1, refl)))
move_in B p legal (Put hand.Elephant to) can = (Put hand.Elephant to, (can.0, (can.1, refl)))
move_in B p legal (Put hand.Giraffe to) can = (Put hand.Giraffe to, (can.0, (can.1, refl)))
move_in B p legal (Put hand.Chick to) can =
    let there = room p legal can.1.in_hand in
    let low = there.1 in (
      Put hand.Chick there.0,
      (
        _,
        (
          record { in_hand = can.1.in_hand; on_board = omega (arith, low); free = there.2; outcome = refl },
          all_below-at (may_put B hand.Chick) 9 there.0 refl low,
        ),
      ),
    )

pub share_status : (profile : Profile) (p : Setup) (s : Status) → IsLegal p → HasStatus A p s ↔ HasStatus profile p s
share_status profile p Caught legal = (λ h. h, λ h. h)
share_status profile p Tried legal = (λ h. h, λ h. h)
share_status profile p Stuck legal = (
  λ h. (h.0, h.1, λ m can. h.2 m (can_go profile p m can)),
  λ h. (h.0, h.1, λ m can. let found = move_in profile p legal m can in h.2 found.0 found.1),
)
share_status profile p Open legal = (
  λ h. (h.0, h.1, move_in profile p legal h.2.0 h.2.1),
  λ h. (h.0, h.1, (h.2.0, can_go profile p h.2.0 h.2.1)),
)
