-- Who attacks a square, and where the lions stand, by masks.
use Rattle.dob_pieces.proofs.Common.{◌&&◌, ◌<◌, ◌||◌, ◌∙◌, ◌∷◌, ◌≡◌, Bool, List, None, Some, [], ap, arith, cond, get_or, inl, inr, length}
use Rattle.dob_pieces.proofs.Common.{refl, suc, sym, true, ℕ, cases_Bool, sum_by-cons, count_by, AreSquares, IsFirst, IsMask, attacks}
use Rattle.dob_pieces.proofs.Common.{attacks_by, is_piece, is_lion, is_side, leads, Cell, HasLions, at, holds_lion, piece_of, Kind, Chick, Elephant, Giraffe}
use Rattle.dob_pieces.proofs.Common.{Hen, Lion, Piece, Side, Enemy, Mover, Setup}
use Rattle.std.proofs.Math.Bool.{or-false}
use Rattle.dob_pieces.proofs.MaskBits.{IsMask-same, lowest_is, some_passes}

-- ---- the lions
lion_by : (side own : Side) (kind : Kind) → (is_side side own && is_lion kind) ≡ true → (own ≡ side) × (kind ≡ Lion)
lion_by Mover Mover Lion h = (refl, refl)
lion_by Enemy Enemy Lion h = (refl, refl)
lion_by _ _ _ h = cc

pub is_that_lion : (side : Side) (cell : Cell) → holds_lion side cell ≡ true → cell ≡ Some (piece_of side Lion)
is_that_lion side None h = cc
is_that_lion side (Some piece) h = let parts = lion_by side piece.side piece.kind h in λ i. Some (piece_of (parts.0 i) (parts.1 i))

piece_lion : (side own : Side) (kind : Kind) → is_piece side Lion (Some (piece_of own kind)) ≡ holds_lion side (Some (piece_of own kind))
piece_lion side own Lion = refl
piece_lion side own _ = refl

pub cell_lion : (side : Side) (cell : Cell) → is_piece side Lion cell ≡ holds_lion side cell
cell_lion side None = refl
cell_lion side (Some piece) = piece_lion side piece.side piece.kind

-- what is counted stands somewhere
counted : (test : Cell → Bool) (cells : List Cell) → 0 < count_by test cells → (k : ℕ) × (k < length cells) × (test (get_or cells k None) ≡ true)
counted test [] h = absurd (omega arith)
counted test (c ∷ cs) h =
    elim (cases_Bool (test c)) [
      | inl is ↦ (0, omega arith, is)
      | inr isnt ↦
          let first : cond {A = ℕ} (test c) 1 0 ≡ 0 = ap (λ b. cond b 1 0) isnt in
          let w = counted test cs (omega (arith, sum_by-cons (λ x. cond (test x) 1 0) c cs, first, h)) in
          (suc w.0, omega (arith, w.1), w.2)
    ]

-- a side's lion has a mask with a bit
pub lion_mask : (p : Setup) (side : Side) (mask : ℕ) → length p.board ≡ 12 → HasLions p → AreSquares p (is_piece side Lion) mask → 0 < mask
lion_mask p side mask twelve lions are =
    let w = counted (holds_lion side) p.board (omega (arith, lions side)) in
    some_passes (λ square. is_piece side Lion (at p square)) mask w.0 are (rw twelve at w.1) (cell_lion side (at p w.0) ∙ w.2)

-- which says where it stands
pub lion_at : (p : Setup) (side : Side) (mask place : ℕ) → AreSquares p (is_piece side Lion) mask → IsFirst mask place
    → at p place ≡ Some (piece_of side Lion)
lion_at p side mask place are first =
    let it = lowest_is (λ square. is_piece side Lion (at p square)) mask place are first in
    is_that_lion side (at p place) (sym (cell_lion side (at p place)) ∙ it.passes)

-- ---- attackers

-- the pieces of the kind that step by the test
abbrev pub of_kind : Cell → Kind → Bool → Bool
of_kind cell kind steps = is_piece Mover kind cell && steps

abbrev pub any_kind : Cell → (Kind → Bool) → Bool
any_kind cell steps =
    of_kind cell Lion (steps Lion) || of_kind cell Giraffe (steps Giraffe) || of_kind cell Elephant (steps Elephant)
    || of_kind cell Chick (steps Chick) || of_kind cell Hen (steps Hen)

any_piece : (side : Side) (kind : Kind) (steps : Kind → Bool) → any_kind (Some (piece_of side kind)) steps ≡ (is_side Mover side && steps kind)
any_piece Enemy kind steps = refl
any_piece Mover Hen steps = refl
any_piece Mover _ steps = simp or-false

any_attacks : (cell : Cell) (from to : ℕ) → any_kind cell (λ kind. leads kind from to) ≡ attacks_by cell from to
any_attacks None from to = refl
any_attacks (Some piece) from to = any_piece piece.side piece.kind (λ kind. leads kind from to)

pub attackers_are : (p : Setup) (target mask : ℕ) → IsMask (λ from. any_kind (at p from) (λ kind. leads kind from target)) mask
    → IsMask (λ from. attacks p from target) mask
attackers_are p target mask are = IsMask-same _ (λ from. attacks p from target) mask (λ from lt. any_attacks (at p from) from target) are

-- ---- who attacks
by_side : (piece : Piece) (from to : ℕ) → (is_side Mover piece.side && leads piece.kind from to) ≡ true
    → (piece.side ≡ Mover) × (leads piece.kind from to ≡ true)
by_side piece from to h = grind arith

pub attacks_piece : (cell : Cell) (from to : ℕ) → attacks_by cell from to ≡ true
    → (kind : Kind) × (cell ≡ Some (piece_of Mover kind)) × (leads kind from to ≡ true)
attacks_piece None from to h = cc
attacks_piece (Some piece) from to h = let parts = by_side piece from to h in (piece.kind, (λ i. Some (piece_of (parts.0 i) piece.kind)), parts.1)

pub own_attacks : (cell : Cell) (kind : Kind) (from to : ℕ) → cell ≡ Some (piece_of Mover kind) → attacks_by cell from to ≡ leads kind from to
own_attacks cell kind from to e = ap (λ (c : Cell). attacks_by c from to) e
