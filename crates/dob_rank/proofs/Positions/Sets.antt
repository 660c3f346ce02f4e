-- A position and its piece set.
use Rattle.dob_rank.proofs.Common.{◌<◌, ◌∙◌, ◌≡◌, ◌≤◌, ap, arith, map, refl, subst, suc, sym, ℕ, IsLegal, total, HandKind, PieceSet, Setup, count, layer, order}
use Rattle.dob_rank.proofs.Common.{IsPositionOfSet, pieces_of, Empty}
use Rattle.std.proofs.Math.Bridge.{le_prop}
use Rattle.dob_pieces.specs.declared.kind.HandKind.TheVariants as hand
use Rattle.dob_rank.proofs.Positions.Digits.{HasParts, HasParts-from_position}

-- a legal setup with the totals of the set
pub IsPositionOfSet-totals : (set : PieceSet) (s : Setup) → IsLegal s → set.chicks ≡ total hand.Chick s
    → set.elephants ≡ total hand.Elephant s → set.giraffes ≡ total hand.Giraffe s → IsPositionOfSet set s
IsPositionOfSet-totals set s legal c e g = record { legal = legal; pieces = by_kind }
  where
    by_kind : (kind : HandKind) → total kind s ≡ pieces_of set kind
    by_kind hand.Chick = sym c
    by_kind hand.Elephant = sym e
    by_kind hand.Giraffe = sym g

-- the piece set of a legal setup
abbrev pub set_of : (s : Setup) → IsLegal s → PieceSet
set_of s legal = record {
  chicks = total hand.Chick s;
  elephants = total hand.Elephant s;
  giraffes = total hand.Giraffe s;
  few_chicks = legal.few hand.Chick;
  few_elephants = legal.few hand.Elephant;
  few_giraffes = legal.few hand.Giraffe;
}

pub IsPositionOfSet-set_of : (s : Setup) (legal : IsLegal s) → IsPositionOfSet (set_of s legal) s
IsPositionOfSet-set_of s legal = IsPositionOfSet-totals (set_of s legal) s legal refl refl refl

one_few : (n : ℕ) → n ≡ 1 → n ≤ 2
one_few n h = omega arith

-- no layer of a legal setup has more than two cells but the empty one
pub few_in_layer : (s : Setup) (t : ℕ) → IsLegal s → t < order Empty → count t (map layer s.board) ≤ 2
few_in_layer s t legal below = by_layer t below
  where
    parts : HasParts (set_of s legal) s
    parts = HasParts-from_position (set_of s legal) s (IsPositionOfSet-set_of s legal)

    by_layer : (t : ℕ) → t < order Empty → count t (map layer s.board) ≤ 2
    by_layer (suc (suc (suc (suc (suc t))))) h = absurd (omega (arith, h))
    by_layer t h = omega (
      arith,
      parts.own_lion,
      parts.other_lion,
      parts.chicks,
      parts.elephants,
      parts.giraffes,
      legal.few hand.Chick,
      legal.few hand.Elephant,
      legal.few hand.Giraffe,
    )

-- ---- the pieces of a position give its set
abbrev set_with : (c e g : ℕ) → c ≤ 2 → e ≤ 2 → g ≤ 2 → PieceSet
set_with c e g few_c few_e few_g = record { chicks = c; elephants = e; giraffes = g; few_chicks = few_c; few_elephants = few_e; few_giraffes = few_g }

-- sets with the same numbers are the same
pub same_numbers : (p q : PieceSet) → p.chicks ≡ q.chicks → p.elephants ≡ q.elephants → p.giraffes ≡ q.giraffes → p ≡ q
same_numbers p q c e g =
    subst (λ (x : ℕ). (f : x ≤ 2) → p ≡ set_with x p.elephants p.giraffes f p.few_elephants p.few_giraffes) c
    (λ f. ap (λ (h : p.chicks ≤ 2). set_with p.chicks p.elephants p.giraffes h p.few_elephants p.few_giraffes) (le_prop p.few_chicks f)) q.few_chicks
    ∙ subst (λ (x : ℕ). (f : x ≤ 2) → set_with q.chicks p.elephants p.giraffes q.few_chicks p.few_elephants p.few_giraffes
    ≡ set_with q.chicks x p.giraffes q.few_chicks f p.few_giraffes) e
    (λ f. ap (λ (h : p.elephants ≤ 2). set_with q.chicks p.elephants p.giraffes q.few_chicks h p.few_giraffes) (le_prop p.few_elephants f)) q.few_elephants
    ∙ subst (λ (x : ℕ). (f : x ≤ 2) → set_with q.chicks q.elephants p.giraffes q.few_chicks q.few_elephants p.few_giraffes
    ≡ set_with q.chicks q.elephants x q.few_chicks q.few_elephants f) g
    (λ f. ap (λ (h : p.giraffes ≤ 2). set_with q.chicks q.elephants p.giraffes q.few_chicks q.few_elephants h) (le_prop p.few_giraffes f)) q.few_giraffes

-- so the pieces of a position give its set
pub set_of_position : (p q : PieceSet) (s : Setup) → IsPositionOfSet p s → IsPositionOfSet q s → p ≡ q
set_of_position p q s hp hq =
    same_numbers p q (sym (hp.pieces hand.Chick) ∙ hq.pieces hand.Chick) (sym (hp.pieces hand.Elephant) ∙ hq.pieces hand.Elephant)
    (sym (hp.pieces hand.Giraffe) ∙ hq.pieces hand.Giraffe)
