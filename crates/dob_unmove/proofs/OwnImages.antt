-- Positions that are their own mirror images: their lions stand on column b.
use Rattle.dob_unmove.proofs.Common.{◌&&◌, ◌<◌, ◌==◌, ◌||◌, ◌∙◌, ◌≡◌, Bool, Some, ap, false, not, refl, sym, true, ℕ, eq-eqb, all_below}
use Rattle.dob_unmove.proofs.Common.{all_below-at, at-mirrored, one_lion, empty_mask, IsMask, is_piece, HasLions, at, mirrored, piece_of}
use Rattle.dob_unmove.proofs.Common.{column, mirrored_square, Lion, Side, Enemy, Mover, Setup, not-true}
use Rattle.dob_unmove.proofs.WayMasks.{lion_passes}

-- of columns a and c
abbrev is_beside_b : ℕ → Bool
is_beside_b s = not (column s == 1)

abbrev moves_if_beside_b : ℕ → Bool
moves_if_beside_b s = not (mirrored_square s == s) || not (is_beside_b s)

all_move : all_below moves_if_beside_b 12 ≡ true
all_move = refl

fixed_on_b : (s : ℕ) → s < 12 → mirrored_square s ≡ s → is_beside_b s ≡ false
fixed_on_b s lt same = not-true (is_beside_b s) (rw (eq-eqb (mirrored_square s) s same) at (all_below-at moves_if_beside_b 12 s all_move lt))

either : (a b c : Bool) → (a ≡ true → c ≡ false) → (b ≡ true → c ≡ false) → ((a || b) && c) ≡ false
either true b c first second = first refl
either false true c first second = second refl
either false false c first second = refl

module _ (p : Setup) (lions : HasLions p) (own : mirrored p ≡ p) where
  lion_on_b : (side : Side) (s : ℕ) → s < 12 → is_piece side Lion (at p s) ≡ true → is_beside_b s ≡ false
  lion_on_b side s lt passes =
      let there = lion_passes side (at p s) passes in
      let image : at p (mirrored_square s) ≡ Some (piece_of side Lion) = sym (at-mirrored p s lt) ∙ ap (λ (x : Setup). at x s) own ∙ there in
      fixed_on_b s lt (one_lion side p (mirrored_square s) s lions image there)

  pub lions_on_b : (mask : ℕ) → IsMask (λ s. (is_piece Mover Lion (at p s) || is_piece Enemy Lion (at p s)) && not (column s == 1)) mask → mask ≡ 0
  lions_on_b mask are =
      empty_mask (λ s. (is_piece Mover Lion (at p s) || is_piece Enemy Lion (at p s)) && is_beside_b s) mask are
      (λ s lt. either (is_piece Mover Lion (at p s)) (is_piece Enemy Lion (at p s)) (is_beside_b s) (lion_on_b Mover s lt) (lion_on_b Enemy s lt))
