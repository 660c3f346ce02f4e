-- The sets of the ways: where the lion may stand, where a move may have ended, from where a piece may have come.
use Rattle.dob_unmove.proofs.Common.{◌&&◌, ◌==◌, ◌∙◌, ◌≡◌, ◌≢◌, Bool, Some, ap, false, inl, inr, not, refl, sym, true, ℕ}
use Rattle.dob_unmove.proofs.Common.{and_parts, cases_eq, eq-eqb, ne_eqb, length, cell_lion, is_that_lion, all_below-at, one_lion, IsMask-same}
use Rattle.dob_unmove.proofs.Common.{none_passes, passes_somewhere, everywhere, is_mask, IsMask, is_own, is_piece, Cell, HasLions, at, piece_of, row}
use Rattle.dob_unmove.proofs.Common.{within-from_piece, Kind, Lion, Side, Mover, Setup, elsewhere, TellsHome, comes_home, is_home, may_have_ended, One, Threat}
use mathlib.Core.Bool.{beq}
use Rattle.std.proofs.Math.Bool.{and-true}
use Rattle.dob_pieces.proofs.Symmetries.{beq-true}

-- ---- where the lion stands, and squares without it
pub off_far_row : (mask : ℕ) → IsMask (λ s. true && not (row s == 3)) mask → IsMask is_home mask
off_far_row mask is =
    IsMask-same (λ s. true && not (row s == 3)) is_home mask
    (λ s lt. beq-true (true && not (row s == 3)) (is_home s) (all_below-at (λ s. beq (true && not (row s == 3)) (is_home s)) 12 s refl lt)) is

pub nowhere : (test : ℕ → Bool) → ((s : ℕ) → test s ≡ false) → IsMask test 0
nowhere test none = IsMask-same (λ s. false) test 0 (λ s lt. sym (none s)) (is_mask (λ s. false) 0 refl)

-- the attacker's square alone
pub alone : (a s : ℕ) → (s == a) ≡ not (elsewhere (One a) s)
alone a s = elim (cases_eq s a) [
  | inl same ↦ eq-eqb s a same ∙ sym (ap (λ b. not (not b)) (eq-eqb a s (sym same)))
  | inr apart ↦ ne_eqb s a apart ∙ sym (ap (λ b. not (not b)) (ne_eqb a s (λ same. apart (sym same))))
]

pub comes_anywhere : (kind : Kind) → kind ≢ Lion → IsMask (comes_home kind) 4095
comes_anywhere Lion other = absurd (other refl)
comes_anywhere kind other = everywhere (comes_home kind) (λ s. refl)

-- ---- where a move may have ended

-- what passes as the lion of a side is it
pub lion_passes : (side : Side) (cell : Cell) → is_piece side Lion cell ≡ true → cell ≡ Some (piece_of side Lion)
lion_passes side cell h = is_that_lion side cell (sym (cell_lion side cell) ∙ h)

module _ (after : Setup) (threat : Threat) (both calm : ℕ) (twelve : length after.board ≡ 12) (lions : HasLions after)
    (both_are : IsMask (λ s. is_piece Mover Lion (at after s) && is_home s) both)
    (calm_are : IsMask (λ s. is_own (at after s) && not (elsewhere threat.attackers s)) calm) where
  -- whether the lion stands at home, and so where the move may have ended
  abbrev pub Told : ℕ → Type 0
  Told ends = (stays : Bool) × TellsHome after stays × IsMask (may_have_ended after threat stays) ends

  -- no lion at home
  pub away : (moved : ℕ) → both ≡ 0 → IsMask (may_have_ended after threat false) moved → Told moved
  away moved none are = (
    false,
    λ s is. rw (ap (is_piece Mover Lion) is) at
        (none_passes (λ k. is_piece Mover Lion (at after k) && is_home k) both both_are none s
        (rw twelve at (within-from_piece after s (piece_of Mover Lion) is))),
    are,
  )

  -- the lion at home
  pub at_home : both ≢ 0 → Told calm
  at_home some = (
    true,
    λ s is.
        let there = passes_somewhere (λ k. is_piece Mover Lion (at after k) && is_home k) both both_are some in
        let parts = and_parts (is_piece Mover Lion (at after there.0)) (is_home there.0) there.2 in
        rw (one_lion Mover after s there.0 lions is (lion_passes Mover (at after there.0) parts.0)) parts.1,
    IsMask-same (λ s. is_own (at after s) && not (elsewhere threat.attackers s)) (may_have_ended after threat true) calm
        (λ s lt. sym (and-true (is_own (at after s) && not (elsewhere threat.attackers s)))) calm_are,
  )
