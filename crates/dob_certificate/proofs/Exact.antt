-- A claim that is proved holds.
use Rattle.dob_certificate.proofs.Common.{◌-◌, ◌<◌, ◌≡◌, ◌≤◌, List, arith, inl, inr, subst, suc, zero, ℕ, cases_lt, Family, Profile, Setup, lost_stays}
use Rattle.dob_certificate.proofs.Common.{won_stays, HasValue, Lost, Won, Holds, Prove, ShowsDraw, ShowsLoss, ShowsWin, ShowsWon, SupportsAllHeld}
use Rattle.dob_certificate.proofs.Common.{SupportsAllLost, Claim, Entry, EVER}
use Rattle.dob_distance.specs.declared.value.Value.TheVariants.{Win, Loss, Draw}
use Rattle.dob_certificate.specs.declared.claim.Claim.TheVariants.{Exactly, LostWithin, WonWithin}
use Rattle.dob_certificate.proofs.Bounds.{said_lost, answered_won, said_held, safe_not_won}

-- what is not lost within one ply less than d, where d isn't 0, is lost in no fewer than d
least_loss : (profile : Profile) (d : ℕ) (p : Setup) → (0 < d → ¬ Lost profile (d - 1) p) → (n : ℕ) → Lost profile n p → d ≤ n
least_loss profile d p held n lost = elim (cases_lt n d) [
  | inl less ↦ absurd (held (omega arith) (lost_stays profile n (d - 1) p (omega arith) lost))
  | inr more ↦ more
]

-- and likewise of a win
least_win : (profile : Profile) (d : ℕ) (p : Setup) → (2 ≤ d → ¬ Won profile (d - 1) p) → (n : ℕ) → Won profile n p → d ≤ n
least_win profile d p held zero won = absurd won
least_win profile d p held (suc n) won = elim (cases_lt (suc n) d) [
  | inl less ↦ absurd (held (omega arith) (won_stays profile (suc n) (d - 1) p (omega arith) won))
  | inr more ↦ more
]

-- what is shown to be won is so
pub shown_won : (family : Family) (lost : List Entry) (p : Setup) → SupportsAllLost family lost → (d : ℕ) → ShowsWon family lost p d → Won family.profile d p
shown_won family lost p supported d shown =
    let back : suc (d - 1) ≡ d = omega (arith, shown.0) in
    subst (λ k. Won family.profile k p) back (answered_won family lost supported (d - 1) p shown.1)

module _ (family : Family) (lost held : List Entry) (p : Setup) (upper : SupportsAllLost family lost) (lower : SupportsAllHeld family held) where
  shown_loss : (d : ℕ) → ShowsLoss family lost held p d → HasValue family.profile p (Loss d)
  shown_loss d shown = (
    said_lost family lost upper d p shown.0,
    least_loss family.profile d p (λ some. said_held family held lower (d - 1) (d - 1) p (inr (omega arith)) (shown.1 some)),
  )

  shown_win : (d : ℕ) → ShowsWin family lost held p d → HasValue family.profile p (Win d)
  shown_win d shown = (
    shown_won family lost p upper d shown.0,
    least_win family.profile d p (λ two.
        let before : suc (d - 2) ≡ d - 1 = omega arith in
        subst (λ k. ¬ Won family.profile k p) before (safe_not_won family held lower (d - 2) (d - 2) p (inr (omega arith)) (shown.1 two))),
  )

  shown_draw : ShowsDraw family held p → HasValue family.profile p Draw
  shown_draw shown = λ n. (not_won n, said_held family held lower n EVER p (inl (omega arith)) shown.0)
    where
      not_won : (n : ℕ) → ¬ Won family.profile n p
      not_won zero won = absurd won
      not_won (suc n) won = safe_not_won family held lower n EVER p (inl (omega arith)) shown.1 won

-- a claim that the lists prove holds
pub proved_claim : (family : Family) (lost held : List Entry) (p : Setup) (claim : Claim) → Prove family lost held p claim → Holds family.profile p claim
proved_claim family lost held p (Exactly (Loss d)) proof = shown_loss family lost held p proof.lost_supported proof.held_supported d proof.shown
proved_claim family lost held p (Exactly (Win d)) proof = shown_win family lost held p proof.lost_supported proof.held_supported d proof.shown
proved_claim family lost held p (Exactly Draw) proof = shown_draw family lost held p proof.lost_supported proof.held_supported proof.shown
proved_claim family lost held p (LostWithin d) proof = said_lost family lost proof.lost_supported d p proof.shown
proved_claim family lost held p (WonWithin d) proof = shown_won family lost p proof.lost_supported d proof.shown
