-- Won and lost positions at different depths.
use Rattle.dob_distance.proofs.Common.{◌+◌, ◌≡◌, ◌≤◌, ap, arith, inl, inr, refl, subst, suc, zero, ℕ, Profile, Setup, HasStatus, Caught, Open, LostStaysLost}
use Rattle.dob_distance.proofs.Common.{OneValue, WonStaysWon, HasLost, Lost, Won, Draw, Loss, Win, cases_lt}

-- one ply more changes nothing
mutual
  pub won_one_more : (profile : Profile) (n : ℕ) (p : Setup) → Won profile n p → Won profile (suc n) p
  won_one_more profile zero p h = absurd h
  won_one_more profile (suc n) p h = elim h [
    | inl caught ↦ inl caught
    | inr open_win ↦ inr (open_win.0, open_win.1, open_win.2, open_win.3, lost_one_more profile n open_win.2 open_win.4)
  ]

  pub lost_one_more : (profile : Profile) (n : ℕ) (p : Setup) → Lost profile n p → Lost profile (suc n) p
  lost_one_more profile zero p h = inl h
  lost_one_more profile (suc n) p h = elim h [
    | inl over ↦ inl over
    | inr open_loss ↦ inr (open_loss.0, λ move q goes. won_one_more profile n q (open_loss.1 move q goes))
  ]

-- nor does any number of plies more
stays : (P : ℕ → Type 0) → ((n : ℕ) → P n → P (suc n)) → (n m : ℕ) → n ≤ m → P n → P m
stays P more n zero le h = let e : n ≡ zero = omega arith in subst P e h
stays P more n (suc m) le h = elim (cases_lt m n) [
  | inl last ↦ (let e : n ≡ suc m = omega arith in subst P e h)
  | inr before ↦ more m (stays P more n m before h)
]

pub won_stays : WonStaysWon
won_stays profile n m p more h = stays (λ k. Won profile k p) (λ k. won_one_more profile k p) n m more h

pub lost_stays : LostStaysLost
lost_stays profile n m p more h = stays (λ k. Lost profile k p) (λ k. lost_one_more profile k p) n m more h

-- a lost position neither catches the lion nor is open
pub lost_not_caught : (profile : Profile) (p : Setup) → HasLost profile p → ¬ HasStatus profile p Caught
lost_not_caught profile p over caught = elim over [ inl tried ↦ tried.0 caught | inr stuck ↦ stuck.0 caught ]

pub lost_not_open : (profile : Profile) (p : Setup) → HasLost profile p → ¬ HasStatus profile p Open
lost_not_open profile p over goes_on = elim over [
  | inl tried ↦ goes_on.1 tried.1
  | inr stuck ↦ stuck.2 goes_on.2.0 goes_on.2.1
]

-- no position is both won and lost: not at one depth, and so at no two
not_both : (profile : Profile) (n : ℕ) (p : Setup) → Won profile n p → ¬ Lost profile n p
not_both profile zero p won lost = absurd won
not_both profile (suc n) p won lost = elim won [
  | inl caught ↦ elim lost [
    | inl over ↦ lost_not_caught profile p over caught
    | inr open_loss ↦ open_loss.0.0 caught
  ]
  | inr open_win ↦ elim lost [
    | inl over ↦ lost_not_open profile p over open_win.0
    | inr open_loss ↦ not_both profile n open_win.2 (open_loss.1 open_win.1 open_win.2 open_win.3) open_win.4
  ]
]

pub won_not_lost : (profile : Profile) (n m : ℕ) (p : Setup) → Won profile n p → ¬ Lost profile m p
won_not_lost profile n m p won lost =
    not_both profile (n + m) p (won_stays profile n (n + m) p (omega arith) won) (lost_stays profile m (n + m) p (omega arith) lost)

-- a position has at most one value
pub at_most_one_value : OneValue
at_most_one_value profile p (Win a) (Win b) h k = ap Win (omega (arith, h.1 b k.0, k.1 a h.0))
at_most_one_value profile p (Win a) (Loss b) h k = absurd (won_not_lost profile a b p h.0 k.0)
at_most_one_value profile p (Win a) Draw h k = absurd ((k a).0 h.0)
at_most_one_value profile p (Loss a) (Win b) h k = absurd (won_not_lost profile b a p k.0 h.0)
at_most_one_value profile p (Loss a) (Loss b) h k = ap Loss (omega (arith, h.1 b k.0, k.1 a h.0))
at_most_one_value profile p (Loss a) Draw h k = absurd ((k a).1 h.0)
at_most_one_value profile p Draw (Win b) h k = absurd ((h b).0 k.0)
at_most_one_value profile p Draw (Loss b) h k = absurd ((h b).1 k.0)
at_most_one_value profile p Draw Draw h k = refl
