-- Optional moves as lists, and the first move of a list.
use Rattle.dob_moves.proofs.Common.{◌<◌, ◌∷◌, ◌≡◌, ◌≤◌, Contains, List, None, Option, Some, [], ap, arith, inl, inr, option_to_list, refl, subst, suc, sym, ℕ}
use Rattle.dob_moves.proofs.Common.{Rising, cons_cases, head_in, none_in_empty, rising-after, place, first, Move, Bool, cond, true, false}

-- ---- an optional move

-- one that a test allows
pub cond_some : (b : Bool) (o : Option Move) (m : Move) → cond b o None ≡ Some m → (b ≡ true) × (o ≡ Some m)
cond_some true o m e = (refl, e)
cond_some false o m e = cc

pub option_sound : (o : Option Move) (m : Move) → Contains (option_to_list o) m → o ≡ Some m
option_sound None m h = absurd (none_in_empty m h)
option_sound (Some x) m h = elim (cons_cases x [] m h) [ inl e ↦ ap Some e | inr none ↦ absurd (none_in_empty m none) ]

pub option_whole : (o : Option Move) (m : Move) → o ≡ Some m → Contains (option_to_list o) m
option_whole o m e = subst (λ (v : Option Move). Contains (option_to_list v) m) (sym e) (head_in m [])

pub rising-option : (low high : ℕ) (o : Option Move) → low < high → ((m : Move) → o ≡ Some m → place m ≡ low) → Rising place low high (option_to_list o)
rising-option low high None lt h = omega arith
rising-option low high (Some x) lt h = (omega (arith, h x refl), omega (arith, lt, h x refl))

-- ---- ascending lists
rising-ends : (low high : ℕ) (ms : List Move) → Rising place low high ms → low ≤ high
rising-ends low high [] r = r
rising-ends low high (x ∷ ms) r = omega (arith, r.0, rising-ends (suc (place x)) high ms r.1)

-- each stands below the end
pub rising-below : (low high : ℕ) (ms : List Move) (m : Move) → Rising place low high ms → Contains ms m → place m < high
rising-below low high [] m r h = absurd (none_in_empty m h)
rising-below low high (x ∷ ms) m r h =
    elim (cons_cases x ms m h) [
      | inl it ↦ omega (arith, ap place it, rising-ends (suc (place x)) high ms r.1)
      | inr later ↦ rising-below (suc (place x)) high ms m r.1 later
    ]

-- ---- the first of a list
pub first_none : (ms : List Move) → first ms ≡ None → (m : Move) → Contains ms m → ⊥
first_none [] e m h = none_in_empty m h
first_none (x ∷ ms) e m h = cc

pub first_some : (ms : List Move) (m : Move) → first ms ≡ Some m → Contains ms m
first_some [] m e = cc
first_some (x ∷ ms) m e = let same : x ≡ m = cc in subst (Contains (x ∷ ms)) same (head_in x ms)

pub first_least : (low high : ℕ) (ms : List Move) (m other : Move) → Rising place low high ms → first ms ≡ Some m → Contains ms other → place m ≤ place other
first_least low high [] m other r e h = absurd (none_in_empty other h)
first_least low high (x ∷ ms) m other r e h = grind (arith, cons_cases, rising-after)
