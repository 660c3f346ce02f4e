-- What the ways add, one list after the other: nothing where none can lead to an open position.
use Rattle.dob_unmove.proofs.Common.{◌++◌, ◌+◌, ◌<◌, ◌∷◌, ◌≡◌, ◌≤◌, Bool, Contains, List, [], arith, cases_Bool, false, filter, inl, inr}
use Rattle.dob_unmove.proofs.Common.{refl, subst, suc, true, zero, ℕ, Contains-append_right, head_in, IsWalked, each_range, passing}
use Rattle.dob_unmove.proofs.Common.{squares_in, walk_next, walk_passes, walk_start, walk_whole, each_below, IsMask}
use Rattle.dob_unmove.proofs.Common.{RetroMove, TakesAll}
use Rattle.dob_unmove.proofs.Runs.{takes_append}
use Rattle.std.specs.List.{flat_map, range_with_len}

module _ (R : List ℕ → RetroMove → List ℕ → Type 0) where
  -- the way adds nothing
  abbrev pub IsDead : RetroMove → Type 0
  IsDead u = (xs : List ℕ) → R xs u xs

  pub takes_dead : (us : List RetroMove) (xs : List ℕ) → ((u : RetroMove) → Contains us u → IsDead u) → TakesAll R xs us xs
  takes_dead [] xs dead = refl
  takes_dead (u ∷ us) xs dead = (xs, dead u (head_in u us) xs, takes_dead us xs (λ v inside. dead v (Contains-append_right (u ∷ []) us v inside)))

  -- what the ways of two lists add
  takes_split : (us vs : List RetroMove) (xs zs : List ℕ) → TakesAll R xs (us ++ vs) zs → (ys : List ℕ) × TakesAll R xs us ys × TakesAll R ys vs zs
  takes_split [] vs xs zs h = (xs, refl, h)
  takes_split (u ∷ us) vs xs zs h = let rest = takes_split us vs h.0 zs h.2 in (rest.0, (h.0, h.1, rest.1), rest.2)

  -- ---- walks over the squares of a set

  -- where the test fails the ways are dead
  abbrev pub AreDead : (ℕ → Bool) → (ℕ → List RetroMove) → Type 0
  AreDead test g = (k : ℕ) → k < 12 → test k ≡ false → (u : RetroMove) → Contains (g k) u → IsDead u

  -- the squares of a set gone over, and what their ways added so far
  pub record IsGathered (test : ℕ → Bool) (g : ℕ → List RetroMove) (left : ℕ) (walked before items : List ℕ) : Type 0 where
    pub ways : List RetroMove
    pub walk : IsWalked test g left walked [] ways
    pub gathered : TakesAll R before ways items

  module _ (test : ℕ → Bool) (g : ℕ → List RetroMove) where
    with_dead : AreDead test g → (a n : ℕ) (xs ys : List ℕ) → a + n ≤ 12
        → TakesAll R xs (flat_map g (filter test (range_with_len a n))) ys → TakesAll R xs (flat_map g (range_with_len a n)) ys
    with_dead dead a zero xs ys le h = h
    with_dead dead a (suc n) xs ys le h = elim (cases_Bool (test a)) [
      | inl is ↦
          let parts = takes_split (g a) (flat_map g (filter test (range_with_len (a + 1) n))) xs ys (rw is at h) in
          takes_append R xs parts.0 ys (g a) (flat_map g (range_with_len (a + 1) n)) parts.1
          (with_dead dead (a + 1) n parts.0 ys (omega (arith, le)) parts.2)
      | inr isnt ↦
          takes_append R xs xs ys (g a) (flat_map g (range_with_len (a + 1) n))
          (takes_dead (g a) xs (dead a (omega (arith, le)) isnt)) (with_dead dead (a + 1) n xs ys (omega (arith, le)) (rw isnt at h))
    ]

    pub gathered_start : (mask : ℕ) (before : List ℕ) → IsMask test mask → IsGathered test g mask [] before before
    gathered_start mask before is = record { ways = []; walk = walk_start test g mask [] is; gathered = refl }

module _ {R : List ℕ → RetroMove → List ℕ → Type 0} {test : ℕ → Bool} {g : ℕ → List RetroMove} {left : ℕ} {walked before items : List ℕ}
    (w : IsGathered R test g left walked before items) where
  -- the next square passes the test
  pub passes_next : {place : ℕ} {others : List ℕ} → squares_in left ≡ place ∷ others → test place ≡ true
  passes_next next = walk_passes w.walk next

  pub gathered_next : {place rest : ℕ} {others new : List ℕ} → squares_in left ≡ place ∷ others → others ≡ squares_in rest
      → TakesAll R items (g place) new → IsGathered R test g rest (walked ++ place ∷ []) before new
  gathered_next {place} {new = new} next same more = record {
    ways = w.ways ++ g place;
    walk = walk_next w.walk next same (λ passes. refl);
    gathered = takes_append R before items new w.ways (g place) w.gathered more;
  }

  pub gathered_end : AreDead R test g → squares_in left ≡ [] → TakesAll R before (each_below g 12) items
  unfolding passing
  gathered_end dead none =
      subst (λ (us : List RetroMove). TakesAll R before us items) (each_range g)
      (with_dead R test g dead 0 12 before items (omega arith)
      (subst (λ (us : List RetroMove). TakesAll R before us items) (walk_whole w.walk none) w.gathered))
