-- The list of the ways has no way twice: their places in the walk ascend.
use Rattle.dob_unmove.proofs.Common.{◌*◌, ◌++◌, ◌+◌, ◌<◌, ◌∷◌, ◌≡◌, ◌≢◌, ◌≤◌, AllPairs, List, None, Option, Some, [], ap, arith, suc, sym, ℕ, each_below}
use Rattle.dob_unmove.proofs.Common.{kind_place, HandKind, Kind, Chick, Elephant, Giraffe, Hen, Lion, Setup, undoes, undoes_at, unputs, unsteps}
use Rattle.dob_unmove.proofs.Common.{unsteps_between, unsteps_from, RetroMove, Unput, Unstep}
use Rattle.dob_pieces.specs.declared.kind.HandKind.TheVariants as hand
use Rattle.dob_pieces.proofs.Lists.{Rising, rising-lower, rising-append, rising-cond, rising-each, rising-pairs}

-- ---- the place of a way in the walk
caught_place : Option Kind → ℕ
caught_place None = 0
caught_place (Some kind) = kind_place kind

hand_place : HandKind → ℕ
hand_place hand.Chick = 0
hand_place hand.Elephant = 1
hand_place hand.Giraffe = 2

-- A thousand for each square of arrival; within it a hundred for each kind of piece and for the drops behind them; within that five
-- for each square of departure, one for each kind that may be caught.
place : RetroMove → ℕ
place (Unstep kind from to caught) = 1000 * to + (100 * kind_place kind + (5 * from + caught_place caught))
place (Unput kind to) = 1000 * to + (500 + hand_place kind)

rising-higher : (low high more : ℕ) (us : List RetroMove) → high ≤ more → Rising place low high us → Rising place low more us
rising-higher low high more [] h r = omega arith
rising-higher low high more (u ∷ us) h r = (r.0, rising-higher (suc (place u)) high more us h r.1)

-- one list behind another
rising-then : (low mid next high : ℕ) (xs ys : List RetroMove) → Rising place low mid xs → mid ≤ next → Rising place next high ys → Rising place low high (xs ++ ys)
rising-then low mid next high xs ys first le second = rising-append place low mid high xs ys first (rising-lower place mid next high ys le second)

rising-one : (u : RetroMove) (low : ℕ) → place u ≡ low → Rising place low (suc low) (u ∷ [])
rising-one u low e = (omega (arith, e), omega (arith, e))

apart-place : (u v : RetroMove) → place u < place v → u ≢ v
apart-place u v lt e = let same : place u ≡ place v = ap place e in absurd (omega arith)

-- no way stands twice in a list whose places ascend
rising-once : (low high : ℕ) (us : List RetroMove) → Rising place low high us → AllPairs (λ u v. u ≢ v) us
rising-once low high us r = λ i j d before within. apart-place _ _ (rising-pairs place low high us r i j d before within)

-- ---- the places in the walk

module _ (t : Setup) where
  rising-between : (kind : Kind) (from to low : ℕ) → low ≡ 1000 * to + (100 * kind_place kind + 5 * from)
      → Rising place low (low + 5) (unsteps_between t kind from to)
  unfolding place caught_place
  rising-between kind from to low e = grind arith

  rising-from : (kind : Kind) (from to low : ℕ) → low ≡ 1000 * to + (100 * kind_place kind + 5 * from)
      → Rising place low (low + 5) (unsteps_from t kind to from)
  unfolding unsteps_from
  rising-from kind from to low e = rising-cond place _ low (low + 5) (unsteps_between t kind from to) (omega arith) (rising-between kind from to low e)

  rising-unsteps : (kind : Kind) (to low : ℕ) → low ≡ 1000 * to + 100 * kind_place kind → Rising place low (low + 60) (unsteps t kind to)
  unfolding unsteps
  rising-unsteps kind to low e =
      let step : (k : ℕ) → k < 12 → Rising place (low + 5 * k) (low + 5 * suc k) (unsteps_from t kind to k)
      = λ k lt. rising-higher _ _ _ _ (omega arith) (rising-from kind k to (low + 5 * k) (omega arith)) in
      rising-cond place _ low (low + 60) (each_below (unsteps_from t kind to) 12) (omega arith)
      (rising-lower place _ _ _ _ (omega arith) (rising-each place (unsteps_from t kind to) (λ k. low + 5 * k) 12 step))

  rising-unputs : (kind : HandKind) (to low : ℕ) → low ≡ 1000 * to + (500 + hand_place kind) → Rising place low (suc low) (unputs t kind to)
  unfolding unputs place
  rising-unputs kind to low e = rising-cond place _ low (suc low) (Unput kind to ∷ []) (omega arith) (rising-one (Unput kind to) low (sym e))

  rising-at : (to : ℕ) → Rising place (1000 * to) (1000 * suc to) (undoes_at t to)
  unfolding undoes_at hand_place
  rising-at to =
      let b = 1000 * to in
      rising-then _ _ _ _ _ _ (rising-unsteps Lion to b (omega arith)) (omega arith)
      (rising-then _ _ _ _ _ _ (rising-unsteps Giraffe to (b + 100) (omega arith)) (omega arith)
      (rising-then _ _ _ _ _ _ (rising-unsteps Elephant to (b + 200) (omega arith)) (omega arith)
      (rising-then _ _ _ _ _ _ (rising-unsteps Chick to (b + 300) (omega arith)) (omega arith)
      (rising-then _ _ _ _ _ _ (rising-unsteps Hen to (b + 400) (omega arith)) (omega arith)
      (rising-then _ _ _ _ _ _ (rising-unputs hand.Chick to (b + 500) (omega arith)) (omega arith)
      (rising-then _ _ _ _ _ _ (rising-unputs hand.Elephant to (b + 501) (omega arith)) (omega arith)
      (rising-higher _ _ (1000 * suc to) _ (omega arith) (rising-unputs hand.Giraffe to (b + 502) (omega arith)))))))))

  pub undoes_once : AllPairs (λ u v. u ≢ v) (undoes t)
  unfolding undoes
  undoes_once = rising-once _ _ (each_below (undoes_at t) 12) (rising-each place (undoes_at t) (λ k. 1000 * k) 12 (λ k lt. rising-at k))
