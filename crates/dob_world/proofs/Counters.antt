-- The detector's counts after an event, and the counters that are read from them.
use Rattle.dob_world.proofs.Common.{◌*◌, ◌+◌, ◌<◌, ◌^◌, ◌∙◌, ◌≡◌, ◌≤ℤ◌, ◌≤◌, FitsSigned, List, Raises, add-one, arith, get_or, get_or-set_other}
use Rattle.dob_world.proofs.Common.{get_or-set_same, get_or_default, inl, inr, ints, length, mul-add-lt, of_z, pos, same_from_place, set, slice_index, subst}
use Rattle.dob_world.proofs.Common.{suc, sum_below, sym, to_z, to_z-of_z, w64, ℕ}
use Rattle.std.proofs.Math.IntN.{ℤ, neg_ℤ, ◌-ℤ◌}
use Rattle.std.proofs.lemmas.Int.{to_z_pos}

-- ---- lists by pairs of nodes
inside : (n : ℕ) (counts : List ℕ) (i j : ℕ) → i < n → j < n → length counts ≡ n * n → i * n + j < length counts
inside n counts i j low_i low_j whole = let low : i * n + j < n * n = mul-add-lt i n j n low_i low_j in omega (arith, low, whole)

-- one count of a list is one more
pub raised : (n : ℕ) (counts : List ℕ) (i j was now : ℕ) → i < n → j < n → length counts ≡ n * n → was ≡ get_or counts (i * n + j) was → now ≡ was + 1 →
    Raises n (λ k l. slice_index counts (k * n + l)) (λ k l. slice_index (set counts (i * n + j) now) (k * n + l)) i j
raised n counts i j was now low_i low_j whole there more = record {
  one_more = get_or-set_same counts (i * n + j) now 0 within
      ∙ (let is : get_or counts (i * n + j) 0 ≡ was = get_or_default counts (i * n + j) 0 was within ∙ sym there in omega (arith, is, more));
  others = λ k l low_k low_l apart. get_or-set_other counts (i * n + j) (k * n + l) now 0 (λ same.
      let both = same_from_place k l i j n low_l low_j same in
      elim apart [ inl ne ↦ ne both.0 | inr ne ↦ ne both.1 ]);
}
  where
    within : i * n + j < length counts
    within = inside n counts i j low_i low_j whole

-- a count that was read
pub read_at : (n nodes : ℕ) (counts : List ℕ) (i j number : ℕ) → nodes ≡ n → i < n → j < n → length counts ≡ n * n →
    number ≡ get_or counts (i * nodes + j) number → number ≡ slice_index counts (i * n + j)
read_at n nodes counts i j number same low_i low_j whole there =
    subst (λ (m : ℕ). number ≡ get_or counts (i * m + j) number) same there
    ∙ get_or_default counts (i * n + j) number 0 (inside n counts i j low_i low_j whole)

-- ---- counters

-- one count more is added to those before it
pub sum_more : (k : ℕ) (f : ℕ → ℕ) (total number : ℕ) → total ≡ sum_below k f → number ≡ f k → total + number ≡ sum_below (k + 1) f
sum_more k f total number so_far is = rw add-one (let more : total + number ≡ sum_below (suc k) f = λ q. so_far q + is q in more)

-- the difference of two small numbers, and a small one that was read
pub difference : (x y : ℕ) → x ≤ 2 ^ 44 → y ≤ 2 ^ 44 → to_z w64 (of_z w64 (to_z w64 x -ℤ to_z w64 y)) ≡ pos x -ℤ pos y
difference x y small_x small_y =
    let low_x : x < 2 ^ 63 = omega (arith, small_x) in
    let low_y : y < 2 ^ 63 = omega (arith, small_y) in
    rw (to_z_pos w64 x low_x, to_z_pos w64 y low_y) (to_z-of_z w64 (pos x -ℤ pos y) (let fits : FitsSigned w64 (pos x -ℤ pos y) = omega (arith, ints) in fits))

pub read_back : (z : ℤ) → neg_ℤ (pos (2 ^ 44)) ≤ℤ z → z ≤ℤ pos (2 ^ 44) → to_z w64 (of_z w64 z) ≡ z
read_back z low high = to_z-of_z w64 z (let fits : FitsSigned w64 z = omega (arith, ints) in fits)
