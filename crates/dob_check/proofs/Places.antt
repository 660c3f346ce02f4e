-- Where a part of a table's classes begins, in which part a class stands, and what a watch learns of the classes of a part.
use Rattle.dob_check.proofs.Common.{◌*◌, ◌+◌, ◌<◌, ◌≡◌, ◌≤◌, ◌⊎◌, List, arith, false, inl, inr, length, refl, subst, sym, ℕ, cases_lt, part_count, part_end}
use Rattle.dob_check.proofs.Common.{IsToldIn}
use Rattle.std.proofs.lemmas.Bool.Decides.{nat_tests}
use Rattle.std.specs.Prelude.{◌/◌, ◌==◌}
use Rattle.dob_distance.specs.declared.value.Value.{Value}
use Rattle.dob_check.specs.Watching.{told_of}

module _ (values : List Value) where
  -- a part begins at or before the end
  pub part_begins : (place : ℕ) → place < part_count values → place * 65536 ≤ length values
  part_begins place below = omega (arith, below)

  -- each class stands in a part
  pub placed : (class : ℕ) → class < length values → (place : ℕ) × (place < part_count values) × (place * 65536 ≤ class) × (class < part_end values place)
  placed class within = (class / 65536, omega arith, omega arith, omega arith)

  module _ (place : ℕ) (begins : place * 65536 ≤ length values) where
    -- while the classes of a part are looked at those before it are reported
    told_before : (looked : ℕ) → place * 65536 ≤ looked → looked < part_end values place → told_of (length values) looked ≡ place * 65536
    told_before looked low high =
        let within : looked < length values = omega arith in
        let goes_on : (looked == length values) ≡ false = grind (arith, nat_tests) in rw goes_on (omega arith)

    -- and then they are
    told_then : told_of (length values) (part_end values place) ≡ part_end values place
    told_then = grind (arith, nat_tests)

    pub told_in : (Told : ℕ → Type 0) (news : ℕ) → place * 65536 + news ≡ part_end values place → (news ≡ 0) ⊎ Told news → IsToldIn Told values place
    told_in Told news is told class low high = elim (cases_lt (class + 1) (part_end values place)) [
      | inl inside ↦ (0, omega (arith, told_before class low high, told_before (class + 1) (omega arith) inside), inl refl)
      | inr upto ↦
          let last : class + 1 ≡ part_end values place = omega arith in
          let then = subst (λ (n : ℕ). told_of (length values) n ≡ n) (sym last) told_then in
          (news, omega (arith, told_before class low high, then), told)
    ]
