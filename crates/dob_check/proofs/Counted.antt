-- What is counted of parts of the classes that lie side by side, and of all of them.
use Rattle.dob_check.proofs.Common.{◌*◌, ◌++◌, ◌+◌, ◌<◌, ◌^◌, ◌∙◌, ◌≡◌, ◌≤◌, List, Option, Some, [], ap, arith, length, min, subst, sym, take, ℕ, AllZip}
use Rattle.dob_check.proofs.Common.{range_with_len, slice_get, each_is, AreSlots, part_of, Group, part_count, part_size}
use Rattle.std.proofs.lemmas.List.{length-take, take_all, take_min}
use Rattle.dob_distance.specs.declared.value.Value.{Value}
use Rattle.dob_probe.proofs.Slotted.{part_joins, slots_none}
use Rattle.dob_check.proofs.Places.{part_begins}

-- the one at a place
pub part_at : {Y : Type 0} → (R : ℕ → Y → Type 0) (count : ℕ) (ys : List Y) → AllZip R (range_with_len 0 count) ys → (k : ℕ) (y : Y) → slice_get ys k ≡ Some y → R k y
part_at R count ys are k y at = let from : 0 + k ≡ k = omega arith in subst (λ n. R n y) from (each_is R 0 count ys are k y at)

-- what is counted so far is of the first classes
abbrev pub AreFirst : List Value → ℕ → List (Option Group) → Type 0
AreFirst values place slots = AreSlots (take (place * 65536) values) slots

module _ (values : List Value) where
  pub none_first : AreFirst values 0 []
  none_first = let none : 0 * 65536 ≡ 0 = omega arith in subst (λ (n : ℕ). AreSlots (take n values) []) (sym none) slots_none

  pub all_first : (place : ℕ) (slots : List (Option Group)) → part_count values ≤ place → AreFirst values place slots → AreSlots values slots
  all_first place slots all are =
      subst (λ (xs : List Value). AreSlots xs slots) (take_all (place * 65536) values (omega (arith, all))) are

  next_part : (place : ℕ) → place < part_count values
      → take (place * 65536) values ++ part_of values (place * 65536) (part_size values place) ≡ take ((place + 1) * 65536) values
  next_part place below =
      let from = part_begins values place below in
      let end : place * 65536 + part_size values place ≡ min ((place + 1) * 65536) (length values) = omega (arith, from) in
      part_joins values (place * 65536) (part_size values place) ∙ (ap (λ (n : ℕ). take n values) end ∙ take_min ((place + 1) * 65536) values)

  -- the next part behind the first classes
  pub one_more : (place : ℕ) (old more new : List (Option Group)) → length values < 2 ^ 64 → place < part_count values → AreFirst values place old
      → AreSlots (part_of values (place * 65536) (part_size values place)) more
      → ((xs rest : List Value) → length xs ≡ place * 65536 → length (xs ++ rest) < 2 ^ 64 → AreSlots xs old → AreSlots rest more → AreSlots (xs ++ rest) new)
      → AreFirst values (place + 1) new
  one_more place old more new few below are part added =
      let from = part_begins values place below in
      let next = next_part place below in
      let cut = length-take (place * 65536) values in
      let whole = length-take ((place + 1) * 65536) values in
      let long = ap length next in
      subst (λ (xs : List Value). AreSlots xs new) next
      (added (take (place * 65536) values) (part_of values (place * 65536) (part_size values place)) (omega (arith, cut, from)) (omega (arith, long, whole, few)) are part)
