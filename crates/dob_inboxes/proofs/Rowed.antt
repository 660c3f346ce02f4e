-- What stands where in rows, and in the row that a slot makes.
use Rattle.dob_inboxes.proofs.Common.{◌++◌, ◌+◌, ◌<◌, ◌∙◌, ◌∷◌, ◌≡◌, List, Option, Some, [], ap, arith, length, length-append, map, suc, sym, zero, ℕ}
use Rattle.dob_inboxes.proofs.Common.{slice_get_within, range_with_len, slice_get, Vec, BatchView, held_from, slot_row, AreRows, StandsAt}
use Rattle.dob_endpoint.proofs.Places.{none_at, each_more}
use Rattle.std.proofs.lemmas.List.FromFn.{map-range_with_len_more}

-- no rows, and one row more without things
pub no_rows : {X Z : Type 0} → (n : ℕ) (rows : List (Vec X Z)) → rows ≡ [] → AreRows 0 n rows
no_rows n rows none = record { count = ap length none; each = λ i row at. none_at rows i row none at }

pub row_added : {X Z : Type 0} → (k : ℕ) (rows new : List (Vec X Z)) (row : Vec X Z) → AreRows k 0 rows → new ≡ rows ++ row ∷ [] →
    length row.items ≡ 0 → AreRows (k + 1) 0 new
row_added {X} {Z} k rows new row are is empty = record {
  count = omega (arith, ap length is, length-append rows (row ∷ []), are.count);
  each = each_more (λ (j : ℕ) (other : Vec X Z). length other.items ≡ 0) rows new row k are.count is are.each empty;
}

-- nothing stands in empty rows
pub none_stands : {X Z L : Type 0} → (m i j : ℕ) (rows : List (Vec X Z)) (x : X) → AreRows m 0 rows → StandsAt rows i j x → L
none_stands m i j rows x are there = absurd (let low = slice_get_within there.0.items j x there.2 in omega (arith, low, are.each i there.0 there.1))

-- ---- a function of the first numbers
at_spread : {B : Type 0} (f : ℕ → B) (a n k : ℕ) → k < n → slice_get (map f (range_with_len a n)) k ≡ Some (f (a + k))
at_spread f a zero k low = absurd (omega (arith, low))
at_spread f a (suc n) zero low = let same : a ≡ a + 0 = omega arith in ap (λ (k : ℕ). Some (f k)) same
at_spread f a (suc n) (suc k) low = grind (arith, (at_spread f (a + 1) n k (omega (arith, low))))

-- what stands at a sender's place in the row of a slot
pub at_row : (n k : ℕ) (slot : Option BatchView) → k < n → slice_get (slot_row n slot) k ≡ Some (held_from slot k)
at_row n k slot low = let same : 0 + k ≡ k = omega arith in at_spread (held_from slot) 0 n k low ∙ ap (λ (j : ℕ). Some (held_from slot j)) same

pub row_grows : (n : ℕ) (slot : Option BatchView) (slots : List (Option BatchView)) (next : Option BatchView) → slots ≡ slot_row n slot →
    next ≡ held_from slot n → slots ++ next ∷ [] ≡ slot_row (n + 1) slot
row_grows n slot slots next so_far is =
    let both : slots ++ next ∷ [] ≡ slot_row n slot ++ held_from slot n ∷ [] = λ i. so_far i ++ is i ∷ [] in
    both ∙ sym (map-range_with_len_more (held_from slot) 0 n n (omega arith))
