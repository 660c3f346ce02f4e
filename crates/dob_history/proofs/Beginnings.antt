-- The histories of nodes at their opening.
use Rattle.dob_history.proofs.Common.{◌%◌, ◌*◌, ◌++◌, ◌+◌, ◌<◌, ◌∙◌, ◌≡◌, ◌≢◌, ◌≤◌, All, Better, Bool, Draw, FollowsAtStatus, IsChained, IsEntry, List, None}
use Rattle.dob_history.proofs.Common.{Open, Option, Settlement, Some, Status, Value, [], ap, append-nil, arith, cases_eq, cond, eq-eqb, eqb, inl, inr, length}
use Rattle.dob_history.proofs.Common.{mod-eq_of_lt, mul-add-mod_self_right, nat_tests, ne_eqb, opening_settlement, opening_settlements, opening_value, refl}
use Rattle.dob_history.proofs.Common.{same_from_place, subst, suc, sym, value_of, zero, ℕ}
use Rattle.dob_history.proofs.Starts.{all_started}
use Rattle.dob_history.proofs.Settles.{chained_more, chained_none, value_of-more}

-- the value, where there is one, or else another
abbrev pub or_else : Option Value → Value → Value
or_else None v = v
or_else (Some now) v = now

one_more : (xs : List Settlement) (number class p : ℕ) (o : Option Value) →
    value_of (xs ++ opening_settlement number class o) p ≡ cond (eqb class p) (or_else o (value_of xs p)) (value_of xs p)
one_more xs number class p None = rw append-nil (grind (arith, nat_tests))
one_more xs number class p (Some now) = value_of-more xs (record { number = number; class = class; was = Draw; now = now }) p

better_draw : (status : Status) (now : Value) → opening_value status ≡ Some now → Better Draw now
better_draw status now is = grind arith

pub entry_opened : (status : Status) → IsEntry (or_else (opening_value status) Draw)
entry_opened status = grind arith

pub closed_follows : (status : Status) → status ≢ Open → FollowsAtStatus status [] (or_else (opening_value status) Draw)
closed_follows status closed = grind arith

module _ (n id : ℕ) (one_of_n : id < n) (status : ℕ → Status) where
  abbrev class : ℕ → ℕ
  class place = place * n + id

  abbrev settled : ℕ → List Settlement
  settled places = opening_settlements status n id places

  apart : (a b : ℕ) → a ≢ b → class a ≢ class b
  apart a b other same = other (same_from_place a id b id n one_of_n one_of_n same).0

  abbrev chosen : ℕ → ℕ → Bool → Value
  chosen k q b = cond b (or_else (opening_value (status (class k))) (value_of (settled k) (class q))) (value_of (settled k) (class q))

  one_place : (k q : ℕ) → value_of (settled (suc k)) (class q) ≡ chosen k q (eqb (class k) (class q))
  one_place k q = one_more (settled k) (length (settled k)) (class k) (class q) (opening_value (status (class k)))

  -- of the classes at later places nothing is said
  pub later_draw : (k q : ℕ) → k ≤ q → value_of (settled k) (class q) ≡ Draw
  later_draw zero q later = refl
  later_draw (suc k) q later =
      one_place k q ∙ ap (λ b. chosen k q b) (ne_eqb (class k) (class q) (apart k q (λ same. omega arith))) ∙ later_draw k q (omega arith)

  -- the classes at the places have the values of their statuses
  pub opened_value : (k q : ℕ) → q < k → value_of (settled k) (class q) ≡ or_else (opening_value (status (class q))) Draw
  opened_value zero q low = absurd (omega arith)
  opened_value (suc k) q low = elim (cases_eq q k) [
    | inl same ↦ rw same (one_place k k ∙ ap (λ b. chosen k k b) (eq-eqb (class k) (class k) refl)
        ∙ ap (λ v. or_else (opening_value (status (class k))) v) (later_draw k k (omega arith)))
    | inr other ↦ one_place k q ∙ ap (λ b. chosen k q b) (ne_eqb (class k) (class q) (apart k q (λ same. other (sym same))))
        ∙ opened_value k q (omega arith)
  ]

  pub opened_chained : (classes k : ℕ) → ((q : ℕ) → q < k → class q < classes) → IsChained classes n id (settled k)
  opened_chained classes zero low = chained_none classes n id
  opened_chained classes (suc k) low = more (opened_chained classes k (λ q less. low q (omega arith))) (opening_value (status (class k))) refl
    where
      more : IsChained classes n id (settled k) → (o : Option Value) → opening_value (status (class k)) ≡ o →
          IsChained classes n id (settled k ++ opening_settlement (length (settled k)) (class k) o)
      more chained None is = subst (λ xs. IsChained classes n id xs) (sym (append-nil (settled k))) chained
      more chained (Some now) is = chained_more classes n id (settled k) _ chained (record {
        number = refl;
        below = low k (omega arith);
        own = own k;
        was = sym (later_draw k k (omega arith));
        better = better_draw (status (class k)) now is;
      })
        where
          own : (q : ℕ) → (q * n + id) % n ≡ id
          own q = let e : (q * n + id) % n ≡ id % n = mul-add-mod_self_right q n id in e ∙ mod-eq_of_lt one_of_n

  pub opened_entries : (k : ℕ) → All (λ (s : Settlement). IsEntry s.now) (settled k)
  opened_entries k = all_started (λ (s : Settlement). IsEntry s.now) (λ place. status (class place)) n id k
      (λ place number now low is. subst (λ (o : Option Value). IsEntry (or_else o Draw)) is (entry_opened (status (class place))))
