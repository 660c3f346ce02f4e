-- A cell that sums up what is known sums up what is known after a change, once it is changed likewise.
use Rattle.dob_share.proofs.Learning.{in_middle}
use Rattle.dob_share.proofs.Common.{◌++◌, ◌+◌, ◌<◌, ◌∙◌, ◌∷◌, ◌≡◌, ◌⊎◌, Better, Bool, Cell, Changes, Contains, Contains-append_cases, Contains-append_left}
use Rattle.dob_share.proofs.Common.{Contains-append_right, Draw, IsLeastLoss, List, Loss, None, Option, Some, SumsUp, Value, Win, [], ap, arith, cases_lt}
use Rattle.dob_share.proofs.Common.{changed, cond, cons_cases, count_by, inl, inr, is_draw, is_win_in, lesser_of, min, nat_tests, subst, sum_by-append}
use Rattle.dob_share.proofs.Common.{sum_by-cons, sym, ℕ}

-- ---- counts and members before and after
count_middle : (p : Value → Bool) (xs ys : List Value) (x : Value) → count_by p (xs ++ x ∷ ys) ≡ count_by p xs + (cond (p x) 1 0 + count_by p ys)
count_middle p xs ys x =
    sum_by-append (λ v. cond (p v) 1 0) xs (x ∷ ys) ∙ ap (λ m. count_by p xs + m) (sum_by-cons (λ v. cond (p v) 1 0) x ys)

count_changes : (p : Value → Bool) (known after : List Value) (was now : Value) → Changes known after was now →
    count_by p after + cond {A = ℕ} (p was) 1 0 ≡ count_by p known + cond {A = ℕ} (p now) 1 0
count_changes p known after was now change =
    let first : count_by p known ≡ count_by p (change.before ++ was ∷ change.behind) = ap (count_by p) change.known_is in
    let second : count_by p after ≡ count_by p (change.before ++ now ∷ change.behind) = ap (count_by p) change.after_is in
    let one = count_middle p change.before change.behind was in
    let two = count_middle p change.before change.behind now in
    omega arith

middle_cases : (xs ys : List Value) (x y v : Value) → Contains (xs ++ x ∷ ys) v → (x ≡ v) ⊎ Contains (xs ++ y ∷ ys) v
middle_cases xs ys x y v there = elim (Contains-append_cases xs (x ∷ ys) v there) [
  | inl before ↦ inr (Contains-append_left xs (y ∷ ys) v before)
  | inr here ↦ elim (cons_cases x ys v here) [
    | inl same ↦ inl same
    | inr behind ↦ inr (Contains-append_right xs (y ∷ ys) v (Contains-append_right (y ∷ []) ys v behind))
  ]
]

module _ (known after : List Value) (was now : Value) (change : Changes known after was now) where
  before_cases : (v : Value) → Contains known v → (was ≡ v) ⊎ Contains after v
  before_cases v there = elim (middle_cases change.before change.behind was now v (subst (λ xs. Contains xs v) change.known_is there)) [
    | inl same ↦ inl same
    | inr left ↦ inr (rw change.after_is left)
  ]

  after_cases : (v : Value) → Contains after v → (now ≡ v) ⊎ Contains known v
  after_cases v there = elim (middle_cases change.before change.behind now was v (subst (λ xs. Contains xs v) change.after_is there)) [
    | inl same ↦ inl same
    | inr left ↦ inr (subst (λ xs. Contains xs v) (sym change.known_is) left)
  ]

  now_there : Contains after now
  now_there = rw change.after_is (in_middle change.before change.behind now)

  -- where neither is a loss, the least loss stays
  least_stays : (least : Option ℕ) → ((plies : ℕ) → was ≡ Loss plies → ⊥) → ((plies : ℕ) → now ≡ Loss plies → ⊥) → IsLeastLoss known least →
      IsLeastLoss after least
  least_stays None was_not now_not is = λ plies there. grind (arith, after_cases (Loss plies) there, now_not plies, is plies)
  least_stays (Some least) was_not now_not is = (
    grind (arith, before_cases (Loss least) is.0, was_not least),
    λ plies there. grind (arith, after_cases (Loss plies) there, now_not plies, is.1 plies),
  )

-- a loss more, or a lesser one for a greater
least_more : (known after : List Value) (was : Value) (plies : ℕ) → Changes known after was (Loss plies) → (least : Option ℕ) →
    ((other : ℕ) → was ≡ Loss other → plies < other) → IsLeastLoss known least → IsLeastLoss after (Some (lesser_of least plies))
least_more known after was plies change None greater is = (
  now_there known after was (Loss plies) change,
  λ other there. grind (arith, after_cases known after was (Loss plies) change (Loss other) there, is other),
)
least_more known after was plies change (Some least) greater is = (
  elim (cases_lt plies least) [
    | inl less ↦ (let e : plies ≡ min least plies = omega arith in
        subst (λ k. Contains after (Loss k)) e (now_there known after was (Loss plies) change))
    | inr upto ↦ (let e : least ≡ min least plies = omega arith in
        subst (λ k. Contains after (Loss k)) e (grind (arith, before_cases known after was (Loss plies) change (Loss least) is.0, greater least)))
  ],
  λ other there. grind (arith, after_cases known after was (Loss plies) change (Loss other) there, is.1 other),
)

-- what the cell says of losses
least_after : (known after : List Value) (was now : Value) (cell : Cell) → Better was now → Changes known after was now → IsLeastLoss known cell.least →
    IsLeastLoss after (changed was now cell).least
least_after known after Draw (Win plies) cell better change is = least_stays known after Draw (Win plies) change cell.least (λ k same. cc) (λ k same. cc) is
least_after known after (Win was) (Win now) cell better change is = least_stays known after (Win was) (Win now) change cell.least (λ k same. cc)
    (λ k same. cc) is
least_after known after Draw (Loss plies) cell better change is = least_more known after Draw plies change cell.least (λ k same. absurd (cc)) is
least_after known after (Loss was) (Loss now) cell better change is =
    least_more known after (Loss was) now change cell.least (λ k same. let e : was ≡ k = cc in let less : now < was = better in omega arith) is
least_after known after was now cell better change is = absurd better

-- A cell that sums up what is known sums up what is known after a change for the better.
pub sums_up_after : (known after : List Value) (was now : Value) (cell : Cell) → Better was now → Changes known after was now → SumsUp known cell →
    SumsUp after (changed was now cell)
sums_up_after known after was now cell better change sums = record {
  left = grind (arith, nat_tests, sums.left, count_changes is_draw known after was now change);
  wins = λ other. grind (arith, nat_tests, sums.wins other, count_changes (is_win_in other) known after was now change);
  least = least_after known after was now cell better change sums.least;
}
