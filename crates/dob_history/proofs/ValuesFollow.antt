-- Cells that sum up what is known: their value follows.
use Rattle.dob_history.proofs.Common.{◌<◌, ◌∙◌, ◌∷◌, ◌≡◌, Cell, CellValue, Contains, Draw, FollowsFromKnown, IsGreatest, IsLeastLoss, List, Loss, None, SameCell}
use Rattle.dob_history.proofs.Common.{Some, SumsUp, Value, Win, [], arith, count_by, counted, counts, eq-eqb, head_in, inl, inr, is_draw, is_win_in, length}
use Rattle.dob_history.proofs.Common.{nat_tests, not_draw_win, refl, subst, sym, true, ℕ}
use Rattle.dob_distance.proofs.Outlooks.{draw_is}

-- ---- the cell's value follows
pub is_that_win : (plies : ℕ) (v : Value) → is_win_in plies v ≡ true → v ≡ Win plies
is_that_win plies v is = grind (arith, nat_tests)

win_counted : (known : List Value) (cell : Cell) → SumsUp known cell → (plies : ℕ) → Contains known (Win plies) → 0 < cell.wins plies
win_counted known cell sums plies there =
    omega (arith, counts (is_win_in plies) known (Win plies) there (eq-eqb plies plies refl), sums.wins plies)

must_be_win : (known : List Value) (v : Value) → count_by is_draw known ≡ 0 → ((plies : ℕ) → ¬ Contains known (Loss plies)) → Contains known v →
    (plies : ℕ) × (v ≡ Win plies)
must_be_win known (Win plies) drawn lost there = (plies, refl)
must_be_win known (Loss plies) drawn lost there = absurd (lost plies there)
must_be_win known Draw drawn lost there = absurd (omega (arith, counts is_draw known Draw there refl))

some_value : (known : List Value) → 0 < length known → (v : Value) × Contains known v
some_value [] above = absurd (omega arith)
some_value (v ∷ known) above = (v, head_in v known)

pub value_follows : (known : List Value) (cell : Cell) (v : Value) → SumsUp known cell → 0 < length known → CellValue cell v → FollowsFromKnown known v
value_follows known cell (Win plies) sums above value =
    let least : IsLeastLoss known (Some value.0) = subst (IsLeastLoss known) value.1 sums.least in
    (value.0, value.2, least.0, least.1)
value_follows known cell (Loss plies) sums above value =
    let greatest = value.2 in
    let most : IsGreatest cell.wins greatest = value.3 in
    let found = counted (is_win_in greatest) known (omega (arith, sums.wins greatest, most.0)) in
    let none : IsLeastLoss known None = subst (IsLeastLoss known) value.0 sums.least in (
      greatest,
      value.4,
      subst (Contains known) (is_that_win greatest found.0 found.2) found.1,
      λ other there. most.1 other (win_counted known cell sums other there),
      λ v there. must_be_win known v (sym sums.left ∙ value.1) none there,
    )
value_follows known cell Draw sums above value = (
  subst (IsLeastLoss known) value.0 sums.least,
  λ wins. elim value.1 [
    | inl left ↦
        let found = counted is_draw known (omega (arith, sums.left)) in
        let win = wins found.0 found.1 in
        absurd (not_draw_win win.0 (sym (draw_is found.0 found.2) ∙ win.1))
    | inr none ↦
        let some = some_value known above in
        let win = wins some.0 some.1 in
        absurd (omega (arith, win_counted known cell sums win.0 (subst (Contains known) win.1 some.1), none win.0))
  ],
)

-- ---- cells that say the same
pub SumsUp-same : (known : List Value) (a b : Cell) → SameCell a b → SumsUp known b → SumsUp known a
SumsUp-same known a b same sums = grind arith
