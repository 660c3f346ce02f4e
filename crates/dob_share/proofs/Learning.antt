-- What a cell that sums up what is known takes next.
use Rattle.dob_share.proofs.Common.{◌++◌, ◌<◌, ◌∷◌, ◌≡◌, Better, Bool, Cell, CellCanTake, Changes, Contains, Contains-append_right, Draw, IsLeastLoss}
use Rattle.dob_share.proofs.Common.{KnowsLossWithin, List, Loss, None, Option, Some, SumsUp, Value, Win, [], arith, cases_Bool, cond, cons_cases, count_by}
use Rattle.dob_share.proofs.Common.{eq-eqb, head_in, inl, inr, is_draw, is_win_in, none_in_empty, refl, subst, sum_by-cons, sym, true, ℕ}

-- ---- what is counted is there, and what is there is counted
pub counted : {X : Type 0} (p : X → Bool) (xs : List X) → 0 < count_by p xs → (x : X) × Contains xs x × (p x ≡ true)
counted p [] above = absurd (omega arith)
counted p (x ∷ xs) above = elim (cases_Bool (p x)) [
  | inl is ↦ (x, head_in x xs, is)
  | inr isnt ↦ let rest = counted p xs (grind (arith, sum_by-cons)) in (rest.0, Contains-append_right (x ∷ []) xs rest.0 rest.1, rest.2)
]

pub counts : (p : Value → Bool) (xs : List Value) (x : Value) → Contains xs x → p x ≡ true → 0 < count_by p xs
counts p [] x there is = absurd (none_in_empty x there)
counts p (y ∷ xs) x there is =
    let sum = sum_by-cons (λ v. cond {A = ℕ} (p v) 1 0) y xs in
    elim (cons_cases y xs x there) [ inl same ↦ grind (arith, sum) | inr later ↦ grind (arith, sum, counts p xs x later is) ]

pub in_middle : (xs ys : List Value) (x : Value) → Contains (xs ++ x ∷ ys) x
in_middle xs ys x = Contains-append_right xs (x ∷ ys) x (head_in x ys)

-- what changes was known
pub was_known : (known after : List Value) (was now : Value) → Changes known after was now → Contains known was
was_known known after was now change = subst (λ xs. Contains xs was) (sym change.known_is) (in_middle change.before change.behind was)

-- ---- the next item fits
least_within : (known : List Value) (least : Option ℕ) (plies : ℕ) → IsLeastLoss known least → Contains known (Loss plies) → KnowsLossWithin plies least
least_within known None plies is there = absurd (is plies there)
least_within known (Some least) plies is there = is.1 plies there

-- a cell that sums up what is known takes what one copy learns next
pub takes_next : (known after : List Value) (was now : Value) (cell : Cell) → Better was now → Changes known after was now → SumsUp known cell →
    CellCanTake was now cell
takes_next known after Draw (Win plies) cell better change sums =
    omega (arith, counts is_draw known Draw (was_known known after Draw (Win plies) change) refl, sums.left)
takes_next known after Draw (Loss plies) cell better change sums =
    omega (arith, counts is_draw known Draw (was_known known after Draw (Loss plies) change) refl, sums.left)
takes_next known after (Win was) (Win now) cell better change sums =
    (better, omega (arith, counts (is_win_in was) known (Win was) (was_known known after (Win was) (Win now) change) (eq-eqb was was refl), sums.wins was))
takes_next known after (Loss was) (Loss now) cell better change sums = (
  better,
  least_within known cell.least was sums.least (was_known known after (Loss was) (Loss now) change),
)
takes_next known after was now cell better change sums = absurd better
