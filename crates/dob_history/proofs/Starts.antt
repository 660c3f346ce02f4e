-- The settlements of the start: how many there are, which they are, and where each stands. What cells count and know keeps its parity, and so do their
-- values.
use Rattle.dob_history.proofs.Common.{◌*◌, ◌++◌, ◌+◌, ◌<◌, ◌∙◌, ◌∷◌, ◌≡◌, ◌≤◌, All, All-append, All-cons, All-nil, Cell, CellValue, Draw, HasParities}
use Rattle.dob_history.proofs.Common.{HasValueNow, IsEntry, IsOwn, IsValue, List, Loss, None, Open, Option, SameCell, Settlement, Share, Some, Status}
use Rattle.dob_history.proofs.Common.{StatusesView, Value, Win, [], ap, arith, cases_eq, cell_at, cell_short, changed, class_of_place, get_front, get_or}
use Rattle.dob_history.proofs.Common.{get_or_append_left, get_or_from_slice_get, inl, inr, length, length-append, max, middle, nat_tests}
use Rattle.dob_history.proofs.Common.{opening_settlement, opening_settlements, opening_value, refl, settled_among, settles, slice_get, start_settlements}
use Rattle.dob_history.proofs.Common.{start_status, starts_count, starts_of, status_at, subst, suc, sym, zero, ℕ}
use Rattle.dob_share.specs.Slots.{IsShortCell}
use Rattle.dob_share.proofs.Opened.{settles_most}
use Rattle.dob_distance.specs.Distances.{plies_of}
use Rattle.dob_history.specs.Levels.{level_of}

-- ---- parity

-- cells that say the same
pub parities_same : {a b : Cell} → SameCell a b → HasParities b → HasParities a
parities_same same known = grind arith

-- a cell after an item
pub parities_changed : (was now : Value) (cell : Cell) → IsEntry was → IsEntry now → HasParities cell → HasParities (changed was now cell)
parities_changed was now cell before after known = grind (arith, nat_tests)

-- the value of a cell whose value is short
pub parities_entry : (cell : Cell) (v : Value) → HasParities cell → IsShortCell cell → CellValue cell v → IsEntry v
parities_entry cell (Win plies) known short is = grind (arith, known.least is.0 is.1, short.loss is.0 is.1)
parities_entry cell (Loss plies) known short is = grind (arith, known.wins is.2 is.3.0, short.win is.0 is.1 is.2 is.3.0)
parities_entry cell Draw known short is = tt

entry_by : (status : Status) (cell : Cell) (v : Value) → HasParities cell → IsShortCell cell → IsValue status cell v → IsEntry v
entry_by Open cell v known short is = parities_entry cell v known short is
entry_by status cell v known short is = grind arith

-- the present value of an own class
pub entry_now : (share : Share) (class : ℕ) (v : Value) → IsOwn share class → HasParities (cell_at share class) → HasValueNow share class v → IsEntry v
entry_now share class v own known is = entry_by (status_at share class) (cell_at share class) v known (cell_short share class own) is

-- ---- the settlements
one_settles : (status : Status) (number class : ℕ) → settles status ≡ length (opening_settlement number class (opening_value status))
one_settles status number class = grind arith

-- as many as a share counts
pub start_length : (status : ℕ → Status) (n id k : ℕ) → length (start_settlements status n id k) ≡ settled_among status k
start_length status n id zero = refl
start_length status n id (suc k) =
    let before = start_settlements status n id k in
    omega (
      arith,
      length-append before (opening_settlement (length before) (class_of_place n id k) (opening_value (status k))),
      start_length status n id k,
      one_settles (status k) (length before) (class_of_place n id k),
    )

-- what each of them has
pub all_started : (P : Settlement → Type 0) (status : ℕ → Status) (n id k : ℕ) →
    ((place number : ℕ) (now : Value) → place < k → opening_value (status place) ≡ Some now →
    P (record { number = number; class = class_of_place n id place; was = Draw; now = now })) → All P (start_settlements status n id k)
all_started P status n id zero each = All-nil P
all_started P status n id (suc k) each =
    let before = start_settlements status n id k in
    All-append P before _ (all_started P status n id k (λ place number now low. each place number now (omega arith)))
    (last (length before) (opening_value (status k)) refl)
  where
    last : (number : ℕ) (o : Option Value) → opening_value (status k) ≡ o → All P (opening_settlement number (class_of_place n id k) o)
    last number None is = All-nil P
    last number (Some now) is = All-cons P _ [] (each k number now (omega arith) is) (All-nil P)

-- ---- how many there are

-- no more than places
pub settled_few : (status : ℕ → Status) (k : ℕ) → settled_among status k ≤ k
settled_few status zero = omega arith
settled_few status (suc k) =
    omega (arith, settled_few status k, settles_most (status k))

pub starts_length : (n id : ℕ) (starts : StatusesView) → length (starts_of n id starts) ≡ starts_count starts
starts_length n id starts = start_length (start_status starts) n id starts.places

-- ---- which they are
pub starts_are : (here status : ℕ → Status) (n id k : ℕ) → ((place : ℕ) → place < k → here place ≡ status (class_of_place n id place)) →
    start_settlements here n id k ≡ opening_settlements status n id k
starts_are here status n id zero same = refl
starts_are here status n id (suc k) same =
    let class : ℕ = class_of_place n id k in
    let opened : List Settlement = opening_settlements status n id k in
    ap (λ (xs : List Settlement). xs ++ opening_settlement (length xs) class (opening_value (here k)))
    (starts_are here status n id k (λ place low. same place (omega arith)))
    ∙ ap (λ (st : Status). opened ++ opening_settlement (length opened) class (opening_value st)) (same k (omega arith))

-- the settlement of the start of the class at a place, by its number
abbrev start_of : ℕ → ℕ → ℕ → ℕ → Value → Settlement
start_of n id number place now = record { number = number; class = place * n + id; was = Draw; now = now }

start_last : (status : ℕ → Status) (n id k : ℕ) (now : Value) → opening_value (status k) ≡ Some now →
    slice_get (start_settlements status n id (suc k)) (settled_among status k) ≡ Some (start_of n id (settled_among status k) k now)
start_last status n id k now is =
    let before : List Settlement = start_settlements status n id k in
    ap (λ o. slice_get (before ++ opening_settlement (length before) (class_of_place n id k) o) (settled_among status k)) is
    ∙ subst (λ (m : ℕ). slice_get (before ++ start_of n id (length before) k now ∷ []) m ≡ Some (start_of n id m k now))
    (start_length status n id k) (middle before [] (start_of n id (length before) k now))

start_at : (status : ℕ → Status) (n id place k : ℕ) (now : Value) → place < k → opening_value (status place) ≡ Some now →
    slice_get (start_settlements status n id k) (settled_among status place) ≡ Some (start_of n id (settled_among status place) place now)
start_at status n id place zero now low is = absurd (omega arith)
start_at status n id place (suc k) now low is = elim (cases_eq place k) [
  | inl same ↦ rw (← same) (start_last status n id place now is)
  | inr other ↦ get_front (start_settlements status n id k) _ _ (settled_among status place) (start_at status n id place k now (omega arith) is)
]

-- what is found of the class at a place is the settlement of that number, with others behind those of the start
pub start_found : (n id number place : ℕ) (starts : StatusesView) (now : Value) (others : List Settlement) → place < starts.places →
    settled_among (start_status starts) place ≡ number → opening_value (start_status starts place) ≡ Some now →
    slice_get (starts_of n id starts ++ others) number ≡ Some (start_of n id number place now)
start_found n id number place starts now others low count is = get_front (starts_of n id starts) others (start_of n id number place now) number
    (rw (← count) (start_at (start_status starts) n id place starts.places now low is))

pub start_entry : (status : Status) (now : Value) → opening_value status ≡ Some now → IsEntry now
start_entry status now is = grind arith

-- ---- on which level they are
level_once : (status : Status) (now : Value) → opening_value status ≡ Some now → max (plies_of now) 1 ≡ 1
level_once status now is = grind arith

-- each is on the first
pub start_level : (n id number : ℕ) (starts : StatusesView) (others : List Settlement) (s : Settlement) → number < starts_count starts →
    slice_get (starts_of n id starts ++ others) number ≡ Some s → level_of s ≡ 1
start_level n id number starts others s low there =
    let front : List Settlement = starts_of n id starts in
    let within : number < length front = omega (arith, low, starts_length n id starts) in
    let is : get_or front number s ≡ s = sym (get_or_append_left front others s number within) ∙ get_or_from_slice_get (front ++ others) number s s there in
    subst (λ (t : Settlement). level_of t ≡ 1) is (all_started (λ (t : Settlement). level_of t ≡ 1) (start_status starts) n id starts.places
    (λ place number now low here. level_once (start_status starts place) now here) number s within)
