-- Sums over a run of the pool: after a write, at one entry, and with one entry more in use. And one cell is written: the others stay, and the pool
-- keeps its order.
use Rattle.dob_share.proofs.Common.{◌+◌, ◌<◌, ◌∙◌, ◌≡◌, ◌≤◌, ArePooled, Cell, ChangesRun, IsGreatestIn, IsShortCell, List, None, Option, SameCell, CellHead, Some}
use Rattle.dob_share.proofs.Common.{add-one, ap, arith, beyond, cases_eq, cases_lt, cell_by, cell_in, get_or, get_or-set_other, get_or-set_same}
use Rattle.dob_share.proofs.Common.{get_or_default, inl, inr, length, length-set, less_at, more_at, moves_at, nat_tests, refl, room_at, set, slot_at}
use Rattle.dob_share.proofs.Common.{start_at, subst, suc, sym, tally, vacant, wins_in, zero, ℕ}

-- a run is summed alike in two pools that agree on it
pub tally_same : (f : ℕ → ℕ) (old new : List ℕ) (start room : ℕ) →
    ((place : ℕ) → start ≤ place → place < start + room → get_or new place vacant ≡ get_or old place vacant) →
    tally f new start room ≡ tally f old start room
tally_same f old new start zero same = refl
tally_same f old new start (suc room) same =
    grind (arith, tally_same f old new start room (λ place from below. same place from (omega arith)), same (start + room))

-- after a write within the run
pub tally_set : (f : ℕ → ℕ) (pool : List ℕ) (start room place : ℕ) (entry : ℕ) → start ≤ place → place < start + room →
    place < length pool →
    tally f (set pool place entry) start room + f (get_or pool place vacant) ≡ tally f pool start room + f entry
tally_set f pool start zero place entry from below within = absurd (omega arith)
tally_set f pool start (suc room) place entry from below within = elim (cases_eq place (start + room)) [
  | inl e ↦
      let rest : tally f (set pool place entry) start room ≡ tally f pool start room
      = tally_same f pool (set pool place entry) start room (λ other _ under. get_or-set_other pool place other entry vacant (omega arith)) in
      grind (arith, get_or-set_same)
  | inr n ↦ grind (arith, tally_set f pool start room place entry from (omega arith) within, get_or-set_other)
]

-- one entry counts no more than the run
pub tally_at : (f : ℕ → ℕ) (pool : List ℕ) (start room place : ℕ) → start ≤ place → place < start + room →
    f (get_or pool place vacant) ≤ tally f pool start room
tally_at f pool start zero place from below = absurd (omega arith)
tally_at f pool start (suc room) place from below = grind (arith, tally_at f pool start room place from)

-- ---- a write

-- a shorter run is changed, and so is a longer one
pub changes_longer : (start less room : ℕ) (old new : List ℕ) → less ≤ room → ChangesRun start less old new → ChangesRun start room old new
changes_longer start less room old new most changes = grind arith

-- with one entry more in use
pub wins_more : (pool : List ℕ) (start used plies : ℕ) → start + used < length pool → (other : ℕ) →
    wins_in (set pool (start + used) plies) start (used + 1) other ≡ more_at plies (wins_in pool start used) other
unfolding wins_in
wins_more pool start used plies within other =
    let rest : tally (moves_at other) (set pool (start + used) plies) start used ≡ tally (moves_at other) pool start used
    = tally_same (moves_at other) pool (set pool (start + used) plies) start used
    (λ at _ under. get_or-set_other pool (start + used) at plies vacant (omega arith)) in
    rw add-one (grind (arith, nat_tests, get_or-set_same))

-- with a lesser distance in place of one
pub wins_better : (pool : List ℕ) (start used place plies : ℕ) → start ≤ place → place < start + used → place < length pool →
    (was : ℕ) → get_or pool place vacant ≡ was → plies < was → (other : ℕ) →
    wins_in (set pool place plies) start used other ≡ more_at plies (less_at was (wins_in pool start used)) other
unfolding wins_in
wins_better pool start used place plies from below within was is better other =
    grind (arith, nat_tests, tally_set (moves_at other) pool start used place plies from below within)

-- an entry of the distance
pub wins_some : (pool : List ℕ) (start used plies place entry : ℕ) → start ≤ place → place < start + used → place < length pool →
    entry ≡ get_or pool place entry → entry ≡ plies → 0 < wins_in pool start used plies
unfolding wins_in
wins_some pool start used plies place entry from below within is at =
    let same : get_or pool place vacant ≡ plies = sym (is ∙ get_or_default pool place entry vacant within) ∙ at in
    grind (arith, nat_tests, tally_at (moves_at plies) pool start used place from below)

pub wins_none : (pool : List ℕ) (start used plies : ℕ) → tally (moves_at plies) pool start used ≡ 0 → wins_in pool start used plies ≡ 0
unfolding wins_in
wins_none pool start used plies none = none

pub greatest_in : (pool : List ℕ) (start used : ℕ) (greatest : Option ℕ) →
    IsGreatestIn (λ plies. tally (moves_at plies) pool start used) greatest → IsGreatestIn (wins_in pool start used) greatest
unfolding wins_in
greatest_in pool start used None none = none
greatest_in pool start used (Some plies) is = is

-- ---- one cell is written
wins_same : (old new : List ℕ) (start room plies : ℕ) →
    ((place : ℕ) → start ≤ place → place < start + room → get_or new place vacant ≡ get_or old place vacant) →
    wins_in new start room plies ≡ wins_in old start room plies
unfolding wins_in
wins_same old new start room plies same = tally_same (moves_at plies) old new start room same

pub same_short : (a b : Cell) → SameCell a b → IsShortCell b → IsShortCell a
same_short a b same short = grind arith

pub cell_is : (slots : List CellHead) (pool : List ℕ) (place : ℕ) → cell_in slots pool place ≡ cell_by (slot_at slots (length pool) place) pool
unfolding cell_in
cell_is slots pool place = refl

module _ (slots : List CellHead) (pool new_pool : List ℕ) (place : ℕ) (next : CellHead) (pooled : ArePooled slots pool)
    (within : place < length slots) (same_start : next.start ≡ start_at slots (length pool) place)
    (changes : ChangesRun (start_at slots (length pool) place) (room_at slots (length pool) place) pool new_pool) where
  -- the slots after the write
  slots_after : List CellHead
  slots_after = set slots place next

  slot_here : slot_at (set slots place next) (length new_pool) place ≡ next
  slot_here = get_or-set_same slots place next (beyond (length new_pool)) within

  slot_other : (other : ℕ) → (other ≡ place → ⊥) → slot_at (set slots place next) (length new_pool) other ≡ slot_at slots (length pool) other
  slot_other other n = get_or-set_other slots place other next (beyond (length new_pool)) n ∙ ap (λ (k : ℕ). slot_at slots k other) changes.whole

  pub start_same : (other : ℕ) → start_at (set slots place next) (length new_pool) other ≡ start_at slots (length pool) other
  start_same other = elim (cases_eq other place) [
    | inl e ↦ ap (λ (k : ℕ). start_at (set slots place next) (length new_pool) k) e ∙ ap (λ s. s.start) slot_here ∙ same_start
        ∙ ap (λ (k : ℕ). start_at slots (length pool) k) (sym e)
    | inr n ↦ ap (λ s. s.start) (slot_other other n)
  ]

  room_same : (other : ℕ) → room_at (set slots place next) (length new_pool) other ≡ room_at slots (length pool) other
  room_same other = omega (arith, start_same (other + 1), start_same other)

  -- the pools agree on the entries in use of the other runs
  agree : (other : ℕ) → (other ≡ place → ⊥) → (at : ℕ) → start_at slots (length pool) other ≤ at →
      at < start_at slots (length pool) other + (slot_at slots (length pool) other).used → get_or new_pool at vacant ≡ get_or pool at vacant
  agree other n at from below =
      let most = pooled.room other in
      elim (cases_lt other place) [
        | inl before ↦ changes.before at (omega (arith, pooled.ordered (other + 1) place (omega arith), pooled.ordered other (other + 1) (omega arith)))
        | inr after ↦ changes.behind at (omega (arith, pooled.ordered (place + 1) other (omega arith), pooled.ordered place (place + 1) (omega arith)))
      ]

  pub cell_here : cell_in (set slots place next) new_pool place ≡ cell_by next new_pool
  cell_here = cell_is (set slots place next) new_pool place ∙ ap (λ s. cell_by s new_pool) slot_here

  pub cell_other : (other : ℕ) → (other ≡ place → ⊥) → SameCell (cell_in (set slots place next) new_pool other) (cell_in slots pool other)
  cell_other other n = rw (cell_is (set slots place next) new_pool other, slot_other other n, cell_is slots pool other) (record {
    left = refl;
    wins = λ plies. wins_same pool new_pool (start_at slots (length pool) other) (slot_at slots (length pool) other).used plies (agree other n);
    least = refl;
  })

  pub still_pooled : next.left + next.used ≤ room_at slots (length pool) place → IsShortCell (cell_by next new_pool) →
      ArePooled (set slots place next) new_pool
  still_pooled fits short = record {
    ordered = λ a b le. omega (arith, start_same a, start_same b, pooled.ordered a b le);
    within = λ a. omega (arith, start_same a, pooled.within a, changes.whole);
    small = λ a. omega (arith, room_same a, pooled.small a);
    room = λ a. elim (cases_eq a place) [
      | inl e ↦ rw (room_same a, e, slot_here) fits
      | inr n ↦ rw (room_same a, slot_other a n) (pooled.room a)
    ];
    short = λ a inside. elim (cases_eq a place) [
      | inl e ↦ rw (e, cell_here) short
      | inr n ↦ same_short (cell_in (set slots place next) new_pool a) (cell_in slots pool a) (cell_other a n)
          (pooled.short a (subst (λ (k : ℕ). a < k) (length-set slots place next) inside))
    ];
  }
