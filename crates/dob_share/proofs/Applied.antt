-- An item applied at one place: what the steps of the code give of it, and the rows of the table of items: what each makes of its cell, and of the
-- cell's value.
use Rattle.dob_share.proofs.Common.{◌+◌, ◌-◌, ◌<◌, ◌∙◌, ◌≡◌, ◌≤◌, ArePooled, Cell, CellCanTake, CellValue, ChangesRun, Contradiction, Draw, Err, Fault}
use Rattle.dob_share.proofs.Common.{IsApplied, IsChange, IsGreatestIn, IsShortCell, IsTooDeep, List, Loss, MatchOption, None, Ok, Option, SameCell, CellHead}
use Rattle.dob_share.proofs.Common.{Some, TooDeep, Value, Win, ap, arith, beyond, cases_eq, cell_by, cell_in, cell_of, changed, get_or, get_or_default}
use Rattle.dob_share.proofs.Common.{greater_of, inl, inr, least_of, length, length-set, less_at, lesser_of, more_at, refl, room_at, set, set-get_or, slot_at}
use Rattle.dob_share.proofs.Common.{start_at, subst, sym, wins_in, ℕ}
use Rattle.dob_share.proofs.Keeping.{same_short, cell_is, cell_here, cell_other, start_same, still_pooled, changes_longer}
use Rattle.dob_share.proofs.Changing.{IsStep, not_too_deep, misfits, least_some, greatest_more, win_most, win_deep, win_step, loss_deep, loss_step}
use Rattle.dob_share.proofs.Changing.{better_win_step, better_loss_step}

-- two cells that say the same have the same values
pub CellValue-same : (a b : Cell) (value : Value) → SameCell a b → CellValue b value → CellValue a value
CellValue-same a b value same is = grind arith

-- the two values of a change, or the one of none
pub change_of : (old new : Cell) (v w : Value) (change : Option (Value × Value)) → CellValue old v → CellValue new w →
    MatchOption change (v ≡ w) (λ values. (values.0 ≡ v) × (values.1 ≡ w) × (v ≡ w → ⊥)) → IsChange old new change
change_of old new v w change is gives both = grind arith

pub same_itself : (cell : Cell) → SameCell cell cell
same_itself cell = record { left = refl; wins = λ plies. refl; least = refl }

-- a fault leaves all as it was
pub refused : (to : ℕ) (was now : Value) (place : ℕ) (slots : List CellHead) (pool : List ℕ) (slot : CellHead) (fault : Fault) →
    ArePooled slots pool → IsStep to was now (cell_in slots pool place) slot (Err fault) →
    IsApplied to was now place slots pool slots pool (Err fault)
refused to was now place slots pool slot fault pooled step = record {
  misfit = grind (arith, step.misfit);
  deep = grind (arith, step.deep);
  named = grind (arith, step.named);
  unchanged = λ other e. (refl, refl);
  pooled = pooled;
  places = refl;
  starts = λ other. refl;
  others = λ other n. same_itself (cell_in slots pool other);
  takes = λ change e. absurd (cc);
  cell = λ change e. absurd (cc);
  values = λ change e. absurd (cc);
}

-- the slot that was read
pub read : (slots : List CellHead) (pool : List ℕ) (place : ℕ) (slot : CellHead) → place < length slots → slot ≡ get_or slots place slot →
    slot ≡ slot_at slots (length pool) place
read slots pool place slot within is = is ∙ get_or_default slots place slot (beyond (length pool)) within

-- the slot is the one at that place of those with that pool
pub record IsRead (slots : List CellHead) (pool : List ℕ) (place : ℕ) (slot : CellHead) : Type 0 where
  pub pooled : ArePooled slots pool
  pub within : place < length slots
  pub is : slot ≡ get_or slots place slot

pub is_read : {slots : List CellHead} {pool : List ℕ} {slot : CellHead} (place : ℕ) → ArePooled slots pool → place < length slots → slot ≡ get_or slots place slot →
    IsRead slots pool place slot
is_read place pooled within is = record { pooled = pooled; within = within; is = is }

module _ {slots : List CellHead} {pool : List ℕ} {place : ℕ} {slot : CellHead} (here : IsRead slots pool place slot) where
  pub slot_is : slot ≡ slot_at slots (length pool) place
  slot_is = read slots pool place slot here.within here.is

  pub cell_same : cell_by slot pool ≡ cell_in slots pool place
  cell_same = ap (λ s. cell_by s pool) slot_is ∙ sym (cell_is slots pool place)

  pub short_here : IsShortCell (cell_by slot pool)
  short_here = subst (λ c. IsShortCell c) (sym cell_same) (here.pooled.short place here.within)

  pub room_left : slot.left + slot.used ≤ room_at slots (length pool) place
  room_left = subst (λ s. s.left + s.used ≤ room_at slots (length pool) place) (sym slot_is) (here.pooled.room place)

  run_end : slot.start + room_at slots (length pool) place ≤ length pool
  run_end = omega (arith, ap (λ s. s.start) slot_is, here.pooled.within (place + 1), here.pooled.ordered place (place + 1) (omega arith))

  pub run_within : slot.start + slot.used ≤ length pool
  run_within = omega (arith, room_left, run_end)

  -- where the run begins, if it is known of its place
  pub start_told : (start : ℕ) → start ≡ start_at slots (length pool) place → slot.start ≡ start
  start_told start is = ap (λ s. s.start) slot_is ∙ sym is

  -- where a move is left, an entry isn't in use yet
  pub entry_free : 0 < slot.left → slot.start + slot.used < length pool
  entry_free some = omega (arith, room_left, run_end)

  module _ (to : ℕ) (was now : Value) where
    pub refused_here : (fault : Fault) → IsStep to was now (cell_by slot pool) slot (Err fault) →
        IsApplied to was now place slots pool slots pool (Err fault)
    refused_here fault step = refused to was now place slots pool slot fault here.pooled (subst (λ c. IsStep to was now c slot (Err fault)) cell_same step)

    module _ (next : CellHead) (new_pool : List ℕ)
        (step : IsStep to was now (cell_by slot pool) slot (Ok next))
        (changes : ChangesRun slot.start (room_at slots (length pool) place) pool new_pool)
        (wins : (plies : ℕ) → (cell_by next new_pool).wins plies ≡ (changed was now (cell_by slot pool)).wins plies)
        (fits : next.left + next.used ≤ slot.left + slot.used) where
      made : (next.start ≡ slot.start) × (next.left ≡ (changed was now (cell_by slot pool)).left)
          × (least_of next.win ≡ (changed was now (cell_by slot pool)).least)
      made = step.made next refl

      same_after : SameCell (cell_by next new_pool) (changed was now (cell_by slot pool))
      same_after = record { left = made.1; wins = wins; least = made.2 }

      pub short_after : IsShortCell (cell_by next new_pool)
      short_after = same_short (cell_by next new_pool) (changed was now (cell_by slot pool)) same_after (step.fits next refl).1

      start_kept : next.start ≡ start_at slots (length pool) place
      start_kept = made.0 ∙ ap (λ s. s.start) slot_is

      changes_here : ChangesRun (start_at slots (length pool) place) (room_at slots (length pool) place) pool new_pool
      changes_here = subst (λ (k : ℕ). ChangesRun k (room_at slots (length pool) place) pool new_pool) (ap (λ s. s.start) slot_is) changes

      cell_after : cell_by next new_pool ≡ cell_in (set slots place next) new_pool place
      cell_after = sym (cell_here slots pool new_pool place next here.pooled here.within start_kept changes_here)

      same_cell : SameCell (cell_in (set slots place next) new_pool place) (changed was now (cell_in slots pool place))
      same_cell = rw (← cell_after, ← cell_same) same_after

      takes_here : CellCanTake was now (cell_in slots pool place)
      takes_here = subst (λ c. CellCanTake was now c) cell_same (step.fits next refl).0

      pooled_after : ArePooled (set slots place next) new_pool
      pooled_after = still_pooled slots pool new_pool place next here.pooled here.within start_kept changes_here (omega (arith, room_left, fits)) short_after

      pub applied_here : (change : Option (Value × Value)) → IsChange (cell_by slot pool) (cell_by next new_pool) change →
          IsApplied to was now place slots pool (set slots place next) new_pool (Ok change)
      applied_here change values = record {
        misfit = (λ e. absurd (cc), λ not. absurd (not takes_here));
        deep = (λ e. absurd (cc), λ both. absurd (not_deep both.1));
        named = λ class e. absurd (cc);
        unchanged = λ fault e. absurd (cc);
        pooled = pooled_after;
        places = length-set slots place next;
        starts = start_same slots pool new_pool place next here.pooled here.within start_kept changes_here;
        others = cell_other slots pool new_pool place next here.pooled here.within start_kept changes_here;
        takes = λ given e. takes_here;
        cell = λ given e. same_cell;
        values = λ given e. (let same : change ≡ given = cc in rw (← same, ← cell_same, ← cell_after) values);
      }
        where
          not_deep : IsTooDeep (changed was now (cell_in slots pool place)) → ⊥
          not_deep deep = not_too_deep (changed was now (cell_by slot pool)) (step.fits next refl).1 (rw cell_same deep)

-- ---- values of a cell with a win, or with none while moves are left
win_value_is : (slot : CellHead) (wins : ℕ → ℕ) (value : Value) → (slot.win ≡ 0 → 0 < slot.left) → (0 < slot.win → value ≡ Win slot.win) →
    (slot.win ≡ 0 → value ≡ Draw) → CellValue (cell_of slot wins) value
win_value_is slot wins value left some none = elim (cases_eq slot.win 0) [
  | inl e ↦ rw (none e) (ap least_of e, inl (left e))
  | inr n ↦ rw (some (omega arith)) (least_some slot.win (omega arith))
]

least_is : (win least : ℕ) → least_of win ≡ Some least → win ≡ least + 1
least_is win least e = grind arith

-- after a loss of the enemy
nearer_win : (slot next : CellHead) (wins new_wins : ℕ → ℕ) (least : ℕ) (value : Value) (change : Option (Value × Value)) → (slot.win ≡ 0 → 0 < slot.left) →
    (0 < slot.win → value ≡ Win slot.win) → (slot.win ≡ 0 → value ≡ Draw) → least_of next.win ≡ Some least →
    MatchOption change (value ≡ Win next.win) (λ values. (values.0 ≡ value) × (values.1 ≡ Win next.win) × (value ≡ Win next.win → ⊥)) →
    IsChange (cell_of slot wins) (cell_of next new_wins) change
nearer_win slot next wins new_wins least value change left some none win both =
    change_of (cell_of slot wins) (cell_of next new_wins) value (Win next.win) change
    (win_value_is slot wins value left some none)
    (least, win, least_is next.win least win)
    both

-- after a win of the enemy that isn't the last move's
value_kept : (slot next : CellHead) (wins new_wins : ℕ → ℕ) → 0 < slot.left → (slot.left ≡ 1 → slot.win ≡ 0 → ⊥) → next.left ≡ slot.left - 1 →
    next.win ≡ slot.win → IsChange (cell_of slot wins) (cell_of next new_wins) None
value_kept slot next wins new_wins some not_last left win = elim (cases_eq slot.win 0) [
  | inl none ↦
      (Draw, (ap least_of none, inl some), (ap least_of (win ∙ none), inl (grind arith)))
  | inr n ↦
      let known = least_some slot.win (omega arith) in
      (Win slot.win, known, (known.0, ap least_of win ∙ known.1, known.2))
]

-- after the last move's win of the enemy
lost : (slot next : CellHead) (wins new_wins : ℕ → ℕ) (plies : ℕ) (greatest : Option ℕ) → slot.left ≡ 1 → slot.win ≡ 0 → next.left ≡ 0 → next.win ≡ 0 →
    IsGreatestIn wins greatest → ((other : ℕ) → new_wins other ≡ more_at plies wins other) →
    IsChange (cell_of slot wins) (cell_of next new_wins) (Some (Draw, Loss (greater_of greatest plies + 1)))
lost slot next wins new_wins plies greatest left win none_left none is more = (
  (ap least_of win, inl (let k : 0 < slot.left = omega arith in k)),
  CellValue-same (cell_of next new_wins) (record { left = 0; wins = more_at plies wins; least = None }) (Loss (greater_of greatest plies + 1))
      (record { left = none_left; wins = more; least = ap least_of none })
      (refl, refl, greater_of greatest plies, greatest_more plies wins greatest is, refl),
  λ e. absurd (cc),
)

-- ---- the rows

module _ {slots : List CellHead} {pool : List ℕ} {place : ℕ} {slot : CellHead} (here : IsRead slots pool place slot) where
  short : IsShortCell (cell_by slot pool)
  short = short_here here

  -- what the cell doesn't take is refused
  pub misfit_here : (to : ℕ) (was now : Value) → (CellCanTake was now (cell_by slot pool) → ⊥) →
      IsApplied to was now place slots pool slots pool (Err (Contradiction to))
  misfit_here to was now misfit = refused_here here to was now (Contradiction to) (misfits to was now (cell_by slot pool) slot misfit)

  pub win_too_deep : (to plies : ℕ) (greatest : Option ℕ) → slot.left ≡ 1 → slot.win ≡ 0 →
      IsGreatestIn (wins_in pool slot.start slot.used) greatest →
      65534 ≤ greater_of greatest plies → IsApplied to Draw (Win plies) place slots pool slots pool (Err TooDeep)
  win_too_deep to plies greatest last none is deep = refused_here here to Draw (Win plies) TooDeep
      (win_deep to plies slot (wins_in pool slot.start slot.used) greatest last none is deep)

  module _ (to plies : ℕ) (next : CellHead) (new_pool : List ℕ) (some : 0 < slot.left)
      (start_same : next.start ≡ slot.start) (used_more : next.used ≡ slot.used + 1) (left : next.left ≡ slot.left - 1) (win : next.win ≡ slot.win)
      (changes : ChangesRun slot.start (slot.used + 1) pool new_pool)
      (wins : (other : ℕ) → wins_in new_pool slot.start (slot.used + 1) other ≡ more_at plies (wins_in pool slot.start slot.used) other) where
    wins_next : (other : ℕ) → wins_in new_pool next.start next.used other ≡ more_at plies (wins_in pool slot.start slot.used) other
    wins_next other = rw (start_same, used_more) (wins other)

    one_counted : (change : Option (Value × Value)) →
        (slot.win ≡ 0 → slot.left ≡ 1 → (greatest : Option ℕ) × IsGreatestIn (wins_in pool slot.start slot.used) greatest × (greater_of greatest plies < 65534)) →
        IsChange (cell_by slot pool) (cell_by next new_pool) change →
        IsApplied to Draw (Win plies) place slots pool (set slots place next) new_pool (Ok change)
    one_counted change below values =
        let most : slot.left + slot.used ≤ room_at slots (length pool) place = room_left here in
        applied_here here to Draw (Win plies) next new_pool
        (win_step to plies slot next (wins_in pool slot.start slot.used) short some below start_same left win)
        (changes_longer slot.start (slot.used + 1) (room_at slots (length pool) place) pool new_pool (omega arith) changes)
        wins_next (let more = used_more in let less = left in omega arith) change values

    pub win_applied : (slot.left ≡ 1 → slot.win ≡ 0 → ⊥) → IsApplied to Draw (Win plies) place slots pool (set slots place next) new_pool (Ok None)
    win_applied not_last = one_counted None (λ none last. absurd (not_last last none))
        (value_kept slot next (wins_in pool slot.start slot.used) (wins_in new_pool next.start next.used) some not_last left win)

    pub last_win_applied : slot.left ≡ 1 → slot.win ≡ 0 → (greatest : Option ℕ) → IsGreatestIn (wins_in pool slot.start slot.used) greatest →
        greater_of greatest plies < 65534 →
        IsApplied to Draw (Win plies) place slots pool (set slots place next) new_pool (Ok (Some (Draw, Loss (greater_of greatest plies + 1))))
    last_win_applied last none greatest is below = one_counted (Some (Draw, Loss (greater_of greatest plies + 1))) (λ _ _. (greatest, is, below))
        (lost slot next (wins_in pool slot.start slot.used) (wins_in new_pool next.start next.used) plies greatest last none
        (omega arith) (win ∙ none) is wins_next)

  module _ (to was now : ℕ) (new_pool : List ℕ) (better : now < was) (counted : 0 < wins_in pool slot.start slot.used was)
      (changes : ChangesRun slot.start slot.used pool new_pool)
      (wins : (other : ℕ) → wins_in new_pool slot.start slot.used other
      ≡ more_at now (less_at was (wins_in pool slot.start slot.used)) other) where
    changes_room : ChangesRun slot.start (room_at slots (length pool) place) pool new_pool
    changes_room =
        let most : slot.left + slot.used ≤ room_at slots (length pool) place = room_left here in
        changes_longer slot.start slot.used (room_at slots (length pool) place) pool new_pool (omega arith) changes

    pub better_win_short : IsShortCell (cell_by slot new_pool)
    better_win_short = short_after here to (Win was) (Win now) slot new_pool
        (better_win_step to was now slot (wins_in pool slot.start slot.used) short better counted) changes_room wins (omega arith)

    pub better_win_applied : (change : Option (Value × Value)) → IsChange (cell_by slot pool) (cell_by slot new_pool) change →
        IsApplied to (Win was) (Win now) place slots pool slots new_pool (Ok change)
    better_win_applied change values = subst (λ xs. IsApplied to (Win was) (Win now) place slots pool xs new_pool (Ok change))
        (ap (λ s. set slots place s) here.is ∙ set-get_or slots place slot)
        (applied_here here to (Win was) (Win now) slot new_pool
        (better_win_step to was now slot (wins_in pool slot.start slot.used) short better counted) changes_room wins (omega arith) change values)

  -- ---- losses of the enemy change no count

  pub few_plies : slot.win ≤ 65534
  few_plies = win_most slot (wins_in pool slot.start slot.used) short

  pub loss_too_deep : (to plies : ℕ) → 0 < slot.left → slot.win ≡ 0 → 65534 ≤ plies → IsApplied to Draw (Loss plies) place slots pool slots pool (Err TooDeep)
  loss_too_deep to plies some none deep = refused_here here to Draw (Loss plies) TooDeep
      (loss_deep to plies slot (wins_in pool slot.start slot.used) some none deep)

  pub loss_not_known : (to was now : ℕ) → (now < was → 0 < slot.win → slot.win - 1 ≤ was → ⊥) →
      IsApplied to (Loss was) (Loss now) place slots pool slots pool (Err (Contradiction to))
  loss_not_known to was now not = misfit_here to (Loss was) (Loss now) (λ takes. let known = takes.1 in not takes.0 (grind arith) (grind arith))

  module _ (to : ℕ) (next : CellHead) (value : Value) (change : Option (Value × Value))
      (start_same : next.start ≡ slot.start) (used_same : next.used ≡ slot.used)
      (some_win : 0 < slot.win → value ≡ Win slot.win) (no_win : slot.win ≡ 0 → value ≡ Draw)
      (told : MatchOption change (value ≡ Win next.win) (λ values. (values.0 ≡ value) × (values.1 ≡ Win next.win) × (value ≡ Win next.win → ⊥))) where
    untouched : ChangesRun slot.start (room_at slots (length pool) place) pool pool
    untouched = record { whole = refl; before = λ at under. refl; behind = λ at above. refl }

    wins_stay : (other : ℕ) → wins_in pool next.start next.used other ≡ wins_in pool slot.start slot.used other
    wins_stay other = rw (start_same, used_same) refl

    pub loss_applied : (plies : ℕ) → 0 < slot.left → (slot.win ≡ 0 → plies < 65534) → next.left ≡ slot.left - 1 →
        least_of next.win ≡ Some (lesser_of (least_of slot.win) plies) →
        IsApplied to Draw (Loss plies) place slots pool (set slots place next) pool (Ok change)
    loss_applied plies some below left win =
        applied_here here to Draw (Loss plies) next pool
        (loss_step to plies slot next (wins_in pool slot.start slot.used) short some below start_same left win)
        untouched wins_stay (let less = left in let same = used_same in omega arith) change
        (nearer_win slot next (wins_in pool slot.start slot.used) (wins_in pool next.start next.used) (lesser_of (least_of slot.win) plies)
        value change (λ none. some) some_win no_win win told)

    pub better_loss_applied : (was now : ℕ) → now < was → 0 < slot.win → slot.win - 1 ≤ was → next.left ≡ slot.left →
        least_of next.win ≡ Some (lesser_of (least_of slot.win) now) →
        IsApplied to (Loss was) (Loss now) place slots pool (set slots place next) pool (Ok change)
    better_loss_applied was now better some most left win =
        applied_here here to (Loss was) (Loss now) next pool
        (better_loss_step to was now slot next (wins_in pool slot.start slot.used) short better some most start_same left win)
        untouched wins_stay (let less = left in let same = used_same in omega arith) change
        (nearer_win slot next (wins_in pool slot.start slot.used) (wins_in pool next.start next.used) (lesser_of (least_of slot.win) now)
        value change (λ none. absurd (omega arith)) some_win no_win win told)
