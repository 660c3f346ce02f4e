-- What is written stays where more is written behind it.
use Rattle.dob_index.proofs.Common.{◌%◌, ◌*◌, ◌+◌, ◌/◌, ◌<◌, ◌^◌, ◌∙◌, ◌≡◌, ◌≢◌, ◌≤◌, ◌⊎◌, List, ap, arith, get_or, inl, inr, length, refl, slice_set, subst}
use Rattle.dob_index.proofs.Common.{sym, ℕ, cases_lt, get_or-set_other, get_or-set_same, length-set, Family, runs_by_hand, block_bases, product, lion_pairs}
use Rattle.dob_index.proofs.Common.{run_kind, runs_in, RunKind, Mixed, by_hands, none_before, one_block_more, classes_to_block, classes_to_place}
use Rattle.dob_index.proofs.Common.{classes_to_run, classes_few, AreEntriesFrom, IsKeptBlock, IsKeptRun, entries_in, entry_places, row_at, run_words}
use Rattle.dob_index.proofs.Common.{where_mixed}

-- the entries of a run stay
pub entries_stay : (family : Family) (block lions at : ℕ) (old new : List ℕ)
    → ((i : ℕ) → at ≤ i → i < at + entries_in family.set block → get_or new i 0 ≡ get_or old i 0)
    → AreEntriesFrom family block lions at old → AreEntriesFrom family block lions at new
entries_stay family block lions at old new same are = λ entry low. rw (same (at + entry) (omega arith) (omega (arith, low))) (are entry low)

-- a run's numbers stay where those of its row and of its entries do
pub run_stays : (family : Family) (block lions upto more : ℕ) (old new : List ℕ) → upto ≤ more
    → get_or new (row_at block + (lions + 1)) 0 ≡ get_or old (row_at block + (lions + 1)) 0
    → get_or new (row_at block + (101 + lions)) 0 ≡ get_or old (row_at block + (101 + lions)) 0
    → ((i : ℕ) → row_at (product (block_bases family.set)) ≤ i → i < upto → get_or new i 0 ≡ get_or old i 0)
    → IsKeptRun family block lions upto old → IsKeptRun family block lions more new
run_stays family block lions upto more old new further next first same is = record {
  next = ap (λ n. classes_to_block family block + n) next ∙ is.next;
  entries = λ kind. rw first (entries_stay family block lions (get_or old (row_at block + (101 + lions)) 0) old new
      (λ i from below. let low = is.behind kind in let high = is.within kind in same i (omega (arith, from, low)) (omega (arith, below, high)))
      (is.entries kind));
  behind = λ kind. (let low = is.behind kind in omega (arith, low, first));
  within = λ kind. (let high = is.within kind in omega (arith, high, first, further));
}

-- and a block's
pub block_stays : (family : Family) (block upto more : ℕ) (old new : List ℕ) → upto ≤ more
    → ((i : ℕ) → row_at block ≤ i → i < row_at (block + 1) → get_or new i 0 ≡ get_or old i 0)
    → ((i : ℕ) → row_at (product (block_bases family.set)) ≤ i → i < upto → get_or new i 0 ≡ get_or old i 0)
    → IsKeptBlock family block upto old → IsKeptBlock family block more new
block_stays family block upto more old new further row same is = record {
  row = record {
    before_is = row (row_at block + 100) (omega arith) (omega arith) ∙ is.row.before_is;
    first_is = row (row_at block) (omega arith) (omega arith) ∙ is.row.first_is;
  };
  runs = λ lions low. run_stays family block lions upto more old new further
      (row (row_at block + (lions + 1)) (omega arith) (omega (arith, low)))
      (row (row_at block + (101 + lions)) (omega arith) (omega (arith, low)))
      same (is.runs lions low);
}

-- ---- one entry more of a run
pub entry_written : (family : Family) (block lions at entry entries value : ℕ) (words : List ℕ) → at + entries ≤ length words → entry < entries
    → ((k : ℕ) → k < entry → classes_to_run family block lions + get_or words (at + k) 0 ≡ classes_to_place family block lions (k * entry_places))
    → classes_to_run family block lions + value ≡ classes_to_place family block lions (entry * entry_places) → (k : ℕ) → k < entry + 1
    → classes_to_run family block lions + get_or (slice_set words (at + entry) value) (at + k) 0 ≡ classes_to_place family block lions (k * entry_places)
entry_written family block lions at entry entries value words room low are here k below = elim (cases_lt k entry) [
  | inl lt ↦ ap (λ (n : ℕ). classes_to_run family block lions + n)
      (get_or-set_other words (at + entry) (at + k) value 0 (λ same. omega (arith, lt, same))) ∙ are k lt
  | inr ge ↦ rw (let same : k ≡ entry = omega (arith, ge, below) in same, get_or-set_same words (at + entry) value 0 (omega (arith, room, low))) here
]

pub others_stay : (words old : List ℕ) (at entry entries value : ℕ) → entry < entries
    → ((i : ℕ) → (i < at) ⊎ (at + entries ≤ i) → get_or words i 0 ≡ get_or old i 0)
    → (i : ℕ) → (i < at) ⊎ (at + entries ≤ i) → get_or (slice_set words (at + entry) value) i 0 ≡ get_or old i 0
others_stay words old at entry entries value low same i (inl before) =
    get_or-set_other words (at + entry) i value 0 (λ is. omega (arith, before, is)) ∙ same i (inl before)
others_stay words old at entry entries value low same i (inr behind) =
    get_or-set_other words (at + entry) i value 0 (λ is. omega (arith, behind, is, low)) ∙ same i (inr behind)

-- ---- one run more of a block
pub record IsStep (family : Family) (block lions at next : ℕ) (old new : List ℕ) : Type 0 where
  pub agrees : (i : ℕ) → i ≢ row_at block + (101 + lions) → i ≢ row_at block + (lions + 1) → (i < at) ⊎ (next ≤ i) → get_or new i 0 ≡ get_or old i 0
  pub kept : IsKeptRun family block lions next new
  pub size : length new ≡ length old

-- first where its entries begin is written, then these, then how many classes stand before the next run
pub one_run : (family : Family) (block lions at next count row : ℕ) (words written : List ℕ) → block < product (block_bases family.set) → lions < lion_pairs
    → row ≡ row_at block → row_at (product (block_bases family.set)) ≤ at → row_at (product (block_bases family.set)) ≤ length words
    → next ≡ at + run_words family.set block lions → length written ≡ length (slice_set words (row + 101 + lions) at)
    → ((i : ℕ) → (i < at) ⊎ (at + run_words family.set block lions ≤ i) → get_or written i 0 ≡ get_or (slice_set words (row + 101 + lions) at) i 0)
    → (run_kind lions ≡ Mixed → AreEntriesFrom family block lions at written) → classes_to_block family block + count ≡ classes_to_run family block (lions + 1)
    → IsStep family block lions at next words (slice_set written (row + 1 + lions) count)
one_run family block lions at next count row words written within low row_is behind room next_is long others entries count_is = record {
  agrees = agree;
  kept = record {
    next = ap (λ (n : ℕ). classes_to_block family block + n)
        (ap (λ (i : ℕ). get_or new i 0) (let e : row_at block + (lions + 1) ≡ row + 1 + lions = omega (arith, row_is) in e)
        ∙ get_or-set_same written (row + 1 + lions) count 0 (omega (arith, size, room, row_is, within, low))) ∙ count_is;
    entries = λ kind. rw first (entries_stay family block lions at written new
        (λ i from below. get_or-set_other written (row + 1 + lions) i count 0 (λ is. omega (arith, is, from, behind, row_is, within, low)))
        (entries kind));
    behind = λ kind. (let is = first in omega (arith, is, behind));
    within = λ kind. (let is = first in let words_are = ap (λ (k : RunKind). where_mixed k (entries_in family.set block)) kind in omega (arith, is, next_is, words_are));
  };
  size = length-set written (row + 1 + lions) count ∙ size;
}
  where
    new : List ℕ
    new = slice_set written (row + 1 + lions) count

    size : length written ≡ length words
    size = long ∙ length-set words (row + 101 + lions) at

    first : get_or new (row_at block + (101 + lions)) 0 ≡ at
    first =
        ap (λ (i : ℕ). get_or new i 0) (let e : row_at block + (101 + lions) ≡ row + 101 + lions = omega (arith, row_is) in e)
        ∙ get_or-set_other written (row + 1 + lions) (row + 101 + lions) count 0 (λ is. omega (arith, is))
        ∙ others (row + 101 + lions) (inl (omega (arith, behind, row_is, within, low)))
        ∙ get_or-set_same words (row + 101 + lions) at 0 (omega (arith, room, row_is, within, low))

    agree : (i : ℕ) → i ≢ row_at block + (101 + lions) → i ≢ row_at block + (lions + 1) → (i < at) ⊎ (next ≤ i) → get_or new i 0 ≡ get_or words i 0
    agree i not_first not_next out =
        get_or-set_other written (row + 1 + lions) i count 0 (λ is. not_next (omega (arith, is, row_is)))
        ∙ others i (elim out [ inl before ↦ inl before | inr after ↦ inr (omega (arith, after, next_is)) ])
        ∙ get_or-set_other words (row + 101 + lions) i at 0 (λ is. not_first (omega (arith, is, row_is)))

-- the runs before it stay
pub runs_stay : (family : Family) (block lions at next : ℕ) (old new : List ℕ) → block < product (block_bases family.set) → lions < lion_pairs
    → row_at (product (block_bases family.set)) ≤ at → at ≤ next → IsStep family block lions at next old new
    → ((k : ℕ) → k < lions → IsKeptRun family block k at old) → (k : ℕ) → k < lions + 1 → IsKeptRun family block k next new
runs_stay family block lions at next old new within low behind further step runs k below = elim (cases_lt k lions) [
  | inl lt ↦ run_stays family block k at next old new further
      (step.agrees (row_at block + (k + 1)) (λ is. omega (arith, is, lt, low)) (λ is. omega (arith, is, lt)) (inl (omega (arith, within, behind, lt, low))))
      (step.agrees (row_at block + (101 + k)) (λ is. omega (arith, is, lt)) (λ is. omega (arith, is, lt, low)) (inl (omega (arith, within, behind, lt, low))))
      (λ i from upto. step.agrees i (λ is. omega (arith, is, from, within, low)) (λ is. omega (arith, is, from, within, low)) (inl upto))
      (runs k lt)
  | inr ge ↦ subst (λ (j : ℕ). IsKeptRun family block j next new) (let e : lions ≡ k = omega (arith, ge, below) in e) step.kept
]

-- ---- the end of a block
pub record AreAllRuns (family : Family) (block before count runs : ℕ) : Type 0 where
  pub sum_is : before + runs / lion_pairs * count ≡ classes_to_block family (block + 1)
  pub few : before + runs / lion_pairs * count ≤ 2 ^ 43

-- each hand has as many classes as the first
pub all_runs : (family : Family) (block before count runs : ℕ) → block < product (block_bases family.set) → runs ≡ runs_in family.set block
    → before ≡ classes_to_block family block → classes_to_block family block + count ≡ classes_to_run family block lion_pairs
    → AreAllRuns family block before count runs
all_runs family block before count runs within runs_are before_is count_is =
    let none : runs % lion_pairs ≡ 0 = omega (arith, runs_are, runs_by_hand family.set block) in
    let part : classes_to_block family block + 0 ≡ classes_to_run family block (runs % lion_pairs) = rw none (none_before family block) in
    let all = (by_hands family block runs (runs / lion_pairs) (runs % lion_pairs) count 0 within (omega (arith, runs_are)) refl refl count_is part).sum_is in
    let more = one_block_more family block runs before (runs / lion_pairs * count + 0) runs_are before_is all in
    let sum : before + runs / lion_pairs * count ≡ classes_to_block family (block + 1) = omega (arith, more) in
    record { sum_is = sum; few = omega (arith, sum, classes_few family (block + 1) (omega (arith, within))) }

-- ---- a block before its first run

-- outside of a block's row
pub outside : (block i k : ℕ) → (i < row_at block) ⊎ (row_at (block + 1) ≤ i) → k < 200 → i ≡ row_at block + k → ⊥
outside block i k (inl before) low is = omega (arith, before, is)
outside block i k (inr behind) low is = omega (arith, behind, is, low)

pub record IsOpenedRow (block before : ℕ) (old new : List ℕ) : Type 0 where
  pub size : length new ≡ length old
  pub first_is : get_or new (row_at block) 0 ≡ 0
  pub before_is : get_or new (row_at block + 100) 0 ≡ before
  pub others : (i : ℕ) → (i < row_at block) ⊎ (row_at (block + 1) ≤ i) → get_or new i 0 ≡ get_or old i 0

pub row_opened : (block before row : ℕ) (words : List ℕ) → row ≡ row_at block → row_at (block + 1) ≤ length words
    → IsOpenedRow block before words (slice_set (slice_set words row 0) (row + 100) before)
row_opened block before row words row_is room = record {
  size = length-set (slice_set words row 0) (row + 100) before ∙ length-set words row 0;
  first_is = get_or-set_other (slice_set words row 0) (row + 100) (row_at block) before 0 (λ is. omega (arith, is, row_is))
      ∙ ap (λ (i : ℕ). get_or (slice_set words row 0) i 0) (sym row_is) ∙ get_or-set_same words row 0 0 (omega (arith, room, row_is));
  before_is = ap (λ (i : ℕ). get_or (slice_set (slice_set words row 0) (row + 100) before) i 0) (let e : row_at block + 100 ≡ row + 100 = omega (arith, row_is) in e)
      ∙ get_or-set_same (slice_set words row 0) (row + 100) before 0 (let long = length-set words row 0 in omega (arith, long, room, row_is));
  others = λ i out. get_or-set_other (slice_set words row 0) (row + 100) i before 0 (λ is. outside block i 100 out (omega arith) (omega (arith, is, row_is)))
      ∙ get_or-set_other words row i 0 0 (λ is. outside block i 0 out (omega arith) (omega (arith, is, row_is)));
}

-- ---- what a block's writing leaves
pub both_sides : (i first at next : ℕ) → first ≤ at → at ≤ next → (i < first) ⊎ (next ≤ i) → ((i < at) ⊎ (next ≤ i)) × ((i < first) ⊎ (at ≤ i))
both_sides i first at next further more (inl before) = (inl (omega (arith, before, further)), inl before)
both_sides i first at next further more (inr behind) = (inr behind, inr (omega (arith, behind, more)))

-- ---- the first three numbers
pub record IsHeaded (words new : List ℕ) (x y z : ℕ) : Type 0 where
  pub size : length new ≡ length words
  pub first_is : get_or new 0 0 ≡ x
  pub second_is : get_or new 1 0 ≡ y
  pub third_is : get_or new 2 0 ≡ z
  pub others : (i : ℕ) → 3 ≤ i → get_or new i 0 ≡ get_or words i 0

pub headed : (words : List ℕ) (x y z : ℕ) → 3 ≤ length words → IsHeaded words (slice_set (slice_set (slice_set words 0 x) 1 y) 2 z) x y z
headed words x y z room = record {
  size = length-set two 2 z ∙ two_size;
  first_is = get_or-set_other two 2 0 z 0 (λ is. omega (arith, is)) ∙ get_or-set_other one 1 0 y 0 (λ is. omega (arith, is))
      ∙ get_or-set_same words 0 x 0 (omega (arith, room));
  second_is = get_or-set_other two 2 1 z 0 (λ is. omega (arith, is)) ∙ get_or-set_same one 1 y 0 (let size = length-set words 0 x in omega (arith, room, size));
  third_is = get_or-set_same two 2 z 0 (let size = two_size in omega (arith, room, size));
  others = λ i from. get_or-set_other two 2 i z 0 (λ is. omega (arith, is, from)) ∙ get_or-set_other one 1 i y 0 (λ is. omega (arith, is, from))
      ∙ get_or-set_other words 0 i x 0 (λ is. omega (arith, is, from));
}
  where
    one : List ℕ
    one = slice_set words 0 x

    two : List ℕ
    two = slice_set one 1 y

    two_size : length two ≡ length words
    two_size = length-set one 1 y ∙ length-set words 0 x
