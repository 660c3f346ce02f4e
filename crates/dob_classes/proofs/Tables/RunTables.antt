-- The tables of the first hand's runs of a family and of their marks, as they grow and as they are read.
use Rattle.dob_classes.proofs.Common.{◌%◌, ◌*◌, ◌++◌, ◌+◌, ◌<◌, ◌^◌, ◌∙◌, ◌∷◌, ◌≡◌, ◌≤◌, Bool, List, [], ap, arith, cond, false, length, refl}
use Rattle.dob_classes.proofs.Common.{slice_index_or, sym, true, ℕ, mul-le-mul_right, get_or_append_left, get_or_push, length-append}
use Rattle.dob_classes.proofs.Common.{length_push, Family, start_small, marks_below-le, marks_below-upto, block_size-small, is_marked}
use Rattle.dob_classes.proofs.Common.{marks_below, block_bases, product, lion_pairs, run_kind, run_start, runs_in, run_size}
use Rattle.dob_classes.proofs.Common.{RunKind, First, Later, Mixed, IsInRunOf, classes_before, local_marks_in, run_size_in, AreRuns}
use Rattle.dob_classes.proofs.Common.{HasTable, IsRun, BlockClasses, FirstRun, StretchTable, classes_to_block, classes_to_run}
use Rattle.dob_rank.proofs.InRuns.RunPlaces.{block_size-runs, run_start-is}
use Rattle.dob_classes.proofs.MarksOfRuns.FamilyMarks.{IsAlike, alike_by_lions, classes_before_next, kind_if, mark_told, marks_told, run_marks}
use Rattle.dob_classes.proofs.Tables.Pushed.{each_pushed}

-- ---- how many marks a run has

-- a table whose run is alike
abbrev pub IsTableFor : Family → ℕ → ℕ → StretchTable → Type 0
IsTableFor family block run table = IsAlike family block run table.family table.block table.run

module _ (family : Family) (block run : ℕ) (within : block < product (block_bases family.set)) (below : run < runs_in family.set block) where
  run_counted : (marks : ℕ) → marks ≡ run_marks family block run → classes_to_run family block run + marks ≡ classes_to_run family block (run + 1)
  run_counted marks is = rw is (classes_before_next family block run within below)

  -- all of its positions, or none
  pub count_told : (size : ℕ) (on : Bool) → size ≡ run_size_in family block run → run_kind (run % lion_pairs) ≡ kind_if on
      → classes_to_run family block run + cond on size 0 ≡ classes_to_run family block (run + 1)
  count_told size on is kind = run_counted (cond on size 0)
      (ap (λ n. cond on n 0) is ∙ sym (marks_told family block run within below (run_size_in family block run) on (omega arith) kind))

  -- as many as the table's run
  pub count_mixed : (table : StretchTable) → IsTableFor family block run table
      → classes_to_run family block run + table.count ≡ classes_to_run family block (run + 1)
  count_mixed table by = run_counted table.count
      (table.counted ∙ ap (marks_below (local_marks_in table.family table.block table.run)) by.size_is
      ∙ by.before_is (run_size_in family block run) (omega arith))

  pub table_for : (number : ℕ) (tables : List StretchTable) (table : StretchTable) → HasTable family block (run % lion_pairs) number tables
      → run_kind (run % lion_pairs) ≡ Mixed → table ≡ slice_index_or tables number table → IsTableFor family block run table
  table_for number tables table has kind read = grind (arith, alike_by_lions)

-- ---- the tables of marks

-- a table stays where it is when more are added
HasTable-more : (family : Family) (block lions number : ℕ) (tables more : List StretchTable) → HasTable family block lions number tables
    → HasTable family block lions number (tables ++ more)
HasTable-more family block lions number tables more has kind =
    let old = has kind in
    (omega (arith, length-append tables more, old.0), λ other. rw (get_or_append_left tables more other number old.0) (old.1 other))

pub AreRuns-more : (family : Family) (block count : ℕ) (runs : List FirstRun) (tables news : List StretchTable) (table : StretchTable)
    → news ≡ tables ++ table ∷ [] → AreRuns family block count runs tables → AreRuns family block count runs news
AreRuns-more family block count runs tables news table grown are = rw grown (record {
  long = are.long;
  each = λ lions other below.
      (let is = are.each lions other below in
      record {
        before_is = is.before_is;
        kind_is = is.kind_is;
        table_is = HasTable-more family block lions (slice_index_or runs lions other).table tables (table ∷ []) is.table_is;
      });
})

-- the table just made
pub HasTable-new : (family : Family) (block lions number : ℕ) (tables news : List StretchTable) (table : StretchTable)
    → number ≡ length tables → news ≡ tables ++ table ∷ [] → table.family ≡ family → table.block ≡ block → table.run ≡ lions
    → HasTable family block lions number news
HasTable-new family block lions number tables news table at grown family_is block_is run_is kind = grind (arith, length_push, get_or_push)

-- ---- the entries of runs
abbrev pub make_run : ℕ → RunKind → ℕ → FirstRun
make_run before kind table = record { before = before; kind = kind; table = table }

-- one more run
pub AreRuns-push : (family : Family) (block lions before table : ℕ) (kind : RunKind) (runs news : List FirstRun) (tables : List StretchTable)
    → AreRuns family block lions runs tables → classes_to_block family block + before ≡ classes_to_run family block lions → kind ≡ run_kind lions
    → HasTable family block lions table tables → news ≡ runs ++ make_run before kind table ∷ [] → AreRuns family block (lions + 1) news tables
AreRuns-push family block lions before table kind runs news tables are before_is kind_is has news_are = record {
  long = ap length news_are ∙ length_push runs (make_run before kind table) ∙ ap (λ n. n + 1) are.long;
  each = each_pushed (λ (k : ℕ) (entry : FirstRun). IsRun family block k tables entry) runs news (make_run before kind table) lions are.long are.each
      (record { before_is = before_is; kind_is = kind_is; table_is = has }) news_are;
}

pub AreRuns-none : (family : Family) (block : ℕ) (runs : List FirstRun) (tables : List StretchTable) → runs ≡ [] → AreRuns family block 0 runs tables
AreRuns-none family block runs tables none = record { long = ap length none; each = λ lions other below. absurd (omega arith) }

-- ---- bounds
pub marks_small : (family : Family) (block run : ℕ) → block < product (block_bases family.set) → run ≤ runs_in family.set block
    → classes_to_run family block run ≤ 2 ^ 42
marks_small family block run within upto =
    let times : run * run_size family.set block ≤ runs_in family.set block * run_size family.set block = mul-le-mul_right (run_size family.set block) upto in
    omega (
      arith,
      marks_below-le (is_marked family) (run_start family.set block run),
      run_start-is family.set block run,
      start_small family.set block (omega (arith, within)),
      block_size-runs family.set block,
      times,
      block_size-small family.set block within,
    )

-- so are those before each position of a run
pub classes_before-small : (family : Family) (block run number : ℕ) → IsInRunOf family block run number → classes_before family block run number ≤ 2 ^ 42
classes_before-small family block run number at = grind (arith, marks_below-upto, classes_before_next, marks_small)

-- ---- what the tables say of a position of a run
pub entry_in : (block : BlockClasses) (lions : ℕ) (entry : FirstRun) → lions < lion_pairs → entry ≡ slice_index_or block.runs.items lions entry
    → IsRun block.family block.number lions block.mixed.items entry
entry_in block lions entry below read = rw read (block.table.each lions entry (rw block.whole below))

-- its mark, and how many there are before it
pub record IsFoundIn (family : Family) (block run number : ℕ) (on : Bool) (before : ℕ) : Type 0 where
  pub mark_is : on ≡ local_marks_in family block run number
  pub before_is : before ≡ classes_before family block run number
  pub few : before ≤ 2 ^ 42

module _ (family : Family) (block run number first : ℕ) (at : IsInRunOf family block run number) (first_is : first ≡ classes_to_run family block run) where
  found_by : (marks : ℕ) (on : Bool) → on ≡ local_marks_in family block run number → marks ≡ marks_below (local_marks_in family block run) number
      → IsFoundIn family block run number on (first + marks)
  found_by marks on on_is marks_are =
      let whole : first + marks ≡ classes_before family block run number = rw (first_is, marks_are) refl in
      record { mark_is = on_is; before_is = whole; few = omega (arith, whole, classes_before-small family block run number at) }

  -- by its lions
  pub told_found : (on : Bool) → run_kind (run % lion_pairs) ≡ kind_if on → IsFoundIn family block run number on (first + cond on number 0)
  told_found on kind =
      let low = at.number_below in
      found_by (cond on number 0) on (sym (mark_told family block run at.block_below at.run_below number on low kind))
      (sym (marks_told family block run at.block_below at.run_below number on (omega (arith, low)) kind))

  -- by a table
  module _ (table : StretchTable) (by : IsTableFor family block run table) where
    pub table_number : number < run_size_in table.family table.block table.run
    table_number = rw by.size_is at.number_below

    pub mixed_found : (on : Bool) (marks : ℕ) → on ≡ local_marks_in table.family table.block table.run number
        → marks ≡ marks_below (local_marks_in table.family table.block table.run) number → IsFoundIn family block run number on (first + marks)
    mixed_found on marks on_is marks_are =
        let low = at.number_below in
        found_by marks on (on_is ∙ by.mark_is number low) (marks_are ∙ by.before_is number (omega (arith, low)))

-- ---- the representative of a number

-- the number of the run's representative before which there are so many in the run
pub record IsNumberLeft (family : Family) (block run number left : ℕ) : Type 0 where
  pub number_below : number < run_size_in family block run
  pub mark_is : local_marks_in family block run number ≡ true
  pub left_is : marks_below (local_marks_in family block run) number ≡ left

module _ (family : Family) (block run left : ℕ) (within : block < product (block_bases family.set)) (below : run < runs_in family.set block)
    (fits : classes_to_run family block run + left < classes_to_run family block (run + 1)) where
  -- where its lions say it all are, since none would be left where they say later
  pub lions_left : (run_kind (run % lion_pairs) ≡ Mixed → ⊥) → IsNumberLeft family block run left left
  lions_left apart = by_kind (run_kind (run % lion_pairs)) refl
    where
      by_kind : (kind : RunKind) → run_kind (run % lion_pairs) ≡ kind → IsNumberLeft family block run left left
      by_kind First is =
          let low : left < run_size_in family block run = omega (arith, count_told family block run within below _ true refl is, fits) in
          record {
            number_below = low;
            mark_is = mark_told family block run within below left true low is;
            left_is = marks_told family block run within below left true (omega (arith, low)) is;
          }
      by_kind Later is = absurd (omega (arith, count_told family block run within below _ false refl is, fits))
      by_kind Mixed is = absurd (apart is)

  pub table_left : (table : StretchTable) → IsTableFor family block run table → left < table.count
  table_left table by = omega (arith, count_mixed family block run within below table by, fits)

pub mixed_left : (family : Family) (block run left number : ℕ) (table : StretchTable) → IsTableFor family block run table
    → number < run_size_in table.family table.block table.run → local_marks_in table.family table.block table.run number ≡ true
    → marks_below (local_marks_in table.family table.block table.run) number ≡ left → IsNumberLeft family block run number left
mixed_left family block run left number table by low on left_is = grind arith
