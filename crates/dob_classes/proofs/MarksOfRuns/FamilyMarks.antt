-- The marks of a run's positions of a family, numbered among themselves, say which of them are representatives and how many stand before.
use Rattle.dob_classes.proofs.Common.{◌%◌, ◌&&◌, ◌+◌, ◌<◌, ◌^◌, ◌∙◌, ◌≡◌, ◌≤◌, Bool, ap, arith, cond, false, inl, inr, refl, suc, sym, true, zero, ℕ}
use Rattle.dob_classes.proofs.Common.{cases_Bool, Family, Setup, lions_run, marks_agree, marks_from, run_start_first, run_start_next, run_size-small}
use Rattle.dob_classes.proofs.Common.{spot_there, marked-first_of, place_found, marks_below-le, marks_below-upto, marks_below_more, marks_below_none, present}
use Rattle.dob_classes.proofs.Common.{marked_place, IsPositionOf, is_present, is_marked, marks_below, one_if, block_bases, block_of, digits_of, product}
use Rattle.dob_classes.proofs.Common.{sum_below, IsInRun, form_bases, lion_pairs, run_kind, run_of, run_start, runs_in, local_of, run_size, RunKind, First}
use Rattle.dob_classes.proofs.Common.{Later, Mixed, IsInRunOf, IsNumbered, classes_before, is_there, local_marks_in, place_of_number, run_size_in, local_marks}
use Rattle.dob_classes.proofs.Common.{IsStretchIn, classes_to_block, classes_to_place, classes_to_run}
use Rattle.dob_classes.proofs.OfFamilies.FamilyNumbers.{below_by_marks, marks_below-rises, marks_below-same, upto_by_marks}
use Rattle.dob_rank.proofs.InRuns.RunPlaces.{in_set, marked_first, marked_later}
use Rattle.dob_classes.proofs.MarksOfRuns.MixedRuns.{marks_by_lions}
use Rattle.dob_classes.proofs.MarksOfRuns.StretchLists.{counted}
use Rattle.dob_rank.proofs.OfFamilies.RunPresent.{allowed_in_run}

-- ---- the marked ones of some places, numbered among themselves

-- a place that is on is the one of its number
pub place_back : (on : ℕ → Bool) (size n : ℕ) → n < size → on n ≡ true → marked_place on (marks_below on n) size ≡ n
place_back on size n below is =
    let found = place_found on (marks_below on n) size (marks_below-rises on n size is below) in
    marks_below-same on (marked_place on (marks_below on n) size) n found.marked is found.before

-- the marks of those below a place, by their numbers
pub marks_of_some : (on mark : ℕ → Bool) (size n : ℕ) → n ≤ size
    → marks_below (λ k. on k && mark k) n ≡ marks_below (λ m. mark (marked_place on m size)) (marks_below on n)
marks_of_some on mark size zero upto =
    marks_below_none (λ k. on k && mark k)
    ∙ sym (ap (marks_below (λ m. mark (marked_place on m size))) (marks_below_none on) ∙ marks_below_none (λ m. mark (marked_place on m size)))
marks_of_some on mark size (suc n) upto =
    let rest = marks_of_some on mark size n (omega (arith, upto)) in
    let more = marks_below_more (λ k. on k && mark k) n in
    let all = marks_below_more on n in
    elim (cases_Bool (on n)) [
      | inl is ↦
          let one : one_if (on n) ≡ 1 = ap one_if is in
          let number : marks_below on (suc n) ≡ suc (marks_below on n) = omega (arith, all, one) in
          let next = marks_below_more (λ m. mark (marked_place on m size)) (marks_below on n) in
          let same : one_if (on n && mark n) ≡ one_if (mark (marked_place on (marks_below on n) size)) =
          ap (λ (b : Bool). one_if (b && mark n)) is ∙ ap (λ (k : ℕ). one_if (mark k)) (sym (place_back on size n (omega (arith, upto)) is)) in
          omega (arith, rest, more, next, same, ap (marks_below (λ m. mark (marked_place on m size))) number)
      | inr off ↦
          let none : one_if (on n) ≡ 0 = ap one_if off in
          let number : marks_below on (suc n) ≡ marks_below on n = omega (arith, all, none) in
          let nothing : one_if (on n && mark n) ≡ 0 = ap (λ (b : Bool). one_if (b && mark n)) off in
          omega (arith, rest, more, nothing, ap (marks_below (λ m. mark (marked_place on m size))) number)
    ]

-- places that are on in both ways have one numbering
pub places_agree : (f g : ℕ → Bool) (number size : ℕ) → ((k : ℕ) → k < size → f k ≡ g k) → marked_place f number size ≡ marked_place g number size
places_agree f g number zero same = refl
places_agree f g number (suc size) same = grind (arith, marks_agree, (places_agree f g number size))

-- places that are all marked, or all not
pub all_alike : (mark : ℕ → Bool) (on : Bool) (n : ℕ) → ((k : ℕ) → k < n → mark k ≡ on) → marks_below mark n ≡ cond on n 0
all_alike mark true n all = omega (arith, counted mark true 0 n 0 (omega arith) (sym (marks_below_none mark)) (λ k from low. all k low))
all_alike mark false n all = omega (arith, counted mark false 0 n 0 (omega arith) (sym (marks_below_none mark)) (λ k from low. all k low))

-- ---- a run's positions of a family

module _ (family : Family) (block run : ℕ) where
  pub numbered : (number : ℕ) → IsInRunOf family block run number → IsNumbered family block run number (place_of_number family block run number)
  numbered number at = grind (arith, place_found)

  -- and no other
  only_numbered : (number place : ℕ) → IsNumbered family block run number place → place_of_number family block run number ≡ place
  only_numbered number place at =
      rw (← at.number_is) (place_back (is_there family block run) (run_size family.set block) place at.in_run.local_below at.there)

  -- representatives of the family are its positions whose places are marked
  marked_in_run : (place : ℕ) → IsInRun family.set block run place
      → is_marked family (run_start family.set block run + place) ≡ (is_there family block run place && local_marks family.set block run place)
  unfolding is_marked
  marked_in_run place at = ap (λ (b : Bool). is_there family block run place && b)
      (sym (marked-first_of family.set (run_start family.set block run + place) (in_set family.set block run place at)))

  pub run_size_in-small : block < product (block_bases family.set) → run_size_in family block run ≤ 2 ^ 36
  run_size_in-small within = omega (arith, marks_below-le (is_there family block run) (run_size family.set block), run_size-small family.set block within)

-- the marks of a number are those of its place
pub record IsMarkedBy (family : Family) (block run number place : ℕ) : Type 0 where
  pub number_below : number < run_size_in family block run
  pub mark_is : local_marks_in family block run number ≡ is_marked family (run_start family.set block run + place)
  pub before_is : classes_before family block run number ≡ classes_to_place family block run place

-- a run whose positions of a family have the marks of this one's
pub record IsAlike (family : Family) (block run : ℕ) (of : Family) (its other : ℕ) : Type 0 where
  pub size_is : run_size_in of its other ≡ run_size_in family block run
  pub mark_is : (number : ℕ) → number < run_size_in family block run → local_marks_in of its other number ≡ local_marks_in family block run number
  pub before_is : (number : ℕ) → number ≤ run_size_in family block run
      → marks_below (local_marks_in of its other) number ≡ marks_below (local_marks_in family block run) number

-- how many classes a run has
abbrev pub run_marks : Family → ℕ → ℕ → ℕ
run_marks family block run = marks_below (local_marks_in family block run) (run_size_in family block run)

-- the kind of a run whose positions are all representatives, or all not
abbrev pub kind_if : Bool → RunKind
kind_if true = First
kind_if false = Later

-- the first run of those lions
pub lower_run : (run runs : ℕ) → run < runs → run % lion_pairs < runs
lower_run run runs below = (let less : run % lion_pairs ≤ run = omega arith in omega (arith, less, below))

module _ (family : Family) (block run : ℕ) (within : block < product (block_bases family.set)) (below : run < runs_in family.set block) where
  at_place : (place : ℕ) → place < run_size family.set block → IsInRun family.set block run place
  at_place place low = record { block_below = within; run_below = below; local_below = low }

  at_number : (number : ℕ) → number < run_size_in family block run → IsNumbered family block run number (place_of_number family block run number)
  at_number number low = numbered family block run number (record { block_below = within; run_below = below; number_below = low })

  -- so many representatives of the family stand before a place of the run
  pub classes_before_place : (place : ℕ) → place ≤ run_size family.set block
      → classes_to_place family block run place ≡ classes_before family block run (marks_below (is_there family block run) place)
  classes_before_place place upto =
      sym (marks_from (is_marked family) (run_start family.set block run) place)
      ∙ ap (λ (n : ℕ). classes_to_run family block run + n)
      (marks_agree (λ k. is_marked family (run_start family.set block run + k)) (λ k. is_there family block run k && local_marks family.set block run k) place
      (λ k low. marked_in_run family block run k (at_place k (omega (arith, low, upto))))
      ∙ marks_of_some (is_there family block run) (local_marks family.set block run) (run_size family.set block) place upto)

  -- and before the next run
  pub classes_before_next : classes_before family block run (run_size_in family block run) ≡ classes_to_run family block (run + 1)
  classes_before_next = sym (classes_before_place (run_size family.set block) (omega arith))
      ∙ ap (marks_below (is_marked family)) (sym (run_start_next family.set block run))

  -- ---- what the lions say

  pub mark_told : (number : ℕ) (on : Bool) → number < run_size_in family block run → run_kind (run % lion_pairs) ≡ kind_if on
      → local_marks_in family block run number ≡ on
  mark_told number true low kind = marked_first family.set block run (place_of_number family block run number) (at_number number low).in_run kind
  mark_told number false low kind = marked_later family.set block run (place_of_number family block run number) (at_number number low).in_run kind

  pub marks_told : (number : ℕ) (on : Bool) → number ≤ run_size_in family block run → run_kind (run % lion_pairs) ≡ kind_if on
      → marks_below (local_marks_in family block run) number ≡ cond on number 0
  marks_told number on upto kind = all_alike (local_marks_in family block run) on number (λ k low. mark_told k on (omega (arith, low, upto)) kind)

  -- ---- the hands don't matter

  -- the first run of those lions has positions of the family at the same places
  there_alike : (place : ℕ) → place < run_size family.set block → is_there family block (run % lion_pairs) place ≡ is_there family block run place
  there_alike place low =
      let form = product (form_bases (digits_of (block_bases family.set) block)) in
      let first : IsInRun family.set block (run % lion_pairs) place
      = record { block_below = within; run_below = lower_run run (runs_in family.set block) below; local_below = low } in
      rw (lions_run run) at (allowed_in_run family block (run % lion_pairs) place form first refl)
      ∙ sym (allowed_in_run family block run place form (at_place place low) refl)

  -- so as many before a place
  pub size_by_lions : (place : ℕ) → place ≤ run_size family.set block
      → marks_below (is_there family block (run % lion_pairs)) place ≡ marks_below (is_there family block run) place
  size_by_lions place upto = marks_agree (is_there family block (run % lion_pairs)) (is_there family block run) place
      (λ k low. there_alike k (omega (arith, low, upto)))

  mark_alike : run_kind (run % lion_pairs) ≡ Mixed → (number : ℕ) → number < run_size_in family block run
      → local_marks_in family block (run % lion_pairs) number ≡ local_marks_in family block run number
  mark_alike kind number low =
      let at = (at_number number low).in_run in
      ap (local_marks family.set block (run % lion_pairs))
      (places_agree (is_there family block (run % lion_pairs)) (is_there family block run) number (run_size family.set block) there_alike)
      ∙ sym (marks_by_lions family.set block run (run % lion_pairs) (place_of_number family block run number) at
      (record { block_below = within; run_below = lower_run run (runs_in family.set block) below; local_below = at.local_below }) (sym (lions_run run)) kind)

  pub alike_by_lions : run_kind (run % lion_pairs) ≡ Mixed → IsAlike family block run family block (run % lion_pairs)
  alike_by_lions kind = record {
    size_is = size_by_lions (run_size family.set block) (omega arith);
    mark_is = mark_alike kind;
    before_is = λ number upto. marks_agree (local_marks_in family block (run % lion_pairs)) (local_marks_in family block run) number
        (λ k low. mark_alike kind k (omega (arith, low, upto)));
  }

  -- ---- stretches

  -- the positions of the family on the places from one on up to another
  pub stretch_in : (place end start next : ℕ) (on : Bool) → end ≤ run_size family.set block → start ≡ marks_below (is_there family block run) place
      → next ≡ marks_below (is_there family block run) end → place < end
      → ((k : ℕ) → place ≤ k → k < end → local_marks family.set block run k ≡ on) → IsStretchIn family block run start next on
  stretch_in place end start next on upto start_is next_is some same =
      let there = is_there family block run in
      let rise = marks_below-upto there place end (omega (arith, some)) in
      let last = marks_below-upto there end (run_size family.set block) upto in
      record {
        further = omega (arith, rise, start_is, next_is);
        within = omega (arith, last, next_is);
        same = λ number low high.
            (let at = at_number number (omega (arith, high, last, next_is)) in
            let number_is = at.number_is in
            same (place_of_number family block run number)
            (upto_by_marks there place (place_of_number family block run number) at.there (omega (arith, number_is, low, start_is)))
            (below_by_marks there (place_of_number family block run number) end (omega (arith, number_is, high, next_is))));
      }

-- so it has as many marks as the first run of its lions
pub marks_of_lions : (family : Family) (block run : ℕ) → block < product (block_bases family.set) → run < runs_in family.set block
    → run_marks family block (run % lion_pairs) ≡ run_marks family block run
marks_of_lions family block run within below = by_kind (run_kind (run % lion_pairs)) refl
  where
    told : (on : Bool) → run_kind (run % lion_pairs) ≡ kind_if on → run_marks family block (run % lion_pairs) ≡ run_marks family block run
    told on is =
        let lower = lower_run run (runs_in family.set block) below in
        marks_told family block (run % lion_pairs) within lower (run_size_in family block (run % lion_pairs)) on (omega arith)
        (ap run_kind (lions_run run) ∙ is)
        ∙ ap (λ n. cond on n 0) (size_by_lions family block run within below (run_size family.set block) (omega arith))
        ∙ sym (marks_told family block run within below (run_size_in family block run) on (omega arith) is)

    by_kind : (kind : RunKind) → run_kind (run % lion_pairs) ≡ kind → run_marks family block (run % lion_pairs) ≡ run_marks family block run
    by_kind First is = told true is
    by_kind Later is = told false is
    by_kind Mixed is =
        let alike = alike_by_lions family block run within below is in
        ap (marks_below (local_marks_in family block (run % lion_pairs))) alike.size_is ∙ alike.before_is (run_size_in family block run) (omega arith)

-- the classes before a run as a sum
pub marks_of_runs : (family : Family) (block run : ℕ) → block < product (block_bases family.set) → run ≤ runs_in family.set block
    → classes_to_block family block + sum_below (run_marks family block) run ≡ classes_to_run family block run
marks_of_runs family block zero within upto = grind (arith, run_start_first)
marks_of_runs family block (suc run) within upto = grind (arith, classes_before_next, (marks_of_runs family block run within (omega (arith, upto))))

-- ---- the place of a position
pub mark_of_number : (family : Family) (block run number place : ℕ) → IsNumbered family block run number place → IsMarkedBy family block run number place
mark_of_number family block run number place at = grind (arith, marks_below-rises, only_numbered, marked_in_run, classes_before_place)

pub number_of_position : (family : Family) (s : Setup) → IsPositionOf family s → IsNumbered family (block_of family.set s) (run_of family.set s)
    (marks_below (is_there family (block_of family.set s) (run_of family.set s)) (local_of s)) (local_of s)
number_of_position family s p =
    let spot = spot_there family.set s family.set (block_of family.set s) (run_of family.set s) (local_of s) p.of_set refl refl refl refl in
    record { in_run = spot.there; there = ap (is_present family) spot.rank_is ∙ present family s p; number_is = refl }

-- up to the end of the run
pub all_places : (family : Family) (block run place start size : ℕ) → start ≡ marks_below (is_there family block run) place → size ≡ run_size family.set block
    → place ≤ size → size ≤ place → start ≡ run_size_in family block run
all_places family block run place start size start_is size_is upto end = grind arith
