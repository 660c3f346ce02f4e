-- The lists of a graph as they grow.
use Rattle.dob_value.proofs.Common.{◌++◌, ◌+◌, ◌-◌, ◌<◌, ◌∙◌, ◌∷◌, ◌≡◌, ◌≤◌, List, [], ap, arith, drop, inl, inr, length, slice_index_or, subst, take, ℕ}
use Rattle.dob_value.proofs.Common.{cases_lt, Family, Status, Open, HasClasses-classes_of, IsPositionOf, classes_of, class_setup, AreNodes, ClassStandsFor}
use Rattle.dob_value.proofs.Common.{IsNode, SomeHasDistance, run_at, SomeTooDeep, MAX_DISTANCE}
use Rattle.std.proofs.Common.{length-append}
use Rattle.std.proofs.Math.Seq.{drop-append_seam, take-length}
use Rattle.std.proofs.lemmas.List.{take-append-le, drop-append-le, length-drop, get_or_append_left, get_or_push}
use Rattle.dob_value.proofs.Rows.{class_setup_is}

-- a run stays where the list grows, and what is appended is the run from the old end to the new one
earlier_run : (from to : ℕ) (xs ys : List ℕ) → from ≤ to → to ≤ length xs →
    take (to - from) (drop from (xs ++ ys)) ≡ take (to - from) (drop from xs)
earlier_run from to xs ys ordered within =
    let inside : from ≤ length xs = omega arith in
    let short : to - from ≤ length (drop from xs) = omega (arith, length-drop from xs) in
    ap (take (to - from)) (drop-append-le from xs ys inside) ∙ take-append-le (to - from) (drop from xs) ys short

last_run : (from to : ℕ) (xs ys : List ℕ) → from ≡ length xs → to ≡ length (xs ++ ys) → take (to - from) (drop from (xs ++ ys)) ≡ ys
last_run from to xs ys starts ends =
    let long : to - from ≡ length ys = omega (arith, length-append xs ys) in
    ap (λ n. take n (drop from (xs ++ ys))) long
    ∙ ap (take (length ys)) (ap (λ n. drop n (xs ++ ys)) starts ∙ drop-append_seam xs ys)
    ∙ take-length ys

-- the graph of one class more
module _ (family : Family) (upto : ℕ) (statuses : List Status) (starts successors : List ℕ) (before : AreNodes family upto statuses starts successors)
    (status : Status) (numbers : List ℕ) (known : IsNode family.profile (ClassStandsFor family) (class_setup family upto) status numbers) where
  abbrev all : List ℕ
  all = successors ++ numbers

  abbrev starts_now : List ℕ
  starts_now = starts ++ length all ∷ []

  start_before : (number : ℕ) → number < upto + 1 → slice_index_or starts_now number 0 ≡ slice_index_or starts number 0
  start_before number below =
      get_or_append_left starts (length all ∷ []) 0 number (let whole : length starts ≡ upto + 1 = before.starts_whole in omega arith)

  end_now : slice_index_or starts_now (upto + 1) 0 ≡ length all
  end_now = get_or_push starts (length all) 0 (upto + 1) before.starts_whole

  last_start : slice_index_or starts_now upto 0 ≡ length successors
  last_start = start_before upto (omega arith) ∙ before.end

  known_before : (number : ℕ) → number < upto →
      IsNode family.profile (ClassStandsFor family) (class_setup family number) (slice_index_or (statuses ++ status ∷ []) number Open) (run_at starts_now all number)
  known_before number below =
      let whole : length statuses ≡ upto = before.statuses_whole in
      let same_status = get_or_append_left statuses (status ∷ []) Open number (omega arith) in
      let from = start_before number (omega arith) in
      let to = start_before (number + 1) (omega arith) in
      let same_run : run_at starts_now all number ≡ run_at starts successors number =
      ap (λ n. take (slice_index_or starts_now (number + 1) 0 - n) (drop n all)) from
      ∙ ap (λ n. take (n - slice_index_or starts number 0) (drop (slice_index_or starts number 0) all)) to
      ∙ earlier_run (slice_index_or starts number 0) (slice_index_or starts (number + 1) 0) successors numbers (before.ordered number below)
      (before.within number below) in
      rw (same_status, same_run) (before.known number below)

  known_now : IsNode family.profile (ClassStandsFor family) (class_setup family upto) (slice_index_or (statuses ++ status ∷ []) upto Open) (run_at starts_now all upto)
  known_now =
      let run = last_run (slice_index_or starts_now upto 0) (slice_index_or starts_now (upto + 1) 0) successors numbers last_start end_now in
      rw (get_or_push statuses status Open upto before.statuses_whole, run) known

  pub nodes_more : AreNodes family (upto + 1) (statuses ++ status ∷ []) (starts ++ length (successors ++ numbers) ∷ []) (successors ++ numbers)
  nodes_more = record {
    statuses_whole = length-append statuses (status ∷ []) ∙ ap (λ n. n + 1) before.statuses_whole;
    starts_whole = length-append starts (length all ∷ []) ∙ ap (λ n. n + 1) before.starts_whole;
    end = end_now;
    ordered = λ number below. elim (cases_lt number upto) [
      | inl earlier ↦
          omega (arith, start_before number (omega arith), start_before (number + 1) (omega arith), before.ordered number earlier)
      | inr later ↦
          let same : upto ≡ number = omega arith in
          subst (λ n. slice_index_or starts_now n 0 ≤ slice_index_or starts_now (n + 1) 0) same
          (omega (arith, last_start, end_now, length-append successors numbers))
    ];
    within = λ number below. elim (cases_lt number upto) [
      | inl earlier ↦
          omega (arith, start_before (number + 1) (omega arith), before.within number earlier, length-append successors numbers)
      | inr later ↦
          let same : upto ≡ number = omega arith in
          subst (λ n. slice_index_or starts_now (n + 1) 0 ≤ length all) same (omega (arith, end_now))
    ];
    known = λ number below. elim (cases_lt number upto) [
      | inl earlier ↦ known_before number earlier
      | inr later ↦
          let same : upto ≡ number = omega arith in
          subst (λ n. IsNode family.profile (ClassStandsFor family) (class_setup family n) (slice_index_or (statuses ++ status ∷ []) n Open) (run_at starts_now all n))
          same known_now
    ];
  }

-- the same, for lists that are known to be these
pub nodes_grown : (family : Family) (upto : ℕ) (statuses : List Status) (starts successors : List ℕ) (status : Status) (numbers : List ℕ)
    (statuses_now : List Status) (starts_now successors_now : List ℕ) (last : ℕ) → AreNodes family upto statuses starts successors →
    IsNode family.profile (ClassStandsFor family) (class_setup family upto) status numbers → statuses_now ≡ statuses ++ status ∷ [] →
    starts_now ≡ starts ++ last ∷ [] → last ≡ length successors_now → successors_now ≡ successors ++ numbers →
    AreNodes family (upto + 1) statuses_now starts_now successors_now
nodes_grown family upto statuses starts successors status numbers statuses_now starts_now successors_now last before known is_statuses is_starts is_last
    is_successors =
    rw (is_statuses, is_starts, is_last, is_successors) (nodes_more family upto statuses starts successors before status numbers known)

-- a class too deep is a position of its family too deep
pub deep_position : (family : Family) (n : ℕ) → MAX_DISTANCE < n → SomeHasDistance family n → SomeTooDeep family.profile (IsPositionOf family)
deep_position family n deep some =
    (class_setup family some.0, (class_setup_is family some.0 (classes_of family) (HasClasses-classes_of family) some.1).0.0, n, deep, some.2)
