-- The predecessors of a class are the one ascending list that counts the moves into it.
use Rattle.dob_unmove.proofs.Common.{rules, ◌<◌, ◌∙◌, ◌∷◌, ◌≡◌, ◌≤◌, All, AllPairs, Bool, Contains, List, [], ap, arith, inl, inr, subst, sym, true, ℕ}
use Rattle.dob_unmove.proofs.Common.{cases_lt, eq-eqb, eqb-true, All-contains, All-filter, filter_passes, AllPairs-filter, length-filter, count_by, filter}
use Rattle.dob_unmove.proofs.Common.{cons_cases, head_in, none_in_empty, turned, Family, Profile, A, Setup, CanGo, IsAllowed-Goes, Goes, place, AreMoves}
use Rattle.dob_unmove.proofs.Common.{HasStatus, Move, Open, HasClass-marked, HasClasses-classes_of, IsPositionOf, classes_of, IsEither, no_longer}
use Rattle.dob_unmove.proofs.Common.{IsPositionOf-mirrored, ArePredecessors, CountEdges, HasEdges, LeadsInto, IsSeenTurned, refl}
use Rattle.std.proofs.lemmas.Bool.{cond_both}
use Rattle.std.proofs.lemmas.List.Elements.{Contains-get_or}
use Rattle.dob_pieces.proofs.Lists.{rest_in}
use Rattle.std.specs.List.Sorted.{IsPermutation, IsNonDecreasingBy}
use Rattle.dob_moves.specs.MoveLists.{moves_of}
use Rattle.dob_moves.specs.Outcomes.{moved}
use Rattle.dob_moves.proofs.MoveLists.{AreMoves-moves_of}
use Rattle.dob_moves.proofs.ByProfile.{goes}
use Rattle.dob_moves.proofs.Shared.{share_status}
use Rattle.dob_moves.proofs.ProfileMoves.{goes_to_allowed, Goes-is, Goes-moved, IsLegal-Goes, total-Goes}
use Rattle.dob_rank.specs.Families.{RepresentsClass, class_setup, class_number}
use Rattle.dob_classes.proofs.OfFamilies.FamilyNumbers.{class_number-below, class_number-representative, class_number-mirrored, class_once}
use Rattle.dob_classes.proofs.OfFamilies.FamilyRepresentatives.{class_setup_is, class_setup_only, one_number}
use Rattle.dob_unmove.specs.Edges.{leads_into, edges, predecessors}
use Rattle.dob_unmove.proofs.Classes.{IsNumbering-classes}
use Rattle.dob_unmove.proofs.Gathering.{sorted_counts}
use Rattle.dob_unmove.proofs.Ascending.{times, ascending_same, each-below, each-ascends, times-each, times-absent}

-- ---- class numbers
pub RepresentsClass-class_setup : (family : Family) (class : ℕ) → class < classes_of family → RepresentsClass family (class_setup family class) class
RepresentsClass-class_setup family class below = class_setup_is family class (classes_of family) (HasClasses-classes_of family) below

-- as the side sees it whose move led there
abbrev pub class_seen : (family : Family) (class : ℕ) → class < classes_of family → IsSeenTurned (IsPositionOf family) (turned (class_setup family class))
class_seen family class below = (class_setup family class, (RepresentsClass-class_setup family class below).0.0, refl)

-- the representative's number is that of its class
number_of_representative : (family : Family) (q : Setup) (class : ℕ) → RepresentsClass family q class → class_number family q ≡ class
number_of_representative family q class is = search (rules, class_number-representative, one_number, HasClass-marked)

pub representative_below : (family : Family) (q : Setup) (class : ℕ) → RepresentsClass family q class → class < classes_of family
representative_below family q class is = subst (λ n. n < classes_of family) (number_of_representative family q class is) (class_number-below family q is.0.0)

-- ---- the moves into a class
contains_filter : {X : Type 0} (test : X → Bool) (xs : List X) (x : X) → Contains xs x → test x ≡ true → Contains (filter test xs) x
contains_filter test [] x h is = absurd (none_in_empty x h)
contains_filter {X} test (y ∷ ys) x h is = elim (cons_cases y ys x h) [
  | inl same ↦ rw (same, is) (head_in x (filter test ys))
  | inr later ↦
      let kept = contains_filter test ys x later is in
      cond_both (test y) (y ∷ filter test ys) (filter test ys) (λ (l : List X). Contains l x) (λ e. rest_in y x (filter test ys) kept) (λ e. kept)
]

position_after : (family : Family) (p : Setup) (m : Move) (q : Setup) → IsPositionOf family p → HasStatus family.profile p Open →
    Goes family.profile p m q → IsPositionOf family q
position_after family p m q is open_to_move goes = grind (arith, IsLegal-Goes, total-Goes, IsAllowed-Goes)

-- ---- between positions of a family the moves are those by its profile

module _ (family : Family) (p q : Setup) (is_p : IsPositionOf family p) (is_q : IsPositionOf family q) where
  leads_by : (m : Move) → LeadsInto A p q m → LeadsInto family.profile p q m
  leads_by m leads =
      let outcome = leads.1.0 in
      let is : IsPositionOf family outcome = elim leads.1.2 [
        | inl same ↦ subst (IsPositionOf family) (sym same) is_q
        | inr image ↦ subst (IsPositionOf family) (sym image) (IsPositionOf-mirrored family q is_q)
      ] in (
        (share_status family.profile p Open is_p.of_set.legal).0 leads.0,
        (outcome, goes_to_allowed family.profile p m outcome is_p.of_set.legal.squares leads.1.1 is.allowed, leads.1.2),
      )

  led_by : (m : Move) → LeadsInto family.profile p q m → LeadsInto A p q m
  led_by m leads = (
    (share_status family.profile p Open is_p.of_set.legal).1 leads.0,
    (leads.1.0, goes family.profile p m leads.1.0 leads.1.1, leads.1.2),
  )

  edges_by : (number : ℕ) → HasEdges A p q number → HasEdges family.profile p q number
  edges_by number has = record {
    moves = has.moves;
    sound = λ m there. leads_by m (has.sound m there);
    whole = λ m leads. has.whole m (led_by m leads);
    once = has.once;
    counted = has.counted;
  }

-- so classes are counted alike
counts_by : (family : Family) (q : Setup) (numbers : List ℕ) → IsPositionOf family q → CountEdges A (RepresentsClass family) q numbers →
    CountEdges family.profile (RepresentsClass family) q numbers
counts_by family q numbers is_q counts = record {
  known = counts.known;
  edges = λ p class is_p. edges_by family p q is_p.0.0 is_q _ (counts.edges p class is_p);
}

-- of two positions of one class each is the other or its mirror image
same_class : (family : Family) (s q : Setup) (class : ℕ) → IsPositionOf family s → RepresentsClass family q class → class_number family s ≡ class → IsEither q s
same_class family s q class is represents e = class_once family s q is represents.0.0 (e ∙ sym (number_of_representative family q class represents))

class_of_either : (family : Family) (s q : Setup) (class : ℕ) → RepresentsClass family q class → IsEither q s → class_number family s ≡ class
class_of_either family s q class represents either = elim either [
  | inl e ↦ ap (class_number family) e ∙ number_of_representative family q class represents
  | inr e ↦ ap (class_number family) e ∙ class_number-mirrored family q represents.0.0 ∙ number_of_representative family q class represents
]

module _ (family : Family) (p q : Setup) (from class : ℕ) (is_p : RepresentsClass family p from) (is_q : RepresentsClass family q class) where
  are : AreMoves family.profile p (moves_of family.profile p)
  are = AreMoves-moves_of family.profile p is_p.0.0.of_set.legal.squares

  abbrev leading : List Move
  leading = filter (leads_into family p class) (moves_of family.profile p)

  leading_sound : (m : Move) → Contains leading m → LeadsInto family.profile p q m
  leading_sound m here =
      let Made = λ (x : Move). HasStatus family.profile p Open × CanGo family.profile p x in
      let all : All Made (moves_of family.profile p) = λ k d lt. are.sound _ (Contains-get_or (moves_of family.profile p) k d lt) in
      let is = All-contains Made leading m (All-filter (leads_into family p class) Made (moves_of family.profile p) all) here in
      let goes = Goes-moved family.profile p m is.1 in
      let after = turned (moved p m) in
      let passes : leads_into family p class m ≡ true = All-contains (λ (x : Move). leads_into family p class x ≡ true) leading m
      (filter_passes (leads_into family p class) (moves_of family.profile p)) here in (
        is.0,
        (
          after,
          goes,
          same_class family after q class (position_after family p m after is_p.0.0 is.0 goes) is_q (eqb-true (class_number family after) class passes),
        ),
      )

  leading_whole : (m : Move) → LeadsInto family.profile p q m → Contains leading m
  leading_whole m leads =
      let outcome : leads.1.0 ≡ turned (moved p m) = Goes-is family.profile p m leads.1.0 leads.1.1 in
      contains_filter (leads_into family p class) (moves_of family.profile p) m (are.whole m leads.0 (leads.1.0, leads.1.1))
      (eq-eqb (class_number family (turned (moved p m))) class
      (ap (class_number family) (sym outcome) ∙ class_of_either family leads.1.0 q class is_q leads.1.2))

  leading_once : AllPairs (λ (a b : Move). ¬ (a ≡ b)) leading
  leading_once i j d before within same =
      let less = AllPairs-filter (λ (a b : Move). place a < place b) (leads_into family p class) (moves_of family.profile p) are.ordered i j d before within in
      omega (arith, less, ap place same)

  pub HasEdges-edges : HasEdges family.profile p q (edges family from class)
  unfolding edges
  HasEdges-edges = record {
    moves = leading;
    sound = leading_sound;
    whole = leading_whole;
    once = leading_once;
    counted = length-filter (leads_into family p class) (moves_of family.profile p)
        ∙ ap (λ (s : Setup). count_by (leads_into family s class) (moves_of family.profile s))
        (class_setup_only family p from (classes_of family) (HasClasses-classes_of family) (representative_below family p from is_p) is_p.0 is_p.1);
  }

-- two numbers of the moves from one to another are one
same_edges : (profile : Profile) (p q : Setup) (m n : ℕ) → HasEdges profile p q m → HasEdges profile p q n → m ≡ n
same_edges profile p q m n a b =
    let up = no_longer a.moves b.moves a.once (λ x here. b.whole x (a.sound x here)) in
    let down = no_longer b.moves a.moves b.once (λ x here. a.whole x (b.sound x here)) in
    omega (arith, up, down, a.counted, b.counted)

-- ---- the list

module _ (family : Family) (q : Setup) (class : ℕ) (is_q : RepresentsClass family q class) where
  abbrev number : ℕ → ℕ
  number from = edges family from class

  pub times-predecessors : (from : ℕ) → from < classes_of family → times from (predecessors family class) ≡ edges family from class
  unfolding predecessors
  times-predecessors from below = times-each number (classes_of family) from below

  predecessors-below : All (λ (x : ℕ). x < classes_of family) (predecessors family class)
  unfolding predecessors
  predecessors-below = each-below number (classes_of family)

  predecessors-ascends : AllPairs (λ (a b : ℕ). a ≤ b) (predecessors family class)
  unfolding predecessors
  predecessors-ascends = each-ascends number (classes_of family)

  -- The list counts the moves into the class, and ascends.
  pub ArePredecessors-predecessors : ArePredecessors family.profile (RepresentsClass family) q (predecessors family class)
  ArePredecessors-predecessors = record {
    counts = record {
      known = λ k d lt. (class_setup family _, RepresentsClass-class_setup family _ (predecessors-below k d lt));
      edges = λ p from is_p. subst (HasEdges family.profile p q) (sym (times-predecessors from (representative_below family p from is_p))) (HasEdges-edges family p q from class is_p is_q);
    };
    ascending = predecessors-ascends;
  }

  same_times : (xs : List ℕ) → CountEdges family.profile (RepresentsClass family) q xs → (from : ℕ) → times from xs ≡ times from (predecessors family class)
  same_times xs counts from = elim (cases_lt from (classes_of family)) [
    | inl below ↦
        let p = class_setup family from in
        let is_p = RepresentsClass-class_setup family from below in
        same_edges family.profile p q (times from xs) (times from (predecessors family class)) (counts.edges p from is_p)
        (ArePredecessors-predecessors.counts.edges p from is_p)
    | inr above ↦
        times-absent from (classes_of family) xs above
        (λ k d lt. let is = counts.known k d lt in representative_below family is.0 _ is.1)
        ∙ sym (times-absent from (classes_of family) (predecessors family class) above predecessors-below)
  ]

  -- No other list does.
  pub same_predecessors : (xs : List ℕ) → ArePredecessors family.profile (RepresentsClass family) q xs → xs ≡ predecessors family class
  same_predecessors xs are =
      ascending_same xs (predecessors family class) are.ascending predecessors-ascends (same_times xs are.counts)

-- ---- numbers that count the moves into the representative, once they are sorted

module _ (family : Family) (class : ℕ) (representative : Setup) (numbers sorted : List ℕ) (is : RepresentsClass family representative class)
    (counts : CountEdges A (RepresentsClass family) representative numbers) (moved : IsPermutation numbers sorted)
    (rises : IsNonDecreasingBy (λ (x : ℕ). x) sorted) where
  sorted_predecessors : (q : Setup) → RepresentsClass family q class → ArePredecessors family.profile (RepresentsClass family) q sorted
  sorted_predecessors q is_q =
      let same = (IsNumbering-classes family).one_represents representative q class is is_q in
      let all = sorted_counts (RepresentsClass family) q numbers sorted
      (subst (λ (p : Setup). CountEdges A (RepresentsClass family) p numbers) same counts) moved rises in
      record { counts = counts_by family q sorted is_q.0.0 all.counts; ascending = all.ascending }

  pub sorted_answer : class < classes_of family
      → ((q : Setup) → RepresentsClass family q class → ArePredecessors family.profile (RepresentsClass family) q sorted) × (sorted ≡ predecessors family class)
  sorted_answer below =
      let is_q = RepresentsClass-class_setup family class below in
      (sorted_predecessors, same_predecessors family (class_setup family class) class is_q sorted (sorted_predecessors (class_setup family class) is_q))
