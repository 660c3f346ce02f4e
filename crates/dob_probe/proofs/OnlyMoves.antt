-- The only move to a value, and the puzzles of the places so far of a walk over the classes.
use Rattle.dob_probe.proofs.Common.{◌++◌, ◌+◌, ◌-◌, ◌<◌, ◌∙◌, ◌∷◌, ◌≡◌, ◌≤◌, ◌⊎◌, AllPairs, Bool, Contains, List, None, Option, Some, [], ap, arith, false}
use Rattle.dob_probe.proofs.Common.{get_or, inl, inr, length, slice_get, subst, sym, true, ℕ, cases_lt, Contains-append_left, Contains-get_or, Contains-push}
use Rattle.dob_probe.proofs.Common.{Contains-push_cases, all_pairs_push, slice_get_within, before_or_here, standing, Profile, Setup, place, AreMoves, Move}
use Rattle.dob_probe.proofs.Common.{ClassTable, IsEntry, IsTable, Value, Loss, Win, HasEntry, GivenBy, LeadsTo, AreLike, ArePuzzles, IsListedNext, IsPassed}
use Rattle.dob_probe.proofs.Common.{IsPuzzle, IsSpread, IsPuzzleOf, IsSingleMove, IsOrder, begin_at, class_on, place_in, places_in, Puzzle}
use Rattle.std.proofs.Common.{length-append, is_some}
use Rattle.dob_classes.proofs.OfFamilies.FamilyRepresentatives.{one_of_class}
use Rattle.dob_probe.specs.declared.walks.ClassOrder.{ClassOrder}
use Rattle.dob_probe.proofs.Entries.{all_at}
use Rattle.dob_probe.proofs.Walked.{begin_after, after_begin, class_only, order_covers, place_below, place_class}
use Rattle.dob_shuffle.specs.declared.shuffle.Shuffle.{Shuffle}
use Rattle.dob_probe.proofs.InOrder.{in_order}
use Rattle.dob_probe.proofs.Ways.{NoneBelow, none_below_more, none_leads}

-- ---- the only move to a value

-- of the moves below an index this one leads to the value, and no other one
pub record IsOnlyBelow (profile : Profile) (Has : Setup → Value → Type 0) (p : Setup) (wanted : Value) (legal : List Move) (upto : ℕ) (single : Move) : Type 0 where
  pub index : ℕ
  pub below : index < upto
  pub there : slice_get legal index ≡ Some single
  pub outcome : Setup
  pub leads : LeadsTo profile Has p wanted single outcome
  pub only : (other : ℕ) (move : Move) (q : Setup) → other < upto → slice_get legal other ≡ Some move → LeadsTo profile Has p wanted move q → single ≡ move

abbrev pub IsSingleBelow : Profile → (Setup → Value → Type 0) → Setup → Value → List Move → ℕ → Option Move → Type 0
IsSingleBelow profile Has p wanted legal upto None = NoneBelow profile Has p wanted legal upto
IsSingleBelow profile Has p wanted legal upto (Some single) = IsOnlyBelow profile Has p wanted legal upto single

module _ (profile : Profile) (Has : Setup → Value → Type 0) (p : Setup) (wanted : Value) (legal : List Move) where
  -- a move that leads elsewhere changes nothing
  pub single_skipped : (upto : ℕ) (played : Move) (single : Option Move) → slice_get legal upto ≡ Some played →
      ((q : Setup) → ¬ LeadsTo profile Has p wanted played q) → IsSingleBelow profile Has p wanted legal upto single →
      IsSingleBelow profile Has p wanted legal (upto + 1) single
  single_skipped upto played None here elsewhere before = none_below_more profile Has p wanted legal upto played here elsewhere before
  single_skipped upto played (Some single) here elsewhere before = record {
    index = before.index;
    below = omega (arith, before.below);
    there = before.there;
    outcome = before.outcome;
    leads = before.leads;
    only = λ other move q within there leads. elim (before_or_here legal upto other played move here there within) [
      | inl earlier ↦ before.only other move q earlier there leads
      | inr same ↦ absurd (elsewhere q (rw same at leads))
    ];
  }

  -- the first one that leads there
  pub single_found : (upto : ℕ) (played : Move) (q : Setup) → slice_get legal upto ≡ Some played → LeadsTo profile Has p wanted played q →
      NoneBelow profile Has p wanted legal upto → IsSingleBelow profile Has p wanted legal (upto + 1) (Some played)
  single_found upto played q here leads none = record {
    index = upto;
    below = omega arith;
    there = here;
    outcome = q;
    leads = leads;
    only = λ other move r within there leads_too. elim (before_or_here legal upto other played move here there within) [
      | inl earlier ↦ absurd (none other move r earlier there leads_too)
      | inr same ↦ sym same
    ];
  }

  -- where a second one leads there too, none is the only one
  pub single_twice : (upto : ℕ) (played : Move) (single : Option Move) (q : Setup) → is_some single ≡ true → AreMoves profile p legal → upto < length legal →
      slice_get legal upto ≡ Some played → LeadsTo profile Has p wanted played q → IsSingleBelow profile Has p wanted legal upto single →
      IsSingleMove profile Has p wanted None
  single_twice upto played None q some are within here leads before = absurd (cc)
  single_twice upto played (Some single) q some are within here leads before = λ move only.
      omega (
        arith,
        in_order profile p legal before.index upto single played are before.below within before.there here,
        ap place (sym (only.only single before.outcome before.leads) ∙ only.only played q leads),
      )

  pub single_taken : (upto : ℕ) (played : Move) (single : Option Move) (q : Setup) → is_some single ≡ false → slice_get legal upto ≡ Some played →
      LeadsTo profile Has p wanted played q → IsSingleBelow profile Has p wanted legal upto single → IsSingleBelow profile Has p wanted legal (upto + 1) (Some played)
  single_taken upto played single q none here leads before = grind (arith, single_found upto played q here leads)

  pub single_all : (upto : ℕ) (single : Option Move) → AreMoves profile p legal → length legal ≤ upto → IsSingleBelow profile Has p wanted legal upto single →
      IsSingleMove profile Has p wanted single
  single_all upto None are all none = λ move only. none_leads profile Has p wanted legal upto are all none move only.outcome only.leads
  single_all upto (Some single) are all before = record {
    outcome = before.outcome;
    leads = before.leads;
    only = λ other r leads.
        let there = standing legal other (are.whole other leads.goes_on (r, leads.goes)) in
        before.only there.0 other r (omega (arith, there.1, all)) there.2 leads;
  }

-- ---- the puzzles of the classes

module _ (table : ClassTable) (plies : ℕ) where
  -- what is found for a class's representative is found for the class
  pub puzzle_missing : (class : ℕ) (representative : Setup) → HasEntry table class representative (Win plies) →
      IsSingleMove table.family.profile (GivenBy table) representative (Loss (plies - 1)) None → IsPuzzleOf table plies class None
  puzzle_missing class representative has none = λ puzzle is given.
      let won = rw is at given.won in
      let same = one_of_class table.family given.representative representative class won.represents has.represents won.number has.number in
      none puzzle.played (rw same at given.solved)

  -- of a class with another entry there is none
  pub not_won : (class : ℕ) (value : Value) → slice_get table.values class ≡ Some value → ¬ (value ≡ Win plies) → IsPuzzleOf table plies class None
  not_won class value entry apart = λ puzzle is given. apart (cc (rw is at given.won.entry))

  -- a class has one puzzle at most
  one_puzzle : (a b : Puzzle) → a.class ≡ b.class → IsPuzzle table plies a → IsPuzzle table plies b → a ≡ b
  one_puzzle a b is of_a of_b =
      let won = rw is at of_a.won in
      let same = one_of_class table.family of_b.representative of_a.representative b.class of_b.won.represents won.represents of_b.won.number won.number in
      let solved = rw same at of_b.solved in
      λ i. record { class = is i; played = of_a.solved.only b.played solved.outcome solved.leads i }

module _ (table : ClassTable) (plies : ℕ) (walk : ClassOrder) (order : Option Shuffle) where
  -- the first place of the walk
  abbrev pub begin : ℕ
  begin = begin_at walk.after order (length table.values)

  -- the order has a place for each class
  abbrev pub IsCovered : Type 0
  IsCovered = length table.values ≤ places_in order (length table.values)

  -- the puzzles of the walk's places below one
  pub record ArePuzzlesBelow (upto : ℕ) (list : List Puzzle) : Type 0 where
    pub sound : (puzzle : Puzzle) → Contains list puzzle
        → (begin ≤ place_in order puzzle.class) × (place_in order puzzle.class < upto) × IsPuzzle table plies puzzle
    pub whole : (puzzle : Puzzle) → IsPuzzle table plies puzzle → begin ≤ place_in order puzzle.class → place_in order puzzle.class < upto
        → Contains list puzzle ⊎ IsPassed table walk order list puzzle
    pub unlike : IsSpread walk → AllPairs (λ a b. ¬ AreLike table a b) list
    pub ordered : AllPairs (λ a b. place_in order a.class < place_in order b.class) list

  pub puzzles_none : ArePuzzlesBelow begin []
  puzzles_none = grind arith

  -- a puzzle is of a class of the table
  class_of : (puzzle : Puzzle) → IsPuzzle table plies puzzle → puzzle.class < length table.values
  class_of puzzle is = slice_get_within table.values puzzle.class (Win plies) is.won.entry

  module _ (upto class : ℕ) (here : upto < places_in order (length table.values)) (on : class ≡ class_on order upto)
      (covered : IsCovered) where
    -- a puzzle of the place is of its class
    of_place : (puzzle : Puzzle) → IsPuzzle table plies puzzle → place_in order puzzle.class < upto + 1 → upto ≤ place_in order puzzle.class
        → puzzle.class ≡ class
    of_place puzzle is below later =
        let same : place_in order puzzle.class ≡ upto = omega (arith, below, later) in
        class_only (length table.values) order upto puzzle.class covered (class_of puzzle is) same ∙ sym on

    -- where the place has no puzzle that isn't listed or passed the list stays
    kept : (list : List Puzzle) → ((puzzle : Puzzle) → IsPuzzle table plies puzzle → puzzle.class ≡ class → upto ≤ place_in order puzzle.class
        → Contains list puzzle ⊎ IsPassed table walk order list puzzle) → ArePuzzlesBelow upto list → ArePuzzlesBelow (upto + 1) list
    kept list here_is are = record {
      sound = λ puzzle there. let found = are.sound puzzle there in (found.0, omega (arith, found.1), found.2);
      whole = λ puzzle is from below. elim (cases_lt (place_in order puzzle.class) upto) [
        | inl earlier ↦ are.whole puzzle is from earlier
        | inr later ↦ here_is puzzle is (of_place puzzle is below later) later
      ];
      unlike = are.unlike;
      ordered = are.ordered;
    }

    pub puzzles_same : (list : List Puzzle) → IsPuzzleOf table plies class None → ArePuzzlesBelow upto list → ArePuzzlesBelow (upto + 1) list
    puzzles_same list none are = kept list (λ puzzle is at later. absurd (none puzzle at is)) are

    -- what was listed or passed is so of a longer list
    longer : (list : List Puzzle) (more puzzle : Puzzle) → Contains list puzzle ⊎ IsPassed table walk order list puzzle
        → Contains (list ++ more ∷ []) puzzle ⊎ IsPassed table walk order (list ++ more ∷ []) puzzle
    longer list more puzzle either = grind (arith, Contains-append_left list (more ∷ []))

    -- a puzzle is passed
    pub puzzles_passed : (list : List Puzzle) (more : Puzzle) → IsPuzzleOf table plies class (Some more) → IsSpread walk
        → (listed : Puzzle) → Contains list listed → AreLike table listed more → ArePuzzlesBelow upto list → ArePuzzlesBelow (upto + 1) list
    puzzles_passed list more found spread listed there like are = kept list (λ puzzle is at later.
        let same = one_puzzle table plies more puzzle (found.0 ∙ sym at) found.1 is in
        inr (spread, (listed, there, rw same at like, omega (arith, (are.sound listed there).1, later)))) are

    pub puzzles_more : (list : List Puzzle) (more : Puzzle) → begin ≤ upto → IsPuzzleOf table plies class (Some more)
        → (IsSpread walk → (listed : Puzzle) → Contains list listed → ¬ AreLike table listed more) → ArePuzzlesBelow upto list
        → ArePuzzlesBelow (upto + 1) (list ++ more ∷ [])
    puzzles_more list more from found fresh are =
        let here_is : place_in order more.class ≡ upto =
        ap (place_in order) (found.0 ∙ on) ∙ place_class (length table.values) order upto here in record {
          sound = λ puzzle there. elim (Contains-push_cases list more puzzle there) [
            | inl earlier ↦ let known = are.sound puzzle earlier in (known.0, omega (arith, known.1), known.2)
            | inr same ↦ subst (λ x. (begin ≤ place_in order x.class) × (place_in order x.class < upto + 1) × IsPuzzle table plies x) same
                (omega (arith, here_is, from), omega (arith, here_is), found.1)
          ];
          whole = λ puzzle is first below. elim (cases_lt (place_in order puzzle.class) upto) [
            | inl earlier ↦ longer list more puzzle (are.whole puzzle is first earlier)
            | inr later ↦
                let class_is : more.class ≡ puzzle.class = found.0 ∙ sym (of_place puzzle is below later) in
                inl (subst (λ x. Contains (list ++ more ∷ []) x) (one_puzzle table plies more puzzle class_is found.1 is) (Contains-push list more))
          ];
          unlike = λ spread. all_pairs_push (λ a b. ¬ AreLike table a b) list more (are.unlike spread)
              (λ k d within. fresh spread (get_or list k d) (Contains-get_or list k d within));
          ordered = all_pairs_push (λ a b. place_in order a.class < place_in order b.class) list more are.ordered
              (λ k d within. omega (arith, (are.sound (get_or list k d) (Contains-get_or list k d within)).1, here_is));
        }

    -- a puzzle is listed next, or passed
    pub puzzles_next : (is_spread : Bool) (list new : List Puzzle) (more : Puzzle) → is_spread ≡ is_some walk.seed → begin ≤ upto
        → IsPuzzleOf table plies class (Some more) → IsListedNext table is_spread more list new → ArePuzzlesBelow upto list → ArePuzzlesBelow (upto + 1) new
    puzzles_next is_spread list new more same from found (inl next) are = rw next.0 (puzzles_more list more from found (λ spread. next.1 (same ∙ spread)) are)
    puzzles_next is_spread list new more same from found (inr passed) are =
        rw passed.0 (puzzles_passed list more found (sym same ∙ passed.1) passed.2.0 passed.2.1 passed.2.2 are)

  -- so it is one more at most
  pub next_few : (is_spread : Bool) (list new : List Puzzle) (more : Puzzle) → IsListedNext table is_spread more list new → length new ≤ length list + 1
  next_few is_spread list new more either = grind (arith, length-append list (more ∷ []))

  -- what is listed or passed is what a puzzle may be
  settled : (list : List Puzzle) (puzzle : Puzzle) {Full : Type 0} → Contains list puzzle ⊎ IsPassed table walk order list puzzle
      → Contains list puzzle ⊎ IsPassed table walk order list puzzle ⊎ Full
  settled list puzzle {Full} either = grind arith

  -- a list that is as long as was asked for, or has the puzzles of all places
  pub ended : IsOrder walk.seed (length table.values) order → (upto count : ℕ) (list : List Puzzle) → length list ≤ count → (length list ≡ count) ⊎ (places_in order (length table.values) ≤ upto) → ArePuzzlesBelow upto list
      → ArePuzzles table walk plies count list
  ended is_order upto count list few end are = let covered = order_covers (length table.values) walk.seed order is_order in record {
    order = order;
    is = is_order;
    sound = λ puzzle there.
        let found = are.sound puzzle there in
        let within = class_of puzzle found.2 in (
          found.2,
          begin_after order (length table.values) walk.after puzzle.class (place_below (length table.values) order puzzle.class covered within) found.0,
        );
    ordered = are.ordered;
    few = few;
    whole = λ puzzle is walked.
        let within = class_of puzzle is in
        elim (cases_lt (place_in order puzzle.class) upto) [
          | inl earlier ↦ settled list puzzle (are.whole puzzle is (after_begin order (length table.values) walk.after puzzle.class walked) earlier)
          | inr later ↦ elim end [
            | inl full ↦ inr (inr (full, λ listed there. omega (arith, (are.sound listed there).1, later)))
            | inr all ↦ absurd (omega (
              arith,
              all,
              later,
              place_below (length table.values) order puzzle.class covered within,
            ))
          ]
        ];
    unlike = are.unlike;
  }

  -- no table has so long a distance
  pub puzzles_too_long : IsOrder walk.seed (length table.values) order → (count : ℕ) → IsTable table.family table.values → 65535 < plies → ArePuzzles table walk plies count []
  puzzles_too_long is_order count is long = record {
    order = order;
    is = is_order;
    sound = λ puzzle there. absurd (omega (arith, there.1));
    ordered = λ i j d before within. absurd (omega (arith, within));
    few = omega arith;
    unlike = λ spread i j d before within. absurd (omega (arith, within));
    whole = λ puzzle given walked.
        absurd (omega (arith, long, (all_at IsEntry table.values puzzle.class (Win plies) is.entries given.won.entry).1));
  }
