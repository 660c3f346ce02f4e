-- The lines of puzzles, one after the other, and which classes these and pairs are of.
use Rattle.dob_survey.proofs.Common.{◌++◌, ◌+◌, ◌<◌, ◌∙◌, ◌≡◌, List, ap, append-nil, flat_map, get_or, length, subst, sym, take, ℕ, take_more}
use Rattle.dob_survey.proofs.Common.{Contains-append_left, Contains-get_or, slice_get_within, take-append-drop, Contains, ClassTable, IfSome, None, Option}
use Rattle.dob_survey.proofs.Common.{Some, arith, drop, AreOfTable, ArePairs, IsDeepest, IsOfTable, Zugzwang, first_pairs}
use Rattle.std.proofs.lemmas.Grind.{flat_map-append}
use Rattle.dob_zugzwang.proofs.Listing.{pair_within}
use Rattle.dob_probe.specs.declared.puzzles.Puzzle.{Puzzle}
use Rattle.dob_probe.specs.declared.walks.ClassOrder.{ClassOrder}
use Rattle.dob_probe.specs.Puzzles.{ArePuzzles}
use Rattle.std.proofs.Common.{refl}

-- one item's line comes to those before
pub next_line : {X : Type 0} → (f : X → List ℕ) (items : List X) (i : ℕ) (d : X) (old new : List ℕ) → i < length items → old ≡ flat_map f (take i items)
    → new ≡ old ++ f (get_or items i d) → new ≡ flat_map f (take (i + 1) items)
next_line {X} f items i d old new within before grown = rw (grown, before, take_more items i d within, flat_map-append, append-nil) refl

module _ (puzzles : List Puzzle) (i : ℕ) (puzzle : Puzzle) (within : i < length puzzles) (here : puzzle ≡ get_or puzzles i puzzle) where
  -- the one that is gone over is one of the list
  pub is_listed : Contains puzzles puzzle
  is_listed = subst (λ (p : Puzzle). Contains puzzles p) (sym here) (Contains-get_or puzzles i puzzle within)

  -- its line comes to those before
  pub one_line_more : (f : Puzzle → List ℕ) (old new : List ℕ) → old ≡ flat_map f (take i puzzles) → new ≡ old ++ f puzzle
      → new ≡ flat_map f (take (i + 1) puzzles)
  one_line_more f old new before grown =
      next_line f puzzles i puzzle old new within before (grown ∙ ap (λ (p : Puzzle). old ++ f p) here)

-- a puzzle of a table is of one of its classes
pub puzzle_within : (table : ClassTable) (walk : ClassOrder) (plies count : ℕ) (puzzles list : List Puzzle) (puzzle : Puzzle) → ArePuzzles table walk plies count puzzles → list ≡ puzzles
    → Contains list puzzle → puzzle.class < length table.values
puzzle_within table walk plies count puzzles list puzzle are same listed =
    slice_get_within table.values puzzle.class _ (are.sound puzzle (subst (λ (l : List Puzzle). Contains l puzzle) same listed)).0.won.entry

-- ---- pairs

module _ (table : ClassTable) (pairs : List Zugzwang) (are : ArePairs table pairs) where
  -- they are of the table
  pub all_of_table : AreOfTable table pairs
  all_of_table pair there = pair_within table pair (are.sound pair there)

  -- the first ones too
  pub first_of_table : (listed : Option ℕ) → AreOfTable table (first_pairs listed pairs)
  first_of_table None pair there = absurd (omega (arith, there.1))
  first_of_table (Some n) pair there = all_of_table pair (rw take-append-drop at (Contains-append_left (take n pairs) (drop n pairs) pair there))

  -- and the deepest one
  pub deepest_of_table : (deepest : Option Zugzwang) → IsDeepest pairs deepest → IfSome deepest (IsOfTable table)
  deepest_of_table None is = tt
  deepest_of_table (Some best) is = all_of_table best is.0
