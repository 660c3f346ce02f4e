-- Moves with their values, best first, as the list grows.
use Rattle.dob_probe.proofs.Common.{◌+◌, ◌<◌, ◌↔◌, ◌∙◌, ◌≡◌, ◌≤◌, ◌⊎◌, AllPairs, Contains, List, Some, [], ap, arith, get_or, inl, inr, insert, length, refl}
use Rattle.dob_probe.proofs.Common.{slice_get, subst, sym, ℕ, cases_lt, cases_order, Contains-get_or, before_or_here, standing, Family, Profile, Setup, Goes-is}
use Rattle.dob_probe.proofs.Common.{Goes, place, AreMoves, CanCatch, HasStatus, Move, Open, IsPositionOf, moves_keep_the_family, ClassTable, IsValueTable}
use Rattle.dob_probe.proofs.Common.{Value, GivenBy, ComesBefore, IsBetter, ValuedMove, ◌∷◌, take, drop}
use Rattle.std.proofs.lemmas.Grind.{in_insert, elements}
use Rattle.dob_distance.specs.Values.{HasValue}
use Rattle.dob_probe.specs.Said.{AreSingle}
use Rattle.dob_probe.specs.ValuedMoves.{seen_from_before, HasMoveValue, AreSaidMoves, AreValuedMoves}
use Rattle.dob_probe.proofs.Best.{valued_best}
use Rattle.dob_probe.proofs.Relations.{valued_by}
use Rattle.dob_probe.proofs.InOrder.{same_valued}
use Rattle.std.proofs.lemmas.List.Elements.{Contains-append_cases, Contains-append_left, Contains-append_right}
use Rattle.std.proofs.lemmas.List.{take-append-drop}
use Rattle.dob_pieces.proofs.Lists.{cons_cases, head_in}

-- ---- values by preference
better_still : (x y z : Value) → IsBetter x y → IsBetter y z → IsBetter x z
better_still x y z h k = grind arith

compare : (x y : Value) → IsBetter x y ⊎ ((x ≡ y) ⊎ IsBetter y x)
compare x y = grind (arith, cases_order)

comes_before : (x y : ValuedMove) → (¬ IsBetter y.value x.value) → place x.played < place y.played → ComesBefore x y
comes_before x y no_better earlier = grind (arith, compare x.value y.value)

worse_after : (v : Value) (x y : ValuedMove) → IsBetter v x.value → ComesBefore x y → IsBetter v y.value
worse_after v x y better comes = grind (arith, better_still v x.value y.value)

-- ---- one move more, inserted before the first that is worse

module _ (xs : List ValuedMove) (i : ℕ) (y : ValuedMove) (within : i ≤ length xs) where
  pub insert_has : (x : ValuedMove) → Contains (insert xs i y) x ↔ (Contains xs x ⊎ (x ≡ y))
  insert_has x = (
    λ there. grind (arith, Contains-append_cases (take i xs) (y ∷ drop i xs) x there, cons_cases y (drop i xs) x, take-append-drop i xs, Contains-append_left (take i xs) (drop i xs) x, Contains-append_right (take i xs) (drop i xs) x),
    λ either. elim either [
      | inl there ↦ (in_insert xs i there.0 y x within there.1 (sym there.2)).1
      | inr same ↦ rw same (Contains-append_right (take i xs) (y ∷ drop i xs) y (head_in y (drop i xs)))
    ],
  )

  pub insert_sorted : AllPairs ComesBefore xs → ((x : ValuedMove) → Contains xs x → place x.played < place y.played) →
      ((k : ℕ) (d : ValuedMove) → k < i → ¬ IsBetter y.value (get_or xs k d).value) →
      ((d : ValuedMove) → i < length xs → IsBetter y.value (get_or xs i d).value) → AllPairs ComesBefore (insert xs i y)
  insert_sorted ordered later before first a b d lt inside = grind (arith, elements, ahead, behind, ordered)
    where
      stands : (k : ℕ) (d : ValuedMove) → k < length xs → Contains xs (get_or xs k d)
      stands k d below = Contains-get_or xs k d below

      ahead : (k : ℕ) (d : ValuedMove) → k < i → ComesBefore (get_or xs k d) y
      ahead k d below = comes_before (get_or xs k d) y (before k d below) (later (get_or xs k d) (stands k d (omega arith)))

      behind : (k : ℕ) (d : ValuedMove) → i ≤ k → k < length xs → IsBetter y.value (get_or xs k d).value
      behind k d from below = elim (cases_lt i k) [
        | inl apart ↦
            worse_after y.value (get_or xs i d) (get_or xs k d) (first d (omega arith)) (ordered i k d apart below)
        | inr upto ↦
            let same : i ≡ k = omega arith in
            subst (λ n. IsBetter y.value (get_or xs n d).value) same (first d (omega arith))
      ]

-- ---- the moves of the first legal
pub record AreListed (profile : Profile) (Has : Setup → Value → Type 0) (p : Setup) (legal : List Move) (upto : ℕ) (list : List ValuedMove) : Type 0 where
  pub sound : (valued : ValuedMove) → Contains list valued → HasMoveValue profile Has p valued
  pub whole : (index : ℕ) (played : Move) → index < upto → slice_get legal index ≡ Some played
      → (valued : ValuedMove) × Contains list valued × (valued.played ≡ played)
  pub once : (a b : ValuedMove) → Contains list a → Contains list b → a.played ≡ b.played → a ≡ b

module _ (profile : Profile) (Has : Setup → Value → Type 0) (p : Setup) (legal : List Move) where
  pub listed_none : AreListed profile Has p legal 0 []
  listed_none = grind arith

  pub listed_more : (upto : ℕ) (list new : List ValuedMove) (more : ValuedMove) (q : Setup) (value : Value) → slice_get legal upto ≡ Some more.played
      → HasStatus profile p Open → Goes profile p more.played q → Has q value → more.value ≡ seen_from_before value
      → ((x : ValuedMove) → Contains new x ↔ (Contains list x ⊎ (x ≡ more)))
      → ((valued : ValuedMove) → Contains list valued → place valued.played < place more.played)
      → AreListed profile Has p legal upto list → AreListed profile Has p legal (upto + 1) new
  listed_more upto list new more q value here goes_on goes given seen has later before = record {
    sound = λ valued there. elim ((has valued).0 there) [
      | inl earlier ↦ before.sound valued earlier
      | inr same ↦ rw same (record { goes_on = goes_on; outcome = q; goes = goes; value = value; has = given; seen = seen })
    ];
    whole = λ index played below there. elim (before_or_here legal upto index more.played played here there below) [
      | inl earlier ↦ let known = before.whole index played earlier there in (known.0, (has known.0).1 (inl known.1), known.2)
      | inr same ↦ (more, (has more).1 (inr refl), sym same)
    ];
    once = λ a b there also same. elim ((has a).0 there) [
      | inl early ↦ elim ((has b).0 also) [
        | inl early_too ↦ before.once a b early early_too same
        | inr last ↦ absurd (apart a b early last same)
      ]
      | inr last ↦ elim ((has b).0 also) [
        | inl early ↦ absurd (apart b a early last (sym same))
        | inr last_too ↦ last ∙ sym last_too
      ]
    ];
  }
    where
      apart : (a b : ValuedMove) → Contains list a → b ≡ more → a.played ≡ b.played → ⊥
      apart a b early last same = omega (arith, later a early, ap place (same ∙ ap (λ (x : ValuedMove). x.played) last))

  pub listed_all : (upto : ℕ) (list : List ValuedMove) → (¬ CanCatch p) → AreMoves profile p legal → length legal ≤ upto
      → AreListed profile Has p legal upto list → AllPairs ComesBefore list → AreSaidMoves profile Has p list
  listed_all upto list free are all listed ordered = record {
    sound = λ valued there. inr (listed.sound valued there);
    caught = λ catch. absurd (free catch);
    whole = λ played goes_on can_go.
        let there = standing legal played (are.whole played goes_on can_go) in listed.whole there.0 played (omega (arith, there.1, all)) there.2;
    once = listed.once;
    ordered = ordered;
  }

-- where what is said of a position is a value that it has, and it has one value at most, they are the moves with their values
pub said_valued : (family : Family) (Said Has : Setup → Value → Type 0) → ((q : Setup) (v : Value) → Said q v → Has q v) → AreSingle family Has → (p : Setup)
    → IsPositionOf family p → (list : List ValuedMove) → AreSaidMoves family.profile Said p list → AreValuedMoves family.profile Has p list
said_valued family Said Has there one p member list are = record {
  sound = λ valued listed. elim (are.sound valued listed) [
    | inl catch ↦ inl catch
    | inr has ↦ inr (valued_by family.profile (λ q. Unit {0}) (λ q m r is goes_on goes. tt) Said Has (λ q v is says. there q v says) p valued tt has)
  ];
  caught = are.caught;
  whole = λ valued has.
      let known = are.whole valued.played has.goes_on (has.outcome, has.goes) in
      elim (are.sound known.0 known.1) [
        | inl catch ↦ absurd (has.goes_on.0 (known.0.played, catch.catch.catches))
        | inr found ↦
            let outcome : found.outcome ≡ has.outcome =
            Goes-is family.profile p valued.played found.outcome (rw known.2 at found.goes) ∙ sym (Goes-is family.profile p valued.played has.outcome has.goes) in
            let inside = moves_keep_the_family family p valued.played has.outcome member has.goes_on has.goes in
            let given = there found.outcome found.value found.has in
            let value : found.value ≡ has.value = one has.outcome found.value has.value inside (rw outcome at given) has.has in
            rw (same_valued known.0 valued known.2 (found.seen ∙ ap seen_from_before value ∙ sym has.seen)) at known.1
      ];
  ordered = are.ordered;
}

-- ---- by the value table the values are the right ones
pub valued_rightly : (table : ClassTable) → IsValueTable table.family table.values → (p : Setup) → IsPositionOf table.family p → (list : List ValuedMove)
    → AreValuedMoves table.family.profile (GivenBy table) p list → AreValuedMoves table.family.profile (HasValue table.family.profile) p list
valued_rightly table right p is list are = valued_best table right p list is are
