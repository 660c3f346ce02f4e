-- The search of a family's classes: before its first round, after a round, and at its end.
use Rattle.dob_reach.proofs.Common.{◌++◌, ◌+◌, ◌<◌, ◌==◌, ◌^◌, ◌∙◌, ◌∷◌, ◌≡◌, ◌≤◌, ◌⊎◌, Among, AreMet, AreReachedFrom, Bool, Contains, Family, HasBits}
use Rattle.dob_reach.proofs.Common.{IsAway, HasJust, IsMarked, IsNearer, IsOpen, IsSearched, Leads, List, Met, Reached, [], ap, arith, cases_lt}
use Rattle.dob_reach.proofs.Common.{classes_of, eqb-true, false, get_or, get_or-append_seam, get_or_append_left, get_or_past, inl, inr, length, length_push}
use Rattle.dob_reach.proofs.Common.{subst, suc, sym, true, true≢false, zero, ℕ}
use Rattle.dob_reach.proofs.Counts.{among_just, just_both, just_few, just_list, just_none, just_same}
use Rattle.dob_reach.proofs.Rounds.{begun, nearer_reached, one_distance, one_round, reached_marked, reached_nearer}
use Rattle.dob_reach.proofs.Stepping.{class_low}

-- what is told of each level, with one level more
pub told_more : (Told : ℕ → ℕ → Type 0) (old new : List ℕ) (count : ℕ) → new ≡ old ++ count ∷ []
    → ((distance : ℕ) → distance < length old → Told distance (get_or old distance 0)) → Told (length old) count → (distance : ℕ) → distance < length new → Told distance (get_or new distance 0)
told_more Told old new count is before last distance below =
    let long = ap length is ∙ length_push old count in
    rw is (elim (cases_lt distance (length old)) [
      | inl low ↦ rw (get_or_append_left old (count ∷ []) 0 distance low) (before distance low)
      | inr high ↦
          let same : length old ≡ distance = omega (arith, high, below, long) in
          subst (λ k. Told k (get_or (old ++ count ∷ []) k 0)) same (rw (get_or-append_seam old count [] 0) last)
    ])

module _ (family : Family) (from : ℕ) where
  abbrev At : ℕ → ℕ → Type 0
  At = IsAway (Leads family) from

  abbrev Near : ℕ → ℕ → Type 0
  Near = IsNearer (Leads family) from

  -- nothing is nearer than the start
  none_nearer : (number : ℕ) → ¬ Near 0 number
  none_nearer number near = absurd (omega (arith, near.1))

  -- what is nearer than the next distance
  nearer_or_at : (d number : ℕ) → Near (d + 1) number → Near d number ⊎ At d number
  nearer_or_at d number near = elim (cases_lt near.0 d) [
    | inl less ↦ inl (near.0, less, near.2)
    | inr last ↦ let same : near.0 ≡ d = omega (arith, near.1, last) in inr (subst (λ k. At k number) same near.2)
  ]

  nearer_from : (d number : ℕ) → Near d number ⊎ At d number → Near (d + 1) number
  nearer_from d number which = elim which [
    | inl near ↦ (near.0, (let lt = near.1 in omega (arith, lt)), near.2)
    | inr at ↦ (d, omega arith, at)
  ]

  not_both : (d number : ℕ) → Near d number → ¬ At d number
  not_both d number near at = let same = one_distance (Leads family) from near.0 d number near.2 at in absurd (omega (arith, same, near.1))

  -- a class that is met is one of the family
  met_low : from < classes_of family → (n number : ℕ) → Met (Leads family) n from number → number < classes_of family
  met_low begins zero number met = subst (λ k. k < classes_of family) met begins
  met_low begins (suc n) number met = class_low family met.0 number met.2

  -- before the first round
  pub searched_begin : (reached : Reached) (front : List ℕ) → from < classes_of family → classes_of family < 2 ^ 31 → reached.levels.items ≡ [] → reached.classes ≡ 0 → reached.opens ≡ 0
      → front ≡ from ∷ [] → ((number : ℕ) → IsMarked reached.marks.words.items number → number ≡ from) → IsMarked reached.marks.words.items from
      → HasBits reached.marks.words.items (classes_of family) → IsSearched family from reached front
  searched_begin reached front begins few levels classes opens front_is alone marked bits =
      let none : length reached.levels.items ≡ 0 = ap length levels in
      record {
        begins = begins;
        few = few;
        marks_are = rw (none, front_is) (begun (Leads family) from alone marked);
        all = rw (none, classes) (just_none none_nearer);
        opens_are = rw (none, opens) (just_none (λ k is. none_nearer k is.0));
        levels_are = λ distance low. absurd (omega (arith, low, none));
        each = λ distance low. absurd (omega (arith, low, none));
        first = λ none_yet. (let one = ap length front_is in omega (arith, one));
        bits = bits;
      }

  module _ {reached : Reached} {front : List ℕ} (known : IsSearched family from reached front) where
    abbrev d : ℕ
    d = length reached.levels.items

    at_front : HasJust (At d) (length front)
    at_front = just_same (just_list front known.marks_are.front_once) known.marks_are.front_sound known.marks_are.front_whole

    both : HasJust (Near (d + 1)) (reached.classes + length front)
    both = just_same (just_both known.all at_front (not_both d)) (nearer_from d) (nearer_or_at d)

    -- the classes of the front are classes of the family
    pub front_low : (number : ℕ) → Contains front number → number < classes_of family
    front_low number there = met_low known.begins d number (known.marks_are.front_sound number there).0

    -- all that were counted, and the front's, are no more than there are
    pub counted_few : reached.classes + length front ≤ classes_of family
    counted_few = just_few both (λ k near. met_low known.begins near.0 k near.2.0)

    module _ (opens : ℕ) (open_are : Among (IsOpen family) front opens) where
      open_front : HasJust (λ k. At d k × IsOpen family k) opens
      open_front = just_same (among_just (IsOpen family) front opens open_are known.marks_are.front_once)
          (λ k is. (known.marks_are.front_sound k is.0, is.1)) (λ k is. (known.marks_are.front_whole k is.0, is.1))

      open_both : HasJust (λ k. Near (d + 1) k × IsOpen family k) (reached.opens + opens)
      open_both = just_same (just_both known.opens_are open_front (λ k near at. not_both d k near.0 at.0))
          (λ k which. elim which [ inl near ↦ (nearer_from d k (inl near.0), near.1) | inr at ↦ (nearer_from d k (inr at.0), at.1) ])
          (λ k is. elim (nearer_or_at d k is.0) [ inl near ↦ inl (near, is.1) | inr at ↦ inr (at, is.1) ])

      -- and so are those that are open
      pub opens_few : reached.opens + opens ≤ classes_of family
      opens_few = just_few open_both (λ k near. met_low known.begins near.0.0 k near.0.2.0)

    module _ (new : Reached) (next : List ℕ) (opens : ℕ) (some : 0 < length front)
        (levels_are : new.levels.items ≡ reached.levels.items ++ length front ∷ []) (classes_are : new.classes ≡ reached.classes + length front)
        (opens_are : new.opens ≡ reached.opens + opens) (met : AreMet (Leads family) reached.marks.words.items new.marks.words.items front next)
        (open_are : Among (IsOpen family) front opens) where
      longer : length new.levels.items ≡ d + 1
      longer = ap length levels_are ∙ length_push reached.levels.items (length front)

      pub searched_next : IsSearched family from new next
      searched_next = record {
        begins = known.begins;
        few = known.few;
        marks_are = rw longer (one_round known.marks_are met);
        all = rw (longer, classes_are) both;
        opens_are = rw (longer, opens_are) (open_both opens open_are);
        levels_are = told_more (λ distance count. HasJust (At distance) count) reached.levels.items new.levels.items (length front) levels_are
            known.levels_are at_front;
        each = told_more (λ distance count. 0 < count) reached.levels.items new.levels.items (length front) levels_are known.each some;
        first = λ none. absurd (omega (arith, none, longer));
        bits = (let long = met.keeps.long in omega (arith, known.bits, long));
      }

  -- at the end
  module _ {reached : Reached} (known : IsSearched family from reached []) where
    abbrev far : ℕ
    far = length reached.levels.items

    level_beyond : (distance : ℕ) → far ≤ distance → HasJust (At distance) 0
    level_beyond distance high = just_none (λ k at.
        let near = reached_nearer known.marks_are k (distance, at.0) in
        let same = one_distance (Leads family) from near.0 distance k near.2 at in
        absurd (omega (arith, same, near.1, high)))

    levels_end : (distance : ℕ) → HasJust (At distance) (get_or reached.levels.items distance 0)
    levels_end distance = elim (cases_lt distance far) [
      | inl low ↦ known.levels_are distance low
      | inr high ↦ rw (get_or_past reached.levels.items distance 0 high) (level_beyond distance high)
    ]

    some_end : 0 < far
    some_end = elim (cases_lt 0 far) [
      | inl some ↦ some
      | inr none ↦ let first = known.first (omega (arith, none)) in absurd (omega (arith, first))
    ]

    pub reached_end : AreReachedFrom family from reached
    reached_end = record {
      all = just_same known.all (nearer_reached known.marks_are) (reached_nearer known.marks_are);
      opens_are = just_same known.opens_are (λ k is. (nearer_reached known.marks_are k is.0, is.1)) (λ k is. (reached_nearer known.marks_are k is.0, is.1));
      levels_are = levels_end;
      some = some_end;
      each = known.each;
      marked = λ class. (
        λ is. let near = known.marks_are.sound class is in (near.0, near.2.0),
        reached_marked known.marks_are class,
      );
      bits = known.bits;
    }

-- what is left to go on from, by the test of an empty list
pub some_left : (count : ℕ) (is_empty : Bool) → is_empty ≡ (count == 0) → is_empty ≡ false → 0 < count
some_left zero is_empty is some = absurd (true≢false (sym is ∙ some))
some_left (suc count) is_empty is some = omega arith

pub none_left : (count : ℕ) (is_empty : Bool) → is_empty ≡ (count == 0) → is_empty ≡ true → count ≡ 0
none_left count is_empty is none = eqb-true count 0 (sym is ∙ none)
