-- What is counted of each code, as classes are gone over and parts of them are added up.
use Rattle.dob_probe.proofs.Common.{◌%◌, ◌++◌, ◌+◌, ◌-◌, ◌<◌, ◌^◌, ◌∙◌, ◌∷◌, ◌≡◌, ◌≢◌, ◌≤◌, All, AllPairs, Bool, Contains, List, None, Option, Some, [], ap}
use Rattle.dob_probe.proofs.Common.{append-nil, arith, cond, count_by, drop, false, get_or, inl, inr, length, option_to_list, refl, rules, set, slice_get}
use Rattle.dob_probe.proofs.Common.{subst, suc, sym, take, true, zero, ℕ, cases_eq, cases_lt, get_or-set_other, get_or-set_same, get_or_default}
use Rattle.dob_probe.proofs.Common.{Contains-append_left, Contains-get_or, Contains-push, Contains-push_cases, all_pairs_push, get_or_from_slice_get}
use Rattle.dob_probe.proofs.Common.{slice_get_within, get_front, IsEntry, Value, AreSlots, part_of}
use Rattle.std.proofs.lemmas.List.{drop-take, get_or-drop, get_or_past, length-append, length-drop, length-take, take-append-drop, take-take, take_more}
use Rattle.std.proofs.lemmas.List.Sums.{sum_by-append, sum_by-cons, count_by-le-length}
use Rattle.dob_distance.specs.Codes.{code_of_value}
use Rattle.dob_probe.specs.declared.groups.Group.{Group}
use Rattle.dob_probe.specs.Statistics.{has_code, IsGroup, AreGroups}
use Rattle.dob_probe.proofs.Entries.{all_at}
use Rattle.dob_probe.specs.Slots.{HasSlot, both_slots, with_class, HasRoom}
use Rattle.std.proofs.lemmas.Bool.Decides.{nat_tests}
use Rattle.std.proofs.lemmas.Grind.{common_steps}
use Rattle.std.proofs.lemmas.Option.{gets, slice_get_read}

-- entries of one code are the same
pub one_of_code : (v w : Value) → IsEntry v → IsEntry w → code_of_value v ≡ code_of_value w → v ≡ w
one_of_code v w a b e = grind arith

-- ---- what is counted
count_one : (p : Value → Bool) (v : Value) → count_by p (v ∷ []) ≡ cond (p v) 1 0
count_one p v = sum_by-cons (λ x. cond {A = ℕ} (p x) 1 0) v [] ∙ omega arith

-- where none is counted none is there
none_counted : (p : Value → Bool) (xs : List Value) (v : Value) (k : ℕ) → count_by p xs ≡ 0 → p v ≡ true → ¬ (slice_get xs k ≡ Some v)
none_counted p [] v k none own there = absurd (cc)
none_counted p (x ∷ xs) v zero none own there = grind (arith, nat_tests, sum_by-cons (λ y. cond {A = ℕ} (p y) 1 0) x xs)
none_counted p (x ∷ xs) v (suc k) none own there = none_counted p xs v k (omega (arith, sum_by-cons (λ y. cond {A = ℕ} (p y) 1 0) x xs, none)) own there

has_own : (v : Value) (code : ℕ) → code_of_value v ≡ code → has_code code v ≡ true
has_own v code e = search rules

has_other : (v : Value) (code : ℕ) → code_of_value v ≢ code → has_code code v ≡ false
has_other v code apart = search rules

-- ---- the values of two parts

-- what stands in two lists joined stands in one of them
in_front : (xs ys : List Value) (v : Value) (j : ℕ) → j < length xs → slice_get (xs ++ ys) j ≡ Some v → slice_get xs j ≡ Some v
in_front [] ys v j within there = absurd (omega (arith, within))
in_front (x ∷ xs) ys v zero within there = there
in_front (x ∷ xs) ys v (suc j) within there = in_front xs ys v j (omega (arith, within)) there

at_rest : (xs ys : List Value) (j : ℕ) → slice_get (xs ++ ys) (length xs + j) ≡ slice_get ys j
at_rest xs ys j = grind (arith, gets, common_steps)

-- of the first values and the rest the codes below a number have their slots, and the others those of the first values still
abbrev pub AreAdded : List Value → List Value → ℕ → List (Option Group) → Type 0
AreAdded xs ys upto slots =
    (code : ℕ) → (code < upto → HasSlot (xs ++ ys) code (get_or slots code None)) × (upto ≤ code → HasSlot xs code (get_or slots code None))

module _ (xs ys : List Value) (classes : ℕ) (long : length xs ≡ classes) (few : length (xs ++ ys) < 2 ^ 64) where
  count_both : (p : Value → Bool) → count_by p (xs ++ ys) ≡ count_by p xs + count_by p ys
  count_both p = sum_by-append (λ x. cond {A = ℕ} (p x) 1 0) xs ys

  -- a group of the first part, with as many classes as both have
  first_group : (group : Group) (classes : ℕ) → IsGroup xs group → classes ≡ count_by (has_code (code_of_value group.value)) (xs ++ ys)
      → IsGroup (xs ++ ys) (record group { classes = classes })
  first_group group classes is counted = record {
    entry = is.entry;
    classes = counted;
    first = get_front xs ys group.value group.first is.first;
    before = λ class below there.
        let within = slice_get_within xs group.first group.value is.first in
        is.before class below (in_front xs ys group.value class (omega (arith, below, within)) there);
  }

  -- a code in both parts
  slot_joined : (code : ℕ) (slot more : Option Group) → HasSlot xs code slot → HasSlot ys code more → HasSlot (xs ++ ys) code (both_slots slot more classes)
  slot_joined code None None none none_more = let both = count_both (has_code code) in omega (arith, both, none, none_more)
  slot_joined code (Some group) None has none =
      (has.0, first_group group group.classes has.1 (omega (arith, count_both (has_code (code_of_value group.value)), has.1.classes, rw (sym has.0) at none)))
  slot_joined code None (Some further) none has =
      let within = slice_get_within ys further.first further.value has.1.first in
      let first : (classes + further.first) % 2 ^ 64 ≡ length xs + further.first = omega (arith, long, few, within, length-append xs ys) in
      let no : count_by (has_code (code_of_value further.value)) xs ≡ 0 = rw has.0 none in (
        has.0,
        record {
          entry = has.1.entry;
          classes = omega (arith, count_both (has_code (code_of_value further.value)), has.1.classes, no);
          first = rw first (at_rest xs ys further.first ∙ has.1.first);
          before = λ class below there. elim (cases_lt class (length xs)) [
            | inl front ↦
                none_counted (has_code (code_of_value further.value)) xs further.value class no (has_own further.value (code_of_value further.value) refl)
                (in_front xs ys further.value class front there)
            | inr behind ↦
                let place : class ≡ length xs + (class - length xs) = omega (arith, behind) in
                has.1.before (class - length xs) (omega (arith, below, first, behind)) (sym (at_rest xs ys (class - length xs)) ∙ (rw place at there))
          ];
        },
      )
  slot_joined code (Some group) (Some further) has more =
      let p = has_code (code_of_value group.value) in
      let new : further.classes ≡ count_by p ys = more.1.classes ∙ ap (λ (n : ℕ). count_by (has_code n) ys) (more.0 ∙ sym has.0) in (
        has.0,
        first_group group ((group.classes + further.classes) % 2 ^ 64) has.1
            (omega (arith, count_both p, has.1.classes, new, count_by-le-length p xs, count_by-le-length p ys, length-append xs ys, few)),
      )

  pub added_none : (slots : List (Option Group)) → AreSlots xs slots → AreAdded xs ys 0 slots
  added_none slots are code = (λ below. absurd (omega (arith, below)), λ from. are code)

  pub added_more : (slots wide more : List (Option Group)) (upto : ℕ) (slot next new : Option Group) → slot ≡ get_or wide upto slot
      → next ≡ get_or more upto next → new ≡ both_slots slot next classes → upto < length wide → upto < length more
      → ((k : ℕ) → get_or wide k None ≡ get_or slots k None) → AreSlots ys more → AreAdded xs ys upto slots → AreAdded xs ys (upto + 1) (set wide upto new)
  added_more slots wide more upto slot next new read read_next made within within_more same are added code = elim (cases_eq upto code) [
    | inl own ↦
        let joined = slot_joined upto (get_or slots upto None) (get_or more upto None) ((added upto).1 (omega arith)) (are upto) in
        rw (← own, get_or-set_same wide upto new None within, made, read, get_or_default wide upto slot None within, same upto, read_next, get_or_default more upto next None within_more) (
          λ below. joined,
          λ from. absurd (omega (arith, from)),
        )
    | inr other ↦ rw (get_or-set_other wide upto code new None (λ e. other (sym e)), same code) (
      λ below. (added code).0 (omega (arith, below, other)),
      λ from. (added code).1 (omega (arith, from)),
    )
  ]

  -- the codes behind the last of the second part are in the first one alone
  only_first : (code : ℕ) (slot : Option Group) → HasSlot xs code slot → HasSlot ys code None → HasSlot (xs ++ ys) code slot
  only_first code slot has none = grind (arith, slot_joined code slot None has none)

  pub added_all : (slots more : List (Option Group)) (upto : ℕ) → length more ≤ upto → AreSlots ys more → AreAdded xs ys upto slots → AreSlots (xs ++ ys) slots
  added_all slots more upto all are added code = elim (cases_lt code upto) [
    | inl below ↦ (added code).0 below
    | inr from ↦ only_first code (get_or slots code None) ((added code).1 from) (rw (get_or_past more code None (omega (arith, all, from))) at (are code))
  ]

-- ---- one value more
abbrev single : Value → Group
single v = record { value = v; classes = 1; first = 0 }

-- a value alone has the slot of its own code
alone_own : (v : Value) → IsEntry v → HasSlot (v ∷ []) (code_of_value v) (Some (single v))
alone_own v entry =
    (refl, record { entry = entry; classes = rw (count_one, has_own v (code_of_value v) refl) refl; first = refl; before = λ class below. absurd (omega (arith, below)) })

alone_other : (v : Value) (code : ℕ) → code_of_value v ≢ code → HasSlot (v ∷ []) code None
alone_other v code apart = rw (count_one, has_other v code apart) refl

-- a class more is the value alone, joined
joined_one : (slot : Option Group) (v : Value) (class : ℕ) → HasRoom slot → class < 2 ^ 64
    → both_slots slot (Some (single v)) class ≡ Some (with_class slot v class)
joined_one slot v class room small = grind arith

-- one more can be counted while there are fewer classes than a word holds
pub slot_has_room : (xs : List Value) (code : ℕ) (slot : Option Group) → length xs + 1 < 2 ^ 64 → HasSlot xs code slot → HasRoom slot
slot_has_room xs code None room has = tt
slot_has_room xs code (Some group) room has = omega (arith, count_by-le-length (has_code (code_of_value group.value)) xs, has.1.classes, room)

module _ (xs : List Value) (v : Value) (room : length xs + 1 < 2 ^ 64) where
  few : length (xs ++ v ∷ []) < 2 ^ 64
  few = let long = length-append xs (v ∷ []) in omega (arith, long, room)

  -- the slot of the value's code is written
  pub slots_more : (slots wide : List (Option Group)) → IsEntry v → code_of_value v < length wide →
      ((k : ℕ) → get_or wide k None ≡ get_or slots k None) → AreSlots xs slots →
      AreSlots (xs ++ v ∷ []) (set wide (code_of_value v) (Some (with_class (get_or wide (code_of_value v) None) v (length xs))))
  slots_more slots wide entry within same are code =
      let old : Option Group = get_or wide (code_of_value v) None in
      let new : Option Group = Some (with_class old v (length xs)) in
      elim (cases_eq (code_of_value v) code) [
        | inl own ↦
            let here : HasSlot xs (code_of_value v) old = rw (same (code_of_value v)) (are (code_of_value v)) in
            let joined = joined_one old v (length xs) (slot_has_room xs (code_of_value v) old room here) (omega (arith, room)) in
            rw (← own, get_or-set_same wide (code_of_value v) new None within)
            (rw joined at (slot_joined xs (v ∷ []) (length xs) refl few (code_of_value v) old (Some (single v)) here (alone_own v entry)))
        | inr other ↦
            rw (get_or-set_other wide (code_of_value v) code new None (λ e. other (sym e)), same code)
            (only_first xs (v ∷ []) (length xs) refl few code (get_or slots code None) (are code) (alone_other v code other))
      ]

-- the same of numbers and a group that were read and made
pub slots_counted : (xs : List Value) (v : Value) (slots wide : List (Option Group)) (code class : ℕ) (slot : Option Group) (group : Group) →
    code ≡ code_of_value v → slot ≡ get_or wide code slot → group ≡ with_class slot v class → length xs ≡ class → class + 1 < 2 ^ 64 → IsEntry v →
    code < length wide →
    ((k : ℕ) → get_or wide k None ≡ get_or slots k None) → AreSlots xs slots → AreSlots (xs ++ v ∷ []) (set wide code (Some group))
slots_counted xs v slots wide code class slot group is_code read made counted room entry within same are =
    rw (made, read ∙ get_or_default wide code slot None within, ← counted, is_code)
    (slots_more xs v (omega (arith, counted, room)) slots wide entry (rw is_code at within) same are)

pub room_counted : (xs : List Value) (slots wide : List (Option Group)) (code class : ℕ) (slot : Option Group) → slot ≡ get_or wide code slot →
    length xs ≡ class → class + 1 < 2 ^ 64 → code < length wide → ((k : ℕ) → get_or wide k None ≡ get_or slots k None) → AreSlots xs slots → HasRoom slot
room_counted xs slots wide code class slot read counted room within same are =
    rw (read ∙ get_or_default wide code slot None within)
    (slot_has_room xs code (get_or wide code None) (omega (arith, room, counted)) (rw same (are code)))

-- an empty slot at the end changes nothing
pub none_after : (slots : List (Option Group)) (k : ℕ) → get_or (slots ++ None ∷ []) k None ≡ get_or slots k None
none_after [] k = grind arith
none_after (slot ∷ slots) zero = refl
none_after (slot ∷ slots) (suc k) = none_after slots k

pub slots_none : AreSlots [] []
slots_none code = refl

-- ---- parts of the classes

module _ (values : List Value) where
  pub part_none : (first : ℕ) → part_of values first (first - first) ≡ []
  part_none first = let none : first - first ≡ 0 = omega arith in ap (λ (n : ℕ). part_of values first n) none

  pub part_more : (first class : ℕ) (v : Value) → first ≤ class → slice_get values class ≡ Some v
      → part_of values first (class + 1 - first) ≡ part_of values first (class - first) ++ v ∷ []
  part_more first class v from there =
      let within : class < length values = slice_get_within values class v there in
      let long = length-drop first values in
      let next : class + 1 - first ≡ class - first + 1 = omega (arith, from) in
      let place : first + (class - first) ≡ class = omega (arith, from) in
      rw (next, take_more (drop first values) (class - first) v (omega (arith, from, within, long)), get_or-drop, place, get_or_from_slice_get values class v v there) refl

  pub part_long : (first end : ℕ) → first ≤ end → end ≤ length values → length (part_of values first (end - first)) ≡ end - first
  part_long first end from within = omega (arith, from, within, length-drop first values, length-take (end - first) (drop first values))

  pub part_joins : (first count : ℕ) → take first values ++ part_of values first count ≡ take (first + count) values
  part_joins first count =
      rw (← take-take first (first + count) values (omega arith), ← drop-take first count values) (take-append-drop first (take (first + count) values))

-- ---- the groups that are there
pub record AreFirstGroups (slots : List (Option Group)) (upto : ℕ) (groups : List Group) : Type 0 where
  pub sound : (group : Group) → Contains groups group → (k : ℕ) × (k < upto) × (get_or slots k None ≡ Some group)
  pub whole : (k : ℕ) (group : Group) → k < upto → get_or slots k None ≡ Some group → Contains groups group
  pub ordered : AllPairs (λ a b. code_of_value a.value < code_of_value b.value) groups

pub groups_none : (slots : List (Option Group)) → AreFirstGroups slots 0 []
groups_none slots = grind arith

module _ (values : List Value) (slots : List (Option Group)) (are : AreSlots values slots) where
  group_of : (k : ℕ) (group : Group) → get_or slots k None ≡ Some group → (code_of_value group.value ≡ k) × IsGroup values group
  group_of k group there = subst (HasSlot values k) there (are k)

  pub groups_more : (upto : ℕ) (groups : List Group) (slot : Option Group) → get_or slots upto None ≡ slot → AreFirstGroups slots upto groups →
      AreFirstGroups slots (upto + 1) (groups ++ option_to_list slot)
  groups_more upto groups None here before = record {
    sound = λ group there. let old = before.sound group (rw append-nil at there) in (old.0, omega (arith, old.1), old.2);
    whole = λ k group below there. elim (cases_lt k upto) [
      | inl earlier ↦ rw append-nil (before.whole k group earlier there)
      | inr from ↦ let same : k ≡ upto = omega arith in absurd (cc (here, ap (λ n. get_or slots n None) same))
    ];
    ordered = rw append-nil before.ordered;
  }
  groups_more upto groups (Some new) here before = record {
    sound = λ group there. elim (Contains-push_cases groups new group there) [
      | inl earlier ↦ let old = before.sound group earlier in (old.0, omega (arith, old.1), old.2)
      | inr same ↦ (upto, omega arith, rw same at here)
    ];
    whole = λ k group below there. elim (cases_lt k upto) [
      | inl earlier ↦ Contains-append_left groups (new ∷ []) group (before.whole k group earlier there)
      | inr from ↦
          let same : upto ≡ k = omega arith in
          let is : new ≡ group = cc (here, ap (λ n. get_or slots n None) same) in
          subst (Contains (groups ++ new ∷ [])) is (Contains-push groups new)
    ];
    ordered = all_pairs_push (λ a b. code_of_value a.value < code_of_value b.value) groups new before.ordered (λ k d within.
        let old = before.sound (get_or groups k d) (Contains-get_or groups k d within) in
        omega (arith, old.1, (group_of old.0 (get_or groups k d) old.2).0, (group_of upto new here).0));
  }

  pub groups_all : (upto : ℕ) (groups : List Group) → length slots ≤ upto → All IsEntry values → AreFirstGroups slots upto groups → AreGroups values groups
  groups_all upto groups all entries found = record {
    sound = λ group there. let old = found.sound group there in (group_of old.0 group old.2).1;
    whole = λ v there. own v (all_at IsEntry values there.0 v entries (read v there)) there (get_or slots (code_of_value v) None) refl;
    ordered = found.ordered;
  }
    where
      read : (v : Value) (there : Contains values v) → slice_get values there.0 ≡ Some v
      read v there = slice_get_read values _ there.0 v refl there.1 (sym there.2)

      own : (v : Value) → IsEntry v → Contains values v → (slot : Option Group) → get_or slots (code_of_value v) None ≡ slot →
          (group : Group) × Contains groups group × (group.value ≡ v)
      own v entry there None here =
          absurd (none_counted (has_code (code_of_value v)) values v there.0 (rw here at (are (code_of_value v))) (has_own v (code_of_value v) refl) (read v there))
      own v entry there (Some group) here = elim (cases_lt (code_of_value v) (length slots)) [
        | inl within ↦
            let known = group_of (code_of_value v) group here in
            (group, found.whole (code_of_value v) group (omega (arith, within, all)) here, one_of_code group.value v known.1.entry entry known.0)
        | inr past ↦ absurd (cc (get_or_past slots (code_of_value v) None past))
      ]
