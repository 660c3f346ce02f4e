-- Queues: as many items as classes, one settlement more, and what is left without the first items.
use Rattle.dob_update.proofs.Common.{◌++◌, ◌+◌, ◌-◌, ◌<◌, ◌==◌, ◌^◌, ◌∙◌, ◌∷◌, ◌≡◌, ◌≤◌, [], All, AreQueued, Bool, HasItem, Item, List, PartView, Settlement}
use Rattle.dob_update.proofs.Common.{Some, ap, append-nil, arith, cases_lt, cond, drop, false, get_or, inl, inr, item_for, items_in_all, items_of_parts}
use Rattle.dob_update.proofs.Common.{left_after, length, length-append, length-drop, map, min, nat_tests, refl, room_of, slice_get, subst, sym, true}
use Rattle.dob_update.proofs.Common.{with_number, with_part, ℕ}
use Rattle.std.proofs.lemmas.List.{nil_from_length}
use Rattle.std.proofs.lemmas.List.Elements.{All-append, All-cons, All-head, All-nil, All-tail}
use Rattle.std.proofs.lemmas.Option.{slice_get-get_or}
use Rattle.dob_distance.specs.declared.value.Value.TheVariants.{Draw}
use Rattle.dob_share.proofs.PartItems.{items_of_parts-length, part_item}
use Rattle.dob_update.proofs.PartItems.{items_of_parts-behind, items_of_parts-push, total-push}
use Rattle.dob_update.proofs.PartLists.{left_after-within, left_after-past}

-- there is an item for each class that is listed
pub many_queued : {parts : List PartView} {classes : List ℕ} → AreQueued parts classes → length (items_of_parts parts classes) ≡ length classes
many_queued {parts = parts} {classes = classes} own =
    let counted = own.counted in items_of_parts-length parts classes (omega (arith, counted)) ∙ own.counted

-- so that there is none just where no class is
pub none_queued : {parts : List PartView} {classes : List ℕ} → AreQueued parts classes →
    (items_of_parts parts classes ≡ [] → length classes ≡ 0) × (length classes ≡ 0 → items_of_parts parts classes ≡ [])
none_queued {parts = parts} {classes = classes} own =
    let many = many_queued own in
    (λ none. sym many ∙ ap length none, λ none. nil_from_length (items_of_parts parts classes) (many ∙ none))

-- no room is for more than a part has
pub room_few : (parts classes : ℕ) → room_of parts classes < 2 ^ 32
room_few parts classes = at (parts == 0) where
  at : (none : Bool) → cond none 0 (min (2 ^ 32 - 1) classes) < 2 ^ 32
  at true = omega arith
  at false = omega arith

-- ---- the first one
no_item : Item
no_item = record { number = 0; to = 0; was = Draw; now = Draw }

some_part : (parts : List PartView) → 0 < items_in_all parts → 0 < length parts
some_part [] some = absurd (omega (arith, some))
some_part (part ∷ parts) some = omega arith

pub first_part : {parts : List PartView} {classes : List ℕ} → AreQueued parts classes → 0 < length classes → 0 < length parts
first_part {parts = parts} own some = let counted = own.counted in some_part parts (omega (arith, counted, some))

has_item : (parts : List PartView) (part : PartView) → All HasItem parts → 0 < length parts → part ≡ get_or parts 0 part → 0 < part.items
has_item [] part some there read = absurd (omega (arith, there))
has_item (first ∷ parts) part some there read = subst (λ (p : PartView). 0 < p.items) (sym read) (All-head HasItem first parts some)

pub first_queued : {parts : List PartView} {classes : List ℕ} (part : PartView) (class : ℕ) → AreQueued parts classes → 0 < length classes →
    part ≡ get_or parts 0 part → class ≡ get_or classes 0 class → slice_get (items_of_parts parts classes) 0 ≡ Some (item_for part.settlement class)
first_queued {parts = parts} {classes = classes} part class own some read class_is =
    let counted = own.counted in
    let many = many_queued own in
    let there = first_part own some in
    slice_get-get_or (items_of_parts parts classes) 0 no_item (omega (arith, many, some))
    ∙ ap Some (part_item parts classes 0 0 0 part class no_item there read (has_item parts part own.some there read) (omega (arith, counted)) refl class_is)

-- ---- one settlement more
pub with_some_part : (parts : List PartView) (s : Settlement) (count : ℕ) → 0 < count → with_part parts s count ≡ parts ++ (record { settlement = s; items = count }) ∷ []
with_some_part parts s count some = grind (arith, nat_tests)

pub with_no_part : (parts : List PartView) (s : Settlement) (count : ℕ) → count ≡ 0 → with_part parts s count ≡ parts
with_no_part parts s count none = grind (arith, nat_tests)

pub one_more : {parts : List PartView} {classes : List ℕ} (s : Settlement) (more : List ℕ) → AreQueued parts classes →
    (let grown = with_part parts s (length more) in AreQueued grown (classes ++ more)
    × (items_of_parts grown (classes ++ more) ≡ items_of_parts parts classes ++ map (item_for s) more))
one_more {parts = parts} {classes = classes} s [] own =
    subst (λ (ps : List PartView). AreQueued ps (classes ++ []) × (items_of_parts ps (classes ++ []) ≡ items_of_parts parts classes ++ [])) (sym (with_no_part parts s 0 refl))
    (subst (λ (cs : List ℕ). AreQueued parts cs × (items_of_parts parts cs ≡ items_of_parts parts classes ++ [])) (sym (append-nil classes))
    (own, sym (append-nil (items_of_parts parts classes))))
one_more {parts = parts} {classes = classes} s (class ∷ others) own =
    let more = class ∷ others in
    let part : PartView = record { settlement = s; items = length more } in
    let counted = own.counted in
    let some : 0 < length more = omega arith in
    subst (λ (ps : List PartView). AreQueued ps (classes ++ more) × (items_of_parts ps (classes ++ more) ≡ items_of_parts parts classes ++ map (item_for s) more))
    (sym (with_some_part parts s (length more) some)) (
      record {
        counted = omega (arith, counted, total-push parts part, length-append classes more);
        some = All-append HasItem parts (part ∷ []) own.some (All-cons HasItem part [] some (All-nil HasItem));
      },
      items_of_parts-push parts part classes more counted refl,
    )

-- ---- without the first ones

-- what is left of the parts has an item each, and as many as were left
pub left_counted : (k : ℕ) (parts : List PartView) → All HasItem parts → k ≤ items_in_all parts →
    All HasItem (left_after k parts) × (items_in_all (left_after k parts) + k ≡ items_in_all parts)
left_counted k [] some within = (All-nil HasItem, omega (arith, within))
left_counted k (part ∷ parts) some within = elim (cases_lt k part.items) [
  | inl lt ↦
      rw (left_after-within k part parts lt) (
        All-cons HasItem (with_number part (part.items - k)) parts (omega (arith, lt)) (All-tail HasItem part parts some),
        omega (arith, lt),
      )
  | inr le ↦
      let later = left_counted (k - part.items) parts (All-tail HasItem part parts some) (omega (arith, within, le)) in
      rw (left_after-past k part parts le) (later.0, let sum = later.1 in omega (arith, sum, le))
]

pub queued_after : {parts : List PartView} {classes : List ℕ} (k : ℕ) → AreQueued parts classes → k ≤ length classes → AreQueued (left_after k parts) (drop k classes)
queued_after {parts = parts} {classes = classes} k own within =
    let counted = own.counted in
    let left = left_counted k parts own.some (omega (arith, counted, within)) in
    let sum = left.1 in
    let rest = length-drop k classes in
    record { counted = omega (arith, counted, sum, rest, within); some = left.0 }

pub items_after : {parts : List PartView} {classes : List ℕ} (k : ℕ) → AreQueued parts classes → k ≤ length classes →
    items_of_parts (left_after k parts) (drop k classes) ≡ drop k (items_of_parts parts classes)
items_after {parts = parts} {classes = classes} k own within =
    let counted = own.counted in items_of_parts-behind k parts classes (omega (arith, counted)) (omega (arith, counted, within))

-- without as many as there are none is left
pub left_none : (k : ℕ) (parts : List PartView) → All HasItem parts → k ≡ items_in_all parts → left_after k parts ≡ []
left_none k parts some all =
    let left = left_counted k parts some (omega (arith, all)) in
    let sum = left.1 in
    none (left_after k parts) left.0 (omega (arith, sum, all))
  where
    none : (ps : List PartView) → All HasItem ps → items_in_all ps ≡ 0 → ps ≡ []
    none [] are zero_all = refl
    none (p ∷ ps) are zero_all = let one : 0 < p.items = All-head HasItem p ps are in absurd (omega (arith, one, zero_all))

-- ---- parts that are counted off from the front

-- the parts so far have all of their items among the first k, but for `rest`
pub record IsCountedOff (k rest gone : ℕ) (parts : List PartView) : Type 0 where
  pub within : gone ≤ length parts
  pub enough : rest ≤ items_in_all (drop gone parts)
  pub left : left_after rest (drop gone parts) ≡ left_after k parts
