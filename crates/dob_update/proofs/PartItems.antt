-- The items of parts, of which only the classes are listed that they are for.
use Rattle.dob_update.proofs.Common.{◌++◌, ◌+◌, ◌-◌, ◌<◌, ◌∙◌, ◌∷◌, ◌≡◌, ◌≤◌, [], AreItemsRun, Family, Item, List, PartView, Settlement, ap, append-nil}
use Rattle.dob_update.proofs.Common.{append_assoc, arith, cases_lt, drop, drop-append-le, drop-drop, drop_all, drop_at, drop_more, front, get_or, inl, inr}
use Rattle.dob_update.proofs.Common.{item_for, items_in_all, items_of_parts, items_of_parts-length, left_after, length, length-drop, map, map-append, nat_tests}
use Rattle.dob_update.proofs.Common.{refl, sym, take, take-append-le, take-take, take_all, ℕ}
use Rattle.std.proofs.lemmas.List.{take-append-drop, drop-take, take_at, map_more, get_or-drop}
use Rattle.dob_update.proofs.PartLists.{front-zero, left_after-within, left_after-past}
use Rattle.dob_update.proofs.Runs.{total-front}

-- one part more, with its classes
pub items_of_parts-push : (parts : List PartView) (part : PartView) (classes more : List ℕ) → items_in_all parts ≡ length classes → part.items ≡ length more
    → items_of_parts (parts ++ part ∷ []) (classes ++ more) ≡ items_of_parts parts classes ++ map (item_for part.settlement) more
items_of_parts-push [] part [] more all m =
    append-nil (map (item_for part.settlement) (take part.items more)) ∙ ap (λ (xs : List ℕ). map (item_for part.settlement) xs) (take_all part.items more (omega (arith, m)))
items_of_parts-push [] part (class ∷ classes) more all m = absurd (omega (arith, all))
items_of_parts-push (first ∷ parts) part classes more all m =
    let within : first.items ≤ length classes = omega (arith, all) in
    let own = map (item_for first.settlement) (take first.items classes) in
    grind (
      arith,
      take-append-le first.items classes more within,
      drop-append-le first.items classes more within,
      items_of_parts-push parts part (drop first.items classes) more (omega (arith, all, length-drop first.items classes)) m,
      append_assoc own (items_of_parts parts (drop first.items classes)) (map (item_for part.settlement) more),
    )

-- ---- the items in front, and those behind them
front_within : (k : ℕ) (part : PartView) (parts : List PartView) (classes : List ℕ) → k ≤ part.items →
    items_of_parts (front k (part ∷ parts)) classes ≡ map (item_for part.settlement) (take k classes)
front_within k part parts classes within =
    grind (arith, nat_tests, front-zero parts, append-nil (map (item_for part.settlement) (take k classes)))

front_past : (k : ℕ) (part : PartView) (parts : List PartView) (classes : List ℕ) → part.items ≤ k →
    items_of_parts (front k (part ∷ parts)) classes ≡ map (item_for part.settlement) (take part.items classes) ++ items_of_parts (front (k - part.items) parts) (drop part.items classes)
front_past k part parts classes past = grind (arith, nat_tests, front-zero parts)

-- the classes of a part, in two pieces
two_pieces : (k m : ℕ) (classes : List ℕ) → k ≤ m → take k classes ++ take (m - k) (drop k classes) ≡ take m classes
two_pieces k m classes within =
    let whole : k + (m - k) ≡ m = omega (arith, within) in
    grind (arith, take-take k m classes within, drop-take k (m - k) classes, whole, take-append-drop k (take m classes))

items_of_parts-split : (k : ℕ) (parts : List PartView) (classes : List ℕ) → items_of_parts (front k parts) classes ++ items_of_parts (left_after k parts) (drop k classes) ≡ items_of_parts parts classes
items_of_parts-split k [] classes = refl
items_of_parts-split k (part ∷ parts) classes = elim (cases_lt k part.items) [
  | inl lt ↦
      let f = item_for part.settlement in
      let within : k ≤ part.items = omega (arith, lt) in
      let tail = items_of_parts parts (drop part.items classes) in
      let whole : k + (part.items - k) ≡ part.items = omega (arith, lt) in
      grind (
        arith,
        front_within k part parts classes within,
        left_after-within k part parts lt,
        drop-drop (part.items - k) k classes,
        whole,
        append_assoc (map f (take k classes)) (map f (take (part.items - k) (drop k classes))) tail,
        map-append f (take k classes) (take (part.items - k) (drop k classes)),
        two_pieces k part.items classes within,
      )
  | inr le ↦
      let own = map (item_for part.settlement) (take part.items classes) in
      let before = items_of_parts (front (k - part.items) parts) (drop part.items classes) in
      let whole : part.items + (k - part.items) ≡ k = omega (arith, le) in
      grind (
        arith,
        front_past k part parts classes le,
        left_after-past k part parts le,
        drop-drop (k - part.items) part.items classes,
        whole,
        append_assoc own before (items_of_parts (left_after (k - part.items) parts) (drop k classes)),
        items_of_parts-split (k - part.items) parts (drop part.items classes),
      )
]

long : (k : ℕ) (parts : List PartView) (classes : List ℕ) → items_in_all parts ≤ length classes → k ≤ items_in_all parts → length (items_of_parts (front k parts) classes) ≡ k
long k parts classes enough within = grind (arith, total-front, items_of_parts-length)

pub items_of_parts-front : (k : ℕ) (parts : List PartView) (classes : List ℕ) → items_in_all parts ≤ length classes → k ≤ items_in_all parts → items_of_parts (front k parts) classes ≡ take k (items_of_parts parts classes)
items_of_parts-front k parts classes enough within =
    sym (take_at (items_of_parts (front k parts) classes) (items_of_parts (left_after k parts) (drop k classes)) k (long k parts classes enough within))
    ∙ ap (λ (xs : List Item). take k xs) (items_of_parts-split k parts classes)

pub items_of_parts-behind : (k : ℕ) (parts : List PartView) (classes : List ℕ) → items_in_all parts ≤ length classes → k ≤ items_in_all parts
    → items_of_parts (left_after k parts) (drop k classes) ≡ drop k (items_of_parts parts classes)
items_of_parts-behind k parts classes enough within =
    sym (drop_at (items_of_parts (front k parts) classes) (items_of_parts (left_after k parts) (drop k classes)) k (long k parts classes enough within))
    ∙ ap (λ (xs : List Item). drop k xs) (items_of_parts-split k parts classes)

-- classes behind those of the parts don't matter
items_of_parts-take : (parts : List PartView) (m : ℕ) (classes : List ℕ) → items_in_all parts ≤ m → items_of_parts parts (take m classes) ≡ items_of_parts parts classes
items_of_parts-take [] m classes within = refl
items_of_parts-take (part ∷ parts) m classes within =
    let whole : part.items + (m - part.items) ≡ m = omega (arith, within) in
    let left : drop part.items (take m classes) ≡ take (m - part.items) (drop part.items classes) =
    ap (λ (k : ℕ). drop part.items (take k classes)) (sym whole) ∙ drop-take part.items (m - part.items) classes in
    ap (λ (xs : List ℕ). map (item_for part.settlement) xs ++ items_of_parts parts (drop part.items (take m classes)))
    (take-take part.items m classes (omega (arith, within)))
    ∙ ap (λ (xs : List ℕ). map (item_for part.settlement) (take part.items classes) ++ items_of_parts parts xs) left
    ∙ ap (λ (xs : List Item). map (item_for part.settlement) (take part.items classes) ++ xs)
    (items_of_parts-take parts (m - part.items) (drop part.items classes) (omega (arith, within)))

-- so the items in front are those of the parts and of the classes in front
pub items_in_front : (k : ℕ) (parts : List PartView) (classes : List ℕ) → items_in_all parts ≤ length classes → k ≤ items_in_all parts →
    items_of_parts (front k parts) (take k classes) ≡ take k (items_of_parts parts classes)
items_in_front k parts classes enough within =
    items_of_parts-take (front k parts) k classes (let many = total-front parts k within in omega (arith, many)) ∙ items_of_parts-front k parts classes enough within

-- ---- items made from parts

-- the items of a settlement so far
pub items_more : (s : Settlement) (before items : List Item) (classes : List ℕ) (start index class : ℕ) → start + index < length classes → class ≡ get_or classes (start + index) class
    → items ≡ before ++ map (item_for s) (take index (drop start classes)) → items ++ item_for s class ∷ [] ≡ before ++ map (item_for s) (take (index + 1) (drop start classes))
items_more s before items classes start index class within read so_far =
    let own = map (item_for s) (take index (drop start classes)) in
    ap (λ (xs : List Item). xs ++ item_for s class ∷ []) so_far ∙ append_assoc before own (item_for s class ∷ [])
    ∙ ap (λ (xs : List Item). before ++ xs)
    (ap (λ (c : ℕ). own ++ item_for s c ∷ []) (read ∙ sym (get_or-drop start classes index class))
    ∙ sym (map_more (item_for s) (drop start classes) index class (omega (arith, within, length-drop start classes))))

-- the items of the parts so far, behind the first ones, and what is left to make
pub record IsMaking (parts : List PartView) (classes : List ℕ) (index next : ℕ) (first list : List Item) : Type 0 where
  pub so_far : list ++ items_of_parts (drop index parts) (drop next classes) ≡ first ++ items_of_parts parts classes
  pub within : next + items_in_all (drop index parts) ≤ length classes

pub next_part : (parts : List PartView) (index : ℕ) (part : PartView) → index < length parts → part ≡ get_or parts index part → drop index parts ≡ part ∷ drop (index + 1) parts
next_part parts index part there read = drop_more parts index part there ∙ ap (λ (p : PartView). p ∷ drop (index + 1) parts) (sym read)

-- the next part's classes are there
pub making_within : (parts : List PartView) (classes : List ℕ) (index next : ℕ) (first list : List Item) (part : PartView) → index < length parts → part ≡ get_or parts index part
    → IsMaking parts classes index next first list → next + part.items ≤ length classes
making_within parts classes index next first list part there read l = grind (arith, next_part)

pub making_more : (parts : List PartView) (classes : List ℕ) (index next : ℕ) (first list more : List Item) (part : PartView) → index < length parts → part ≡ get_or parts index part
    → IsMaking parts classes index next first list → more ≡ list ++ map (item_for part.settlement) (take part.items (drop next classes))
    → IsMaking parts classes (index + 1) (next + part.items) first more
making_more parts classes index next first list more part there read l is = record {
  so_far =
      let own = map (item_for part.settlement) (take part.items (drop next classes)) in
      let left = items_of_parts (drop (index + 1) parts) (drop part.items (drop next classes)) in
      ap (λ (xs : List Item). xs ++ items_of_parts (drop (index + 1) parts) (drop (next + part.items) classes)) is
      ∙ ap (λ (xs : List ℕ). (list ++ own) ++ items_of_parts (drop (index + 1) parts) xs) (sym (drop-drop part.items next classes))
      ∙ append_assoc list own left
      ∙ ap (λ (ps : List PartView). list ++ items_of_parts ps (drop next classes)) (sym (next_part parts index part there read)) ∙ l.so_far;
  within =
      omega (arith, ap items_in_all (next_part parts index part there read), l.within);
}

-- all are made
pub making_all : (parts : List PartView) (classes : List ℕ) (index next : ℕ) (first list : List Item) → length parts ≤ index → IsMaking parts classes index next first list →
    list ≡ first ++ items_of_parts parts classes
making_all parts classes index next first list past l = grind (arith, append-nil list, drop_all index parts past, l.so_far)

-- ---- what a batch lists

-- there is an item for each class that is listed
pub many_in_run : {family : Family} {n to : ℕ} {parts : List PartView} {skip : ℕ} {classes : List ℕ} → AreItemsRun family n to parts skip classes →
    length (items_of_parts parts classes) ≡ length classes
many_in_run {parts = parts} {classes = classes} run = grind (arith, items_of_parts-length)

pub total-push : (parts : List PartView) (part : PartView) → items_in_all (parts ++ part ∷ []) ≡ items_in_all parts + part.items
total-push [] part = omega arith
total-push (first ∷ parts) part = let later = total-push parts part in omega (arith, later)
