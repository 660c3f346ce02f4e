-- The items of parts, of which only the classes are listed that they are for.
use Rattle.std.proofs.Common.{◌++◌, ◌+◌, ◌<◌, ◌∙◌, ◌∷◌, ◌≡◌, ◌≤◌, List, [], ap, arith, drop, get_or, length, refl, suc, sym, take, zero, ℕ}
use Rattle.std.proofs.lemmas.List.{get_or_append_left, get_or-append-add, get_or-drop, get_or-take, length-append, length-drop, length-map, length-take-le}
use Rattle.std.proofs.lemmas.List.{map-append, take-append-drop}
use Rattle.std.specs.Prelude.{map}
use Rattle.dob_share.specs.declared.news.Item.{Item}
use Rattle.dob_share.specs.declared.news.Settlement.{Settlement}
use Rattle.dob_share.specs.Items.{item_for, items_in_all, items_of_parts, target_of, PartView}

-- there are as many as the parts say
pub items_of_parts-length : (parts : List PartView) (classes : List ℕ) → items_in_all parts ≤ length classes → length (items_of_parts parts classes) ≡ items_in_all parts
items_of_parts-length [] classes within = refl
items_of_parts-length (part ∷ parts) classes within =
    omega (
      arith,
      length-append (map (item_for part.settlement) (take part.items classes)) (items_of_parts parts (drop part.items classes)),
      length-map (take part.items classes) (item_for part.settlement),
      length-take-le part.items classes (omega (arith, within)),
      items_of_parts-length parts (drop part.items classes) (omega (arith, within, length-drop part.items classes)),
    )

-- the classes of items
pub targets_of_items : (s : Settlement) (classes : List ℕ) → map target_of (map (item_for s) classes) ≡ classes
targets_of_items s [] = refl
targets_of_items s (class ∷ classes) = ap (λ (xs : List ℕ). class ∷ xs) (targets_of_items s classes)

-- those of the parts' items are those that are listed
pub targets_of_parts : (parts : List PartView) (classes : List ℕ) → items_in_all parts ≡ length classes → map target_of (items_of_parts parts classes) ≡ classes
targets_of_parts [] [] all = refl
targets_of_parts [] (class ∷ classes) all = absurd (omega (arith, all))
targets_of_parts (part ∷ parts) classes all =
    let own = map (item_for part.settlement) (take part.items classes) in
    map-append target_of own (items_of_parts parts (drop part.items classes))
    ∙ ap (λ (xs : List ℕ). xs ++ map target_of (items_of_parts parts (drop part.items classes))) (targets_of_items part.settlement (take part.items classes))
    ∙ ap (λ (xs : List ℕ). take part.items classes ++ xs)
    (targets_of_parts parts (drop part.items classes) (omega (arith, all, length-drop part.items classes)))
    ∙ take-append-drop part.items classes

-- ---- one item of a part
get_or-map : (s : Settlement) (classes : List ℕ) (k class : ℕ) (item : Item) → k < length classes → get_or (map (item_for s) classes) k item ≡ item_for s (get_or classes k class)
get_or-map s [] k class item within = absurd (omega (arith, within))
get_or-map s (first ∷ classes) zero class item within = refl
get_or-map s (first ∷ classes) (suc k) class item within = get_or-map s classes k class item (omega (arith, within))

-- the parts before one, with its own items, have no more than all
pub parts_before : (parts : List PartView) (k : ℕ) (part : PartView) → k < length parts → part ≡ get_or parts k part →
    items_in_all (take k parts) + part.items ≤ items_in_all parts
parts_before [] k part there read = absurd (omega (arith, there))
parts_before (first ∷ parts) zero part there read = let same = ap (λ (p : PartView). p.items) read in omega (arith, same)
parts_before (first ∷ parts) (suc k) part there read = let later = parts_before parts k part (omega (arith, there)) read in omega (arith, later)

-- one part more has its own items
pub parts_more : (parts : List PartView) (k : ℕ) (part : PartView) → k < length parts → part ≡ get_or parts k part →
    items_in_all (take (k + 1) parts) ≡ items_in_all (take k parts) + part.items
parts_more [] k part there read = absurd (omega (arith, there))
parts_more (first ∷ parts) zero part there read = let same = ap (λ (p : PartView). p.items) read in omega (arith, same)
parts_more (first ∷ parts) (suc k) part there read =
    let later = parts_more parts k part (omega (arith, there)) read in
    let next : suc k + 1 ≡ suc (k + 1) = omega arith in
    ap (λ (m : ℕ). items_in_all (take m (first ∷ parts))) next ∙ omega (arith, later)

-- an item of a part is its settlement's, for the class at its place
pub part_item : (parts : List PartView) (classes : List ℕ) (k index place : ℕ) (part : PartView) (class : ℕ) (item : Item) → k < length parts → part ≡ get_or parts k part →
    index < part.items → items_in_all parts ≤ length classes → place ≡ items_in_all (take k parts) + index → class ≡ get_or classes place class →
    get_or (items_of_parts parts classes) place item ≡ item_for part.settlement class
part_item [] classes k index place part class item there read low within place_is class_is = absurd (omega (arith, there))
part_item (first ∷ parts) classes zero index place part class item there read low within place_is class_is =
    let same = ap (λ (p : PartView). p.items) read in
    let rest = items_of_parts parts (drop first.items classes) in
    let own = map (item_for first.settlement) (take first.items classes) in
    let fits : first.items ≤ length classes = omega (arith, within) in
    let long = length-take-le first.items classes fits in
    let inside : place < length (take first.items classes) = omega (arith, long, place_is, low, same) in
    let many : length own ≡ length (take first.items classes) = length-map (take first.items classes) (item_for first.settlement) in
    get_or_append_left own rest item place (omega (arith, many, inside))
    ∙ get_or-map first.settlement (take first.items classes) place class item inside
    ∙ ap (λ (c : ℕ). item_for first.settlement c) (get_or-take first.items classes place class (omega (arith, place_is, low, same)) ∙ sym class_is)
    ∙ ap (λ (p : PartView). item_for p.settlement class) (sym read)
part_item (first ∷ parts) classes (suc k) index place part class item there read low within place_is class_is =
    let own = map (item_for first.settlement) (take first.items classes) in
    let rest = items_of_parts parts (drop first.items classes) in
    let fits : first.items ≤ length classes = omega (arith, within) in
    let many : length own ≡ first.items = length-map (take first.items classes) (item_for first.settlement) ∙ length-take-le first.items classes fits in
    let next = items_in_all (take k parts) + index in
    let whole : place ≡ length own + next = omega (arith, place_is, many) in
    ap (λ (p : ℕ). get_or (own ++ rest) p item) whole ∙ get_or-append-add own rest next item
    ∙ part_item parts (drop first.items classes) k index next part class item (omega (arith, there)) read low
    (omega (arith, within, length-drop first.items classes)) refl
    (class_is ∙ ap (λ (p : ℕ). get_or classes p class) (whole ∙ ap (λ (m : ℕ). m + next) many) ∙ sym (get_or-drop first.items classes next class))
