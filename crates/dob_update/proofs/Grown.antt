-- An outbox that lists one settlement more.
use Rattle.dob_update.proofs.Common.{◌++◌, ◌<◌, ◌==◌, ◌^◌, ◌∙◌, ◌∷◌, ◌≡◌, List, [], ap, append-nil, arith, filter, item_for, length, length-map, map, map-append}
use Rattle.dob_update.proofs.Common.{AreListed, Family, IsRest, Item, OutboxView, PartView, Settlement, added, items_of_parts, owner_of}
use Rattle.dob_update.proofs.Common.{predecessors, refl, settlement_of, settlements_of, subst, sym, with_items, with_part, ℕ}
use Rattle.dob_update.proofs.Runs.{rest_added}
use Rattle.dob_update.proofs.Queues.{one_more, with_no_part, with_some_part}

-- it is listed where it has items
settlements_more : (parts : List PartView) (s : Settlement) (more : List ℕ) →
    settlements_of (with_part parts s (length more)) ≡ settlements_of parts ++ with_items s (map (item_for s) more)
settlements_more parts s [] = ap settlements_of (with_no_part parts s 0 refl) ∙ sym (append-nil (settlements_of parts))
settlements_more parts s (class ∷ classes) =
    let part : PartView = record { settlement = s; items = length (class ∷ classes) } in
    ap settlements_of (with_some_part parts s (length (class ∷ classes)) (omega arith)) ∙ map-append settlement_of parts (part ∷ [])

-- and then its items are the last
rest_more : (family : Family) (n to skip : ℕ) (parts : List PartView) (all : List Item) (s : Settlement) (more : List ℕ) → IsRest family n to parts skip all →
    length more < 2 ^ 64 → more ≡ filter (λ class. owner_of n class == to) (predecessors family s.class) →
    IsRest family n to (with_part parts s (length more)) skip (all ++ map (item_for s) more)
rest_more family n to skip parts all s [] rest low is =
    subst (λ (ps : List PartView). IsRest family n to ps skip (all ++ [])) (sym (with_no_part parts s 0 refl))
    (subst (λ (xs : List Item). IsRest family n to parts skip xs) (sym (append-nil all)) rest)
rest_more family n to skip parts all s (class ∷ classes) rest low is =
    let more = class ∷ classes in
    let items = map (item_for s) more in
    let many = length-map more (item_for s) in
    let some : 0 < length more = omega arith in
    subst (λ (ps : List PartView). IsRest family n to ps skip (all ++ items)) (sym (with_some_part parts s (length more) some))
    (subst (λ (k : ℕ). IsRest family n to (parts ++ (record { settlement = s; items = k }) ∷ []) skip (all ++ items)) many
    (rest_added family n to parts skip all items s rest (omega (arith, many, some)) (omega (arith, many, low)) (ap (λ (cs : List ℕ). map (item_for s) cs) is)))

-- An outbox lists a settlement more, with the classes of its items.
pub record IsGrown (family : Family) (n to skip : ℕ) (parts grown : List PartView) (classes longer : List ℕ) (s : Settlement) (more : List Item) : Type 0 where
  pub listed : AreListed family n to grown skip longer
  pub is_added : (from next : ℕ) → (let old : OutboxView = record {
    family = family;
    n = n;
    from = from;
    to = to;
    settlements = settlements_of parts;
    skip = skip;
    items = items_of_parts parts classes;
    next = next;
  } in (record old { settlements = settlements_of grown; items = items_of_parts grown longer }) ≡ added old s more)

pub is_grown : (family : Family) (n to skip : ℕ) (parts grown : List PartView) (classes longer : List ℕ) (s : Settlement) (more : List ℕ)
    → AreListed family n to parts skip classes → length more < 2 ^ 64 → more ≡ filter (λ class. owner_of n class == to) (predecessors family s.class)
    → grown ≡ with_part parts s (length more) → longer ≡ classes ++ more
    → IsGrown family n to skip parts grown classes longer s (map (item_for s) more)
is_grown family n to skip parts grown classes longer s more listed low of_settlement parts_are classes_are =
    let items = items_of_parts parts classes in
    let one = one_more s more listed.queued in
    subst (λ (ps : List PartView). IsGrown family n to skip parts ps classes longer s (map (item_for s) more)) (sym parts_are)
    (subst (λ (cs : List ℕ). IsGrown family n to skip parts (with_part parts s (length more)) classes cs s (map (item_for s) more)) (sym classes_are) (record {
      listed = record {
        queued = one.0;
        rest = subst (λ (xs : List Item). IsRest family n to (with_part parts s (length more)) skip xs) (sym one.1)
            (rest_more family n to skip parts items s more listed.rest low of_settlement);
      };
      is_added = λ from next.
          let old : OutboxView = record { family = family; n = n; from = from; to = to; settlements = settlements_of parts; skip = skip; items = items; next = next } in
          ap (λ (ss : List Settlement). record old { settlements = ss; items = items_of_parts (with_part parts s (length more)) (classes ++ more) }) (settlements_more parts s more)
          ∙ ap (λ (xs : List Item). record old { settlements = settlements_of parts ++ with_items s (map (item_for s) more); items = xs }) one.1;
    }))
