-- Runs of items, and the parts that they belong to.
use Rattle.dob_update.proofs.Common.{◌++◌, ◌+◌, ◌-◌, ◌<◌, ◌==◌, ◌^◌, ◌∙◌, ◌∷◌, ◌≡◌, ◌≤◌, [], All, All-cons, All-nil, AreParts, AreWhole, BatchView, Bool}
use Rattle.dob_update.proofs.Common.{Family, HasItem, IsBatch, IsFront, IsItemRun, IsOutbox, IsRest, Item, List, OutboxView, PartView, Settlement, ap}
use Rattle.dob_update.proofs.Common.{append-nil, append_assoc, arith, cases_lt, cond, count_for, drop, drop-append-le, drop-drop, drop_at, false, front, inl}
use Rattle.dob_update.proofs.Common.{inr, items_for, items_in_all, items_of, left_after, length, length-append, length-drop, length-map, length-take-le}
use Rattle.dob_update.proofs.Common.{map-append, min, nat_tests, predecessors, refl, settlement_of, settlements_of, skip_after, subst, sym, take}
use Rattle.dob_update.proofs.Common.{take-append-le, take-take, true, with_number, ℕ}
use Rattle.dob_update.specs.Batches.{HasItemIn}
use Rattle.dob_update.proofs.PartLists.{left_after-within, left_after-past, skip-within, skip-past}

-- ---- parts and their numbers of items
some_in_front : (k : ℕ) (parts : List PartView) → 0 < length (front k parts) → (0 < k) × (0 < length parts)
some_in_front k [] some = absurd (omega (arith, some))
some_in_front k (part ∷ parts) some = (grind (arith, nat_tests), omega arith)

pub total-front : (parts : List PartView) (k : ℕ) → k ≤ items_in_all parts → items_in_all (front k parts) ≡ k
total-front [] k within = omega (arith, within)
total-front (part ∷ parts) k within = grind (arith, nat_tests, total-front parts (k - part.items))

-- their settlements are the first
pub front_settlements : (parts : List PartView) (k : ℕ) → (rest : List Settlement) × (settlements_of parts ≡ settlements_of (front k parts) ++ rest)
front_settlements [] k = ([], refl)
front_settlements (part ∷ parts) k = at (k == 0) (front_settlements parts (k - part.items)) where
  at : (none : Bool) → (rest : List Settlement) × (settlements_of parts ≡ settlements_of (front (k - part.items) parts) ++ rest)
      → (rest : List Settlement) × (settlements_of (part ∷ parts) ≡ settlements_of (cond none [] (with_number part (min k part.items) ∷ front (k - part.items) parts)) ++ rest)
  at true later = (settlements_of (part ∷ parts), refl)
  at false later = (later.0, ap (λ ss. part.settlement ∷ ss) later.1)

module _ (count : Settlement → ℕ) where
  parts_from_whole : (parts : List PartView) (skip : ℕ) → AreWhole count skip parts → AreParts count skip parts
  parts_from_whole [] skip w = tt
  parts_from_whole (part ∷ parts) skip w = (w.0, (let e = w.1 in omega arith), (λ more. w.1), parts_from_whole parts 0 w.3)

  -- the parts in front are parts
  AreParts-front : (parts : List PartView) (k skip : ℕ) → AreParts count skip parts → AreParts count skip (front k parts)
  AreParts-front [] k skip h = tt
  AreParts-front (part ∷ parts) k skip h = grind (arith, some_in_front, (AreParts-front parts (k - part.items) 0 h.3))

  -- one more settlement at the end, with all its items
  AreWhole-push : (parts : List PartView) (skip : ℕ) (part : PartView) → AreWhole count skip parts → 0 < part.items → part.items ≡ count part.settlement
      → part.items < 2 ^ 64 → AreWhole count skip (parts ++ part ∷ [])
  AreWhole-push [] skip part w some all low = (some, omega (arith, w, all), omega (arith, all, low), refl)
  AreWhole-push (first ∷ parts) skip part w some all low = (w.0, w.1, w.2, AreWhole-push parts 0 part w.3 some all low)

-- each part has an item
pub parts_have : (count : Settlement → ℕ) (skip : ℕ) (parts : List PartView) → AreParts count skip parts → All HasItem parts
parts_have count skip [] are = All-nil HasItem
parts_have count skip (part ∷ parts) are = All-cons HasItem part parts are.0 (parts_have count 0 parts are.3)

some_parts : (parts : List PartView) → 0 < items_in_all parts → 0 < length parts
some_parts [] some = absurd (omega (arith, some))
some_parts (part ∷ parts) some = omega arith

-- ---- the items of settlements for one node

module _ (family : Family) (n to : ℕ) where
  abbrev items : List Settlement → List Item
  items ss = items_for family n to ss

  abbrev count : Settlement → ℕ
  count s = count_for family n to s

  pub items-append : (ss ts : List Settlement) → items (ss ++ ts) ≡ items ss ++ items ts
  items-append [] ts = refl
  items-append (s ∷ ss) ts = ap (λ xs. items_of (predecessors family) n to s ++ xs) (items-append ss ts) ∙ sym (append_assoc (items_of (predecessors family) n to s) (items ss) (items ts))

  length-items : (s : Settlement) (ss : List Settlement) → length (items (s ∷ ss)) ≡ count s + length (items ss)
  length-items s ss = length-append (items_of (predecessors family) n to s) (items ss)

  -- each part's settlement has an item in the run
  each_needed : (parts : List PartView) (skip : ℕ) → AreParts count skip parts → (before : List Settlement) (s : Settlement) (left_after : List Settlement)
      → settlements_of parts ≡ before ++ s ∷ left_after → HasItemIn family n to before s skip (items_in_all parts)
  each_needed [] skip h [] s left_after e = cc
  each_needed [] skip h (b ∷ bs) s left_after e = cc
  each_needed (part ∷ parts) skip h [] s left_after e =
      let same : part.settlement ≡ s = cc in
      let own = length-items s [] in
      record { place = skip; of_settlement = (omega arith, grind (arith, h.0, h.1, own)); of_run = (omega arith, omega (arith, h.0)) }
  each_needed (part ∷ parts) skip h (b ∷ bs) s left_after e =
      let first : part.settlement ≡ b = cc in
      let others : settlements_of parts ≡ bs ++ s ∷ left_after = cc in
      let w = each_needed parts 0 h.3 bs s left_after others in
      let as_many : length parts ≡ length (bs ++ s ∷ left_after) = sym (length-map parts settlement_of) ∙ ap length others in
      let exact : skip + part.items ≡ count b = h.2 (omega (arith, as_many, length-append bs (s ∷ left_after))) ∙ ap count first in
      record {
        place = count b + w.place;
        of_settlement = (omega (arith, length-items b bs, w.of_settlement.0), omega (arith, length-items b (bs ++ s ∷ []), w.of_settlement.1));
        of_run = (omega (arith, exact), omega (arith, exact, w.of_run.1));
      }

  -- there are so many items
  parts_fit : (parts : List PartView) (skip : ℕ) → AreParts count skip parts → 0 < length parts → skip + items_in_all parts ≤ length (items (settlements_of parts))
  parts_fit [] skip h some = absurd (omega (arith, some))
  parts_fit (part ∷ []) skip h some = omega (arith, length-items part.settlement [], h.1)
  parts_fit (part ∷ next ∷ parts) skip h some =
      omega (arith, length-items part.settlement (settlements_of (next ∷ parts)), h.2 (omega arith), parts_fit (next ∷ parts) 0 h.3 (omega arith))

  pub whole_is : (parts : List PartView) (skip : ℕ) → AreWhole count skip parts → skip + items_in_all parts ≡ length (items (settlements_of parts))
  whole_is [] skip w = omega (arith, w)
  whole_is (part ∷ parts) skip w = omega (arith, length-items part.settlement (settlements_of parts), w.1, whole_is parts 0 w.3)

  -- ---- runs

  pub IsRun-front : (parts : List PartView) (skip k : ℕ) (all : List Item) → AreParts count skip parts → 0 < k → k ≤ items_in_all parts → k ≤ length all
      → take k all ≡ take k (drop skip (items (settlements_of parts))) → IsItemRun family n to (front k parts) skip (take k all)
  IsRun-front parts skip k all h some within enough same =
      let long : length (take k all) ≡ k = length-take-le k all enough in
      let are = AreParts-front count parts k skip h in
      let many = total-front parts k within in
      let listed = front_settlements parts k in
      let mine = items (settlements_of (front k parts)) in
      let fit = parts_fit (front k parts) skip are (some_parts (front k parts) (omega (arith, many, some))) in
      let apart : items (settlements_of parts) ≡ mine ++ items listed.0 = ap items listed.1 ∙ items-append (settlements_of (front k parts)) listed.0 in
      let left : drop skip (items (settlements_of parts)) ≡ drop skip mine ++ items listed.0 = ap (drop skip) apart ∙ drop-append-le skip mine (items listed.0) (omega (arith, fit)) in
      let first : take k (drop skip (items (settlements_of parts))) ≡ take k (drop skip mine) =
      ap (take k) left ∙ take-append-le k (drop skip mine) (items listed.0) (omega (arith, fit, many, length-drop skip mine)) in
      record {
        some = omega (arith, long, some);
        parts_fit = are;
        counted = many ∙ sym long;
        run = same ∙ first ∙ ap (λ m. take m (drop skip mine)) (sym long);
      }

  -- the front of a run is a run
  pub run_shortened : (parts : List PartView) (skip k : ℕ) (all : List Item) → IsItemRun family n to parts skip all → 0 < k → k ≤ length all → IsItemRun family n to (front k parts) skip (take k all)
  run_shortened parts skip k all r some within =
      IsRun-front parts skip k all r.parts_fit some (let counted = r.counted in omega (arith, counted, within)) within
      (ap (take k) r.run ∙ take-take k (length all) (drop skip (items (settlements_of parts))) within)

  pub rest_many : (parts : List PartView) (skip : ℕ) (all : List Item) → IsRest family n to parts skip all → items_in_all parts ≡ length all
  rest_many parts skip all r =
      omega (arith, whole_is parts skip r.parts_fit, ap length r.rest, length-drop skip (items (settlements_of parts)))

  -- so is that of what is left
  pub run_cut : (parts : List PartView) (skip k : ℕ) (all : List Item) → IsRest family n to parts skip all → 0 < k → k ≤ length all → IsItemRun family n to (front k parts) skip (take k all)
  run_cut parts skip k all r some within =
      IsRun-front parts skip k all (parts_from_whole count parts skip r.parts_fit) some
      (let many = rest_many parts skip all r in omega (arith, many, within)) within (ap (take k) r.rest)

  pub cut_within : (parts : List PartView) (skip k : ℕ) (all : List Item) → IsRest family n to parts skip all → k ≤ length all → k ≤ items_in_all parts
  cut_within parts skip k all r within = let many = rest_many parts skip all r in omega (arith, many, within)

  -- what is gone from the parts, and what is left of them
  pub record IsGone (parts : List PartView) (skip k : ℕ) : Type 0 where
    pub gone : List Settlement
    pub apart : settlements_of parts ≡ gone ++ settlements_of (left_after k parts)
    pub many : length (items gone) + skip_after skip k parts ≡ skip + k
    pub whole : AreWhole count (skip_after skip k parts) (left_after k parts)

  pub gone_after : (parts : List PartView) (skip k : ℕ) → AreWhole count skip parts → k ≤ items_in_all parts → IsGone parts skip k
  gone_after [] skip k w within = record { gone = []; apart = refl; many = omega (arith, within); whole = w }
  gone_after (part ∷ parts) skip k w within = elim (cases_lt k part.items) [
    | inl lt ↦
        let b = left_after-within k part parts lt in
        let s = skip-within skip k part parts lt in
        record {
          gone = [];
          apart = ap settlements_of (sym b);
          many = omega (arith, s);
          whole = rw (s, b) (omega (arith, lt), omega (arith, w.1, lt), w.2, w.3);
        }
    | inr le ↦
        let b = left_after-past k part parts le in
        let s = skip-past skip k part parts le in
        let later = gone_after parts 0 (k - part.items) w.3 (omega (arith, within)) in
        record {
          gone = part.settlement ∷ later.gone;
          apart = ap (λ ss. part.settlement ∷ ss) later.apart ∙ ap (λ ps. (part.settlement ∷ later.gone) ++ settlements_of ps) (sym b);
          many = omega (arith, s, length-items part.settlement later.gone, w.1, later.many, le);
          whole = rw (s, b) later.whole;
        }
  ]

  pub rest_cut : (parts : List PartView) (skip k : ℕ) (all : List Item) → IsRest family n to parts skip all → k ≤ length all
      → IsRest family n to (left_after k parts) (skip_after skip k parts) (drop k all)
  rest_cut parts skip k all r within =
      let g = gone_after parts skip k r.parts_fit (cut_within parts skip k all r within) in
      let left = items (settlements_of (left_after k parts)) in
      let before = items g.gone in
      let apart : items (settlements_of parts) ≡ before ++ left = ap items g.apart ∙ items-append g.gone (settlements_of (left_after k parts)) in
      record {
        parts_fit = g.whole;
        rest = ap (drop k) r.rest ∙ drop-drop k skip (items (settlements_of parts)) ∙ ap (λ m. drop m (items (settlements_of parts))) (sym g.many)
            ∙ ap (drop (length before + skip_after skip k parts)) apart ∙ sym (drop-drop (skip_after skip k parts) (length before) (before ++ left))
            ∙ ap (drop (skip_after skip k parts)) (drop_at before left (length before) refl);
      }

  -- one more settlement with its items
  pub rest_added : (parts : List PartView) (skip : ℕ) (all more : List Item) (s : Settlement) → IsRest family n to parts skip all → 0 < length more → length more < 2 ^ 64
      → more ≡ items_of (predecessors family) n to s → IsRest family n to (parts ++ (record { settlement = s; items = length more }) ∷ []) skip (all ++ more)
  rest_added parts skip all more s r some low e =
      let part : PartView = record { settlement = s; items = length more } in
      let old = items (settlements_of parts) in
      let new = items_of (predecessors family) n to s in
      let listed : settlements_of (parts ++ part ∷ []) ≡ settlements_of parts ++ s ∷ [] = map-append settlement_of parts (part ∷ []) in
      let all_items : items (settlements_of (parts ++ part ∷ [])) ≡ old ++ new = ap items listed ∙ items-append (settlements_of parts) (s ∷ []) ∙ ap (λ xs. old ++ xs) (append-nil new) in
      let whole = whole_is parts skip r.parts_fit in
      record {
        parts_fit = AreWhole-push count parts skip part r.parts_fit some (ap length e) low;
        rest = ap (λ xs. xs ++ more) r.rest ∙ ap (λ xs. drop skip old ++ xs) e ∙ sym (drop-append-le skip old new (omega (arith, whole))) ∙ ap (drop skip) (sym all_items);
      }

-- ---- batches and outboxes
pub IsBatch-from_run : (b : BatchView) (parts : List PartView) → b.settlements ≡ settlements_of parts → IsItemRun b.family b.n b.to parts b.skip b.items → IsBatch b
IsBatch-from_run b parts e r = record {
  some = r.some;
  run = subst (λ (ss : List Settlement). b.items ≡ take (length b.items) (drop b.skip (items_for b.family b.n b.to ss))) (sym e) r.run;
  needed = λ before s left_after h.
      subst (λ (m : ℕ). HasItemIn b.family b.n b.to before s b.skip m) r.counted (each_needed b.family b.n b.to parts b.skip r.parts_fit before s left_after (sym e ∙ h));
}

pub IsOutbox-from_rest : (o : OutboxView) (parts : List PartView) → o.settlements ≡ settlements_of parts → IsRest o.family o.n o.to parts o.skip o.items → IsOutbox o
IsOutbox-from_rest o parts e r = record {
  rest = subst (λ (ss : List Settlement). o.items ≡ drop o.skip (items_for o.family o.n o.to ss)) (sym e) r.rest;
  needed = λ before s left_after h.
      subst (λ (m : ℕ). HasItemIn o.family o.n o.to before s o.skip m) (rest_many o.family o.n o.to parts o.skip o.items r)
      (each_needed o.family o.n o.to parts o.skip (parts_from_whole (count_for o.family o.n o.to) parts o.skip r.parts_fit) before s left_after (sym e ∙ h));
}

-- the first k items of a batch, with the parts in front
pub IsFront-from_parts : (old : BatchView) (parts new : List PartView) (k : ℕ) (items : List Item) → old.settlements ≡ settlements_of parts → new ≡ front k parts → items ≡ take k old.items
    → IsFront old k (record old { settlements = settlements_of new; items = items })
IsFront-from_parts old parts new k items e f g =
    let listed = front_settlements parts k in
    record {
      items = g;
      listed = (listed.0, e ∙ listed.1 ∙ ap (λ ps. settlements_of ps ++ listed.0) (sym f));
      same = refl;
    }
