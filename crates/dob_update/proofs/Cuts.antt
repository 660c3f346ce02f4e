-- What is cut from an outbox: the parts in front with their items, and what is left.
use Rattle.dob_update.proofs.Common.{◌++◌, ◌+◌, ◌<◌, ◌∙◌, ◌≡◌, ◌≢◌, ◌≤◌, List, [], ap, arith, drop, length, length-take-le, min, refl, subst, sym, take, ℕ}
use Rattle.dob_update.proofs.Common.{drop_min, take_min, Family, Item, IsCut, OutboxView, left_after, front, items_in_all, items_of_parts, AreItemsRun}
use Rattle.dob_update.proofs.Common.{settlements_of, skip_after, AreListed, IsItemRun, IsRest, PartView}
use Rattle.dob_update.proofs.Runs.{total-front, front_settlements, rest_cut, run_cut, gone_after}
use Rattle.dob_update.proofs.PartItems.{items_in_front}
use Rattle.dob_update.proofs.Queues.{items_after, many_queued, none_queued, queued_after}

-- The first k items of those that the outbox lists are cut, `size` of them or all.
pub record IsCutting (family : Family) (n to : ℕ) (parts : List PartView) (skip : ℕ) (classes : List ℕ) (size k : ℕ) : Type 0 where
  pub listed : AreListed family n to parts skip classes
  pub least : k ≡ min size (length classes)

module _ {family : Family} {n to : ℕ} {parts : List PartView} {skip : ℕ} {classes : List ℕ} {size k : ℕ}
    (cutting : IsCutting family n to parts skip classes size k) where
  abbrev all : List Item
  all = items_of_parts parts classes

  enough : items_in_all parts ≤ length classes
  enough = let counted = cutting.listed.queued.counted in omega (arith, counted)

  pub parts_within : k ≤ items_in_all parts
  parts_within = let counted = cutting.listed.queued.counted in let least = cutting.least in omega (arith, counted, least)

  pub classes_within : k ≤ length classes
  classes_within = let least = cutting.least in omega (arith, least)

  items_within : k ≤ length all
  items_within = let many = many_queued cutting.listed.queued in let least = cutting.least in omega (arith, many, least)

  pub still_listed : AreListed family n to (left_after k parts) (skip_after skip k parts) (drop k classes)
  still_listed = record {
    queued = queued_after k cutting.listed.queued classes_within;
    rest = subst (λ (xs : List Item). IsRest family n to (left_after k parts) (skip_after skip k parts) xs) (sym (items_after k cutting.listed.queued classes_within))
        (rest_cut family n to parts skip k all cutting.listed.rest items_within);
  }

  -- where none is cut, none is there
  pub none_there : 0 < size → k ≡ 0 → all ≡ []
  none_there some none = let least = cutting.least in (none_queued cutting.listed.queued).1 (omega (arith, some, none, least))

  pub some_there : k ≢ 0 → all ≢ []
  some_there some none = some (let no_class = (none_queued cutting.listed.queued).0 none in let least = cutting.least in omega (arith, no_class, least))

  module _ (taken : List PartView) (gone : List ℕ) (taken_is : taken ≡ front k parts) (gone_is : gone ≡ take k classes) where
    abbrev items : List Item
    items = items_of_parts taken gone

    items_are : items ≡ take k all
    items_are = ap (λ (ps : List PartView). items_of_parts ps gone) taken_is ∙ ap (λ (xs : List ℕ). items_of_parts (front k parts) xs) gone_is
        ∙ items_in_front k parts classes enough parts_within

    pub run_taken : k ≢ 0 → AreItemsRun family n to taken skip gone
    run_taken some = record {
      counted = let many = total-front parts k parts_within in ap items_in_all taken_is ∙ many ∙ sym (ap length gone_is ∙ length-take-le k classes classes_within);
      run = subst (λ (xs : List Item). IsItemRun family n to taken skip xs) (sym items_are)
          (subst (λ (ps : List PartView). IsItemRun family n to ps skip (take k all)) (sym taken_is)
          (run_cut family n to parts skip k all cutting.listed.rest (omega (arith, some)) items_within));
    }

    pub is_cut : (from next new_skip : ℕ) (left : List PartView) (others : List ℕ) → left ≡ left_after k parts → new_skip ≡ skip_after skip k parts → others ≡ drop k classes →
        (let old : OutboxView = record { family = family; n = n; from = from; to = to; settlements = settlements_of parts; skip = skip; items = all; next = next } in
        IsCut old size
        (record { family = family; n = n; from = from; to = to; number = next; settlements = settlements_of taken; skip = skip; items = items })
        (record old { settlements = settlements_of left; skip = new_skip; items = items_of_parts left others; next = next + 1 }))
    is_cut from next new_skip left others left_is skip_is others_are =
        let listed = front_settlements parts k in
        let g = gone_after family n to parts skip k cutting.listed.rest.parts_fit parts_within in
        let least : k ≡ min size (length all) = (let all_listed = many_queued cutting.listed.queued in let few = cutting.least in omega (arith, all_listed, few)) in
        record {
          items = items_are ∙ ap (λ m. take m all) least ∙ take_min size all;
          left = ap (λ (ps : List PartView). items_of_parts ps others) left_is ∙ ap (λ xs. items_of_parts (left_after k parts) xs) others_are
              ∙ items_after k cutting.listed.queued classes_within ∙ ap (λ m. drop m all) least ∙ drop_min size all;
          skip = refl;
          number = refl;
          next = refl;
          listed = (listed.0, listed.1 ∙ ap (λ ps. settlements_of ps ++ listed.0) (sym taken_is));
          kept = (
            g.gone,
            g.apart ∙ ap (λ ps. g.gone ++ settlements_of ps) (sym left_is),
            omega (arith, g.many, skip_is, ap length items_are ∙ length-take-le k all items_within),
          );
          of_link = (refl, refl, refl, refl);
          same_link = (refl, refl, refl, refl);
        }
