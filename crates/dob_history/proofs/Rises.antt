-- Falls: how far they go, and what goes before one. A settlement is no better than its class's present value. What the next item makes of a
-- class has a fall: so each settlement keeps one, and no distance exceeds the classes.
use Rattle.std.proofs.lemmas.List.Elements.{All-map}
use Rattle.dob_history.proofs.Common.{◌&&◌, ◌++◌, ◌+◌, ◌<◌, ◌∙◌, ◌∷◌, ◌≡◌, ◌≢◌, ◌≤◌, ◌⊎◌, All-cons, All-contains, All-nil, AreAfter, AreLawfulNodes, AreSettled}
use Rattle.dob_history.proofs.Common.{Better, Bool, CanApply, Cell, CellValue, CellValue-same, Contains, Contains-append_cases, Contains-append_left}
use Rattle.dob_history.proofs.Common.{Contains-append_right, Draw, Falls, Family, FollowsFromKnown, HaveFalls, IsCellWithin, IsChained, IsFall, IsFirst}
use Rattle.dob_history.proofs.Common.{IsLeastLoss, IsNext, IsNextItem, IsOneMore, IsSettlement, IsShort, IsTooDeep, Item, List, Loss, NoWorse, RestsOn, SameCell}
use Rattle.dob_history.proofs.Common.{Settlement, Some, Status, SumsUp, Value, Win, [], all_known, ap, append-nil, append_assoc, arith, cases_Bool, cases_eq}
use Rattle.dob_history.proofs.Common.{changed, class_of_place, classes_of, cond, cons_cases, counted, eqb, fresh, get_or, head_in, inl, inr, is_win_in, items_to}
use Rattle.dob_history.proofs.Common.{known, known_of, last_now, length, length-map, ltb, map, nat_tests, none_in_empty, opening_settlements, opening_value}
use Rattle.dob_history.proofs.Common.{owner_of, plies_of, predecessors, range_with_len, refl, subst, sums_up_after, sym, value_of, ℕ}
use Rattle.std.proofs.Common.{All, AllPairs}
use Rattle.dob_share.proofs.Growing.{no_worse}
use Rattle.dob_history.proofs.Starts.{all_started}
use Rattle.dob_history.proofs.Copies.{only_one, known_by}
use Rattle.dob_history.proofs.Rest.{below_owner}
use Rattle.dob_history.proofs.Kept.{better_apart}
use Rattle.dob_history.proofs.ValuesFollow.{is_that_win, value_follows}
use Rattle.dob_history.proofs.Totals.{some_known}
use Rattle.dob_history.proofs.Steps.{better, can_apply, learns_here}
use Rattle.std.proofs.lemmas.List.FromFn.{length-range_with_len, get_or-range_with_len}
use Rattle.std.proofs.lemmas.List.Kept.{AllPairs-cons}
use Rattle.dob_classes.proofs.OfFamilies.Counted.{no_longer, pairs-head, pairs-tail}
use Rattle.dob_history.proofs.Settles.{value_of-more}

-- ---- better values
no_worse_trans : (a b c : Value) → NoWorse a b → NoWorse b c → NoWorse a c
no_worse_trans a b c one two = grind arith

no_more_plies : (a b : Value) → a ≢ Draw → NoWorse a b → plies_of b ≤ plies_of a
no_more_plies a b settled no_worse = grind arith

pub better_settled : (a b : Value) → Better a b → b ≢ Draw
better_settled a b better same = grind arith

-- ---- present values

-- a value of a chained history is no better than a later one
present_from : (classes n node : ℕ) (history : List Settlement) (q : ℕ) → IsChained classes n node history →
    (before behind : List Settlement) → history ≡ before ++ behind → NoWorse (value_of before q) (value_of history q)
present_from classes n node history q chained before [] is = inl (ap (λ xs. value_of xs q) (sym (is ∙ append-nil before)))
present_from classes n node history q chained before (s ∷ behind) is =
    no_worse_trans (value_of before q) (value_of (before ++ s ∷ []) q) (value_of history q) step
    (present_from classes n node history q chained (before ++ s ∷ []) behind (is ∙ sym (append_assoc before (s ∷ []) behind)))
  where
    next : IsNext classes n node before s
    next = chained before s behind is

    step : NoWorse (value_of before q) (value_of (before ++ s ∷ []) q)
    step = rw (value_of-more before s q) (grind (arith, nat_tests, next.was, next.better))

-- a list that has an element, around it
pub parted : {X : Type 0} (xs : List X) (x : X) → Contains xs x → (before : List X) × (behind : List X) × (xs ≡ before ++ x ∷ behind)
parted [] x there = absurd (none_in_empty x there)
parted (y ∷ xs) x there = elim (cons_cases y xs x there) [
  | inl same ↦ ([], xs, ap (λ z. z ∷ xs) same)
  | inr later ↦ let at = parted xs x later in (y ∷ at.0, at.1, ap (λ zs. y ∷ zs) at.2)
]

-- a settlement of a history is of one of its owner's classes, and no better than the class's present value
own_settlement : (classes n node : ℕ) (history : List Settlement) (t : Settlement) → IsChained classes n node history → Contains history t →
    (t.class < classes) × (owner_of n t.class ≡ node) × NoWorse t.now (value_of history t.class)
own_settlement classes n node history t chained there =
    let at = parted history t there in
    let next = chained at.0 t at.1 at.2 in
    let now_is : value_of (at.0 ++ t ∷ []) t.class ≡ t.now = grind (arith, nat_tests, value_of-more at.0 t t.class) in
    let from = present_from classes n node history t.class chained (at.0 ++ t ∷ []) at.1 (at.2 ∙ sym (append_assoc at.0 (t ∷ []) at.1)) in
    (next.below, next.own, rw now_is at from)

-- ---- how far a fall goes
rests_more : (a b : Value) → RestsOn a b → (plies_of a ≡ plies_of b + 1) × (a ≢ Draw) × (b ≢ Draw)
rests_more a b rests = grind arith

first_near : (v : Value) → IsFirst v → plies_of v ≤ 1
first_near v first = grind arith

not_draw : (s : Settlement) (others : List Settlement) → Falls s others → s.now ≢ Draw
not_draw s [] falls same = subst IsFirst same falls
not_draw s (t ∷ others) falls same = (rests_more s.now t.now falls.0).1 same

how_far : (s : Settlement) (others : List Settlement) → Falls s others → plies_of s.now ≤ length (s ∷ others)
how_far s [] falls = first_near s.now falls
how_far s (t ∷ others) falls = omega (arith, (rests_more s.now t.now falls.0).0, how_far t others falls.1)

-- the others have lesser distances
abbrev IsNearer : Settlement → Settlement → Type 0
IsNearer s t = (plies_of t.now < plies_of s.now) × (t.now ≢ Draw)

nearer : (s : Settlement) (others : List Settlement) → Falls s others → All (IsNearer s) others
nearer s [] falls = All-nil (IsNearer s)
nearer s (t ∷ others) falls =
    let more = (rests_more s.now t.now falls.0).0 in
    let rest = nearer t others falls.1 in
    All-cons (IsNearer s) t others (omega (arith, more), not_draw t others falls.1)
    (λ k d below. let there = rest k d below in (omega (arith, more, there.0), there.1))

-- ---- as many as the classes
abbrev class_of : Settlement → ℕ
class_of s = s.class

abbrev AreApart : List Settlement → Type 0
AreApart xs = AllPairs (λ (a b : Settlement). a.class ≢ b.class) xs

classes_apart : (xs : List Settlement) → AreApart xs → AllPairs (λ (a b : ℕ). a ≢ b) (map class_of xs)
classes_apart [] apart = λ i j d less within. absurd (omega arith)
classes_apart (x ∷ xs) apart = AllPairs-cons (λ (a b : ℕ). a ≢ b) x.class (map class_of xs)
    (All-map (λ (c : ℕ). x.class ≢ c) class_of xs (pairs-head (λ (a b : Settlement). a.class ≢ b.class) x xs apart))
    (classes_apart xs (pairs-tail (λ (a b : Settlement). a.class ≢ b.class) x xs apart))

in_range : (n k : ℕ) → k < n → Contains (range_with_len 0 n) k
in_range n k low = (k, omega (arith, length-range_with_len 0 n, low), omega (arith, get_or-range_with_len 0 n k k low))

few_apart : (bound : ℕ) (xs : List Settlement) → AreApart xs → All (λ (s : Settlement). s.class < bound) xs → length xs ≤ bound
few_apart bound xs apart low =
    let all = All-map (λ (c : ℕ). c < bound) class_of xs low in
    let most = no_longer (map class_of xs) (range_with_len 0 bound) (classes_apart xs apart)
    (λ c there. in_range bound c (All-contains (λ (d : ℕ). d < bound) (map class_of xs) c all there)) in
    omega (arith, most, length-map xs class_of, length-range_with_len 0 bound)

-- ---- falls in chained histories

module _ (classes n : ℕ) (histories : ℕ → List Settlement) (chained : (i : ℕ) → i < n → IsChained classes n i (histories i)) where
  pub low_class : (t : Settlement) → IsSettlement n histories t → t.class < classes
  low_class t at = (own_settlement classes n at.0 (histories at.0) t (chained at.0 at.1) at.2).0

  present : (t : Settlement) → IsSettlement n histories t → NoWorse t.now (value_of (histories (owner_of n t.class)) t.class)
  present t at =
      let own = own_settlement classes n at.0 (histories at.0) t (chained at.0 at.1) at.2 in
      subst (λ i. NoWorse t.now (value_of (histories i) t.class)) (sym own.1) own.2

  -- the first distance of a fall is at most the number of classes
  pub fall_within : (s : Settlement) (others : List Settlement) → s.class < classes → IsFall n histories s others → plies_of s.now ≤ classes
  fall_within s others low fall =
      let most = few_apart classes (s ∷ others) fall.apart
      (All-cons (λ (t : Settlement). t.class < classes) s others low (λ k d below. low_class (get_or others k d) (fall.settled k d below))) in
      let far = how_far s others fall.falls in
      omega (arith, most, far)

  -- What rests on a settlement goes before its fall, where its class had no better value: the class isn't in the fall.
  pub goes_before : (s t : Settlement) (others : List Settlement) → IsSettlement n histories t → IsFall n histories t others → RestsOn s.now t.now →
      NoWorse (value_of (histories (owner_of n s.class)) s.class) s.now → IsFall n histories s (t ∷ others)
  goes_before s t others at fall rests no_worse = record {
    settled = all;
    apart = AllPairs-cons (λ (a b : Settlement). a.class ≢ b.class) s (t ∷ others)
        (λ k d below. other_class (get_or (t ∷ others) k d) (all k d below) (near k d below)) fall.apart;
    falls = falls;
  }
    where
      falls : Falls s (t ∷ others)
      falls = (rests, fall.falls)

      all : All (IsSettlement n histories) (t ∷ others)
      all = All-cons (IsSettlement n histories) t others at fall.settled

      near : All (IsNearer s) (t ∷ others)
      near = nearer s (t ∷ others) falls

      other_class : (u : Settlement) → IsSettlement n histories u → IsNearer s u → s.class ≢ u.class
      other_class u there less same =
          let was = subst (λ (c : ℕ). NoWorse u.now (value_of (histories (owner_of n c)) c)) (sym same) (present u there) in
          let most = no_more_plies u.now s.now less.1 (no_worse_trans u.now (value_of (histories (owner_of n s.class)) s.class) s.now was no_worse) in
          absurd (omega (arith, most, less.0))

-- ---- what copies know was settled
last_from : (test : Settlement → Bool) (v : Value) (ss : List Settlement) →
    (last_now test v ss ≡ v) ⊎ ((s : Settlement) × Contains ss s × (s.now ≡ last_now test v ss))
last_from test v [] = inl refl
last_from test v (s ∷ ss) = elim (last_from test (cond (test s) s.now v) ss) [
  | inl same ↦ elim (cases_Bool (test s)) [ inl is ↦ inr (s, head_in s ss, rw (same, is) refl) | inr isnt ↦ inl (rw (same, isnt) refl) ]
  | inr found ↦ inr (found.0, Contains-append_right (s ∷ []) ss found.0 found.1, found.2)
]

known_from : (targets : ℕ → List ℕ) (classes n : ℕ) (histories : ℕ → List Settlement) (applied : ℕ → List Item) (p : ℕ) → 0 < n → (v : Value) →
    v ≢ Draw → Contains (all_known targets classes n histories applied p) v → (t : Settlement) × IsSettlement n histories t × (t.now ≡ v)
known_from targets classes n histories applied p some v settled there =
    let at = known_by targets classes n histories applied p v there in
    elim (last_from (λ s. eqb s.class at.0 && ltb at.2 (items_to (applied (owner_of n at.0)) s.number p)) Draw (histories (owner_of n at.0))) [
      | inl none ↦ absurd (settled (sym at.4 ∙ none))
      | inr found ↦ (found.0, (owner_of n at.0, below_owner n at.0 some, found.1), found.2 ∙ at.4)
    ]

-- a value that follows rests on a known one
rests_on_known : (known : List Value) (v : Value) → FollowsFromKnown known v → v ≢ Draw → (u : Value) × Contains known u × RestsOn v u
rests_on_known known (Win plies) follows settled = (Loss follows.0, follows.2, follows.1)
rests_on_known known (Loss plies) follows settled = (Win follows.0, follows.2, follows.1)
rests_on_known known Draw follows settled = absurd (settled refl)

short_within : (v : Value) → plies_of v < 65535 → IsShort v
short_within v low = grind arith

-- ---- cells
within_same : (bound : ℕ) (a b : Cell) → SameCell a b → IsCellWithin bound b → IsCellWithin bound a
within_same bound a b same within = grind arith

pub fresh_within : (bound moves : ℕ) (cell : Cell) → SameCell cell (fresh moves) → IsCellWithin bound cell
fresh_within bound moves cell same = grind arith

pub same_back : (a b : Cell) → SameCell a b → SameCell b a
same_back a b same = grind arith

-- ---- the start

-- what is settled at an opening rests on nothing
one_first : (status : Status) (now : Value) → opening_value status ≡ Some now → IsFirst now
one_first status now is = grind arith

pub opened_first : (status : ℕ → Status) (n id places : ℕ) → All (λ (s : Settlement). IsFirst s.now) (opening_settlements status n id places)
opened_first status n id places = all_started (λ (s : Settlement). IsFirst s.now) (λ place. status (class_of_place n id place)) n id places
    (λ place number now low is. one_first (status (class_of_place n id place)) now is)

-- Histories whose settlements all rest on nothing have falls, where no cell knows anything.
pub falls_start : (family : Family) (n : ℕ) (histories : ℕ → List Settlement) (cell : ℕ → Cell) →
    ((i : ℕ) → i < n → IsChained (classes_of family) n i (histories i)) → ((i : ℕ) → i < n → All (λ (s : Settlement). IsFirst s.now) (histories i)) →
    ((class : ℕ) → class < classes_of family → IsCellWithin (classes_of family) (cell class)) → HaveFalls family n histories cell
falls_start family n histories cell chained first cells = record {
  each = λ s at. ([], alone s at);
  settled = λ s at. fall_within (classes_of family) n histories chained s [] (low_class (classes_of family) n histories chained s at) (alone s at);
  cells = cells;
}
  where
    alone : (s : Settlement) → IsSettlement n histories s → IsFall n histories s []
    alone s at = record {
      settled = All-nil (IsSettlement n histories);
      apart = λ i j d less within. absurd (omega (arith, less, within));
      falls = All-contains (λ (t : Settlement). IsFirst t.now) (histories at.0) s (first at.0 at.1) at.2;
    }

-- ---- one item more

module _ (family : Family) (n : ℕ) (histories : ℕ → List Settlement) (applied : ℕ → ℕ → List Item) (cell : ℕ → Cell) (value : ℕ → Value)
    (some : 0 < n) (lawful : AreLawfulNodes family n histories applied cell value) (have : HaveFalls family n histories cell) (i j : ℕ) (low_i : i < n)
    (low_j : j < n) (item : Item) (is_next : IsNextItem family n histories applied i j item) where
  abbrev classes : ℕ
  classes = classes_of family

  abbrev to : ℕ
  to = item.to

  abbrev after : ℕ → ℕ → List Item
  after k m = cond (eqb k i && eqb m j) (applied i j ++ item ∷ []) (applied k m)

  is_applied : IsOneMore i j item applied after
  is_applied = grind (arith, nat_tests)

  can : CanApply family n j cell item
  can = can_apply family n histories applied cell value some lawful i j low_i low_j item is_next

  -- what the class's copies know then, and the cell that sums it up
  abbrev taught : List Value
  taught = known_of family n histories after to

  abbrev cell_then : Cell
  cell_then = changed item.was item.now (cell to)

  sums : SumsUp taught cell_then
  sums = sums_up_after (known_of family n histories applied to) taught item.was item.now (cell to)
      (better family n histories applied cell value some lawful i j low_i low_j item is_next)
      (learns_here family n histories applied cell value some lawful i j low_i low_j item is_next after is_applied)
      (lawful.sums to can.below can.is_open)

  from_settlement : (v : Value) → v ≢ Draw → Contains taught v → (t : Settlement) × IsSettlement n histories t × (t.now ≡ v)
  from_settlement v settled there =
      known_from (predecessors family) classes n histories (λ k. after k (owner_of n to)) to some v settled there

  no_worse_then : (v : Value) → CellValue cell_then v → NoWorse (value_of (histories (owner_of n to)) to) v
  no_worse_then v gives = subst (λ u. NoWorse u v) (lawful.values to can.below)
      (no_worse item.was item.now (cell to) (value to) v can.takes (lawful.cell_values to can.below can.is_open) gives)

  -- a settlement of the class with the value that the cell gives then has a fall
  rises : (v : Value) → CellValue cell_then v → v ≢ Draw →
      (others : List Settlement) × ((s : Settlement) → s.class ≡ to → s.now ≡ v → IsFall n histories s others)
  rises v gives settled =
      let follows = value_follows taught cell_then v sums
      (some_known family to can.below n histories (λ k. after k (owner_of n to)) can.is_open) gives in
      let on = rests_on_known taught v follows settled in
      let from = from_settlement on.0 (rests_more v on.0 on.2).2 on.1 in
      let fall = have.each from.0 from.1 in (
        from.0 ∷ fall.0,
        λ s class now. goes_before classes n histories lawful.chained s from.0 fall.0 from.1 fall.1 (rw (now, from.2) on.2)
            (rw (class, now) (no_worse_then v gives)),
      )

  abbrev news_of : Value → Settlement
  news_of v = record { number = length (histories j); class = to; was = value to; now = v }

  settled_within : (v : Value) → CellValue cell_then v → v ≢ Draw → plies_of v ≤ classes
  settled_within v gives settled =
      let rise = rises v gives settled in
      fall_within classes n histories lawful.chained (news_of v) rise.0 can.below (rise.1 (news_of v) refl refl)

  -- its distance is at most the number of classes
  pub rises_within : (v : Value) → CellValue cell_then v → plies_of v ≤ classes
  rises_within (Win plies) gives = settled_within (Win plies) gives (λ same. cc)
  rises_within (Loss plies) gives = settled_within (Loss plies) gives (λ same. cc)
  rises_within Draw gives = omega arith

  -- so for few classes the item doesn't go too deep
  pub not_too_deep : classes < 65535 → IsTooDeep cell_then → ⊥
  not_too_deep few deep = let most = rises_within deep.0 deep.1 in deep.2 (short_within deep.0 (omega (arith, most, few)))

  known_within : (v : Value) → v ≢ Draw → Contains taught v → plies_of v ≤ classes
  known_within v settled there =
      let from = from_settlement v settled there in
      subst (λ w. plies_of w ≤ classes) from.2 (have.settled from.0 from.1)

  cell_within : IsCellWithin classes cell_then
  cell_within = record {
    wins = λ plies above.
        let count = sums.wins plies in
        let found = counted (is_win_in plies) taught (omega (arith, count, above)) in
        known_within (Win plies) (λ same. cc) (subst (Contains taught) (is_that_win plies found.0 found.2) found.1);
    least = λ plies is.
        let least : IsLeastLoss taught (Some plies) = subst (IsLeastLoss taught) is sums.least in
        known_within (Loss plies) (λ same. cc) least.0;
  }

  module _ (cells : ℕ → Cell) (worth : ℕ → Value) (are_after : AreAfter item cell cells value worth) (grown : ℕ → List Settlement)
      (settles : AreSettled j to (value to) (worth to) histories grown) where
    gives_now : CellValue cell_then (worth to)
    gives_now = CellValue-same cell_then (cells to) (worth to) (same_back (cells to) cell_then are_after.cell_is) are_after.gives

    abbrev news : Settlement
    news = news_of (worth to)

    -- each history has grown by nothing or by the new settlement
    grows : (k : ℕ) → (more : List Settlement) × (grown k ≡ histories k ++ more) × ((s : Settlement) → Contains more s → (s ≡ news) × (worth to ≢ Draw))
    grows k = elim (cases_eq k j) [
      | inl own ↦ elim are_after.better [
        | inl same ↦ ([], rw (own, settles.same same, append-nil) refl, λ s there. absurd (none_in_empty s there))
        | inr is_better ↦ (
          news ∷ [],
          rw own (settles.more (better_apart (value to) (worth to) is_better)),
          λ s there. (sym (only_one news s there), better_settled (value to) (worth to) is_better),
        )
      ]
      | inr other ↦ ([], rw append-nil (settles.others k other), λ s there. absurd (none_in_empty s there))
    ]

    -- a settlement of the histories now was there before, or is the new one
    old_or_new : (s : Settlement) → IsSettlement n grown s → IsSettlement n histories s ⊎ ((s ≡ news) × (worth to ≢ Draw))
    old_or_new s at = let more = grows at.0 in elim (Contains-append_cases (histories at.0) more.0 s (rw more.1 at at.2)) [
      | inl earlier ↦ inl (at.0, at.1, earlier)
      | inr last ↦ inr (more.2 s last)
    ]

    still_there : (s : Settlement) → IsSettlement n histories s → IsSettlement n grown s
    still_there s at = let more = grows at.0 in (at.0, at.1, rw more.1 (Contains-append_left (histories at.0) more.0 s at.2))

    fall_stays : (s : Settlement) (others : List Settlement) → IsFall n histories s others → IsFall n grown s others
    fall_stays s others fall = record {
      settled = λ k d below. still_there (get_or others k d) (fall.settled k d below);
      apart = fall.apart;
      falls = fall.falls;
    }

    -- after the item and the settlement that it makes, the histories have falls again
    pub falls_stay : HaveFalls family n grown cells
    falls_stay = record {
      each = λ s at. elim (old_or_new s at) [
        | inl old ↦ let fall = have.each s old in (fall.0, fall_stays s fall.0 fall.1)
        | inr new ↦
            let rise = rises (worth to) gives_now new.1 in
            (rise.0, fall_stays s rise.0 (rise.1 s (ap (λ (t : Settlement). t.class) new.0) (ap (λ (t : Settlement). t.now) new.0)))
      ];
      settled = λ s at. elim (old_or_new s at) [
        | inl old ↦ have.settled s old
        | inr new ↦ subst (λ w. plies_of w ≤ classes) (sym (ap (λ (t : Settlement). t.now) new.0)) (rises_within (worth to) gives_now)
      ];
      cells = λ class low. elim (cases_eq class to) [
        | inl same ↦ rw same (within_same classes (cells to) cell_then are_after.cell_is cell_within)
        | inr other ↦ within_same classes (cells class) (cell class) (are_after.others class other).0 (have.cells class low)
      ];
    }
