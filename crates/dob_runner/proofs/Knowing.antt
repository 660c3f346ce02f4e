-- What a node has applied and what it knows: when it is opened, and after each step of its runner.
use Rattle.dob_runner.proofs.Common.{◌*◌, ◌++◌, ◌+◌, ◌-◌, ◌<◌, ◌∙◌, ◌∷◌, ◌≡◌, ◌≢◌, ◌≤◌, Contains, List, None, Option, Some, [], ap, append_assoc, arith, cond}
use Rattle.dob_runner.proofs.Common.{drop, eqb, inl, inr, length, length-append, min, refl, rules, subst, suc, sym, take, zero, ℕ, cases_eq, cases_lt, eq-eqb}
use Rattle.dob_runner.proofs.Common.{ne_eqb, append-nil, drop-append-le, take-append-le, All-append, All-cons, All-nil}
use Rattle.dob_runner.proofs.Common.{Contains-append_right, All, slice_get, at_end, Family, Status, Open, class_setup, classes_of, IsEntry, Value, Draw, Loss}
use Rattle.dob_runner.proofs.Common.{Win, predecessors, CellValue-same, Cell, Changes, SameCell, SumsUp, changed, fresh, owner_of, Item, Settlement, Share}
use Rattle.dob_runner.proofs.Common.{items_in_more, BatchView, items_of_batches, items_from, kept_sound, chained_more, value_of-more, SumsUp-same, IsChained}
use Rattle.dob_runner.proofs.Common.{IsNext, all_known, value_of, IsOpened, IsSound, HistoryView, AreKept, AreTaken, IsTaken, listed, Node}
use Rattle.dob_runner.proofs.Common.{batches_of, AreCellsSummed, CanHaveMade, KnowsRight, least_loss, sum_of, AreLast, applied_from, items_worked, own_applied}
use Rattle.dob_runner.proofs.Common.{planned, worked, Inlet, others_more, fits_own, kept_still, news_is}
use Rattle.dob_chan.proofs.Deliveries.{own_more as batch_more}
use Rattle.dob_pieces.proofs.Lists.{none_in_empty, head_in, cons_cases}
use Rattle.dob_distance.specs.Distances.{IsLeastLoss, lesser_of}
use Rattle.dob_distance.proofs.Distances.{same_loss}
use Rattle.dob_share.specs.Values.{Better}
use Rattle.dob_share.specs.Shares.{status_at, cell_at, IsValue, HasValueNow, HasSettled, IsOwn, places_of}
use Rattle.dob_share.proofs.Sums.{sums_up_after}
use Rattle.dob_history.proofs.Splits.{IsMade, IsFrom, split, made_from}
use Rattle.dob_history.proofs.Learns.{learnt, nothing_learnt}
use Rattle.dob_history.proofs.Kept.{all_known-same}
use Rattle.dob_node.proofs.ItemChanges.{one_value, fits_open, value_elsewhere}
use Rattle.dob_history.proofs.Rises.{same_back}
use Rattle.dob_moves.specs.MoveLists.{moves_of}
use Rattle.dob_moves.proofs.Cases.{one_status}
use Rattle.dob_share.specs.declared.opening.Opening.{Opening}
use Rattle.dob_history.specs.Openings.{AreOpenings}
use Rattle.dob_history.specs.OpeningLists.{opening_value, opening_status}
use Rattle.dob_history.proofs.Totals.{start_sums}
use Rattle.dob_history.proofs.Opens.{listed_opening}
use Rattle.dob_history.proofs.Beginnings.{or_else, opened_value, opened_chained, opened_entries}

-- items that are taken make a history that goes on
pub history_grown : (items : List Item) (share after : Share) (history grown : HistoryView) → AreTaken items share after history grown →
    (more : List Settlement) × (grown.settlements ≡ history.settlements ++ more)
history_grown [] share after history grown none = ([], ap (λ (h : HistoryView). h.settlements) none.1 ∙ sym (append-nil history.settlements))
history_grown (item ∷ items) share after history grown taken =
    let first = taken.2.settled in
    let rest = history_grown items taken.0 after taken.1 grown taken.3 in (
      listed first.0 ++ rest.0,
      rest.1 ∙ ap (λ (h : HistoryView). h.settlements ++ rest.0) first.2 ∙ append_assoc history.settlements (listed first.0) rest.0,
    )

-- ---- the last of a list
pub last_more : (whole last more : List Item) → AreLast whole last → AreLast (whole ++ more) (last ++ more)
last_more whole last more are =
    let same : length (whole ++ more) - length (last ++ more) ≡ length whole - length last =
    omega (arith, length-append whole more, length-append last more) in
    ap (λ k. drop k (whole ++ more)) same
    ∙ drop-append-le (length whole - length last) whole more (omega arith)
    ∙ ap (λ xs. xs ++ more) are

drop_next : (k : ℕ) (xs : List Item) (x : Item) (rest : List Item) → drop k xs ≡ x ∷ rest → drop (suc k) xs ≡ rest
drop_next zero [] x rest e = absurd (cc)
drop_next (suc k) [] x rest e = absurd (cc)
drop_next zero (y ∷ xs) x rest e = cc
drop_next (suc k) (y ∷ xs) x rest e = drop_next k xs x rest e

pub last_less : (whole : List Item) (item : Item) (last : List Item) → AreLast whole (item ∷ last) → AreLast whole last
last_less whole item last are = grind (arith, drop_next)

-- ---- batches

-- what was said of each batch, and of one more
pub each_more : (P : BatchView → Type 0) (batches : List BatchView) (batch : BatchView) →
    ((k : ℕ) (b : BatchView) → slice_get batches k ≡ Some b → P b) → P batch →
    (k : ℕ) (b : BatchView) → slice_get (batches ++ batch ∷ []) k ≡ Some b → P b
each_more P batches batch each last k b at = elim (at_end batches batch b k at) [ inl before ↦ each k b before | inr here ↦ subst P here.1 last ]

-- ---- what a node has applied from each node, after each step of its runner
take_next : (k : ℕ) (xs : List Item) (x : Item) (rest : List Item) → drop k xs ≡ x ∷ rest → take (suc k) xs ≡ take k xs ++ x ∷ []
take_next zero [] x rest e = absurd (cc)
take_next zero (y ∷ xs) x rest e = let same : y ≡ x = cc in ap (λ z. z ∷ []) same
take_next (suc k) [] x rest e = absurd (cc)
take_next (suc k) (y ∷ xs) x rest e = ap (λ zs. y ∷ zs) (take_next k xs x rest e)

-- one gone more
pub own_less : (whole own : List Item) (item : Item) (rest : List Item) → AreLast whole own → own ≡ item ∷ rest →
    take (length whole - length rest) whole ≡ take (length whole - length own) whole ++ item ∷ []
own_less whole own item rest are is = grind (arith, take_next)

-- more planned, and as many left
pub own_more : (whole own more : List Item) → take (length (whole ++ more) - length (own ++ more)) (whole ++ more) ≡ take (length whole - length own) whole
own_more whole own more =
    let same : length (whole ++ more) - length (own ++ more) ≡ length whole - length own =
    omega (arith, length-append whole more, length-append own more) in
    ap (λ k. take k (whole ++ more)) same ∙ take-append-le (length whole - length own) whole more (omega arith)

pub own_still : (old new : Node) → planned new new.id ≡ planned old old.id → new.own ≡ old.own → own_applied new ≡ own_applied old
own_still old new plan own = λ q. take (length (plan q) - length (own q)) (plan q)

-- ---- each node's
pub applied_here : (node : Node) (inlet : Inlet) (k : ℕ) → k ≡ node.id → applied_from node inlet k ≡ own_applied node
applied_here node inlet k is = ap (λ b. cond b (own_applied node) (items_worked inlet k)) (eq-eqb k node.id is)

pub applied_else : (node : Node) (inlet : Inlet) (k : ℕ) → k ≢ node.id → applied_from node inlet k ≡ items_worked inlet k
applied_else node inlet k other = ap (λ b. cond b (own_applied node) (items_worked inlet k)) (ne_eqb k node.id other)

pub applied_still : (old new : Node) (before after : Inlet) → new.id ≡ old.id → own_applied new ≡ own_applied old →
    ((k : ℕ) → items_worked after k ≡ items_worked before k) → (k : ℕ) → applied_from new after k ≡ applied_from old before k
applied_still old new before after id own same k = λ q. cond (eqb k (id q)) (own q) (same k q)

-- ---- what was worked in
pub worked_again : (before after : Inlet) → worked after ≡ worked before → (k : ℕ) → items_worked after k ≡ items_worked before k
worked_again before after same k = ap (λ (bs : List BatchView). items_of_batches (batches_of k bs)) same

-- one batch more is one of its sender's more
pub worked_more : (before after : Inlet) (batch : BatchView) → worked after ≡ worked before ++ batch ∷ [] →
    items_worked after batch.from ≡ items_worked before batch.from ++ batch.items
worked_more before after batch more = grind (arith, batch_more, items_in_more)

pub worked_else : (before after : Inlet) (batch : BatchView) → worked after ≡ worked before ++ batch ∷ [] → (k : ℕ) → k ≢ batch.from →
    items_worked after k ≡ items_worked before k
worked_else before after batch more k other = grind (arith, others_more)

-- ---- what is known, told of the node after a step
pub knows_after : (old new : Node) (applied : ℕ → List Item) → new.family ≡ old.family → new.id ≡ old.id → new.n ≡ old.n →
    KnowsRight old.family old.n old.id new.share new.history.settlements applied → KnowsRight new.family new.n new.id new.share new.history.settlements applied
knows_after old new applied family_is id_is n_is knows = grind arith

-- ---- cells that are the sum of what is known, as an equation and as a relation
behind : (known : List Value) (v w : Value) → Contains known w → Contains (v ∷ known) w
behind known v w there = Contains-append_right (v ∷ []) known w there

-- ---- the least loss

-- what is so of each loss that is known is so with one value more
each_loss : (P : ℕ → Type 0) (known : List Value) (v : Value) → ((plies : ℕ) → v ≡ Loss plies → P plies) →
    ((plies : ℕ) → Contains known (Loss plies) → P plies) → (plies : ℕ) → Contains (v ∷ known) (Loss plies) → P plies
each_loss P known v here later plies there = elim (cons_cases v known (Loss plies) there) [ inl is ↦ here plies is | inr is ↦ later plies is ]

-- a value that is no loss
least_same : (known : List Value) (v : Value) (least : Option ℕ) → ((plies : ℕ) → v ≡ Loss plies → ⊥) → IsLeastLoss known least → IsLeastLoss (v ∷ known) least
least_same known v None no_loss is = each_loss (λ plies. ⊥) known v no_loss is
least_same known v (Some least) no_loss is =
    (behind known v (Loss least) is.0, each_loss (λ plies. least ≤ plies) known v (λ plies e. absurd (no_loss plies e)) is.1)

-- a loss
least_more : (known : List Value) (loss : ℕ) (least : Option ℕ) → IsLeastLoss known least → IsLeastLoss (Loss loss ∷ known) (Some (lesser_of least loss))
least_more known loss None is = (
  head_in (Loss loss) known,
  each_loss (λ plies. loss ≤ plies) known (Loss loss) (λ plies e. (let same : loss ≡ plies = same_loss loss plies e in omega arith))
      (λ plies there. absurd (is plies there)),
)
least_more known loss (Some least) is = (
  elim (cases_lt loss least) [
    | inl more ↦ subst (λ k. Contains (Loss loss ∷ known) (Loss k)) (let e : loss ≡ min least loss = omega arith in e) (head_in (Loss loss) known)
    | inr less ↦ behind known (Loss loss) (Loss (min least loss)) (subst (λ k. Contains known (Loss k)) (let e : least ≡ min least loss = omega arith in e) is.0)
  ],
  each_loss (λ plies. min least loss ≤ plies) known (Loss loss) (λ plies e. (let same : loss ≡ plies = same_loss loss plies e in omega arith))
      (λ plies there. (let within : least ≤ plies = is.1 plies there in omega arith)),
)

least_is : (known : List Value) → IsLeastLoss known (least_loss known)
least_is [] = λ plies there. none_in_empty (Loss plies) there
least_is (Loss plies ∷ known) = least_more known plies (least_loss known) (least_is known)
least_is (Win plies ∷ known) = least_same known (Win plies) (least_loss known) (λ k e. cc) (least_is known)
least_is (Draw ∷ known) = least_same known Draw (least_loss known) (λ k e. cc) (least_is known)

one_least : (known : List Value) (a b : Option ℕ) → IsLeastLoss known a → IsLeastLoss known b → a ≡ b
one_least known None None one other = refl
one_least known None (Some b) one other = absurd (one b other.0)
one_least known (Some a) None one other = absurd (other a one.0)
one_least known (Some a) (Some b) one other =
    let less : a ≤ b = one.1 b other.0 in
    let more : b ≤ a = other.1 a one.0 in
    ap Some (let e : a ≡ b = omega arith in e)

-- ---- the cell
pub sums_by : (known : List Value) (cell : Cell) → SameCell cell (sum_of known) → SumsUp known cell
sums_by known cell same = grind (arith, least_is)

pub is_sum : (known : List Value) (cell : Cell) → SumsUp known cell → SameCell cell (sum_of known)
is_sum known cell sums = grind (arith, one_least, least_is)

-- ---- what a node knows stays right, whatever it takes
abbrev pub known_by : Family → ℕ → (ℕ → List Settlement) → (ℕ → List Item) → ℕ → List Value
known_by family n histories applied class = all_known (predecessors family) (classes_of family) n histories applied class

-- ---- cells that say the same
pub same_cells : (a b c : Cell) → SameCell a b → SameCell b c → SameCell a c
same_cells a b c one other = search rules

value_same : (status : Status) (a b : Cell) (v : Value) → SameCell a b → IsValue status a v → IsValue status b v
value_same Open a b v same is = CellValue-same b a v (same_back a b same) is
value_same _ a b v same is = is

value_back : (share after : Share) (class : ℕ) (v : Value) → status_at after class ≡ status_at share class → SameCell (cell_at after class) (cell_at share class) →
    HasValueNow after class v → HasValueNow share class v
value_back share after class v status same is = search (rules, value_same)

one_open_value : (status : Status) (cell : Cell) (v w : Value) → status ≡ Open → IsValue status cell v → IsValue status cell w → v ≡ w
one_open_value status cell v w is =
    subst (λ s. IsValue s cell v → IsValue s cell w → v ≡ w) (sym is) (λ one other. one_value cell v w one other)

-- ---- one item more of one node

module _ (family : Family) (n id : ℕ) (histories : ℕ → List Settlement) (applied after : ℕ → List Item) (i : ℕ) (low : i < n) (item : Item)
    (could : CanHaveMade family n id histories after) (grown : after i ≡ applied i ++ item ∷ []) (same_else : (k : ℕ) → k ≢ i → after k ≡ applied k) where
  abbrev rest : List Item
  rest = (could.begun i low).0

  is_next : items_from (predecessors family) n id (histories i) ≡ applied i ++ item ∷ rest
  is_next = (could.begun i low).1 ∙ ap (λ a. a ++ rest) grown ∙ append_assoc (applied i) (item ∷ []) rest

  pub could_before : CanHaveMade family n id histories applied
  could_before = record {
    chained = could.chained;
    begun = λ k low_k. elim (cases_eq k i) [
      | inl same ↦ (item ∷ rest, subst (λ m. items_from (predecessors family) n id (histories m) ≡ applied m ++ item ∷ rest) (sym same) is_next)
      | inr other ↦ ((could.begun k low_k).0, (could.begun k low_k).1 ∙ ap (λ a. a ++ (could.begun k low_k).0) (same_else k other))
    ];
  }

  made : IsMade (predecessors family) n id (histories i) (applied i) item
  made = split (predecessors family) n id (histories i) (applied i) item rest is_next

  from : IsFrom n id made.s item
  from = made_from (predecessors family) n id made.s made.part item made.rest made.block_is

  next_is : IsNext (classes_of family) n i made.before made.s
  next_is = could.chained i low made.before made.s made.behind made.history_is

  better : Better item.was item.now
  better = subst (λ (r : Item). Better r.was r.now) (sym from.is) next_is.better

  learns : Changes (known_by family n histories applied item.to) (known_by family n histories after item.to) item.was item.now
  learns = learnt (predecessors family) (classes_of family) n histories applied after i id item (could.chained i low) made grown same_else

  -- the cell of its class
  pub summed_here : (cell new : Cell) → SameCell cell (sum_of (known_by family n histories applied item.to)) → SameCell new (changed item.was item.now cell) →
      SameCell new (sum_of (known_by family n histories after item.to))
  summed_here cell new is step =
      let before = known_by family n histories applied item.to in
      let now = known_by family n histories after item.to in
      is_sum now new (SumsUp-same now new (changed item.was item.now cell) step
      (sums_up_after before now item.was item.now cell better learns (sums_by before cell is)))

  -- and that of another own class
  pub summed_else : (class : ℕ) → owner_of n class ≡ id → class ≢ item.to → (cell : Cell) →
      SameCell cell (sum_of (known_by family n histories applied class)) → SameCell cell (sum_of (known_by family n histories after class))
  summed_else class own other cell is = subst (λ known. SameCell cell (sum_of known))
      (nothing_learnt (predecessors family) (classes_of family) n histories applied after i id item (could.chained i low) made grown same_else class own other) is

module _ (family : Family) (n id : ℕ) (share mid : Share) (history longer : HistoryView) (applied after : ℕ → List Item) (i : ℕ) (low : i < n) (item : Item)
    (grown : after i ≡ applied i ++ item ∷ []) (same_else : (k : ℕ) → k ≢ i → after k ≡ applied k) (kept : AreKept family n id share history)
    (taken : IsTaken item share mid history longer) (knows : KnowsRight family n id share history.settlements applied) where
  abbrev h : List Settlement
  h = history.settlements

  abbrev g : List Settlement
  g = longer.settlements

  mine : (owner_of n item.to ≡ id) × (item.to < classes_of family)
  mine = (kept.owned item.to).0 (fits_own share item taken.fits)

  is_open : status_at share item.to ≡ Open
  is_open = fits_open share item taken.fits

  sums_after : AreCellsSummed family n id mid after
  sums_after histories could class low_class own at_open = elim (cases_eq class item.to) [
    | inl same ↦ subst (λ k. SameCell (cell_at mid k) (sum_of (known_by family n histories after k))) (sym same)
        (summed_here family n id histories applied after i low item could grown same_else (cell_at share item.to) (cell_at mid item.to)
        (knows.sums histories before item.to mine.1 mine.0 is_open) taken.cell)
    | inr other ↦ same_cells (cell_at mid class) (cell_at share class) (sum_of (known_by family n histories after class))
        (taken.others class ((kept.owned class).1 (own, low_class)) other)
        (summed_else family n id histories applied after i low item could grown same_else class own other (cell_at share class)
        (knows.sums histories before class low_class own (sym (taken.classes.statuses class) ∙ at_open)))
  ]
    where
      before : CanHaveMade family n id histories applied
      before = could_before family n id histories applied after i low item could grown same_else

  chained_after : (given : Option Settlement) → HasSettled share mid item.to given → g ≡ h ++ listed given → IsChained (classes_of family) n id g
  chained_after None settled is = subst (λ xs. IsChained (classes_of family) n id xs) (sym (is ∙ append-nil h)) knows.chained
  chained_after (Some s) settled is = subst (λ xs. IsChained (classes_of family) n id xs) (sym is)
      (chained_more (classes_of family) n id h s knows.chained (record {
        number = settled.1 ∙ kept.counted;
        below = subst (λ k. k < classes_of family) (sym settled.2) mine.1;
        own = ap (λ k. owner_of n k) settled.2 ∙ mine.0;
        was = knows.values item.to s.was mine.1 mine.0 settled.3 ∙ ap (λ k. value_of h k) (sym settled.2);
        better = settled.5;
      }))

  entries_after : (given : Option Settlement) → HasSettled share mid item.to given → g ≡ h ++ listed given → All (λ (s : Settlement). IsEntry s.now) g
  entries_after None settled is = subst (λ xs. All (λ (s : Settlement). IsEntry s.now) xs) (sym (is ∙ append-nil h)) knows.entries
  entries_after (Some s) settled is = subst (λ xs. All (λ (s : Settlement). IsEntry s.now) xs) (sym is)
      (All-append (λ (s : Settlement). IsEntry s.now) h (s ∷ []) knows.entries
      (All-cons (λ (s : Settlement). IsEntry s.now) s []
      (news_is family n id share mid history longer item kept taken s settled).now
      (All-nil (λ (s : Settlement). IsEntry s.now))))

  values_after : (given : Option Settlement) → HasSettled share mid item.to given → g ≡ h ++ listed given →
      (class : ℕ) (v : Value) → class < classes_of family → owner_of n class ≡ id → HasValueNow mid class v → v ≡ value_of g class
  values_after given settled is class v low_class own has = elim (cases_eq class item.to) [
    | inl same ↦ subst (λ k. HasValueNow mid k v → v ≡ value_of g k) (sym same) (here given settled is) has
    | inr other ↦
        knows.values class v low_class own
        (value_back share mid class v (taken.classes.statuses class) (taken.others class ((kept.owned class).1 (own, low_class)) other) has)
        ∙ sym (value_elsewhere share mid item.to h g given settled is class other)
  ]
    where
      one : (w : Value) → HasValueNow mid item.to v → HasValueNow mid item.to w → v ≡ w
      one w = one_open_value (status_at mid item.to) (cell_at mid item.to) v w (taken.classes.statuses item.to ∙ is_open)

      here : (o : Option Settlement) → HasSettled share mid item.to o → g ≡ h ++ listed o → HasValueNow mid item.to v → v ≡ value_of g item.to
      here None stays all now =
          one stays.1 now stays.3 ∙ knows.values item.to stays.1 mine.1 mine.0 stays.2
          ∙ ap (λ xs. value_of xs item.to) (sym (all ∙ append-nil h))
      here (Some s) news all now =
          one s.now now news.4
          ∙ ap (λ b. cond b s.now (value_of h item.to)) (sym (eq-eqb s.class item.to news.2))
          ∙ sym (value_of-more h s item.to)
          ∙ ap (λ xs. value_of xs item.to) (sym all)

  pub taken_one : KnowsRight family n id mid g after
  taken_one =
      let is : g ≡ h ++ listed taken.settled.0 = ap (λ (view : HistoryView). view.settlements) taken.settled.2 in record {
        chained = chained_after taken.settled.0 taken.settled.1 is;
        entries = entries_after taken.settled.0 taken.settled.1 is;
        statuses = λ class status low_class own has. taken.classes.statuses class ∙ knows.statuses class status low_class own has;
        values = values_after taken.settled.0 taken.settled.1 is;
        sums = sums_after;
      }

-- ---- the same items applied
pub knows_same : (family : Family) (n id : ℕ) (share : Share) (history : List Settlement) (applied after : ℕ → List Item) → ((k : ℕ) → after k ≡ applied k) →
    KnowsRight family n id share history applied → KnowsRight family n id share history after
knows_same family n id share history applied after same knows = record {
  chained = knows.chained;
  entries = knows.entries;
  statuses = knows.statuses;
  values = knows.values;
  sums = λ histories could class low own at_open. subst (λ known. SameCell (cell_at share class) (sum_of known))
      (sym (all_known-same (predecessors family) (classes_of family) n histories histories applied after class (λ k. refl) same))
      (knows.sums histories (record {
        chained = could.chained;
        begun = λ i low_i. ((could.begun i low_i).0, (could.begun i low_i).1 ∙ ap (λ xs. xs ++ (could.begun i low_i).0) (same i));
      }) class low own at_open);
}

-- ---- items of one node, one after the other
abbrev with_one : (ℕ → List Item) → ℕ → Item → ℕ → List Item
with_one applied i item k = cond (eqb k i) (applied i ++ item ∷ []) (applied k)

pub taken_all : (family : Family) (n id : ℕ) (i : ℕ) → i < n → (items : List Item) (share after : Share) (history grown : HistoryView) (applied later : ℕ → List Item) →
    AreKept family n id share history → AreTaken items share after history grown → later i ≡ applied i ++ items →
    ((k : ℕ) → k ≢ i → later k ≡ applied k) → KnowsRight family n id share history.settlements applied → KnowsRight family n id after grown.settlements later
taken_all family n id i low [] share after history grown applied later kept taken more same knows =
    subst (λ (p : Share × HistoryView). KnowsRight family n id p.0 p.1.settlements later) (λ q. (sym taken.0 q, sym taken.1 q))
    (knows_same family n id share history.settlements applied later all knows)
  where
    all : (k : ℕ) → later k ≡ applied k
    all k = elim (cases_eq k i) [
      | inl here ↦ subst (λ m. later m ≡ applied m) (sym here) (more ∙ append-nil (applied i))
      | inr other ↦ same k other
    ]
taken_all family n id i low (item ∷ items) share after history grown applied later kept taken more same knows =
    taken_all family n id i low items taken.0 after taken.1 grown (with_one applied i item) later kept_between taken.3
    (more ∙ sym (append_assoc (applied i) (item ∷ []) items) ∙ ap (λ xs. xs ++ items) (sym one_more))
    (λ k other. same k other ∙ sym (elsewhere k other))
    (taken_one family n id share taken.0 history taken.1 applied (with_one applied i item) i low item one_more elsewhere kept taken.2 knows)
  where
    one_more : with_one applied i item i ≡ applied i ++ item ∷ []
    one_more = ap (λ b. cond b (applied i ++ item ∷ []) (applied i)) (eq-eqb i i refl)

    elsewhere : (k : ℕ) → k ≢ i → with_one applied i item k ≡ applied k
    elsewhere k other = ap (λ b. cond b (applied i ++ item ∷ []) (applied k)) (ne_eqb k i other)

    kept_between : AreKept family n id taken.0 taken.1
    kept_between = kept_still family n id share taken.0 history taken.1 item kept taken.2

-- ---- what a node knows when it is opened

-- a class of which nothing is known has the value of its status
opened_is : (status : Status) (cell : Cell) (moves : ℕ) (v : Value) → SameCell cell (fresh moves) → IsValue status cell v → v ≡ or_else (opening_value status) Draw
opened_is Open cell moves v same is = one_value cell v Draw is (CellValue-same cell (fresh moves) Draw same (refl, inr (λ plies. refl)))
opened_is _ cell moves v same is = is

module _ (family : Family) (n id : ℕ) (openings : List Opening) (node : Node) (are : AreOpenings family openings) (opened : IsOpened openings family id n node)
    (sound : IsSound node) where
  kept : AreKept family n id node.share node.history
  kept = kept_sound family n id node opened.of sound

  abbrev at_start : List Settlement
  at_start = node.history.settlements

  is_own : (class : ℕ) → class < classes_of family → owner_of n class ≡ id → IsOwn node.share class
  is_own class low own = (kept.owned class).1 (own, low)

  cell_is : (class : ℕ) → class < classes_of family → owner_of n class ≡ id → SameCell (cell_at node.share class) (fresh (length (moves_of family.profile (class_setup family class))))
  cell_is class low own = subst (λ (m : ℕ). SameCell (cell_at node.share class) (fresh m)) (listed_opening family openings class are low).moves
      (opened.cells class (is_own class low own))

  value_is : (class : ℕ) → class < classes_of family → owner_of n class ≡ id → value_of at_start class ≡ or_else (opening_value (opening_status openings class)) Draw
  value_is class low own = grind (arith, opened_value)

  module _ (applied : ℕ → List Item) (none : (k : ℕ) → applied k ≡ []) where
    summed : AreCellsSummed family n id node.share applied
    summed histories could class low own at_open =
        is_sum (known_by family n histories applied class) (cell_at node.share class)
        (SumsUp-same (known_by family n histories applied class) (cell_at node.share class) (fresh (length (moves_of family.profile (class_setup family class))))
        (cell_is class low own) (start_sums family class low n histories applied none))

    pub knows_opened : KnowsRight family n id node.share at_start applied
    knows_opened = record {
      chained = subst (λ xs. IsChained (classes_of family) n id xs) (sym opened.history)
          (opened_chained n id kept.one_of_n (opening_status openings) (classes_of family) (places_of node.share)
          (λ q less. subst (λ (m : ℕ). q * n + id < m) are.whole ((opened.places q).0 less)));
      entries = subst (λ xs. All (λ (s : Settlement). IsEntry s.now) xs) (sym opened.history)
          (opened_entries n id kept.one_of_n (opening_status openings) (places_of node.share));
      statuses = λ class status low own has. opened.statuses class (is_own class low own)
          ∙ one_status family.profile (class_setup family class) (opening_status openings class) status (listed_opening family openings class are low).status has;
      values = λ class v low own has. opened_is (opening_status openings class) (cell_at node.share class) (length (moves_of family.profile (class_setup family class))) v (cell_is class low own)
          (subst (λ s. IsValue s (cell_at node.share class) v) (opened.statuses class (is_own class low own)) has)
          ∙ sym (value_is class low own);
      sums = summed;
    }
