-- Items taken one after the other, whose classes were looked at before.
use Rattle.dob_history.proofs.Common.{◌%◌, ◌++◌, ◌+◌, ◌<◌, ◌∙◌, ◌∷◌, ◌≡◌, ◌≢◌, ◌≤◌, AreKept, AreSeen, AreTaken, AreTakenBefore}
use Rattle.dob_history.proofs.Common.{Cause, Err, Family, HistoryView, IfErr, IsErrAnd, IsHistory, IsReason, IsSeen, IsTaken, Item, List}
use Rattle.dob_history.proofs.Common.{Draw, Ok, OnOk, StayKept, Option, Result, Share, StopsAt, StopsFirst, TakesFirst, [], add-one, ap, arith, cases_eq}
use Rattle.dob_history.proofs.Common.{drop, drop-append_seam, drop-cons, err_from_is_err_and, get_or, get_or-set_other, get_or-set_same, get_or_default}
use Rattle.dob_history.proofs.Common.{inl, inr, length, refl, set, subst, suc, sym, take, take-append-drop, take-suc, zero}
use Rattle.dob_history.proofs.Common.{ℕ}
use Rattle.std.proofs.lemmas.List.{append-nil, drop_all, length-take-le, take_all}
use Rattle.dob_history.proofs.Kepts.{emitted_still, kept_back}
use Rattle.dob_share.proofs.PartItems.{items_of_parts-length, part_item, parts_before, parts_more}
use Rattle.dob_share.specs.Items.{item_for, items_in_all, items_of_parts, PartView}
use Rattle.dob_share.specs.declared.share.Seen.{Seen}
use Rattle.dob_share.specs.declared.cause.Cause.TheVariants as cause

-- an item of no class, where a list has none
pub no_item : Item
no_item = record { number = 0; to = 0; was = Draw; now = Draw }

-- ---- room doesn't matter
one_with_room : (item : Item) (share after : Share) (history grown : HistoryView) (room : ℕ) → IsTaken item share after (record history { room = room }) grown →
    IsTaken item share after history grown
one_with_room item share after history grown room taken = assumption

-- what is taken with other room is taken
pub all_with_room : (items : List Item) (share after : Share) (history mid grown : HistoryView) → IsHistory history mid →
    AreTaken items share after mid grown → AreTaken items share after history grown
all_with_room items share after history mid grown same taken =
    alike items (subst (λ (h : HistoryView). AreTaken items share after h grown) same taken)
  where
    alike : (items : List Item) → AreTaken items share after (record history { room = mid.room }) grown → AreTaken items share after history grown
    alike [] none = none
    alike (item ∷ items) all = (all.0, all.1, one_with_room item share all.0 history all.1 mid.room all.2, all.3)

pub stops_with_room : (items : List Item) (share : Share) (history mid : HistoryView) (why : Cause) → IsHistory history mid →
    StopsAt items share mid why → StopsAt items share history why
stops_with_room items share history mid why same stops = record {
  front = stops.front;
  item = stops.item;
  behind = stops.behind;
  items_are = stops.items_are;
  after = stops.after;
  grown = stops.grown;
  taken = all_with_room stops.front share stops.after history mid stops.grown same stops.taken;
  reason = stops.reason;
}

-- ---- one more

-- one more at the end
pub taken_more : (front : List Item) (item : Item) (share mid after : Share) (history longer grown : HistoryView) →
    AreTaken front share mid history longer → IsTaken item mid after longer grown → AreTaken (front ++ item ∷ []) share after history grown
taken_more [] item share mid after history longer grown none taken = (
  after,
  grown,
  one_with_room item share after history grown longer.room (rw (← none.0) (subst (λ (h : HistoryView). IsTaken item mid after h grown) none.1 taken)),
  (refl, refl),
)
taken_more (first ∷ front) item share mid after history longer grown before taken = (
  before.0,
  before.1,
  before.2,
  taken_more front item before.0 mid after before.1 longer grown before.3 taken,
)

-- the one at a place is the next
pub taken_next : (items : List Item) (k : ℕ) (default : Item) (share mid after : Share) (history longer grown : HistoryView) → k < length items →
    AreTaken (take k items) share mid history longer → IsTaken (get_or items k default) mid after longer grown →
    AreTaken (take (k + 1) items) share after history grown
taken_next items k default share mid after history longer grown low before taken =
    subst (λ xs. AreTaken xs share after history grown) (sym (rw add-one (take-suc items k default low)))
    (taken_more (take k items) (get_or items k default) share mid after history longer grown before taken)

pub stops_there : (items : List Item) (k : ℕ) (default : Item) (share mid : Share) (history longer : HistoryView) (why : Cause) → k < length items →
    AreTaken (take k items) share mid history longer → IsReason (get_or items k default) mid why → StopsAt items share history why
stops_there items k default share mid history longer why low before reason = record {
  front = take k items;
  item = get_or items k default;
  behind = drop (k + 1) items;
  items_are = sym (take-append-drop k items) ∙ ap (λ xs. take k items ++ xs) (rw add-one (drop-cons items k default low));
  after = mid;
  grown = longer;
  taken = before;
  reason = reason;
}

-- where the item that can't be taken changes nothing, just those before it are taken
pub taken_before : (items : List Item) (k : ℕ) (default : Item) (share mid after : Share) (history longer grown : HistoryView) (why : Cause) →
    k < length items → AreTaken (take k items) share mid history longer → (after ≡ mid) × (grown ≡ longer) → IsReason (get_or items k default) mid why →
    AreTakenBefore items k share after history grown why
taken_before items k default share mid after history longer grown why low before same reason = record {
  front = take k items;
  item = get_or items k default;
  behind = drop (k + 1) items;
  items_are = sym (take-append-drop k items) ∙ ap (λ xs. take k items ++ xs) (rw add-one (drop-cons items k default low));
  counted = length-take-le k items (omega arith);
  taken = rw (same.0, same.1) before;
  reason = rw same.0 reason;
}

-- what holds of an error holds of it where it is handed on
pub carried : {T E : Type 0} (Q : E → Type 0) (r : Result T E) (why : E) → IsErrAnd r (λ given. given ≡ why) → Q why → IfErr r Q
carried Q r why is holds =
    let given = err_from_is_err_and r is in
    subst (λ s. IfErr s Q) (sym given.1) (subst Q (sym given.2) holds)

-- what is expanded is less than the longer history
pub emitted_all : (items : List Item) (share after : Share) (history grown : HistoryView) (expanded : ℕ) → AreTaken items share after history grown →
    expanded ≤ length history.settlements → expanded ≤ length grown.settlements
emitted_all [] share after history grown expanded none emitted =
    subst (λ (h : HistoryView). expanded ≤ length h.settlements) (sym none.1) emitted
emitted_all (item ∷ items) share after history grown expanded taken emitted =
    emitted_all items taken.0 after taken.1 grown expanded taken.3 (emitted_still item share taken.0 history taken.1 expanded taken.2 emitted)

-- ---- a batch

-- what is kept stays so with other room
pub kept_with_room : (family : Family) (n id : ℕ) (share : Share) (history mid : HistoryView) → IsHistory history mid → AreKept family n id share history →
    AreKept family n id share mid
kept_with_room family n id share history mid same kept = subst (λ (h : HistoryView). AreKept family n id share h) (sym same) assumption

-- where room is refused, none is taken
pub stops_first : (items : List Item) (share : Share) (history : HistoryView) → 0 < length items → StopsAt items share history cause.Memory
stops_first [] share history some = absurd (omega arith)
stops_first (item ∷ items) share history some = record {
  front = [];
  item = item;
  behind = items;
  items_are = refl;
  after = share;
  grown = history;
  taken = (refl, refl);
  reason = tt;
}

-- ---- a queue: those that are taken are the first of it, and gone
pub takes_none : (items : List Item) (share : Share) (history : HistoryView) → TakesFirst items items share share history history
takes_none items share history = record { front = []; items_are = refl; taken = (refl, refl) }

module _ (queue : List Item) (count : ℕ) (share after : Share) (history grown : HistoryView) where
  left : (why : Cause) (before : AreTakenBefore queue count share after history grown why) → drop count queue ≡ before.item ∷ before.behind
  left why before = ap (λ (k : ℕ). drop k queue) (sym before.counted) ∙ ap (drop (length before.front)) before.items_are
      ∙ drop-append_seam before.front (before.item ∷ before.behind)

  none_left : count ≡ length queue → drop count queue ≡ []
  none_left all = drop_all count queue (omega (arith, all))

  pub front_taken : (result : Result (Unit {0}) Cause) → OnOk result (AreTaken queue share after history grown) → OnOk result (count ≡ length queue) →
      IfErr result (λ why. AreTakenBefore queue count share after history grown why) → TakesFirst queue (drop count queue) share after history grown
  front_taken (Ok done) taken all before = record { front = queue; items_are = sym (append-nil queue) ∙ ap (λ xs. queue ++ xs) (sym (none_left all)); taken = taken }
  front_taken (Err why) taken all before = record {
    front = before.front;
    items_are = before.items_are ∙ ap (λ xs. before.front ++ xs) (sym (left why before));
    taken = before.taken;
  }

  pub front_stops : (result : Result (Unit {0}) Cause) → IfErr result (λ why. AreTakenBefore queue count share after history grown why) →
      IfErr result (λ why. StopsFirst (drop count queue) after why)
  front_stops (Ok done) before = tt
  front_stops (Err why) before = record { item = before.item; behind = before.behind; first = left why before; reason = before.reason }

  pub front_all : (result : Result (Unit {0}) Cause) → OnOk result (count ≡ length queue) → OnOk result (drop count queue ≡ [])
  front_all (Ok done) all = none_left all
  front_all (Err why) all = tt

-- ---- classes looked at before their items are taken

-- for the classes from the first up to the end, what stands at the place of each in its group holds of the class
unfoldable pub AreHeld : {A : Type 0} → (ℕ → A → Type 0) → ℕ → ℕ → List ℕ → List A → Type 0
AreHeld {A = A} holds first end classes held = (place class : ℕ) (x : A) → first ≤ place → place < end →
    class ≡ get_or classes place class → x ≡ get_or held (place % 32) x → holds class x

pub none_held : {A : Type 0} (holds : ℕ → A → Type 0) (first : ℕ) (classes : List ℕ) (held : List A) → AreHeld holds first first classes held
unfolding AreHeld
none_held holds first classes held place class x from below class_is x_is = absurd (omega arith)

-- one more
pub one_held : {A : Type 0} (holds : ℕ → A → Type 0) (first end : ℕ) (classes : List ℕ) (held : List A) (default : ℕ) (new : A) →
    first % 32 ≡ 0 → end < first + 32 → first ≤ end → end < length classes → length held ≡ 32 → holds (get_or classes end default) new →
    AreHeld holds first end classes held → AreHeld holds first (end + 1) classes (set held (end % 32) new)
unfolding AreHeld
one_held holds first end classes held default new starts near from inside whole is so_far place class x after below class_is x_is =
    elim (cases_eq place end) [
      | inl e ↦
          let same_class : class ≡ get_or classes end default = class_is ∙ ap (λ (k : ℕ). get_or classes k class) e ∙ get_or_default classes end class default inside in
          let same : x ≡ new = x_is ∙ ap (λ (k : ℕ). get_or (set held (end % 32) new) (k % 32) x) e
          ∙ get_or-set_same held (end % 32) new x (omega arith) in
          rw (same_class, same) is
      | inr n ↦
          let apart : place % 32 ≢ end % 32 = omega arith in
          so_far place class x after (omega arith) class_is (x_is ∙ get_or-set_other held (end % 32) (place % 32) new x apart)
    ]

read_again : {A : Type 0} (xs : List A) (k : ℕ) (default : A) → get_or xs k default ≡ get_or xs k (get_or xs k default)
read_again [] k default = refl
read_again (x ∷ xs) zero default = refl
read_again (x ∷ xs) (suc k) default = read_again xs k default

-- the one at a place
pub held_at : {A : Type 0} (holds : ℕ → A → Type 0) (first end : ℕ) (classes : List ℕ) (held : List A) (default place : ℕ) (x : A) →
    AreHeld holds first end classes held → first ≤ place → place < end → x ≡ get_or held (place % 32) x → holds (get_or classes place default) x
unfolding AreHeld
held_at holds first end classes held default place x all from below x_is =
    all place (get_or classes place default) x from below (read_again classes place default) x_is

-- all of the group
pub group_looked : (first end : ℕ) (share : Share) (classes : List ℕ) (looks : List (Option Seen)) → first % 32 ≡ 0 →
    ((place : ℕ) → place < length classes → place < first + 32 → place < end) →
    AreHeld (IsSeen share) first end classes looks → AreSeen first share classes looks
unfolding AreHeld AreSeen
group_looked first end share classes looks starts all looked place class look inside group class_is look_is =
    looked place class look (omega arith) (all place inside (omega arith)) class_is look_is

-- what has been seen of the class that is next
pub seen_next : (next : ℕ) (share : Share) (classes : List ℕ) (looks : List (Option Seen)) (class : ℕ) (look : Option Seen) →
    AreSeen next share classes looks → next < length classes → class ≡ get_or classes next class → IsSeen share class (get_or looks (next % 32) look)
unfolding AreSeen
seen_next next share classes looks class look seen inside class_is =
    seen next class (get_or looks (next % 32) look) inside refl class_is (read_again looks (next % 32) look)

-- behind it
pub seen_after : (next : ℕ) (share after : Share) (classes : List ℕ) (looks : List (Option Seen)) →
    ((class : ℕ) (look : Option Seen) → IsSeen share class look → IsSeen after class look) → AreSeen next share classes looks →
    0 < (next + 1) % 32 → AreSeen (next + 1) after classes looks
unfolding AreSeen
seen_after next share after classes looks still seen within place class look inside group class_is look_is =
    still class look (seen place class look inside (omega arith) class_is look_is)

-- ---- the items of parts, one after the other

-- the first items of the parts are taken, so many, and the classes of a group that has begun were looked at
pub record IsTaking (parts : List PartView) (classes : List ℕ) (count : ℕ) (share after : Share) (history grown : HistoryView) (looks : List (Option Seen)) : Type 0 where
  pub taken : AreTaken (take count (items_of_parts parts classes)) share after history grown
  pub room : history.room ≤ grown.room + count
  pub kept : (family : Family) → AreKept family share.nodes share.id share history → AreKept family share.nodes share.id after grown
  pub seen : 0 < count % 32 → AreSeen count after classes looks

pub none_taken : (parts : List PartView) (classes : List ℕ) (share : Share) (history : HistoryView) (looks : List (Option Seen)) →
    IsTaking parts classes 0 share share history history looks
none_taken parts classes share history looks = record { taken = (refl, refl); room = omega arith; kept = λ family kept. kept; seen = λ within. absurd (omega arith) }

-- The next item is one of a part.
pub record IsNext (parts : List PartView) (classes : List ℕ) (k index count : ℕ) (part : PartView) (class : ℕ) : Type 0 where
  pub listed : items_in_all parts ≡ length classes
  pub there : k < length parts
  pub read : part ≡ get_or parts k part
  pub low : index < part.items
  pub counted : count ≡ items_in_all (take k parts) + index
  pub class_is : class ≡ get_or classes count class

module _ {parts : List PartView} {classes : List ℕ} {k index count : ℕ} {part : PartView} {class : ℕ} (next : IsNext parts classes k index count part class) where
  abbrev items : List Item
  items = items_of_parts parts classes

  pub next_within : count < length classes
  next_within = let few = parts_before parts k part next.there next.read in omega (arith, next.listed, next.low, next.counted, few)

  pub item_within : count < length items
  item_within = let many = items_of_parts-length parts classes (omega (arith, next.listed)) in omega (arith, many, next_within, next.listed)

  pub item_is : (default : Item) → get_or items count default ≡ item_for part.settlement class
  item_is default = part_item parts classes k index count part class default next.there next.read next.low (omega (arith, next.listed)) next.counted next.class_is

  module _ {share mid : Share} {history longer : HistoryView} {looks : List (Option Seen)} (so_far : IsTaking parts classes count share mid history longer looks) where
    pub one_taken : {after : Share} {grown : HistoryView} {looked : List (Option Seen)} → IsTaken (item_for part.settlement class) mid after longer grown →
        longer.room ≤ grown.room + 1 → StayKept mid longer after grown → ((class : ℕ) (look : Option Seen) → IsSeen mid class look → IsSeen after class look) →
        AreSeen count mid classes looked → IsTaking parts classes (count + 1) share after history grown looked
    one_taken {after = after} {grown = grown} {looked = looked} one room kept seen looks = record {
      taken = taken_next items count no_item share mid after history longer grown item_within so_far.taken
          (subst (λ (item : Item). IsTaken item mid after longer grown) (sym (item_is no_item)) one);
      room = let before = so_far.room in omega (arith, before, room);
      kept = λ family whole. kept_back (so_far.kept family whole) kept;
      seen = seen_after count mid after classes looked seen looks;
    }

    pub stopped_there : (why : Cause) → IsReason (item_for part.settlement class) mid why → StopsAt items share history why
    stopped_there why reason = stops_there items count no_item share mid history longer why item_within so_far.taken
        (subst (λ (item : Item). IsReason item mid why) (sym (item_is no_item)) reason)

    pub before_there : {after : Share} {grown : HistoryView} (why : Cause) → (after ≡ mid) × (grown ≡ longer) → IsReason (item_for part.settlement class) mid why →
        AreTakenBefore items count share after history grown why
    before_there {after = after} {grown = grown} why same reason =
        taken_before items count no_item share mid after history longer grown why item_within so_far.taken same
        (subst (λ (item : Item). IsReason item mid why) (sym (item_is no_item)) reason)

-- it is, by the part and the class that stand there
pub is_next : (parts : List PartView) (classes : List ℕ) (k index count : ℕ) (part : PartView) → items_in_all parts ≡ length classes → k < length parts →
    part ≡ get_or parts k part → index < part.items → count ≡ items_in_all (take k parts) + index → IsNext parts classes k index count part (get_or classes count 0)
is_next parts classes k index count part listed there read low counted = record {
  listed = listed;
  there = there;
  read = read;
  low = low;
  counted = counted;
  class_is = read_again classes count 0;
}

-- behind the items of a part are those of the next one
pub part_done : (parts : List PartView) (k index count : ℕ) (part : PartView) → k < length parts → part ≡ get_or parts k part → index ≡ part.items →
    count ≡ items_in_all (take k parts) + index → count ≡ items_in_all (take (k + 1) parts)
part_done parts k index count part there read done counted = let more = parts_more parts k part there read in omega (arith, more, done, counted)

pub all_counted : (parts : List PartView) (classes : List ℕ) (k count : ℕ) → items_in_all parts ≡ length classes → length parts ≤ k →
    count ≡ items_in_all (take k parts) → count ≡ length classes
all_counted parts classes k count listed past counted = counted ∙ ap items_in_all (take_all k parts past) ∙ listed

-- all are taken
pub all_taken : {parts : List PartView} {classes : List ℕ} {count : ℕ} {share after : Share} {history grown : HistoryView} {looks : List (Option Seen)} →
    items_in_all parts ≡ length classes → count ≡ length classes → IsTaking parts classes count share after history grown looks →
    AreTaken (items_of_parts parts classes) share after history grown
all_taken {parts = parts} {classes = classes} {count = count} {share = share} {after = after} {history = history} {grown = grown} listed all so_far =
    subst (λ (xs : List Item). AreTaken xs share after history grown)
    (take_all count (items_of_parts parts classes) (let many = items_of_parts-length parts classes (omega (arith, listed)) in omega (arith, many, all, listed)))
    so_far.taken
