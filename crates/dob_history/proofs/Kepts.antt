-- What an item taken makes of a node's cells and of its history.
use Rattle.dob_history.proofs.Common.{◌%◌, ◌++◌, ◌+◌, ◌/◌, ◌<◌, ◌^◌, ◌∙◌, ◌≡◌, ◌≤◌, All, All-append, All-cons, All-nil, AreKept, Cell, CellCanTake, Draw}
use Rattle.dob_history.proofs.Common.{Family, Fits, HasItemEntries, HasParities, HasSettled, HistoryView, IsApplication, IsEntry, IsOwn, IsTaken, Item}
use Rattle.dob_history.proofs.Common.{KnowsLossWithin, List, Loss, None, Ok, Open, Option, SameClasses, Settlement, Share, Some, Status, StatusesView}
use Rattle.dob_history.proofs.Common.{StayKept, Stored, Value, Win, [], ap, append-nil, arith, cases_eq, cell_at, classes_of, div-le_self, inl, inr, length}
use Rattle.dob_history.proofs.Common.{length-append, listed, owner_of, places_of, starts_count, status_at, subst, sym, take, ℕ}
use Rattle.dob_history.proofs.Stored.{seen, count_is}
use Rattle.dob_history.proofs.Starts.{parities_same, parities_changed, entry_now}

-- ---- what is not refused fits
sure_within : (plies : ℕ) (least : Option ℕ) → ¬ ¬ KnowsLossWithin plies least → KnowsLossWithin plies least
sure_within plies None sure = absurd (sure (λ none. none))
sure_within plies (Some least) sure = grind arith

sure_takes : (was now : Value) (cell : Cell) → ¬ ¬ CellCanTake was now cell → CellCanTake was now cell
sure_takes Draw (Win now) cell sure = grind arith
sure_takes Draw (Loss now) cell sure = grind arith
sure_takes (Win was) (Win now) cell sure = (grind arith, grind arith)
sure_takes (Loss was) (Loss now) cell sure = (grind arith, sure_within was cell.least (λ no. sure (λ yes. no yes.1)))
sure_takes was now cell sure = absurd (sure (λ none. none))

sure_open : (status : Status) → ¬ ¬ (status ≡ Open) → status ≡ Open
sure_open status sure = grind arith

pub sure_fits : (share : Share) (item : Item) → ¬ ¬ Fits share item → Fits share item
unfolding Fits IsOwn
sure_fits share item sure = (
  (
    (let once : ¬ ¬ (item.to % share.nodes ≡ share.id) = λ no. sure (λ fits. no fits.0.0) in grind arith),
    (let within : ¬ ¬ (item.to / share.nodes < share.statuses.places) = λ no. sure (λ fits. no fits.0.1) in grind arith),
  ),
  sure_open (status_at share item.to) (λ no. sure (λ fits. no fits.1)),
  sure_takes item.was item.now (cell_at share item.to) (λ no. sure (λ fits. no fits.2)),
)

pub fits_own : (share : Share) (item : Item) → Fits share item → IsOwn share item.to
unfolding Fits
fits_own share item fits = fits.0

-- a history to which nothing is added
pub same_history : (history : HistoryView) → history ≡ record history { settlements = history.settlements ++ []; room = history.room }
same_history history = ap (λ (xs : List Settlement). record history { settlements = xs }) (sym (append-nil history.settlements))

-- ---- the same classes
same_owned : (old new : Share) → SameClasses old new → (class : ℕ) → IsOwn new class → IsOwn old class
unfolding IsOwn places_of
same_owned old new same class own = rw (same.nodes, same.id, same.places) at own

-- ---- an item that is applied is taken
pub taken_by : (share after : Share) (item : Item) (given : Option Settlement) (history grown : HistoryView) → HasItemEntries item → IsApplication share item (Ok given) after →
    grown ≡ record history { settlements = history.settlements ++ listed given; room = grown.room } → IsTaken item share after history grown
taken_by share after item given history grown entries applied is = record {
  fits = sure_fits share item (λ no. let e = applied.contradiction.1 no in cc);
  entries = entries;
  classes = applied.classes;
  cell = applied.cell;
  others = applied.others;
  settled = (given, applied.settled, is);
}

-- A settlement with that number, of a class of owner `id` among n, such as a history can store.
pub record IsNews (n id number : ℕ) (s : Settlement) : Type 0 where
  pub number_is : s.number ≡ number
  pub own : owner_of n s.class ≡ id
  pub place : s.class / n < 2 ^ 32
  pub was : IsEntry s.was
  pub now : IsEntry s.now

-- it is stored behind those that are there
pub news_seen : (n id room count : ℕ) (starts : StatusesView) (stored : List Stored) {view : HistoryView} → count + room ≤ length stored →
    seen n id room starts (take count stored) ≡ view → (s : Settlement) → IsNews view.n view.id (length view.settlements) s →
    IsNews n id (starts_count starts + count) s
news_seen n id room count starts stored {view = view} all is s news =
    subst (λ (k : ℕ). IsNews n id k s) (sym (count_is n id room count starts stored all is))
    (subst (λ (v : HistoryView). IsNews v.n v.id (length view.settlements) s) (sym is) news)

module _ (family : Family) (n id : ℕ) (share after : Share) (history grown : HistoryView) (item : Item) (kept : AreKept family n id share history)
    (taken : IsTaken item share after history grown) where
  own : IsOwn share item.to
  own = fits_own share item taken.fits

  mine : (owner_of n item.to ≡ id) × (item.to < classes_of family)
  mine = (kept.owned item.to).0 own

  parities_there : HasParities (cell_at after item.to)
  parities_there = parities_same taken.cell (parities_changed item.was item.now (cell_at share item.to) taken.entries.0 taken.entries.1 (kept.parities item.to own))

  parities_all : (class : ℕ) → IsOwn after class → HasParities (cell_at after class)
  parities_all class own_after = elim (cases_eq class item.to) [
    | inl is ↦ rw is parities_there
    | inr other ↦
        let before : IsOwn share class = same_owned share after taken.classes class own_after in
        parities_same (taken.others class before other) (kept.parities class before)
  ]

  -- what is asked of a settlement
  pub news_is : (s : Settlement) → HasSettled share after item.to (Some s) → IsNews history.n history.id (length history.settlements) s
  news_is s settled = record {
    number_is = settled.1 ∙ kept.counted;
    own = rw (settled.2, kept.history_is.0, kept.history_is.1) mine.0;
    place = omega (arith, mine.1, kept.few, div-le_self s.class history.n, settled.2);
    was = entry_now share item.to s.was own (kept.parities item.to own) settled.3;
    now = entry_now after item.to s.now (taken.classes.owned item.to own) parities_there settled.4;
  }

  -- what is kept
  settled_count : (given : Option Settlement) → HasSettled share after item.to given →
      after.settled ≡ length (history.settlements ++ listed given)
  settled_count given settled = grind (arith, kept.counted, length-append)

  settled_classes : (given : Option Settlement) → HasSettled share after item.to given →
      All (λ (s : Settlement). s.class < classes_of family) (listed given)
  settled_classes None settled = All-nil (λ (s : Settlement). s.class < classes_of family)
  settled_classes (Some s) settled = All-cons (λ (s : Settlement). s.class < classes_of family) s [] (rw settled.2 mine.1) (All-nil _)

  pub kept_still : AreKept family n id after grown
  kept_still = subst (λ (view : HistoryView). AreKept family n id after view) (sym taken.settled.2) (record {
    share_is = (taken.classes.nodes ∙ kept.share_is.0, taken.classes.id ∙ kept.share_is.1);
    history_is = kept.history_is;
    one_of_n = kept.one_of_n;
    few = kept.few;
    owned = λ class. (
      λ own_after. (kept.owned class).0 (same_owned share after taken.classes class own_after),
      λ it. taken.classes.owned class ((kept.owned class).1 it),
    );
    counted = settled_count taken.settled.0 taken.settled.1;
    classes = All-append (λ (s : Settlement). s.class < classes_of family) history.settlements (listed taken.settled.0) kept.classes
        (settled_classes taken.settled.0 taken.settled.1);
    parities = parities_all;
  })

-- ---- what stays kept

-- by the share's own numbers
pub kept_own : {family : Family} {n id : ℕ} {share : Share} {history : HistoryView} → AreKept family n id share history →
    AreKept family share.nodes share.id share history
kept_own {family = family} {n = n} {share = share} {history = history} kept =
    subst (λ (m : ℕ). AreKept family m share.id share history) (sym kept.share_is.0)
    (subst (λ (k : ℕ). AreKept family n k share history) (sym kept.share_is.1) kept)

pub kept_back : {family : Family} {n id : ℕ} {share after : Share} {history grown : HistoryView} → AreKept family n id share history →
    StayKept share history after grown → AreKept family n id after grown
kept_back {family = family} {id = id} {share = share} {after = after} {grown = grown} kept still =
    subst (λ (m : ℕ). AreKept family m id after grown) kept.share_is.0
    (subst (λ (k : ℕ). AreKept family share.nodes k after grown) kept.share_is.1 (still family (kept_own kept)))

-- what is expanded is less than a longer history
pub emitted_still : (item : Item) (share after : Share) (history grown : HistoryView) (expanded : ℕ) → IsTaken item share after history grown →
    expanded ≤ length history.settlements → expanded ≤ length grown.settlements
emitted_still item share after history grown expanded taken emitted =
    omega (arith, length-append history.settlements (listed taken.settled.0), ap (λ (view : HistoryView). length view.settlements) taken.settled.2)
