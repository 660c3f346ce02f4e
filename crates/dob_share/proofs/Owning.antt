-- What an item at one place is for the share's classes.
use Rattle.dob_share.proofs.Common.{◌%◌, ◌+◌, ◌/◌, ◌<◌, ◌↔◌, ◌∙◌, ◌≡◌, ArePooled, Better, Cell, CellCanTake, CellValue, Contradiction, Err, Fault, IsApplied}
use Rattle.dob_share.proofs.Common.{IsChange, IsOwn, IsOwnOpen, IsShortCell, IsTooDeep, List, None, Ok, Option, Result, SameCell, Share, CellHead, Some}
use Rattle.dob_share.proofs.Common.{StatusesView, TooDeep, Value, ap, arith, cell_at, cell_in, cell_where, changed, fresh, get_or, inl, inr, length, open_at}
use Rattle.dob_share.proofs.Common.{open_number, opens_below, places_of, refl, start_at, status_at, subst, suc, sym, zero, ℕ}
use Rattle.std.proofs.Props.{props}
use Rattle.dob_share.specs.declared.news.Item.{Item}
use Rattle.dob_share.specs.declared.news.Settlement.{Settlement}
use Rattle.dob_share.specs.declared.share.Seen.{Seen}
use Rattle.dob_share.specs.Shares.{IsCellNumber, IsSeen, HasValueNow, Fits, GoesTooDeep, SameClasses, HasSettled, IsApplication}
use Rattle.dob_share.proofs.Applied.{CellValue-same, read, same_itself}
use Rattle.dob_share.proofs.Words.{open_at_open, rank_less, rank_same}
use Rattle.dob_share.proofs.Growing.{no_worse}

-- a fault handed on, and an answer
err_same : {A B : Type 0} (r : Result A Fault) (answer : Result B Fault) (e f : Fault) {P : Type 0} → answer ≡ Err e → r ≡ Err e →
    ((r ≡ Err f) ↔ P) → ((answer ≡ Err f) ↔ P)
err_same r answer e f a is h = grind arith

ok_same : {A B : Type 0} (r : Result A Fault) (x : A) (y : B) (f : Fault) {P : Type 0} → r ≡ Ok x → ((r ≡ Err f) ↔ P) →
    ((Ok y ≡ Err f) ↔ P)
ok_same r x y f is h = grind arith

is_open : (share : Share) (class : ℕ) → IsOwnOpen share class → open_at share.statuses.words (class / share.nodes) ≡ 1
unfolding IsOwnOpen status_at
is_open share class open_here = open_at_open share.statuses.words (class / share.nodes) open_here.1

-- a place that is open has a cell
pub cell_within : (share : Share) (place number : ℕ) → place < share.statuses.places → open_at share.statuses.words place ≡ 1 →
    number ≡ opens_below share.statuses.words place → number < length share.slots
cell_within share place number low one is = rw (is, share.opens) (rank_less share.statuses.words place share.statuses.places low one)

pub number_within : (share : Share) (class number : ℕ) → IsOwnOpen share class → number ≡ open_number share class → number < length share.slots
unfolding IsOwnOpen IsOwn open_number
number_within share class number open_here is = cell_within share (class / share.nodes) number open_here.0.1 (is_open share class open_here) is

-- what is seen of a class: that it is open, its cell's number, and where its run begins
seen_here : (share : Share) (class : ℕ) (look : Option Seen) (seen : Seen) → look ≡ Some seen → IsSeen share class look →
    IsOwnOpen share class × (seen.place ≡ open_number share class) × (seen.start ≡ start_at share.slots (length share.pool) seen.place)
unfolding IsSeen
seen_here share class look seen e is = rw e at is

-- the cell of a class that was seen is there, and its run begins where it was seen to
pub place_within : (share : Share) (class : ℕ) (look : Option Seen) (seen : Seen) → look ≡ Some seen → IsSeen share class look →
    (seen.place < length share.slots) × (seen.start ≡ start_at share.slots (length share.pool) seen.place)
place_within share class look seen e is =
    let here = seen_here share class look seen e is in
    (number_within share class seen.place here.0 here.1, here.2)

-- the class whose cell has the number is open
numbered : (share : Share) (class place : ℕ) (number : Option ℕ) → number ≡ Some place → IsCellNumber share class number →
    IsOwnOpen share class × (place ≡ open_number share class)
unfolding IsCellNumber
numbered share class place number e is = rw e at is

pub numbered_within : (share : Share) (class place : ℕ) (number : Option ℕ) → number ≡ Some place → IsCellNumber share class number →
    place < length share.slots
numbered_within share class place number e is =
    let here = numbered share class place number e is in
    number_within share class place here.0 here.1

-- what is seen of it, by the number
pub seen_some : (share : Share) (class place : ℕ) (number : Option ℕ) (slot : CellHead) → number ≡ Some place → IsCellNumber share class number →
    slot ≡ get_or share.slots place slot → IsSeen share class (Some (record { place = place; start = slot.start }))
unfolding IsSeen
seen_some share class place number slot e is read_is =
    let here = numbered share class place number e is in
    (here.0, here.1, ap (λ s. s.start) (read share.slots share.pool place slot (number_within share class place here.0 here.1) read_is))

-- with the same owner and the same statuses the classes are the same
classes_same : (old new : Share) → new.id ≡ old.id → new.nodes ≡ old.nodes → new.statuses ≡ old.statuses → SameClasses old new
unfolding places_of IsOwn status_at
classes_same old new id_same n_same same = record {
  id = id_same;
  nodes = n_same;
  places = ap (λ (s : StatusesView). s.places) same;
  owned = λ class own. rw (n_same, id_same, same) own;
  statuses = λ class. rw (n_same, same) refl;
}

open_back : (old new : Share) → new.id ≡ old.id → new.nodes ≡ old.nodes → new.statuses ≡ old.statuses → (class : ℕ) → IsOwnOpen old class → IsOwnOpen new class
unfolding IsOwnOpen
open_back old new id_same n_same same class own =
    let classes = classes_same old new id_same n_same same in
    (classes.owned class own.0, classes.statuses class ∙ own.1)

number_same : (old new : Share) → new.nodes ≡ old.nodes → new.statuses ≡ old.statuses → (class : ℕ) → open_number new class ≡ open_number old class
unfolding open_number
number_same old new n_same same class = rw (n_same, same) refl

pub seen_not : (share : Share) (class : ℕ) (number : Option ℕ) → number ≡ None → IsCellNumber share class number → IsSeen share class None
unfolding IsCellNumber IsSeen
seen_not share class number e is = rw e at is

cell_form : (share : Share) (class : ℕ) →
    cell_at share class ≡ cell_where (open_at share.statuses.words (class / share.nodes)) (cell_in share.slots share.pool (open_number share class))
unfolding cell_at
cell_form share class = refl

pub cell_there : (share : Share) (class place : ℕ) → IsOwnOpen share class → place ≡ open_number share class →
    cell_in share.slots share.pool place ≡ cell_at share class
cell_there share class place open_here is = ap (λ (k : ℕ). cell_in share.slots share.pool k) is
    ∙ sym (cell_form share class ∙ ap (λ (k : ℕ). cell_where k (cell_in share.slots share.pool (open_number share class))) (is_open share class open_here))

where_same : (b : ℕ) (x y : Cell) → b < 2 → (b ≡ 1 → SameCell x y) → SameCell (cell_where b x) (cell_where b y)
where_same zero x y low same = same_itself (fresh 0)
where_same (suc zero) x y low same = same refl
where_same (suc (suc b)) x y low same = absurd (omega arith)

-- the value of an own class that is open, by its cell
pub value_there : (share : Share) (class place : ℕ) (value : Value) → IsOwnOpen share class → place ≡ open_number share class →
    CellValue (cell_in share.slots share.pool place) value → HasValueNow share class value
unfolding IsOwnOpen
value_there share class place value open_here is has = rw (open_here.1, ← cell_there share class place open_here is) has

apart : (n id a b : ℕ) → a % n ≡ id → b % n ≡ id → a / n ≡ b / n → a ≡ b
apart n id a b x y z = grind arith

own_id : (share : Share) (class : ℕ) → IsOwn share class → class % share.nodes ≡ share.id
unfolding IsOwn
own_id share class own = own.0

open_id : (share : Share) (class : ℕ) → IsOwnOpen share class → class % share.nodes ≡ share.id
unfolding IsOwnOpen IsOwn
open_id share class own = own.0.0

-- a value that has changed is better
improved : (was now : Value) (cell after : Cell) (v w : Value) → CellCanTake was now cell → SameCell after (changed was now cell) →
    CellValue cell v → CellValue after w → (v ≡ w → ⊥) → Better v w
improved was now cell after v w takes same is then differs =
    elim (no_worse was now cell v w takes is (CellValue-same (changed was now cell) after w (grind (arith, same)) then)) [
      | inl e ↦ absurd (differs e)
      | inr better ↦ better
    ]

-- what is known of a share with other cells, where these are as many
abbrev Holds : Share → List CellHead → List ℕ → Type 0
Holds share slots pool = (share.id < share.nodes) × (length slots ≡ opens_below share.statuses.words share.statuses.places) × ArePooled slots pool

abbrev with_cells : (share : Share) (slots : List CellHead) (pool : List ℕ) → Holds share slots pool → Share
with_cells share slots pool holds = record share { slots = slots; pool = pool; owner = holds.0; opens = holds.1; pooled = holds.2 }

-- with the same cells it is the same share
same_share : (share : Share) (slots : List CellHead) (pool : List ℕ) → slots ≡ share.slots → pool ≡ share.pool → (holds : Holds share slots pool) →
    with_cells share slots pool holds ≡ share
same_share share slots pool one other =
    subst (λ (xs : List CellHead). (holds : Holds share xs pool) → with_cells share xs pool holds ≡ share) (sym one)
    (subst (λ (ps : List ℕ). (holds : Holds share share.slots ps) → with_cells share share.slots ps holds ≡ share) (sym other)
    (λ holds.
    let alike : IsProp (Holds share share.slots share.pool) = hlevel props in
    ap (with_cells share share.slots share.pool) (alike holds (share.owner, share.opens, share.pooled))))

module _ (old : Share) (item : Item) (look : Option Seen) (seen : Seen) (seen_is : look ≡ Some seen) (looked : IsSeen old item.to look) where
  open_here : IsOwnOpen old item.to
  open_here = (seen_here old item.to look seen seen_is looked).0

  is : seen.place ≡ open_number old item.to
  is = (seen_here old item.to look seen seen_is looked).1

  cell_is : cell_in old.slots old.pool seen.place ≡ cell_at old item.to
  cell_is = cell_there old item.to seen.place open_here is

  misfit_here : {A : Type 0} (r : Result A Fault) → ((r ≡ Err (Contradiction item.to)) ↔ (CellCanTake item.was item.now (cell_in old.slots old.pool seen.place) → ⊥)) →
      ((r ≡ Err (Contradiction item.to)) ↔ (Fits old item → ⊥))
  unfolding IsOwnOpen Fits
  misfit_here r h =
      let there = rw cell_is at h in
      (λ e fits. there.0 e fits.2, λ not. there.1 (λ takes. not (open_here.0, open_here.1, takes)))

  deep_here : {A : Type 0} (r : Result A Fault) →
      ((r ≡ Err TooDeep) ↔ (CellCanTake item.was item.now (cell_in old.slots old.pool seen.place) × IsTooDeep (changed item.was item.now (cell_in old.slots old.pool seen.place)))) →
      ((r ≡ Err TooDeep) ↔ (Fits old item × GoesTooDeep item (cell_at old item.to)))
  unfolding IsOwnOpen Fits GoesTooDeep
  deep_here r h =
      let there = rw cell_is at h in
      (λ e. let both = there.0 e in ((open_here.0, open_here.1, both.0), both.1), λ both. there.1 (both.0.2, both.1))

  module _ (new : Share) (id_same : new.id ≡ old.id) (n_same : new.nodes ≡ old.nodes) (same : new.statuses ≡ old.statuses) where
    open_new : IsOwnOpen new item.to
    open_new = open_back old new id_same n_same same item.to open_here

    place_new : seen.place ≡ open_number new item.to
    place_new = is ∙ sym (number_same old new n_same same item.to)

    cell_changed : SameCell (cell_in new.slots new.pool seen.place) (changed item.was item.now (cell_in old.slots old.pool seen.place)) →
        SameCell (cell_at new item.to) (changed item.was item.now (cell_at old item.to))
    cell_changed alike = rw (← cell_there new item.to seen.place open_new place_new, ← cell_is) alike

    -- an own class that is open has another cell
    other_number : (class : ℕ) → IsOwn old class → (class ≡ item.to → ⊥) → open_at old.statuses.words (class / old.nodes) ≡ 1 → open_number old class ≡ seen.place → ⊥
    unfolding open_number
    other_number class own n one e = n (apart old.nodes old.id class item.to (own_id old class own) (open_id old item.to open_here)
        (rank_same old.statuses.words (class / old.nodes) (item.to / old.nodes) one (is_open old item.to open_here) (e ∙ is)))

    cell_then : (class : ℕ) → cell_at new class ≡ cell_where (open_at old.statuses.words (class / old.nodes)) (cell_in new.slots new.pool (open_number old class))
    cell_then class = rw (cell_form new class, number_same old new n_same same class, n_same, same) refl

    others_kept : ((other : ℕ) → (other ≡ seen.place → ⊥) → SameCell (cell_in new.slots new.pool other) (cell_in old.slots old.pool other)) →
        (class : ℕ) → IsOwn old class → (class ≡ item.to → ⊥) → SameCell (cell_at new class) (cell_at old class)
    others_kept others class own n = rw (cell_then class, cell_form old class)
        (where_same (open_at old.statuses.words (class / old.nodes)) (cell_in new.slots new.pool (open_number old class)) (cell_in old.slots old.pool (open_number old class))
        (omega arith) (λ one. others (open_number old class) (other_number class own n one)))

    -- what the item gives where it is taken, by what it makes of the cell
    module _ (made : Result (Option (Value × Value)) Fault) (change : Option (Value × Value)) (is_made : made ≡ Ok change)
        (applied : IsApplied item.to item.was item.now seen.place old.slots old.pool new.slots new.pool made) where
      given : (settlement : Option Settlement) → HasSettled old new item.to settlement → IsApplication old item (Ok settlement) new
      given settlement settled = record {
        contradiction = ok_same made change settlement (Contradiction item.to) is_made (misfit_here made applied.misfit);
        too_deep = ok_same made change settlement TooDeep is_made (deep_here made applied.deep);
        named = λ class e. absurd (cc);
        unchanged = tt;
        classes = classes_same old new id_same n_same same;
        cell = cell_changed (applied.cell change is_made);
        others = others_kept applied.others;
        settled = settled;
      }

      told : (values : Option (Value × Value)) → change ≡ values → IsChange (cell_in old.slots old.pool seen.place) (cell_in new.slots new.pool seen.place) values
      told values is_change = rw is_change at (applied.values change is_made)

      pub no_settlement : change ≡ None → new.settled ≡ old.settled → IsApplication old item (Ok None) new
      no_settlement none count =
          let values = told None none in
          given None (count, values.0, value_there old item.to seen.place values.0 open_here is values.1, value_there new item.to seen.place values.0 open_new place_new values.2)

      pub one_settlement : (was now : Value) → change ≡ Some (was, now) → new.settled ≡ old.settled + 1 →
          IsApplication old item (Ok (Some (record { number = old.settled; class = item.to; was = was; now = now }))) new
      one_settlement was now some count =
          let values = told (Some (was, now)) some in
          given (Some (record { number = old.settled; class = item.to; was = was; now = now })) (
            count,
            refl,
            refl,
            value_there old item.to seen.place was open_here is values.0,
            value_there new item.to seen.place now open_new place_new values.1,
            improved item.was item.now (cell_in old.slots old.pool seen.place) (cell_in new.slots new.pool seen.place) was now
                (applied.takes change is_made) (applied.cell change is_made) values.0 values.1 values.2,
          )

  -- where it is refused, the share is as it was
  pub refused : (slots : List CellHead) (pool : List ℕ) (holds : Holds old slots pool) (made : Result (Option (Value × Value)) Fault) (fault : Fault) → made ≡ Err fault →
      IsApplied item.to item.was item.now seen.place old.slots old.pool slots pool made → IsApplication old item (Err fault) (with_cells old slots pool holds)
  refused slots pool holds made fault is_made applied =
      let both = applied.unchanged fault is_made in
      let same : with_cells old slots pool holds ≡ old = same_share old slots pool both.0 both.1 holds in
      record {
        contradiction = err_same made (Err fault) fault (Contradiction item.to) refl is_made (misfit_here made applied.misfit);
        too_deep = err_same made (Err fault) fault TooDeep refl is_made (deep_here made applied.deep);
        named = λ class e. applied.named class (let k : fault ≡ Contradiction class = cc in is_made ∙ ap Err k);
        unchanged = same;
        classes = classes_same old (with_cells old slots pool holds) refl refl refl;
        cell = tt;
        others = λ class own n. subst (λ (s : Share). SameCell (cell_at s class) (cell_at old class)) (sym same) (same_itself (cell_at old class));
        settled = tt;
      }

-- so it is where its class isn't seen
pub unseen : (share : Share) (item : Item) (look : Option Seen) → look ≡ None → IsSeen share item.to look →
    IsApplication share item (Err (Contradiction item.to)) share
unfolding IsSeen IsOwnOpen Fits
unseen share item look e is =
    let not_open : IsOwnOpen share item.to → ⊥ = rw e at is in
    let misfit : Fits share item → ⊥ = λ fits. not_open (fits.0, fits.1) in
    record {
      contradiction = (λ _. misfit, λ _. refl);
      too_deep = (λ deep. absurd (cc), λ both. absurd (misfit both.0));
      named = λ class same. cc;
      unchanged = refl;
      classes = classes_same share share refl refl refl;
      cell = tt;
      others = λ class own n. same_itself (cell_at share class);
      settled = tt;
    }

-- what was seen of any class stays so
pub seen_kept : (old new : Share) → new.id ≡ old.id → new.nodes ≡ old.nodes → new.statuses ≡ old.statuses →
    ((other : ℕ) → start_at new.slots (length new.pool) other ≡ start_at old.slots (length old.pool) other) →
    (class : ℕ) (look : Option Seen) → IsSeen old class look → IsSeen new class look
unfolding IsSeen
seen_kept old new id_same n_same same starts class None is =
    λ open_there. is (open_back new old (sym id_same) (sym n_same) (sym same) class open_there)
seen_kept old new id_same n_same same starts class (Some seen) is = (
  open_back old new id_same n_same same class is.0,
  is.1 ∙ sym (number_same old new n_same same class),
  is.2 ∙ sym (starts seen.place),
)

-- ---- the values of own classes are short
short_where : (b : ℕ) (cell : Cell) → b < 2 → (b ≡ 1 → IsShortCell cell) → IsShortCell (cell_where b cell)
short_where b cell low short = grind arith

pub cell_short : (share : Share) (class : ℕ) → IsOwn share class → IsShortCell (cell_at share class)
unfolding IsOwn cell_at open_number
cell_short share class own = short_where (open_at share.statuses.words (class / share.nodes))
    (cell_in share.slots share.pool (opens_below share.statuses.words (class / share.nodes)))
    (let low : open_at share.statuses.words (class / share.nodes) < 2 = omega arith in low)
    (λ one. share.pooled.short (opens_below share.statuses.words (class / share.nodes))
    (cell_within share (class / share.nodes) (opens_below share.statuses.words (class / share.nodes)) own.1 one refl))
