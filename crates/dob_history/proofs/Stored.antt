-- What is stored and read again.
use Rattle.dob_history.proofs.Common.{◌%◌, ◌*◌, ◌++◌, ◌+◌, ◌-◌, ◌/◌, ◌<◌, ◌∙◌, ◌∷◌, ◌≡◌, ◌≤◌, Draw, HistoryView, List, Settlement, Some, StatusesView}
use Rattle.dob_history.proofs.Common.{Stored, Value, [], ap, arith, class_of_place, div-add-mod, get_or, get_or_from_slice_get, length, length-append, mul_comm}
use Rattle.dob_history.proofs.Common.{opening_value, refl, set, settled_among, settlement_stored, settlements_from, settlements_of, slice_get, slice_get-get_or}
use Rattle.dob_history.proofs.Common.{slice_get_within, start_status, starts_count, starts_of, subst, suc, sym, take, value_of_code, zero, ℕ}
use Rattle.std.proofs.lemmas.List.{append_assoc, get_or-append-add, length-take-le, get_or-take, take_more_set}
use Rattle.dob_history.proofs.Starts.{starts_length, start_found}

pub length-settlements_from : (n id number : ℕ) (stored : List Stored) → length (settlements_from n id number stored) ≡ length stored
length-settlements_from n id number [] = refl
length-settlements_from n id number (s ∷ stored) = ap suc (length-settlements_from n id (suc number) stored)

pub settlements_from-push : (n id number : ℕ) (stored : List Stored) (s : Stored) →
    settlements_from n id number (stored ++ s ∷ []) ≡ settlements_from n id number stored ++ settlement_stored n id (number + length stored) s ∷ []
settlements_from-push n id number [] s = ap (λ k. settlement_stored n id k s ∷ []) (let e : number ≡ number + 0 = omega arith in e)
settlements_from-push n id number (t ∷ stored) s =
    ap (λ rest. settlement_stored n id number t ∷ rest)
    (settlements_from-push n id (suc number) stored s
    ∙ ap (λ k. settlements_from n id (suc number) stored ++ settlement_stored n id k s ∷ [])
    (let e : suc number + length stored ≡ number + length (t ∷ stored) = omega arith in e))

get_or-settlements_from : (n id number k : ℕ) (stored : List Stored) (d : Settlement) (e : Stored) → k < length stored →
    get_or (settlements_from n id number stored) k d ≡ settlement_stored n id (number + k) (get_or stored k e)
get_or-settlements_from n id number k [] d e below = absurd (omega arith)
get_or-settlements_from n id number zero (t ∷ stored) d e below =
    ap (λ m. settlement_stored n id m t) (let same : number ≡ number + 0 = omega arith in same)
get_or-settlements_from n id number (suc k) (t ∷ stored) d e below =
    get_or-settlements_from n id (suc number) k stored d e (omega arith)
    ∙ ap (λ m. settlement_stored n id m (get_or stored k e)) (let same : suc number + k ≡ number + suc k = omega arith in same)

-- the settlement at a place
pub settlements_from-at : (n id first k : ℕ) (stored : List Stored) (s : Stored) → slice_get stored k ≡ Some s →
    slice_get (settlements_from n id first stored) k ≡ Some (settlement_stored n id (first + k) s)
settlements_from-at n id first k stored s there =
    let within : k < length stored = slice_get_within stored k s there in
    let d : Settlement = settlement_stored n id 0 s in
    let longer : length (settlements_from n id first stored) ≡ length stored = length-settlements_from n id first stored in
    slice_get-get_or (settlements_from n id first stored) k d (omega arith)
    ∙ ap Some (get_or-settlements_from n id first k stored d s within
    ∙ ap (settlement_stored n id (first + k)) (get_or_from_slice_get stored k s s there))

-- and behind others
get_after : (xs ys : List Settlement) (k : ℕ) (s : Settlement) → slice_get ys k ≡ Some s → slice_get (xs ++ ys) (length xs + k) ≡ Some s
get_after xs ys k s there =
    let within : k < length ys = slice_get_within ys k s there in
    let long : length (xs ++ ys) ≡ length xs + length ys = length-append xs ys in
    slice_get-get_or (xs ++ ys) (length xs + k) s (omega arith)
    ∙ ap Some (get_or-append-add xs ys k s ∙ get_or_from_slice_get ys k s s there)

-- a class is found again at its place among the owner's
pub class_again : (class n id : ℕ) → 0 < n → class % n ≡ id → class / n * n + id ≡ class
class_again class n id some own =
    let whole = div-add-mod class n in
    let turn : class / n * n ≡ n * (class / n) = mul_comm (class / n) n in
    omega arith

-- ---- what is seen of a history
abbrev pub seen : ℕ → ℕ → ℕ → StatusesView → List Stored → HistoryView
seen n id room starts stored = record { id = id; n = n; settlements = settlements_of n id starts stored; room = room }

pub same_settlement : (a b c d : ℕ) (u v w x : Value) → a ≡ b → c ≡ d → u ≡ v → w ≡ x →
    (let s : Settlement = record { number = a; class = c; was = u; now = w } in s) ≡ record { number = b; class = d; was = v; now = x }
same_settlement a b c d u v w x number class was now = cc

-- what is stored of a settlement is that settlement again
pub stored_again : (n id number : ℕ) (given : Settlement) (was now : ℕ) → 0 < n → given.class % n ≡ id → number ≡ given.number →
    value_of_code was ≡ given.was → value_of_code now ≡ given.now →
    settlement_stored n id number (record { place = given.class / n; was = was; now = now }) ≡ given
stored_again n id number given was now some own number_is is_was is_now =
    same_settlement number given.number (given.class / n * n + id) given.class (value_of_code was) given.was (value_of_code now) given.now
    number_is (class_again given.class n id some own) is_was is_now

-- the settlement is stored behind that many, whoever owns it and whatever number the first of them has
abbrev pub NextIs : ℕ → ℕ → List Stored → List Stored → Settlement → Type 0
NextIs n count more new given = (owner first : ℕ) → given.class % n ≡ owner → given.number ≡ first + count →
    settlements_from n owner first (take (count + 1) new) ≡ settlements_from n owner first (take count more) ++ given ∷ []

-- ---- what is read of a history

module _ (n id room count : ℕ) (starts : StatusesView) (stored : List Stored) {view : HistoryView} (all : count + room ≤ length stored)
    (is : seen n id room starts (take count stored) ≡ view) where
  abbrev first_ones : List Settlement
  first_ones = starts_of n id starts

  abbrev list : List Stored
  list = take count stored

  long : length list ≡ count
  long = length-take-le count stored (omega arith)

  -- as many as are settled at the start, and those counted
  pub count_is : starts_count starts + count ≡ length view.settlements
  count_is = omega (
    arith,
    long,
    length-append first_ones (settlements_from n id (length first_ones) list),
    starts_length n id starts,
    length-settlements_from n id (length first_ones) list,
    ap (λ (v : HistoryView). length v.settlements) is,
  )

  -- one of the start
  pub got_start : (number place : ℕ) (now : Value) (given : Settlement) → place < starts.places → settled_among (start_status starts) place ≡ number →
      opening_value (start_status starts place) ≡ Some now →
      given ≡ record { number = number; class = class_of_place n id place; was = Draw; now = now } → slice_get view.settlements number ≡ Some given
  got_start number place now given low many value given_is =
      ap (λ (v : HistoryView). slice_get v.settlements number) (sym is)
      ∙ start_found n id number place starts now (settlements_from n id (length first_ones) list) low many value ∙ ap Some (sym given_is)

  -- one behind those of the start, of which there are `first`
  module _ (number first : ℕ) (low : number < length view.settlements) (first_is : first ≡ starts_count starts) (behind : first ≤ number) where
    counted : number - first < count
    counted = omega (arith, count_is)

    pub stored_there : number - first < length stored
    stored_there = omega (arith, counted)

    pub got_stored : (s : Stored) (given : Settlement) → slice_get stored (number - first) ≡ Some s → settlement_stored n id number s ≡ given →
        slice_get view.settlements number ≡ Some given
    got_stored s given there same =
        let k : ℕ = number - first in
        let inside : slice_get list k ≡ Some s = slice_get-get_or list k s (omega (arith, counted, long))
        ∙ ap Some (get_or-take count stored k s counted ∙ get_or_from_slice_get stored k s s there) in
        let place : length first_ones + k ≡ number = omega (arith, starts_length n id starts) in
        ap (λ (v : HistoryView). slice_get v.settlements number) (sym is)
        ∙ subst (λ (m : ℕ). slice_get (settlements_of n id starts list) m ≡ Some (settlement_stored n id m s)) place
        (get_after first_ones (settlements_from n id (length first_ones) list) k (settlement_stored n id (length first_ones + k) s)
        (settlements_from-at n id (length first_ones) k list s inside))
        ∙ ap Some same

  -- ---- what is seen of it with more

  -- what is stored behind those counted is seen by nobody, nor is other room
  pub room_made : (other : ℕ) (more : List Stored) → take count more ≡ list →
      seen n id other starts (take count more) ≡ record view { room = other }
  room_made other more same =
      ap (λ xs. seen n id other starts xs) same ∙ ap (λ (v : HistoryView). record v { room = other }) is

  -- the next is seen behind the others
  pub next_seen : (left : ℕ) (more new : List Stored) (given : Settlement) → take count more ≡ list → given.class % n ≡ id →
      given.number ≡ starts_count starts + count → NextIs n count more new given →
      seen n id left starts (take (count + 1) new) ≡ record { id = view.id; n = view.n; settlements = view.settlements ++ given ∷ []; room = left }
  next_seen left more new given same own number one_more =
      let before : List Settlement = settlements_from n id (length first_ones) (take count more) in
      let number_is : given.number ≡ length first_ones + count = number ∙ ap (λ (m : ℕ). m + count) (sym (starts_length n id starts)) in
      subst (λ (v : HistoryView). seen n id left starts (take (count + 1) new)
      ≡ record { id = v.id; n = v.n; settlements = v.settlements ++ given ∷ []; room = left })
      (ap (λ xs. seen n id room starts xs) same ∙ is)
      (ap (λ l. let v : HistoryView = record { id = id; n = n; settlements = l; room = left } in v)
      (ap (λ l. first_ones ++ l) (one_more id (length first_ones) own number_is) ∙ sym (append_assoc first_ones before (given ∷ []))))

-- ---- what is written

-- what is written behind them is the next
pub stored_more : (n id first count : ℕ) (stored : List Stored) (s : Stored) (given : Settlement) → count < length stored →
    settlement_stored n id (first + count) s ≡ given →
    settlements_from n id first (take (count + 1) (set stored count s)) ≡ settlements_from n id first (take count stored) ++ given ∷ []
stored_more n id first count stored s given low is =
    let all : count ≤ length stored = omega arith in
    let long : length (take count stored) ≡ count = length-take-le count stored all in
    let place : first + length (take count stored) ≡ first + count = omega arith in
    ap (settlements_from n id first) (take_more_set stored count s low)
    ∙ settlements_from-push n id first (take count stored) s
    ∙ ap (λ m. settlements_from n id first (take count stored) ++ settlement_stored n id m s ∷ []) place
    ∙ ap (λ t. settlements_from n id first (take count stored) ++ t ∷ []) is

-- a place within has a settlement
pub some_at : (settlements : List Settlement) (k : ℕ) → k < length settlements → (s : Settlement) × slice_get settlements k ≡ Some s
some_at [] k low = absurd (omega arith)
some_at (s ∷ settlements) k low = (get_or (s ∷ settlements) k s, slice_get-get_or (s ∷ settlements) k s low)
