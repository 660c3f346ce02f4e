-- The value at one depth more: what the entries of the successors give.
use Rattle.dob_value.proofs.Common.{rules, add-one, ◌+◌, ◌<◌, ◌∙◌, ◌≡◌, ◌≤◌, ◌⊎◌, List, arith, false, get_or, inl, inr, length, slice_index_or, suc, sym, true}
use Rattle.dob_value.proofs.Common.{ℕ, Contains-get_or, list_all, list_any, Profile, Setup, HasStatus, Status, Caught, Open, Stuck, Tried, TellsAt}
use Rattle.dob_value.proofs.Common.{is_loss_within, is_win_within, IsNode, HasLost, HasValue, Lost, Won, Value, Draw, Loss, Win}
use Rattle.std.proofs.Common.{Bool, All}
use Rattle.std.proofs.lemmas.List.Folds.{Any-from_list_any, list_any_at}
use Rattle.std.proofs.lemmas.List.Sums.{AllPass-from_list_all, list_all-from_AllPass}
use Rattle.std.proofs.lemmas.List.Elements.{All-contains}
use Rattle.dob_distance.proofs.Depths.{won_stays, lost_stays, lost_not_open}

-- what comes first at depth n + 1
first_at : (P : ℕ → Type 0) (n : ℕ) → ((m : ℕ) → m ≤ n → P m → P n) → ¬ P n → P (suc n) → P (n + 1) × ((m : ℕ) → P m → n + 1 ≤ m)
first_at P n stays not_before now = grind arith

-- what is won first there has that distance, and likewise what is lost
pub first_won : (profile : Profile) (n : ℕ) (p : Setup) → ¬ Won profile n p → Won profile (suc n) p → HasValue profile p (Win (n + 1))
first_won profile n p = first_at (λ k. Won profile k p) n (λ m before. won_stays profile m n p before)

pub first_lost : (profile : Profile) (n : ℕ) (p : Setup) → ¬ Lost profile n p → Lost profile (suc n) p → HasValue profile p (Loss (n + 1))
first_lost profile n p = first_at (λ k. Lost profile k p) n (λ m before. lost_stays profile m n p before)

-- a position that is still open at depth n is neither lost already nor, at a depth above 0, a catch
pub not_lost_yet : (profile : Profile) (n : ℕ) (p : Setup) → ¬ Lost profile n p → ¬ HasLost profile p
not_lost_yet profile n p not_lost over = not_lost (lost_stays profile 0 n p (omega arith) over)

-- the entries of the numbers speak of the positions up to depth n
module _ {profile : Profile} {n : ℕ} (entries : List Value) {p : Setup} {status : Status} {numbers : List ℕ}
    (known : IsNode profile (TellsAt profile n entries) p status numbers) where
  abbrev lost_at : ℕ → Bool
  lost_at number = is_loss_within n (slice_index_or entries number Draw)

  abbrev won_at : ℕ → Bool
  won_at number = is_win_within n (slice_index_or entries number Draw)

  some_lost : HasStatus profile p Open → list_any lost_at numbers ≡ true → Won profile (suc n) p
  some_lost goes_on any =
      let found = Any-from_list_any lost_at numbers any in
      let step = known.successors.sound found.1 (found.0, found.2, found.3) in
      inr (goes_on, step.0, step.1, step.2, step.3.1.loss found.4)

  all_won : HasStatus profile p Open → list_all won_at numbers ≡ true → Lost profile (suc n) p
  all_won goes_on all = inr (
    goes_on,
    λ move q goes.
        let next = known.successors.whole goes_on move q goes in
        next.2.1.win (All-contains (λ number. won_at number ≡ true) numbers next.0 (AllPass-from_list_all won_at numbers all) next.1),
  )

  none_lost : HasStatus profile p Open → list_any lost_at numbers ≡ false → ¬ Won profile (suc n) p
  none_lost goes_on none won = search (rules, list_any_at)

  not_all_won : HasStatus profile p Open → list_all won_at numbers ≡ false → ¬ Lost profile (suc n) p
  not_all_won goes_on not_all lost = elim lost [
    | inl over ↦ lost_not_open profile p over goes_on
    | inr open_loss ↦
        let pass : All (λ number. won_at number ≡ true) numbers = λ k d below.
        let step = known.successors.sound (get_or numbers k d) (Contains-get_or numbers k d below) in
        step.3.1.won (open_loss.1 step.0 step.1 step.2) in
        let all = list_all-from_AllPass won_at numbers pass in
        cc
  ]

  -- each successor has an entry
  pub have_entries : All (λ number. number < length entries) numbers
  have_entries k d below = (known.successors.sound (get_or numbers k d) (Contains-get_or numbers k d below)).3.0

  -- the value at depth n + 1, by the status and what was found among its successors
  pub value_at_catch : ¬ Won profile n p → status ≡ Caught → HasValue profile p (Win (n + 1))
  value_at_catch not_won caught = first_won profile n p not_won (inl (rw caught at known.status))

  pub not_over : ¬ Lost profile n p → (is : Status) → is ≡ status → (is ≡ Tried) ⊎ (is ≡ Stuck) → ⊥
  not_over not_lost is same over = not_lost_yet profile n p not_lost (elim over [
    | inl tried ↦ inl (rw (sym same ∙ tried) at known.status)
    | inr stuck ↦ inr (rw (sym same ∙ stuck) at known.status)
  ])

  -- where it is open, by what was found among its successors
  module _ (is_open : status ≡ Open) (successors : List ℕ) (same : successors ≡ numbers) where
    goes_on : HasStatus profile p Open
    goes_on = rw is_open at known.status

    pub value_of_win : ¬ Won profile n p → list_any lost_at successors ≡ true → HasValue profile p (Win (n + 1))
    value_of_win not_won any = first_won profile n p not_won (some_lost goes_on (rw same at any))

    pub value_of_loss : ¬ Lost profile n p → list_all won_at successors ≡ true → HasValue profile p (Loss (n + 1))
    value_of_loss not_lost all = first_lost profile n p not_lost (all_won goes_on (rw same at all))

    pub still_not_won : list_any lost_at successors ≡ false → ¬ Won profile (n + 1) p
    still_not_won none won = none_lost goes_on (rw same at none) (rw add-one at won)

    pub still_not_lost : list_all won_at successors ≡ false → ¬ Lost profile (n + 1) p
    still_not_lost not_all lost = not_all_won goes_on (rw same at not_all) (rw add-one at lost)
