-- One item at one cell: when it is refused, and what its slot becomes.
use Rattle.dob_share.proofs.Common.{◌+◌, ◌-◌, ◌<◌, ◌↔◌, ◌≡◌, ◌≤◌, Cell, CellCanTake, CellValue, Contradiction, Draw, Err, Fault, IsGreatestIn, IsShortCell}
use Rattle.dob_share.proofs.Common.{IsTooDeep, Loss, Ok, Option, Result, CellHead, Some, TooDeep, Value, Win, ap, arith, cell_of, changed, greater_of, least_of}
use Rattle.dob_share.proofs.Common.{lesser_of, more_at, nat_tests, refl, suc, zero, ℕ}
use Rattle.dob_distance.specs.Codes.{IsShort}
use Rattle.dob_share.specs.Cells.{IsGreatest}

pub least_some : (win : ℕ) → 0 < win → (least : ℕ) × (least_of win ≡ Some least) × (win ≡ least + 1)
least_some zero some = absurd (omega arith)
least_some (suc win) some = (win, refl, omega arith)

-- ---- values of short cells are short
pub short_value : (cell : Cell) (value : Value) → IsShortCell cell → CellValue cell value → IsShort value
short_value cell value short is = grind arith

pub not_too_deep : (cell : Cell) → IsShortCell cell → IsTooDeep cell → ⊥
not_too_deep cell short deep = deep.2 (short_value cell deep.0 short deep.1)

-- ---- the three answers

-- The slot after an item to a class, or its fault: that the item doesn't fit comes before that the value is too deep.
pub record IsStep (to : ℕ) (was now : Value) (cell : Cell) (slot : CellHead) (result : Result CellHead Fault) : Type 0 where
  pub misfit : (result ≡ Err (Contradiction to)) ↔ (CellCanTake was now cell → ⊥)
  pub deep : (result ≡ Err TooDeep) ↔ (CellCanTake was now cell × IsTooDeep (changed was now cell))
  pub named : (class : ℕ) → result ≡ Err (Contradiction class) → class ≡ to
  pub fits : (next : CellHead) → result ≡ Ok next → CellCanTake was now cell × IsShortCell (changed was now cell)
  pub made : (next : CellHead) → result ≡ Ok next → (next.start ≡ slot.start)
      × (next.left ≡ (changed was now cell).left) × (least_of next.win ≡ (changed was now cell).least)

pub misfits : (to : ℕ) (was now : Value) (cell : Cell) (slot : CellHead) → (CellCanTake was now cell → ⊥) →
    IsStep to was now cell slot (Err (Contradiction to))
misfits to was now cell slot misfit = grind arith

pub goes_deep : (to : ℕ) (was now : Value) (cell : Cell) (slot : CellHead) → CellCanTake was now cell → IsTooDeep (changed was now cell) →
    IsStep to was now cell slot (Err TooDeep)
goes_deep to was now cell slot takes deep = grind arith

pub stepped : (to : ℕ) (was now : Value) (cell : Cell) (slot next : CellHead) → CellCanTake was now cell → IsShortCell (changed was now cell) →
    next.start ≡ slot.start → next.left ≡ (changed was now cell).left →
    least_of next.win ≡ (changed was now cell).least → IsStep to was now cell slot (Ok next)
stepped to was now cell slot next takes short start left least = grind (arith, not_too_deep (changed was now cell) short)

-- ---- wins after one more

-- the greatest after one more
pub greatest_more : (plies : ℕ) (wins : ℕ → ℕ) (greatest : Option ℕ) → IsGreatestIn wins greatest →
    IsGreatest (more_at plies wins) (greater_of greatest plies)
greatest_more plies wins greatest is = grind (arith, nat_tests)

-- ---- the four rows
pub win_deep : (to plies : ℕ) (slot : CellHead) (wins : ℕ → ℕ) (greatest : Option ℕ) → slot.left ≡ 1 → slot.win ≡ 0 → IsGreatestIn wins greatest →
    65534 ≤ greater_of greatest plies → IsStep to Draw (Win plies) (cell_of slot wins) slot (Err TooDeep)
win_deep to plies slot wins greatest left win is deep =
    goes_deep to Draw (Win plies) (cell_of slot wins) slot (omega arith)
    (Loss (greater_of greatest plies + 1), (ap least_of win, (omega arith), greater_of greatest plies, greatest_more plies wins greatest is, refl), λ short. absurd (omega arith))

pub win_step : (to plies : ℕ) (slot next : CellHead) (wins : ℕ → ℕ) → IsShortCell (cell_of slot wins) → 0 < slot.left →
    (slot.win ≡ 0 → slot.left ≡ 1 → (greatest : Option ℕ) × IsGreatestIn wins greatest × (greater_of greatest plies < 65534)) →
    next.start ≡ slot.start → next.left ≡ slot.left - 1 → next.win ≡ slot.win →
    IsStep to Draw (Win plies) (cell_of slot wins) slot (Ok next)
win_step to plies slot next wins short some below start left win =
    stepped to Draw (Win plies) (cell_of slot wins) slot next some
    (record {
      loss = short.loss;
      win = λ none none_left distance counted.
          let found = below (grind arith) (omega arith) in
          let most = (greatest_more plies wins found.0 found.1).1 distance counted in omega arith;
    })
    start left (ap least_of win)

pub better_win_step : (to was now : ℕ) (slot : CellHead) (wins : ℕ → ℕ) → IsShortCell (cell_of slot wins) → now < was → 0 < wins was →
    IsStep to (Win was) (Win now) (cell_of slot wins) slot (Ok slot)
better_win_step to was now slot wins short better counted =
    stepped to (Win was) (Win now) (cell_of slot wins) slot slot (better, counted)
    (record {
      loss = short.loss;
      win = λ none none_left distance some.
          let before : was < 65534 = short.win none none_left was counted in
          let most = short.win none none_left distance in
          grind (arith, nat_tests);
    })
    refl refl refl

pub loss_deep : (to plies : ℕ) (slot : CellHead) (wins : ℕ → ℕ) → 0 < slot.left → slot.win ≡ 0 → 65534 ≤ plies →
    IsStep to Draw (Loss plies) (cell_of slot wins) slot (Err TooDeep)
loss_deep to plies slot wins left win deep =
    goes_deep to Draw (Loss plies) (cell_of slot wins) slot left
    (Win (plies + 1), (plies, ap (λ (k : ℕ). Some (lesser_of (least_of k) plies)) win, refl), λ short. absurd (omega arith))

pub win_most : (slot : CellHead) (wins : ℕ → ℕ) → IsShortCell (cell_of slot wins) → slot.win ≤ 65534
win_most slot wins short = grind arith

loss_short : (plies : ℕ) (slot : CellHead) (wins : ℕ → ℕ) → IsShortCell (cell_of slot wins) → (slot.win ≡ 0 → plies < 65534) →
    (left : ℕ) → IsShortCell (record { left = left; wins = wins; least = Some (lesser_of (least_of slot.win) plies) })
loss_short plies slot wins short below left = grind arith

pub loss_step : (to plies : ℕ) (slot next : CellHead) (wins : ℕ → ℕ) → IsShortCell (cell_of slot wins) → 0 < slot.left →
    (slot.win ≡ 0 → plies < 65534) →
    next.start ≡ slot.start → next.left ≡ slot.left - 1 → least_of next.win ≡ Some (lesser_of (least_of slot.win) plies) →
    IsStep to Draw (Loss plies) (cell_of slot wins) slot (Ok next)
loss_step to plies slot next wins short some below start left win =
    stepped to Draw (Loss plies) (cell_of slot wins) slot next some (loss_short plies slot wins short below (slot.left - 1)) start left win

pub better_loss_step : (to was now : ℕ) (slot next : CellHead) (wins : ℕ → ℕ) → IsShortCell (cell_of slot wins) → now < was →
    0 < slot.win → slot.win - 1 ≤ was →
    next.start ≡ slot.start → next.left ≡ slot.left → least_of next.win ≡ Some (lesser_of (least_of slot.win) now) →
    IsStep to (Loss was) (Loss now) (cell_of slot wins) slot (Ok next)
better_loss_step to was now slot next wins short better some most start left win =
    stepped to (Loss was) (Loss now) (cell_of slot wins) slot next (better, grind arith)
    (loss_short now slot wins short (λ e. absurd (omega arith)) slot.left) start left win
