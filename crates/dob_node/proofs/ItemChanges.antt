-- What an item that a share takes changes: the value of its class, told by the settlement that is listed, and no other value.
use Rattle.dob_node.proofs.Common.{◌++◌, ◌∙◌, ◌∷◌, ◌≡◌, ◌≢◌, Better, Bool, Cell, CellValue, Fits, HasSettled, HasValueNow, HistoryView, IsTaken, IsValue}
use Rattle.dob_node.proofs.Common.{Item, List, NoWorse, None, Open, Option, SameCell, Settlement, Share, Some, Status, Value, [], ap, append-nil, arith}
use Rattle.dob_node.proofs.Common.{cell_at, cond, eq-eqb, eqb, inl, inr, length, listed, nat_tests, refl, status_at, subst, sym, true, value_of, ℕ}
use Rattle.dob_history.proofs.Settles.{value_of-more}
use Rattle.dob_history.proofs.Kept.{better_apart}
use Rattle.dob_history.proofs.Stored.{same_settlement}

-- ---- a cell has one value
pub one_value : (cell : Cell) (v w : Value) → CellValue cell v → CellValue cell w → v ≡ w
one_value cell v w one other = grind arith

-- ---- cells that say the same

-- of one class or of another, by a test
pub same_by : (b : Bool) (x y z : Cell) → (b ≡ true → SameCell x y) → SameCell (cond b x z) (cond b y z)
same_by b x y z same = grind arith

-- ---- a class that is open

-- it has the value of its cell
open_value : (status : Status) (cell : Cell) (v : Value) → status ≡ Open → IsValue status cell v → CellValue cell v
open_value status cell v is = subst (λ s. IsValue s cell v → CellValue cell v) (sym is) (λ value. value)

pub fits_open : (share : Share) (item : Item) → Fits share item → status_at share item.to ≡ Open
unfolding Fits
fits_open share item fits = fits.1

-- ---- the history

-- of the other classes it says what it said
pub value_elsewhere : (share after : Share) (to : ℕ) (before grown : List Settlement) (given : Option Settlement) → HasSettled share after to given →
    grown ≡ before ++ listed given → (p : ℕ) → p ≢ to → value_of grown p ≡ value_of before p
value_elsewhere share after to before grown None settled is p other = rw (is, append-nil before) refl
value_elsewhere share after to before grown (Some s) settled is p other = rw is (grind (arith, nat_tests, value_of-more before s p, settled.2))

-- What has changed is the settlement that is listed, if there is one: where the value is another there is one, and else none.
pub record Change (item : Item) (after : Share) (before grown : List Settlement) : Type 0 where
  pub gives : CellValue (cell_at after item.to) (value_of grown item.to)
  pub better : NoWorse (value_of before item.to) (value_of grown item.to)
  pub others : (p : ℕ) → p ≢ item.to → value_of grown p ≡ value_of before p
  pub same : value_of before item.to ≡ value_of grown item.to → grown ≡ before
  pub more : value_of before item.to ≢ value_of grown item.to →
      grown ≡ before ++ record { number = length before; class = item.to; was = value_of before item.to; now = value_of grown item.to } ∷ []

-- An item taken, where the cell of its class gave the value of the history.
module _ (item : Item) (share after : Share) (history grown : HistoryView) (taken : IsTaken item share after history grown)
    (counted : share.settled ≡ length history.settlements) (gave : CellValue (cell_at share item.to) (value_of history.settlements item.to)) where
  abbrev h : List Settlement
  h = history.settlements

  abbrev g : List Settlement
  g = grown.settlements

  -- the value before
  was_is : (v : Value) → HasValueNow share item.to v → v ≡ value_of h item.to
  was_is v is = one_value (cell_at share item.to) v (value_of h item.to)
      (open_value (status_at share item.to) (cell_at share item.to) v (fits_open share item taken.fits) is) gave

  value_after : (v : Value) → HasValueNow after item.to v → CellValue (cell_at after item.to) v
  value_after v is = open_value (status_at after item.to) (cell_at after item.to) v (taken.classes.statuses item.to ∙ fits_open share item taken.fits) is

  change : (given : Option Settlement) → HasSettled share after item.to given → g ≡ h ++ listed given → Change item after h g
  change None settled is =
      let same : g ≡ h = is ∙ append-nil h in
      record {
        gives = rw (same, ← was_is settled.1 settled.2) (value_after settled.1 settled.3);
        better = rw same (inl refl);
        others = value_elsewhere share after item.to h g None settled is;
        same = λ e. same;
        more = λ differs. absurd (differs (rw same refl));
      }
  change (Some s) settled is =
      let was : s.was ≡ value_of h item.to = was_is s.was settled.3 in
      let here : eqb s.class item.to ≡ true = eq-eqb s.class item.to settled.2 in
      let now : value_of g item.to ≡ s.now =
      ap (λ xs. value_of xs item.to) is ∙ value_of-more h s item.to ∙ ap (λ b. cond b s.now (value_of h item.to)) here in
      let better : Better (value_of h item.to) (value_of g item.to) = rw (now, ← was) settled.5 in
      record {
        gives = rw now (value_after s.now settled.4);
        better = inr better;
        others = value_elsewhere share after item.to h g (Some s) settled is;
        same = λ e. absurd (better_apart (value_of h item.to) (value_of g item.to) better e);
        more = λ differs. is ∙ ap (λ x. h ++ x ∷ []) (same_settlement s.number (length h) s.class item.to s.was (value_of h item.to) s.now (value_of g item.to) (settled.1 ∙ counted) settled.2 was (sym now));
      }

  pub item_changes : Change item after history.settlements grown.settlements
  item_changes = change taken.settled.0 taken.settled.1 (ap (λ (view : HistoryView). view.settlements) taken.settled.2)
