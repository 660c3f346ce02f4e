-- The table of a block's places as it grows, and as it is read at a spot.
use Rattle.dob_classes.proofs.Common.{◌*◌, ◌++◌, ◌+◌, ◌/◌, ◌<◌, ◌^◌, ◌∙◌, ◌∷◌, ◌≡◌, List, [], ap, arith, length, refl, slice_index, slice_index_or, subst, suc}
use Rattle.dob_classes.proofs.Common.{sym, zero, ℕ, length_push, All, PieceSet, parts_are, choose-positive, choose-small, product-at_most, bases_by, digits_of}
use Rattle.dob_classes.proofs.Common.{product, AreSomePlaces, AreSquareChoices, AreFewOnBoard, form_bases, local_bases, run_bases, square_bases}
use Rattle.dob_rank.specs.declared.placing.Places.{Places}
use Rattle.dob_rank.specs.Placing.{ArePlaces, HasPlaces, AreAllPlaces}
use Rattle.dob_rank.proofs.Arithmetic.MixedRadix.{HasDigits-digits_of}
use Rattle.dob_classes.proofs.Tables.Pushed.{each_pushed}

-- the digits of a number of a choice of all squares are choices
pub are_choices : (ob ds : List ℕ) (number : ℕ) → AreFewOnBoard ob → number < product (square_bases ob) → ds ≡ digits_of (square_bases ob) number
    → AreSquareChoices ob ds
are_choices ob ds number few below is = grind (arith, HasDigits-digits_of)

-- the numbers of choices are positive, and so few that their product fits a word
positive_three : (a b c : ℕ) → 0 < a → 0 < b → 0 < c → All (λ (n : ℕ). 0 < n) (a ∷ b ∷ c ∷ [])
positive_three a b c x y z zero d l = x
positive_three a b c x y z (suc zero) d l = y
positive_three a b c x y z (suc (suc zero)) d l = z
positive_three a b c x y z (suc (suc (suc k))) d l = absurd (omega arith)

pub choices-positive : (ob bases : List ℕ) → AreFewOnBoard ob → bases ≡ square_bases ob → All (λ (n : ℕ). 0 < n) bases
choices-positive ob bases few are = grind (arith, positive_three, choose-positive)

pub choices-fit : (ob bases : List ℕ) → AreFewOnBoard ob → bases ≡ square_bases ob → product bases < 2 ^ 64
choices-fit ob bases few are = grind (arith, product-at_most, choose-small)

-- one more
pub places_more : (ob ds : List ℕ) (number : ℕ) (places : Places) (table news : List Places) → AreSomePlaces ob number table
    → ds ≡ digits_of (square_bases ob) number → ArePlaces ob (slice_index ds 0) (slice_index ds 1) (slice_index ds 2) places
    → news ≡ table ++ places ∷ [] → AreSomePlaces ob (number + 1) news
places_more ob ds number places table news are digits_are has grown = record {
  long = ap length grown ∙ length_push table places ∙ ap (λ n. n + 1) are.long;
  each = each_pushed (HasPlaces ob) table news places number are.long are.each
      (rw digits_are at has) grown;
}

-- the number at a spot is one of the table, and the places there are those of the spot's digits
pub squares_below : (set : PieceSet) (ob : List ℕ) (run local squares : ℕ) (table : List Places) → run < product (run_bases set ob)
    → local < product (local_bases ob) → squares ≡ local / product (form_bases ob) → AreAllPlaces ob table → squares < length table
squares_below set ob run local squares table run_low local_low squares_are all =
    rw (squares_are, all.long) (parts_are set ob run local (product (form_bases ob)) run_low local_low refl).squares_low

pub places_read : (set : PieceSet) (ob : List ℕ) (run local squares : ℕ) (digits : List ℕ) (table : List Places) (places : Places)
    → run < product (run_bases set ob) → local < product (local_bases ob)
    → digits ≡ digits_of (bases_by set ob) (run * product (local_bases ob) + local) → squares ≡ local / product (form_bases ob) → AreAllPlaces ob table
    → places ≡ slice_index_or table squares places → ArePlaces ob (slice_index digits 5) (slice_index digits 6) (slice_index digits 7) places
places_read set ob run local squares digits table places run_low local_low digits_are squares_are all read =
    let parts = parts_are set ob run local (product (form_bases ob)) run_low local_low refl in
    let there : HasPlaces ob (local / product (form_bases ob)) places =
    rw (read, squares_are) (all.each (local / product (form_bases ob)) places parts.squares_low) in
    subst (λ xs. ArePlaces ob (slice_index xs 5) (slice_index xs 6) (slice_index xs 7) places) (sym (digits_are ∙ parts.digits_are)) there
