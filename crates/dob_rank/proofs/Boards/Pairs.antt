-- The tables of the choices of two squares: computed for each number of squares and each choice.
use Rattle.dob_rank.proofs.Common.{◌&&◌, ◌*◌, ◌+◌, ◌-◌, ◌/◌, ◌<◌, ◌||◌, ◌≡◌, ◌≤◌, Bool, ap, arith, false, nat_eq, nat_lt, not, refl, slice_index_or, true, ℕ}
use Rattle.dob_rank.proofs.Common.{lt-ltb, all_below, all_below-at, choose, free_squares, higher_of, lower_of, and_parts, ltb-true}
use Rattle.dob_rank.specs.declared.placing.TheConstants.{FIRST_FROM_END, SECOND_FROM_END}
use Rattle.dob_rank.proofs.Positions.Blocks.{choose-small, most_choices}
use Rattle.dob_rank.proofs.Boards.EmptySquares.{choose_one}
use Rattle.dob_rank.proofs.Positions.BlockStarts.{same_number, second}

abbrev pub from_end : ℕ → ℕ → ℕ
from_end squares number = squares * (squares - 1) / 2 - 1 - number

-- what the code's sums need of a choice, and what they give
pub record IsPair (squares number first second : ℕ) : Type 0 where
  pub place_low : from_end squares number < most_choices
  pub fits : 1 + number ≤ squares * (squares - 1) / 2
  pub first_low : first ≤ squares - 1
  pub second_low : second ≤ squares - 1
  pub lower_is : squares - 1 - first ≡ lower_of squares number
  pub higher_is : squares - 1 - second ≡ higher_of squares number

abbrev pub first_at : ℕ → ℕ → ℕ
first_at squares number = slice_index_or FIRST_FROM_END (from_end squares number) 0

abbrev pub second_at : ℕ → ℕ → ℕ
second_at squares number = slice_index_or SECOND_FROM_END (from_end squares number) 0

abbrev agrees : ℕ → ℕ → Bool
agrees squares number = not (nat_lt number (choose squares 2)) || (
    nat_lt (from_end squares number) most_choices
    && (nat_lt number (squares * (squares - 1) / 2)
    && (nat_lt (first_at squares number) (squares - 1 + 1)
    && (nat_lt (second_at squares number) (squares - 1 + 1)
    && (nat_eq (squares - 1 - first_at squares number) (lower_of squares number)
    && nat_eq (squares - 1 - second_at squares number) (higher_of squares number)))))
    )

computed : all_below (λ squares. all_below (agrees squares) most_choices) 11 ≡ true
computed = refl

not_less : (a b : ℕ) → a < b → not (nat_lt a b) ≡ false
not_less a b h = ap not (lt-ltb a b h)

pub pair_is : (squares number : ℕ) → squares ≤ free_squares → number < choose squares 2
    → IsPair squares number (first_at squares number) (second_at squares number)
pair_is squares number few below =
    let small : number < most_choices = (let most = choose-small squares 2 few (omega arith) in omega arith) in
    let row = all_below-at (λ s. all_below (agrees s) most_choices) 11 squares computed (omega arith) in
    let here = all_below-at (agrees squares) most_choices number row small in
    let all = second _ _ here (not_less number (choose squares 2) below) in
    let a = and_parts _ _ all in
    let b = and_parts _ _ a.1 in
    let c = and_parts _ _ b.1 in
    let d = and_parts _ _ c.1 in
    let e = and_parts _ _ d.1 in
    let low : from_end squares number < most_choices = ltb-true (from_end squares number) most_choices a.0 in
    let fits : number < squares * (squares - 1) / 2 = ltb-true number (squares * (squares - 1) / 2) b.0 in
    let first : first_at squares number < squares - 1 + 1 = ltb-true (first_at squares number) (squares - 1 + 1) c.0 in
    let other : second_at squares number < squares - 1 + 1 = ltb-true (second_at squares number) (squares - 1 + 1) d.0 in
    record {
      place_low = low;
      fits = omega (arith, fits);
      first_low = omega (arith, first);
      second_low = omega (arith, other);
      lower_is = same_number (squares - 1 - first_at squares number) (lower_of squares number) e.0;
      higher_is = same_number (squares - 1 - second_at squares number) (higher_of squares number) e.1;
    }

pub few_ones : (squares pieces number : ℕ) → squares ≤ free_squares → pieces ≡ 1 → number < choose squares pieces → number ≤ 12
few_ones squares pieces number few one below = (let is = rw one at below in omega (arith, is, choose_one squares))
