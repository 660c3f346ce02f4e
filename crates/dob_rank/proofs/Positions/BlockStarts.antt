-- The table of the blocks' starts, profile by profile: what is computed of each set and each block holds of every one. In profile A an entry is the sum
-- of the blocks before.
use Rattle.dob_rank.proofs.Common.{◌*◌, ◌+◌, ◌-◌, ◌<◌, ◌^◌, ◌||◌, ◌∙◌, ◌∷◌, ◌≡◌, ◌≤◌, Bool, List, [], arith, false, nat_eq, nat_lt, refl, slice_index}
use Rattle.dob_rank.proofs.Common.{slice_index_or, sym, true, ℕ, ltb-true, all_below, all_below-at, PieceSet, sum_same, block_bases, block_size, choose}
use Rattle.dob_rank.proofs.Common.{digits_of, enemy_squares, free_squares, own_squares, product, sum_below, nat_tests}
use Rattle.dob_rank.specs.declared.starts.TheConstants.{FIRST, STARTS}
use Rattle.dob_rank.proofs.Positions.Blocks.{block_size-product}

-- ---- each set by its numbers, and each of its blocks with the end
abbrev pub bases_of : ℕ → ℕ → ℕ → List ℕ
bases_of c e g = (c + 1) ∷ (e + 1) ∷ (g + 1) ∷ []

abbrev on_blocks : (ℕ → ℕ → ℕ → ℕ → Bool) → ℕ → ℕ → ℕ → Bool
on_blocks f c e g = all_below (f c e g) (product (bases_of c e g) + 1)

abbrev on_row : (ℕ → ℕ → ℕ → ℕ → Bool) → ℕ → ℕ → Bool
on_row f c e = all_below (on_blocks f c e) 3

abbrev pub on_all : (ℕ → ℕ → ℕ → ℕ → Bool) → Bool
on_all f = all_below (λ c. all_below (on_row f c) 3) 3

pub at_block : (f : ℕ → ℕ → ℕ → ℕ → Bool) → on_all f ≡ true → (set : PieceSet) (block : ℕ) → block ≤ product (block_bases set)
    → f set.chicks set.elephants set.giraffes block ≡ true
at_block f all set block upto =
    let some = all_below-at (λ c. all_below (on_row f c) 3) 3 set.chicks all (omega (arith, set.few_chicks)) in
    let row = all_below-at (on_row f set.chicks) 3 set.elephants some (omega (arith, set.few_elephants)) in
    let here = all_below-at (on_blocks f set.chicks set.elephants) 3 set.giraffes row (omega (arith, set.few_giraffes)) in
    all_below-at (f set.chicks set.elephants set.giraffes) (product (block_bases set) + 1) block here (omega (arith, upto))

-- ---- the table's entries
abbrev place_in : ℕ → ℕ → ℕ → ℕ → ℕ
place_in c e g block = slice_index_or FIRST (9 * c + 3 * e + g) 0 + block

abbrev start_in : ℕ → ℕ → ℕ → ℕ → ℕ → ℕ
start_in profile c e g block = slice_index_or (slice_index_or STARTS profile []) (place_in c e g block) 0

abbrev pub start_at : ℕ → PieceSet → ℕ → ℕ
start_at profile set block = start_in profile set.chicks set.elephants set.giraffes block

abbrev pub agrees : ℕ → (ℕ → ℕ → ℕ → ℕ → ℕ) → ℕ → ℕ → ℕ → ℕ → Bool
agrees profile size c e g block = nat_eq (start_in profile c e g block) (sum_below (size c e g) block)

pub same_number : (a b : ℕ) → nat_eq a b ≡ true → a ≡ b
same_number a b h = grind (arith, nat_tests)

pub second : (a b : Bool) → (a || b) ≡ true → a ≡ false → b ≡ true
second a b h e = grind arith

-- an entry that was computed
pub entry_is : (profile : ℕ) (size : ℕ → ℕ → ℕ → ℕ → ℕ) → on_all (agrees profile size) ≡ true → (set : PieceSet) (block : ℕ)
    → block ≤ product (block_bases set) → start_at profile set block ≡ sum_below (size set.chicks set.elephants set.giraffes) block
entry_is profile size all set block upto =
    same_number (start_at profile set block) (sum_below (size set.chicks set.elephants set.giraffes) block) (at_block (agrees profile size) all set block upto)

-- ---- where the entries stand
abbrev is_within : ℕ → ℕ → ℕ → ℕ → Bool
is_within c e g block = nat_lt (place_in c e g block) 243

all_within : on_all is_within ≡ true
all_within = refl

pub place_within : (set : PieceSet) (block : ℕ) → block ≤ product (block_bases set)
    → slice_index_or FIRST (9 * set.chicks + 3 * set.elephants + set.giraffes) 0 + block < 243
place_within set block upto = ltb-true (place_in set.chicks set.elephants set.giraffes block) 243 (at_block is_within all_within set block upto)

-- ---- in profile A
abbrev bases_in : ℕ → ℕ → ℕ → List ℕ → List ℕ
bases_in c e g ob =
    let i = slice_index ob 0 in
    let j = slice_index ob 1 in
    let k = slice_index ob 2 in
    (c - i + 1) ∷ (e - j + 1) ∷ (g - k + 1)
    ∷ own_squares ∷ enemy_squares ∷ choose free_squares i ∷ choose (free_squares - i) j ∷ choose (free_squares - i - j) k
    ∷ (4 ^ i) ∷ (2 ^ j) ∷ (2 ^ k) ∷ []

abbrev size_by : ℕ → ℕ → ℕ → ℕ → ℕ
size_by c e g block = product (bases_in c e g (digits_of (bases_of c e g) block))

computed : on_all (agrees 0 size_by) ≡ true
computed = refl

pub start_is : (set : PieceSet) (block : ℕ) → block ≤ product (block_bases set) → start_at 0 set block ≡ sum_below (block_size set) block
start_is set block upto =
    entry_is 0 size_by computed set block upto
    ∙ sym (sum_same (block_size set) (size_by set.chicks set.elephants set.giraffes) block (λ n low. block_size-product set n))

-- ---- how large they are
abbrev few_in : ℕ → ℕ → ℕ → ℕ → Bool
few_in c e g block = nat_lt (start_in 0 c e g block) (2 ^ 31)

few_all : on_all few_in ≡ true
few_all = refl

pub start_few : (set : PieceSet) (block : ℕ) → block ≤ product (block_bases set) → sum_below (block_size set) block < 2 ^ 31
start_few set block upto = rw (← start_is set block upto) (ltb-true (start_at 0 set block) (2 ^ 31) (at_block few_in few_all set block upto))
