-- What the lists and numbers of the code amount to: the rank of a position, and the position of a rank.
use Rattle.dob_rank.proofs.Common.{◌*◌, ◌+◌, ◌<◌, ◌^◌, ◌∙◌, ◌≡◌, ◌≤◌, List, ap, arith, drop, refl, subst, sym, take, ℕ, mirrored, PieceSet, Setup, HasDigits}
use Rattle.dob_rank.proofs.Common.{bases_by, block_bases, block_of, block_size, digits, digits_of, number_of, on_board, product, rank_of_set, setup_by}
use Rattle.dob_rank.proofs.Common.{setup_in, sum_below, IsPositionOfSet, local_bases, local_number, local_of, run_bases, run_number, run_of, run_size, runs_in}
use Rattle.dob_pieces.proofs.Boards.{total-mirrored, IsLegal-mirrored}
use Rattle.dob_rank.proofs.Arithmetic.MixedRadix.{HasDigits-digits_of, digits_of-number_of, number_of-digits_of, number_of-below, parts-below}
use Rattle.dob_rank.proofs.Positions.Digits.{HasParts-from_position, HasDigits-on_board, HasDigits-digits}
use Rattle.dob_rank.proofs.Positions.Numbering.{HasBlock, place_of, HasBlock-setup_in, block_of-below, rank_of_set-place}
use Rattle.dob_rank.proofs.Positions.Blocks.{run_bases-few, block_size-product}

pub HasDigits-same : (bs cs ds es : List ℕ) → bs ≡ cs → ds ≡ es → HasDigits cs es → HasDigits bs ds
HasDigits-same bs cs ds es p q h = subst (λ (xs : List ℕ). HasDigits xs ds) (sym p) (subst (HasDigits cs) (sym q) h)

-- ---- the rank of a position
pub HasDigits-board : (set : PieceSet) (s : Setup) (nums : List ℕ) → IsPositionOfSet set s → nums ≡ on_board s → HasDigits (block_bases set) nums
HasDigits-board set s nums p e
    = HasDigits-same (block_bases set) (block_bases set) nums (on_board s) refl e (HasDigits-on_board set s (HasParts-from_position set s p))

pub HasDigits-place : (set : PieceSet) (s : Setup) (nums bs ds : List ℕ) → IsPositionOfSet set s → nums ≡ on_board s
    → bs ≡ bases_by set nums → ds ≡ digits s → HasDigits bs ds
HasDigits-place set s nums bs ds p e f g =
    HasDigits-same bs (bases_by set (on_board s)) ds (digits s) (f ∙ ap (bases_by set) e) g (HasDigits-digits set s (HasParts-from_position set s p))

-- the code's number of the block
pub block_found : (set : PieceSet) (s : Setup) (bb nums : List ℕ) (block : ℕ) → bb ≡ block_bases set → nums ≡ on_board s → block ≡ number_of bb nums →
    block ≡ block_of set s
block_found set s bb nums block a b e = e ∙ ap (λ (xs : List ℕ). number_of xs nums) a ∙ ap (number_of (block_bases set)) b

-- the code's numbers of the run and of the place in it
pub run_is_of : (set : PieceSet) (s : Setup) (nums ds : List ℕ) (run : ℕ) → nums ≡ on_board s → ds ≡ digits s →
    run ≡ run_number set nums ds → run ≡ run_of set s
unfolding run_of
run_is_of set s nums ds run a b e = e ∙ ap (λ (xs : List ℕ). run_number set xs ds) a ∙ ap (run_number set (on_board s)) b

pub local_is_of : (s : Setup) (nums ds : List ℕ) (local : ℕ) → nums ≡ on_board s → ds ≡ digits s → local ≡ local_number nums ds → local ≡ local_of s
unfolding local_of
local_is_of s nums ds local a b e = e ∙ ap (λ (xs : List ℕ). local_number xs ds) a ∙ ap (local_number (on_board s)) b

run_few : (set : PieceSet) (s : Setup) → IsPositionOfSet set s → number_of (run_bases set (on_board s)) (take 5 (digits s)) < 2 ^ 12
run_few set s p =
    let h = HasDigits-digits set s (HasParts-from_position set s p) in
    omega (
      arith,
      number_of-below (run_bases set (on_board s)) (take 5 (digits s)) (h.0, (h.1.0, (h.1.1.0, (h.1.1.1.0, (h.1.1.1.1.0, tt))))),
      run_bases-few set (on_board s),
    )

-- a spot of a block whose numbers on the board are known
pub spot_small : (set : PieceSet) (s : Setup) (nums : List ℕ) (run local : ℕ) → IsPositionOfSet set s → nums ≡ on_board s →
    run ≡ run_of set s → local ≡ local_of s → (run < 2 ^ 12) × (local < product (local_bases nums))
unfolding run_of local_of
spot_small set s nums run local p e r l =
    let h = HasDigits-digits set s (HasParts-from_position set s p) in
    (omega (arith, run_few set s p, r), rw (e, l) (number_of-below (local_bases (on_board s)) (drop 5 (digits s)) h.1.1.1.1.1))

pub block_upto : (set : PieceSet) (s : Setup) (block : ℕ) → IsPositionOfSet set s → block ≡ block_of set s → block ≤ product (block_bases set)
block_upto set s block p is = omega (arith, is, block_of-below set s p)

pub ranked : (set : PieceSet) (s : Setup) (block place start : ℕ) → block ≡ block_of set s → place ≡ place_of set s →
    start ≡ sum_below (block_size set) block → start + place ≡ rank_of_set set s
ranked set s block place start block_is place_is g = rw (g, block_is, place_is) (sym (rank_of_set-place set s))

-- ---- the position of a rank
pub place_in : (set : PieceSet) (block place : ℕ) (nums : List ℕ) → place < block_size set block
    → nums ≡ digits_of (block_bases set) block → place < product (bases_by set nums)
place_in set block place nums h e = grind (arith, block_size-product set block)

-- the position that the code makes of a place
pub made_at : (set : PieceSet) (block place : ℕ) (nums bs ds : List ℕ) (s : Setup) → block < product (block_bases set) → place < block_size set block
    → nums ≡ digits_of (block_bases set) block → bs ≡ bases_by set nums → ds ≡ digits_of bs place → s ≡ setup_by set nums ds → HasBlock set block place s
made_at set block place nums bs ds s a b d e f g =
    let same : s ≡ setup_in set block place = cc (d, e, f, g) in
    rw same (HasBlock-setup_in set block place (record { block_below = a; place_below = b }))

-- the same of a spot
pub HasDigits-spot : (set : PieceSet) (ob : List ℕ) (run local : ℕ) (ds : List ℕ) → run < product (run_bases set ob) → local < product (local_bases ob)
    → ds ≡ digits_of (bases_by set ob) (run * product (local_bases ob) + local) → HasDigits (bases_by set ob) ds
HasDigits-spot set ob run local ds h l e =
    rw e (HasDigits-digits_of (bases_by set ob) (run * product (local_bases ob) + local) (parts-below (run_bases set ob) (local_bases ob) run local h l))

pub made_by : (set : PieceSet) (ob : List ℕ) (run local : ℕ) (ds : List ℕ) (s : Setup) → HasDigits (block_bases set) ob
    → run < product (run_bases set ob) → local < product (local_bases ob) → ds ≡ digits_of (bases_by set ob) (run * product (local_bases ob) + local)
    → s ≡ setup_by set ob ds → HasBlock set (number_of (block_bases set) ob) (run * product (local_bases ob) + local) s
made_by set ob run local ds s on h l e f =
    let back = digits_of-number_of (block_bases set) ob on in
    made_at set (number_of (block_bases set) ob) (run * product (local_bases ob) + local) ob (bases_by set ob) ds s (number_of-below (block_bases set) ob on)
    (subst (λ (n : ℕ). run * product (local_bases ob) + local < n)
    (sym (block_size-product set (number_of (block_bases set) ob) ∙ ap (λ (xs : List ℕ). product (bases_by set xs)) back))
    (parts-below (run_bases set ob) (local_bases ob) run local h l)) (sym back) refl e f

-- a spot of a block by the numbers on its board
pub run_in_bases : (set : PieceSet) (block run : ℕ) (nums : List ℕ) → nums ≡ digits_of (block_bases set) block → run < runs_in set block →
    run < product (run_bases set nums)
unfolding runs_in
run_in_bases set block run nums e h = subst (λ (xs : List ℕ). run < product (run_bases set xs)) (sym e) h

pub local_in_bases : (set : PieceSet) (block local : ℕ) (nums : List ℕ) → nums ≡ digits_of (block_bases set) block → local < run_size set block →
    local < product (local_bases nums)
unfolding run_size
local_in_bases set block local nums e h = subst (λ (xs : List ℕ). local < product (local_bases xs)) (sym e) h

-- what stands at a spot of those numbers on the board stands at its place of their block
pub made_at_place : (set : PieceSet) (block place run local : ℕ) (nums : List ℕ) (s : Setup) → block < product (block_bases set)
    → nums ≡ digits_of (block_bases set) block → run * product (local_bases nums) + local ≡ place
    → HasBlock set (number_of (block_bases set) nums) (run * product (local_bases nums) + local) s → HasBlock set block place s
made_at_place set block place run local nums s within e is h = grind (arith, number_of-digits_of (block_bases set) block within, h)

pub made_in_block : (set : PieceSet) (block run local : ℕ) (nums : List ℕ) (s : Setup) → block < product (block_bases set)
    → nums ≡ digits_of (block_bases set) block → HasBlock set (number_of (block_bases set) nums) (run * product (local_bases nums) + local) s
    → HasBlock set block (run * run_size set block + local) s
unfolding run_size
made_in_block set block run local nums s within e h =
    made_at_place set block (run * run_size set block + local) run local nums s within e (ap (λ (xs : List ℕ). run * product (local_bases xs) + local) e) h

pub made_same : (set : PieceSet) (block place : ℕ) (s t : Setup) → t ≡ s → HasBlock set block place s → HasBlock set block place t
made_same set block place s t e h = subst (HasBlock set block place) (sym e) h

-- the mirror image is a position of the same set
pub IsPositionOfSet-mirrored : (set : PieceSet) (s : Setup) → IsPositionOfSet set s → IsPositionOfSet set (mirrored s)
IsPositionOfSet-mirrored set s p = record { legal = IsLegal-mirrored s p.legal; pieces = λ kind. total-mirrored kind s p.legal.squares ∙ p.pieces kind }
