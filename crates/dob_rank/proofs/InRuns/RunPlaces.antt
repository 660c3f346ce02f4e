-- A place in a block is a run and a place in that run, and the lions of a run compare its positions with their mirror
-- images.
use Rattle.dob_rank.proofs.Common.{◌%◌, ◌*◌, ◌++◌, ◌+◌, ◌/◌, ◌<◌, ◌^◌, ◌∙◌, ◌∷◌, ◌≡◌, ◌≤◌, Bool, List, [], ap, arith, false, get_or, inl, inr, length, map}
use Rattle.dob_rank.proofs.Common.{refl, subst, suc, sym, true, ℕ, cases_Bool, length-map, div-mul-add, All, mirrored, PieceSet, Setup, is_first, marked}
use Rattle.dob_rank.proofs.Common.{bases_by, block_bases, block_of, block_size, choice, count, digits_of, forms_number, layer, number_of, on_board, order}
use Rattle.dob_rank.proofs.Common.{product, rank_of_set, setup_in, size_of_set, sum_below, IsPositionOfSet, IsInRun, lion_pairs, lions_of, local_bases}
use Rattle.dob_rank.proofs.Common.{local_of, run_bases, run_kind, run_of, run_size, run_start, runs_in, Chicks, Elephants, EnemyLion, Giraffes, OwnLion, mul-le}
use Rattle.dob_rank.specs.declared.runs.RunKind.TheVariants.{First, Later}
use Rattle.dob_rank.proofs.Boards.BoardMasks.{three}
use Rattle.dob_rank.proofs.Positions.Blocks.{AreBases-by, few_in_block, block_size-small, run_bases-few, place_below_size, block_size-product, hand_bases}
use Rattle.dob_rank.proofs.Arithmetic.MixedRadix.{digit_below, number_of-below, product-append, number_of-append}
use Rattle.dob_rank.proofs.Positions.Digits.{HasParts-from_position, HasDigits-digits}
use Rattle.dob_rank.proofs.Positions.Numbering.{HasBlock, place_of, rank_of_set-place, block_of-below, on_board-block, HasBlock-setup_in, rank_of_set-block}
use Rattle.dob_rank.proofs.Positions.Numbering.{rank_of_set-below}
use Rattle.dob_rank.proofs.Positions.Found.{IsPositionOfSet-mirrored}
use Rattle.dob_rank.proofs.Marked.Marks.{first-marked, marked-first, marked-first_of}
use Rattle.dob_rank.proofs.Marked.Representatives.{first_by_rank, rank_of_first}
use Rattle.dob_rank.proofs.InRuns.Lions.{mirror_layers, layers-mirrored, image_lions, lions_of-mirrored, lions_of-below, first_lions, later_lions}
use Rattle.dob_rank.proofs.Positions.Loops.{product-positive}

-- ---- a position's run, and its place there
abbrev pub hand_digits : Setup → List ℕ
hand_digits s = s.hands.mover.chicks ∷ s.hands.mover.elephants ∷ s.hands.mover.giraffes ∷ []

abbrev pub lions_digits : Setup → List ℕ
lions_digits s = choice (order OwnLion) (map layer s.board) ∷ choice (order EnemyLion) (map layer s.board) ∷ []

abbrev pub local_digits : Setup → List ℕ
local_digits s =
    choice (order Chicks) (map layer s.board) ∷ choice (order Elephants) (map layer s.board) ∷ choice (order Giraffes) (map layer s.board)
    ∷ forms_number (order Chicks) s.board ∷ forms_number (order Elephants) s.board ∷ forms_number (order Giraffes) s.board ∷ []

-- the number of the hands, and the size of the run
pub hand_of : PieceSet → Setup → ℕ
hand_of set s = number_of (hand_bases set (on_board s)) (hand_digits s)

pub local_size : Setup → ℕ
local_size s = product (local_bases (on_board s))

pub place_of-run : (set : PieceSet) (s : Setup) → place_of set s ≡ run_of set s * local_size s + local_of s
unfolding run_of local_of local_size
place_of-run set s = grind (arith, number_of-append)

pub run_of-lions : (set : PieceSet) (s : Setup) → run_of set s ≡ hand_of set s * lion_pairs + lions_of s
unfolding run_of hand_of
run_of-lions set s = grind (arith, number_of-append)

pub local_of-below : (set : PieceSet) (s : Setup) → IsPositionOfSet set s → local_of s < local_size s
unfolding local_of local_size
local_of-below set s p =
    number_of-below (local_bases (on_board s)) (local_digits s) (HasDigits-digits set s (HasParts-from_position set s p)).1.1.1.1.1

-- ---- the mirror image
count-mirror : (t : ℕ) (ls : List ℕ) → length ls ≡ 12 → count t (mirror_layers ls) ≡ count t ls
count-mirror t (a ∷ b ∷ c ∷ d ∷ e ∷ i ∷ j ∷ k ∷ l ∷ m ∷ n ∷ o ∷ []) eq = omega arith
count-mirror t ls eq = absurd (omega arith)

pub on_board-mirrored : (s : Setup) → length s.board ≡ 12 → on_board (mirrored s) ≡ on_board s
on_board-mirrored s eq =
    let same : (t : ℕ) → count t (map layer (mirrored s).board) ≡ count t (map layer s.board) =
    λ t. ap (count t) (layers-mirrored s eq) ∙ count-mirror t (map layer s.board) (length-map s.board layer ∙ eq) in
    three _ _ _ _ _ _ (same 2) (same 3) (same 4)

pub hand_of-mirrored : (set : PieceSet) (s : Setup) → length s.board ≡ 12 → hand_of set (mirrored s) ≡ hand_of set s
unfolding hand_of mirrored
hand_of-mirrored set s eq = ap (λ xs. number_of (hand_bases set xs) (hand_digits s)) (on_board-mirrored s eq)

pub local_size-mirrored : (s : Setup) → length s.board ≡ 12 → local_size (mirrored s) ≡ local_size s
unfolding local_size
local_size-mirrored s eq = ap (λ xs. product (local_bases xs)) (on_board-mirrored s eq)

pub block_of-mirrored : (set : PieceSet) (s : Setup) → IsPositionOfSet set s → block_of set (mirrored s) ≡ block_of set s
block_of-mirrored set s p = ap (number_of (block_bases set)) (on_board-mirrored s p.legal.squares)

-- runs with the same hands stand in the order of their lions
runs_apart : (hand low high size local other : ℕ) → low < high → local < size →
    (hand * lion_pairs + low) * size + local < (hand * lion_pairs + high) * size + other
runs_apart hand low high size local other less below = grind (arith, digit_below)

pub place-parts : (set : PieceSet) (s : Setup) (size lions : ℕ) → local_size s ≡ size → lions_of s ≡ lions →
    place_of set s ≡ (hand_of set s * lion_pairs + lions) * size + local_of s
place-parts set s size lions same is = grind (arith, place_of-run, run_of-lions)

pub image-parts : (set : PieceSet) (s : Setup) → IsPositionOfSet set s →
    place_of set (mirrored s) ≡ (hand_of set s * lion_pairs + image_lions (lions_of s)) * local_size s + local_of (mirrored s)
image-parts set s p =
    rw (← hand_of-mirrored set s p.legal.squares)
    (place-parts set (mirrored s) (local_size s) (image_lions (lions_of s)) (local_size-mirrored s p.legal.squares) (lions_of-mirrored set s p))

-- the earlier place of a position and its mirror image has the lower rank
rank_by_place : (set : PieceSet) (s : Setup) → IsPositionOfSet set s →
    rank_of_set set (mirrored s) ≡ sum_below (block_size set) (block_of set s) + place_of set (mirrored s)
rank_by_place set s p = grind (arith, rank_of_set-place, block_of-mirrored)

pub first_by_place : (set : PieceSet) (s : Setup) → IsPositionOfSet set s → place_of set s ≤ place_of set (mirrored s) →
    is_first set (rank_of_set set s) ≡ true
first_by_place set s p le = grind (arith, rank_of_set-place, rank_by_place, first-marked, first_by_rank)

pub later_by_place : (set : PieceSet) (s : Setup) → IsPositionOfSet set s → place_of set (mirrored s) < place_of set s →
    is_first set (rank_of_set set s) ≡ false
later_by_place set s p lt = elim (cases_Bool (is_first set (rank_of_set set s))) [
  | inl on ↦ absurd (omega (arith, rank_of_set-place set s, rank_by_place set s p, rank_of_first set s p (marked-first set s p on)))
  | inr off ↦ off
]

-- ---- the marks of a run

-- the position that stands there
pub record StandsIn (set : PieceSet) (block run local : ℕ) (s : Setup) : Type 0 where
  pub position : IsPositionOfSet set s
  pub rank_is : rank_of_set set s ≡ run_start set block run + local
  pub lions_are : lions_of s ≡ run % lion_pairs

pub block_size-runs : (set : PieceSet) (block : ℕ) → block_size set block ≡ runs_in set block * run_size set block
unfolding runs_in run_size
block_size-runs set block = grind (arith, block_size-product, product-append)

pub local_size-block : (set : PieceSet) (block : ℕ) (s : Setup) → IsPositionOfSet set s → block_of set s ≡ block → local_size s ≡ run_size set block
unfolding local_size run_size
local_size-block set block s p is = grind (arith, on_board-block)

same_quotient : (a b n x y : ℕ) → a * n + x ≡ b * n + y → x < n → y < n → a ≡ b
same_quotient a b n x y e p q = sym (div-mul-add a n x p) ∙ ap (λ m. m / n) e ∙ div-mul-add b n y q

pub place_in_run : (set : PieceSet) (block run local : ℕ) → IsInRun set block run local →
    run * run_size set block + local < block_size set block
place_in_run set block run local h = grind (arith, block_size-runs, digit_below)

pub run_start-is : (set : PieceSet) (block run : ℕ) → run_start set block run ≡ sum_below (block_size set) block + run * run_size set block
unfolding run_start
run_start-is set block run = refl

-- the lions of a run
pub remainder : (hand lions is run : ℕ) → is ≡ run → is ≡ hand * lion_pairs + lions → lions < lion_pairs → lions ≡ run % lion_pairs
remainder hand lions is run same whole below = omega arith

pub stands_in : (set : PieceSet) (block run local : ℕ) → IsInRun set block run local → (s : Setup) × StandsIn set block run local s
stands_in set block run local h =
    let place = run * run_size set block + local in
    let s = setup_in set block place in
    let there : HasBlock set block place s =
    HasBlock-setup_in set block place (record { block_below = h.block_below; place_below = place_in_run set block run local h }) in
    let size : local_size s ≡ run_size set block = local_size-block set block s there.position there.block_is in
    let parts : run_of set s * run_size set block + local_of s ≡ run * run_size set block + local =
    ap (λ n. run_of set s * n + local_of s) (sym size) ∙ sym (place_of-run set s) ∙ there.place_is in
    let low : local_of s < run_size set block = subst (λ n. local_of s < n) size (local_of-below set s there.position) in
    let run_is : run_of set s ≡ run = same_quotient (run_of set s) run (run_size set block) (local_of s) local parts low h.local_below in
    let lions : lions_of s < lion_pairs = lions_of-below set s there.position in
    let whole : run_of set s ≡ hand_of set s * lion_pairs + lions_of s = run_of-lions set s in (
      s,
      record {
        position = there.position;
        rank_is = rank_of_set-block set block place s there ∙ from_start (sum_below (block_size set) block) (run * run_size set block) local
            ∙ ap (λ n. n + local) (sym (run_start-is set block run));
        lions_are = remainder (hand_of set s) (lions_of s) (run_of set s) run run_is whole lions;
      },
    )
  where
    from_start : (start run local : ℕ) → start + (run + local) ≡ start + run + local
    from_start start run local = omega arith

-- a position's own spot
pub record HasSpot (set : PieceSet) (s : Setup) (of : PieceSet) (block run local : ℕ) : Type 0 where
  pub there : IsInRun of block run local
  pub rank_is : run_start of block run + local ≡ rank_of_set set s

pub run_of-below : (set : PieceSet) (s : Setup) → IsPositionOfSet set s → run_of set s < runs_in set (block_of set s)
unfolding run_of runs_in
run_of-below set s p =
    let h = HasDigits-digits set s (HasParts-from_position set s p) in
    subst (λ xs. run_of set s < product (run_bases set xs)) (sym (on_board-block set s p))
    (number_of-below (run_bases set (on_board s)) (hand_digits s ++ lions_digits s) (h.0, (h.1.0, (h.1.1.0, (h.1.1.1.0, (h.1.1.1.1.0, tt))))))

own_spot : (set : PieceSet) (s : Setup) → IsPositionOfSet set s → HasSpot set s set (block_of set s) (run_of set s) (local_of s)
own_spot set s p =
    let size = local_size-block set (block_of set s) s p refl in
    let place = rw size at (place_of-run set s) in
    record {
      there = record { block_below = block_of-below set s p; run_below = run_of-below set s p; local_below = rw size at (local_of-below set s p) };
      rank_is = omega (arith, place, rank_of_set-place set s, run_start-is set (block_of set s) (run_of set s));
    }

pub spot_there : (set : PieceSet) (s : Setup) (of : PieceSet) (block run local : ℕ) → IsPositionOfSet set s → of ≡ set → block ≡ block_of set s →
    run ≡ run_of set s → local ≡ local_of s → HasSpot set s of block run local
spot_there set s of block run local p of_is block_is run_is local_is = grind (arith, own_spot)

pub mark_at : (set : PieceSet) (block run local : ℕ) (s : Setup) (on : Bool) → StandsIn set block run local s → is_first set (rank_of_set set s) ≡ on →
    marked set (run_start set block run + local) ≡ on
mark_at set block run local s on there is =
    ap (marked set) (sym there.rank_is) ∙ marked-first_of set (rank_of_set set s) (rank_of_set-below set s there.position) ∙ is

-- where the lions' columns say first each position of a run is marked
pub marked_first : (set : PieceSet) (block run local : ℕ) → IsInRun set block run local → run_kind (run % lion_pairs) ≡ First →
    marked set (run_start set block run + local) ≡ true
marked_first set block run local h kind =
    let at = stands_in set block run local h in
    let s = at.0 in
    let p = at.1.position in
    let lions = first_lions (lions_of s) (lions_of-below set s p) (ap run_kind at.1.lions_are ∙ kind) in
    let apart = runs_apart (hand_of set s) (lions_of s) (image_lions (lions_of s)) (local_size s) (local_of s) (local_of (mirrored s)) lions
    (local_of-below set s p) in
    mark_at set block run local s true at.1
    (first_by_place set s p (omega (arith, place-parts set s (local_size s) (lions_of s) refl refl, image-parts set s p, apart)))

-- and where they say later none is
pub marked_later : (set : PieceSet) (block run local : ℕ) → IsInRun set block run local → run_kind (run % lion_pairs) ≡ Later →
    marked set (run_start set block run + local) ≡ false
marked_later set block run local h kind =
    let at = stands_in set block run local h in
    let s = at.0 in
    let p = at.1.position in
    let lions = later_lions (lions_of s) (lions_of-below set s p) (ap run_kind at.1.lions_are ∙ kind) in
    let below = rw (local_size-mirrored s p.legal.squares) at (local_of-below set (mirrored s) (IsPositionOfSet-mirrored set s p)) in
    let apart = runs_apart (hand_of set s) (image_lions (lions_of s)) (lions_of s) (local_size s) (local_of (mirrored s)) (local_of s) lions below in
    mark_at set block run local s false at.1
    (later_by_place set s p (omega (arith, place-parts set s (local_size s) (lions_of s) refl refl, image-parts set s p, apart)))

-- ---- how many runs, and of which size
pub positive_locals : (set : PieceSet) (ob : List ℕ) → All (λ (n : ℕ). 0 < n) (bases_by set ob) → All (λ (n : ℕ). 0 < n) (local_bases ob)
positive_locals set ob all k other below = all (suc (suc (suc (suc (suc k))))) other (omega arith)

-- what the code finds of a block's numbers
pub runs_found : (set : PieceSet) (block : ℕ) (nums bs : List ℕ) → nums ≡ digits_of (block_bases set) block → bs ≡ bases_by set nums →
    get_or bs 0 0 * (get_or bs 1 0 * (get_or bs 2 0 * (get_or bs 3 0 * get_or bs 4 0))) ≡ runs_in set block
unfolding runs_in
runs_found set block nums bs is bases_are = grind arith

pub run_size-found : (set : PieceSet) (block size : ℕ) (nums : List ℕ) → nums ≡ digits_of (block_bases set) block → size ≡ product (local_bases nums) →
    size ≡ run_size set block
unfolding run_size
run_size-found set block size nums is found = found ∙ ap (λ (xs : List ℕ). product (local_bases xs)) is

pub runs_few : (set : PieceSet) (block : ℕ) → block < product (block_bases set) → runs_in set block ≤ 2 ^ 12
unfolding runs_in
runs_few set block within = run_bases-few set (digits_of (block_bases set) block)

pub no_runs : (set : PieceSet) (block : ℕ) → block < product (block_bases set) → runs_in set block ≤ 0 → ⊥
no_runs set block within none =
    let ob = digits_of (block_bases set) block in
    let some = product-positive (bases_by set ob) (AreBases-by set ob (bases_by set ob) (few_in_block set block within) refl).positive in
    let no : runs_in set block ≡ 0 = omega (arith, none) in
    let size = rw no at (block_size-runs set block) in
    omega (arith, some, size, block_size-product set block)

pub run_size-small : (set : PieceSet) (block : ℕ) → block < product (block_bases set) → run_size set block ≤ 2 ^ 36
run_size-small set block within =
    let some : 0 < runs_in set block = grind (arith, no_runs set block within) in
    omega (
      arith,
      block_size-runs set block,
      block_size-small set block within,
      mul-le 1 (run_size set block) (runs_in set block) (run_size set block) some (omega arith),
    )

-- ---- the mark of a place
mark_of_place : (set : PieceSet) (block place : ℕ) (s : Setup) (on : Bool) → HasBlock set block place s → is_first set (rank_of_set set s) ≡ on →
    marked set (sum_below (block_size set) block + place) ≡ on
mark_of_place set block place s on there is = grind (arith, rank_of_set-block, marked-first_of, rank_of_set-below)

pub marked_by_place : (set : PieceSet) (block place other : ℕ) (s t : Setup) → HasBlock set block place s → t ≡ mirrored s → other ≡ place_of set t →
    place ≤ other → marked set (sum_below (block_size set) block + place) ≡ true
marked_by_place set block place other s t there image is le = grind (arith, mark_of_place, first_by_place)

pub unmarked_by_place : (set : PieceSet) (block place other : ℕ) (s t : Setup) → HasBlock set block place s → t ≡ mirrored s → other ≡ place_of set t →
    other < place → marked set (sum_below (block_size set) block + place) ≡ false
unmarked_by_place set block place other s t there image is lt = grind (arith, mark_of_place, later_by_place)

-- the mark of a spot is that of its place
pub mark_of_spot : (set : PieceSet) (block run local : ℕ) (on : Bool) →
    marked set (sum_below (block_size set) block + (run * run_size set block + local)) ≡ on → marked set (run_start set block run + local) ≡ on
mark_of_spot set block run local on is = grind (arith, run_start-is)

pub run_size-some : (set : PieceSet) (block : ℕ) → block < product (block_bases set) → 0 < run_size set block
unfolding run_size
run_size-some set block within =
    let ob = digits_of (block_bases set) block in
    product-positive (local_bases ob) (positive_locals set ob (AreBases-by set ob (bases_by set ob) (few_in_block set block within) refl).positive)

-- a place of a run is below the set's size
pub in_set : (set : PieceSet) (block run local : ℕ) → IsInRun set block run local → run_start set block run + local < size_of_set set
in_set set block run local h =
    let start = run_start-is set block run in
    let below = place_below_size set block (run * run_size set block + local) h.block_below (place_in_run set block run local h) in
    omega (arith, start, below)
