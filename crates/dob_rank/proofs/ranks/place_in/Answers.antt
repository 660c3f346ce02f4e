-- In profile A all places before count, in profile B those that are allowed.
use Rattle.dob_rank.proofs.Common.{◌%◌, ◌*◌, ◌+◌, ◌/◌, ◌<◌, ◌^◌, ◌≡◌, ◌≤◌, ap, arith, mul-le-mul, subst, sym, List, PieceSet, ℕ, AreFewOnBoard, block_bases}
use Rattle.dob_rank.proofs.Common.{digits_of, lion_pairs, local_bases, product, run_size}
use Rattle.dob_rank.proofs.Positions.Blocks.{AreFewOnBoard-digits, HasDigits-numbers}
use Rattle.dob_rank.proofs.InRuns.RunPlaces.{run_size-small}
use Rattle.dob_rank.proofs.OfFamilies.FamilyRanks.{placed_by, placed_in_a}
use Rattle.dob_rank.proofs.ranks.place_in.Goals as goal
use Rattle.dob_rank.proofs.ranks.place_in.Goals.{In-A, In-B, After-before_lions, After-others_ways}

size_is : (set : PieceSet) (block : ℕ) (ob : List ℕ) → ob ≡ digits_of (block_bases set) block → product (local_bases ob) ≡ run_size set block
unfolding run_size
size_is set block ob is = ap (λ (xs : List ℕ). product (local_bases xs)) is

few : (set : PieceSet) (block : ℕ) (ob : List ℕ) → block < product (block_bases set) → ob ≡ digits_of (block_bases set) block → AreFewOnBoard ob
few set block ob within is = AreFewOnBoard-digits set ob (HasDigits-numbers set block ob within is)

pub place_of-requires-clause-few : goal.place_of-requires-clause-few
place_of-requires-clause-few c = few c.args.family.set c.args.block _ c.requires.block c.requires.numbers

pub place_of-requires-clause-run : goal.place_of-requires-clause-run
place_of-requires-clause-run c = c.requires.few_runs

pub place_of-requires-clause-local : goal.place_of-requires-clause-local
place_of-requires-clause-local c =
    subst (λ (n : ℕ). c.args.spot.local < n) (sym (size_is c.args.family.set c.args.block _ c.requires.numbers)) c.requires.local

pub returns-in-A : goal.returns-in-A
returns-in-A c =
    placed_in_a c.args.family c.args.block c.args.spot.run c.args.spot.local c.place_of.result _ c.in-A.is
    (size_is c.args.family.set c.args.block _ c.requires.numbers) c.place_of.ensures

hands_few : (run hand : ℕ) → run < 2 ^ 12 → hand ≤ 54000 → run / lion_pairs * hand ≤ 41 * 54000
hands_few run hand h k = mul-le-mul (let e : run / lion_pairs ≤ 41 = omega (arith, h) in e) k

pub overflow_mul-hands : goal.overflow_mul-hands
overflow_mul-hands c = (let most = hands_few c.args.spot.run c.hand_size.result c.requires.few_runs c.hand_size.ensures.bound in omega (arith, most))

pub overflow_add-chosen : goal.overflow_add-chosen
overflow_add-chosen c =
    let most = hands_few c.args.spot.run c.hand_size.result c.requires.few_runs c.hand_size.ensures.bound in
    let lions : c.args.spot.run % lion_pairs < 99 = omega arith in
    omega (arith, most, lions, c.before_lions.ensures.bound)

chosen_few : (run hand lions others : ℕ) → run < 2 ^ 12 → hand ≤ 54000 → lions ≤ 1600 * (run % lion_pairs) → others ≤ 2025 * 16
    → (run / lion_pairs * hand + lions) * others ≤ 3000000 * 32400
chosen_few run hand lions others h k e o = mul-le-mul (sum_few (run / lion_pairs * hand) lions run (hands_few run hand h k) e) o
  where
    sum_few : (a b run : ℕ) → a ≤ 41 * 54000 → b ≤ 1600 * (run % lion_pairs) → a + b ≤ 3000000
    sum_few a b run h k = (let low : run % lion_pairs < 99 = omega arith in omega (arith, h, k, low))

pub overflow_mul-result : goal.overflow_mul-result
overflow_mul-result c =
    let most = chosen_few c.args.spot.run c.hand_size.result c.before_lions.result c.others_ways.result c.requires.few_runs c.hand_size.ensures.bound
    c.before_lions.ensures.bound c.others_ways.ensures.bound in
    omega (arith, most)

pub overflow_add-result : goal.overflow_add-result
overflow_add-result c =
    let most = chosen_few c.args.spot.run c.hand_size.result c.before_lions.result c.others_ways.result c.requires.few_runs c.hand_size.ensures.bound
    c.before_lions.ensures.bound c.others_ways.ensures.bound in
    let size = run_size-small c.args.family.set c.args.block c.requires.block in
    omega (arith, most, size, c.requires.local, c.number_of_place.ensures.bound)

pub hand_size-requires : goal.hand_size-requires
hand_size-requires c = (few c.args.family.set c.args.block _ c.requires.block c.requires.numbers).chicks

pub before_lions-requires-clause-chicks : goal.before_lions-requires-clause-chicks
before_lions-requires-clause-chicks c = (few c.args.family.set c.args.block _ c.requires.block c.requires.numbers).chicks

pub others_ways-requires : goal.others_ways-requires
others_ways-requires c = few c.args.family.set c.args.block _ c.requires.block c.requires.numbers

pub number_of_place-requires-clause-few : goal.number_of_place-requires-clause-few
number_of_place-requires-clause-few c = few c.args.family.set c.args.block _ c.requires.block c.requires.numbers

pub number_of_place-requires-clause-place : goal.number_of_place-requires-clause-place
number_of_place-requires-clause-place c =
    subst (λ (n : ℕ). c.args.spot.local < n) (sym (size_is c.args.family.set c.args.block _ c.requires.numbers)) c.requires.local

pub returns-in-B : goal.returns-in-B
returns-in-B c =
    placed_by c.args.family c.args.block c.args.spot.run c.args.spot.local c.args.on_board.now c.hand_size.result c.before_lions.result c.others_ways.result
    c.number_of_place.result c.in-B.is (record { block_below = c.requires.block; run_below = c.requires.run; local_below = c.requires.local }) c.requires.numbers
    c.hand_size.ensures.value c.before_lions.ensures.value c.others_ways.ensures.value c.number_of_place.ensures.value
