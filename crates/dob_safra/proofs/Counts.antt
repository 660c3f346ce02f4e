-- Counters as sums of counts, and what the events change of them.
use Rattle.std.proofs.Common.{◌≡◌, ◌≢◌, ℕ, zero, suc, ◌+◌, ◌-◌, ◌^◌, ◌<◌, ◌≤◌, refl, ◌∙◌, arith, inl, inr, ⊎_elim}
use Rattle.std.proofs.Math.IntN.{pos, ◌-ℤ◌}
use Rattle.std.proofs.lemmas.Int.{ints}
use Rattle.dob_safra.specs.Rings.{Ring, sum_below, counters_below, in_flight, Raises, CountsStay}
use Rattle.dob_safra.proofs.Sums.{sum_same, sum_bound, sum_raised, sum_added, sum_swapped, sum_member}

-- the counts of the first k rows of n
abbrev pub rows : ℕ → ℕ → (ℕ → ℕ → ℕ) → ℕ
rows n k f = sum_below k (λ i. sum_below n (λ j. f i j))

abbrev pub flipped : (ℕ → ℕ → ℕ) → ℕ → ℕ → ℕ
flipped f i j = f j i

abbrev pub posted_below : ℕ → Ring → ℕ → ℕ
posted_below n ring k = rows n k ring.posted

abbrev pub taken_below : ℕ → Ring → ℕ → ℕ
taken_below n ring k = rows n k (flipped ring.taken)

pub counters_are : (n : ℕ) (ring : Ring) (k : ℕ) → counters_below n ring k ≡ pos (posted_below n ring k) -ℤ pos (taken_below n ring k)
counters_are n ring zero = refl
counters_are n ring (suc k) = omega (arith, ints, counters_are n ring k)

-- ---- one event
pub row_stays : (n i : ℕ) (f g : ℕ → ℕ → ℕ) → i < n → CountsStay n f g → sum_below n (λ j. g i j) ≡ sum_below n (λ j. f i j)
row_stays n i f g lt stay = sum_same n (λ j. f i j) (λ j. g i j) (λ j less. stay i j lt less)

pub rows_stay : (n k : ℕ) (f g : ℕ → ℕ → ℕ) → k ≤ n → CountsStay n f g → rows n k g ≡ rows n k f
rows_stay n k f g le stay =
    sum_same k (λ i. sum_below n (λ j. f i j)) (λ i. sum_below n (λ j. g i j)) (λ i less. row_stays n i f g (omega arith) stay)

pub flipped_stay : (n : ℕ) (f g : ℕ → ℕ → ℕ) → CountsStay n f g → CountsStay n (flipped f) (flipped g)
flipped_stay n f g stay i j i_in j_in = stay j i j_in i_in

pub row_raised : (n i j : ℕ) (f g : ℕ → ℕ → ℕ) → i < n → j < n → Raises n f g i j → sum_below n (λ b. g i b) ≡ suc (sum_below n (λ b. f i b))
row_raised n i j f g i_in j_in raises =
    sum_raised n (λ b. f i b) (λ b. g i b) j j_in raises.one_more (λ b less apart. raises.others i b i_in less (inr apart))

pub other_row : (n i j k : ℕ) (f g : ℕ → ℕ → ℕ) → k < n → k ≢ i → Raises n f g i j → sum_below n (λ b. g k b) ≡ sum_below n (λ b. f k b)
other_row n i j k f g lt apart raises =
    sum_same n (λ b. f k b) (λ b. g k b) (λ b less. raises.others k b lt less (inl apart))

-- the rows up to the raised one, and those with it
pub rows_before : (n k i j : ℕ) (f g : ℕ → ℕ → ℕ) → k ≤ n → k ≤ i → Raises n f g i j → rows n k g ≡ rows n k f
rows_before n k i j f g le before raises =
    sum_same k (λ a. sum_below n (λ b. f a b)) (λ a. sum_below n (λ b. g a b))
    (λ a less. other_row n i j a f g (omega arith) (λ e. omega (arith, e)) raises)

pub rows_raised : (n k i j : ℕ) (f g : ℕ → ℕ → ℕ) → k ≤ n → i < k → j < n → Raises n f g i j → rows n k g ≡ suc (rows n k f)
rows_raised n k i j f g le within j_in raises =
    sum_raised k (λ a. sum_below n (λ b. f a b)) (λ a. sum_below n (λ b. g a b)) i within
    (row_raised n i j f g (omega arith) j_in raises)
    (λ a less apart. other_row n i j a f g (omega arith) apart raises)

pub flipped_raises : (n i j : ℕ) (f g : ℕ → ℕ → ℕ) → Raises n f g i j → Raises n (flipped f) (flipped g) j i
flipped_raises n i j f g raises = record {
  one_more = raises.one_more;
  others = λ k l k_in l_in apart. raises.others l k l_in k_in (⊎_elim (λ x. inr x) (λ x. inl x) apart);
}

-- ---- in flight

-- taken and in flight are posted
pub flight_is : (n : ℕ) (ring : Ring) → ((i j : ℕ) → i < n → j < n → ring.taken i j ≤ ring.posted i j) →
    in_flight n ring + taken_below n ring n ≡ posted_below n ring n
flight_is n ring in_order =
    let away : ℕ → ℕ → ℕ = λ i j. ring.posted i j - ring.taken i j in
    let row : (i : ℕ) → i < n → sum_below n (λ j. ring.posted i j) ≡ sum_below n (λ j. away i j) + sum_below n (λ j. ring.taken i j) =
    λ i i_in. sum_same n (λ j. away i j + ring.taken i j) (λ j. ring.posted i j)
    (λ j j_in. let le : ring.taken i j ≤ ring.posted i j = in_order i j i_in j_in in omega arith)
    ∙ sum_added n (λ j. away i j) (λ j. ring.taken i j) in
    let all : posted_below n ring n ≡ sum_below n (λ i. sum_below n (λ j. away i j) + sum_below n (λ j. ring.taken i j)) =
    sum_same n (λ i. sum_below n (λ j. away i j) + sum_below n (λ j. ring.taken i j)) (λ i. sum_below n (λ j. ring.posted i j)) row in
    let split : sum_below n (λ i. sum_below n (λ j. away i j) + sum_below n (λ j. ring.taken i j)) ≡ in_flight n ring + rows n n ring.taken =
    sum_added n (λ i. sum_below n (λ j. away i j)) (λ i. sum_below n (λ j. ring.taken i j)) in
    let swap : rows n n ring.taken ≡ taken_below n ring n = sum_swapped n n ring.taken in
    omega (arith, all, split, swap)

-- a link with a batch in flight makes the sum positive
pub flight_at_least : (n : ℕ) (ring : Ring) (i j : ℕ) → i < n → j < n → ring.posted i j - ring.taken i j ≤ in_flight n ring
flight_at_least n ring i j i_in j_in =
    omega (
      arith,
      sum_member n (λ l. ring.posted i l - ring.taken i l) j j_in,
      sum_member n (λ k. sum_below n (λ l. ring.posted k l - ring.taken k l)) i i_in,
    )

-- a counter is at most 2^44 above or below 0
pub posted_bound : (n : ℕ) (ring : Ring) (i : ℕ) → n ≤ 16 → i < n → ((k l : ℕ) → k < n → l < n → ring.posted k l ≤ 2 ^ 40) →
    sum_below n (λ j. ring.posted i j) ≤ 2 ^ 44
posted_bound n ring i size i_in few =
    omega (arith, sum_bound n (2 ^ 40) (λ j. ring.posted i j) (λ j j_in. few i j i_in j_in))

pub taken_bound : (n : ℕ) (ring : Ring) (i : ℕ) → n ≤ 16 → i < n → ((k l : ℕ) → k < n → l < n → ring.taken k l ≤ 2 ^ 40) →
    sum_below n (λ j. ring.taken j i) ≤ 2 ^ 44
taken_bound n ring i size i_in few =
    omega (arith, sum_bound n (2 ^ 40) (λ j. ring.taken j i) (λ j j_in. few j i j_in i_in))
