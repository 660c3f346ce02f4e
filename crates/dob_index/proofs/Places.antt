-- Where the numbers of an index stand: the entries of one run behind those of the run before, and all of them among so many numbers.
use Rattle.dob_index.proofs.Common.{◌*◌, ◌+◌, ◌<◌, ◌^◌, ◌≡◌, ◌≤◌, ap, arith, inl, inr, suc, zero, ℕ, cases_lt, blocks_small, block_bases, product, sum_below}
use Rattle.dob_index.proofs.Common.{lion_pairs, run_kind, RunKind, First, Later, Mixed, entries_at, entries_in, row_at, run_words, where_mixed, words_of}
use Rattle.std.proofs.Math.Nat.{add-mul}
use Rattle.dob_pieces.specs.declared.piece_set.PieceSet.{PieceSet}
use Rattle.dob_lists.proofs.Sums.{sum_below-rises}
use Rattle.dob_rank.proofs.Positions.Blocks.{sum_below_more}
use Rattle.dob_rank.proofs.InRuns.RunPlaces.{run_size-small}

-- the entries of all runs of a block
abbrev block_words : PieceSet → ℕ → ℕ
block_words set block = sum_below (run_words set block) lion_pairs

-- nine runs of a block have entries, each as many
nine_times : (entries : ℕ) → sum_below (λ lions. where_mixed (run_kind lions) entries) lion_pairs ≡ 9 * entries
nine_times entries = omega arith

pub nine_mixed : (set : PieceSet) (block : ℕ) → sum_below (run_words set block) lion_pairs ≡ 9 * entries_in set block
nine_mixed set block = nine_times (entries_in set block)

-- ---- one run and one block more
pub run_more : (set : PieceSet) (block lions : ℕ) → entries_at set block (lions + 1) ≡ entries_at set block lions + run_words set block lions
run_more set block lions = omega (arith, sum_below_more (run_words set block) lions)

pub block_more : (set : PieceSet) (block : ℕ) → entries_at set block lion_pairs ≡ entries_at set (block + 1) 0
block_more set block = omega (arith, sum_below_more (block_words set) block)

-- ---- within the whole
below_end : (f : ℕ → ℕ) (a b : ℕ) → a ≤ b → sum_below f a ≤ sum_below f b
below_end f a b upto = elim (cases_lt a b) [
  | inl lt ↦ (let rise = sum_below-rises f a b lt in omega (arith, rise))
  | inr ge ↦ (let same = ap (sum_below f) (let e : a ≡ b = omega (arith, upto, ge) in e) in omega (arith, same))
]

pub run_within : (set : PieceSet) (block lions : ℕ) → block < product (block_bases set) → lions ≤ lion_pairs → entries_at set block lions ≤ words_of set
run_within set block lions within upto =
    omega (arith, below_end (run_words set block) lions lion_pairs upto, sum_below-rises (block_words set) block (product (block_bases set)) within)

-- so a run's entries end among them
pub run_fits : (set : PieceSet) (block lions at : ℕ) → block < product (block_bases set) → lions < lion_pairs → at ≡ entries_at set block lions
    → at + run_words set block lions ≤ words_of set
run_fits set block lions at within low is = omega (arith, is, run_more set block lions, run_within set block (lions + 1) within (omega (arith, low)))

pub after_rows : (set : PieceSet) (block lions : ℕ) → row_at (product (block_bases set)) ≤ entries_at set block lions
after_rows set block lions = omega arith

-- ---- they are few
sum_few : (f : ℕ → ℕ) (bound n : ℕ) → ((k : ℕ) → k < n → f k ≤ bound) → sum_below f n ≤ n * bound
sum_few f bound zero few = omega arith
sum_few f bound (suc n) few =
    let more : (n + 1) * bound ≡ n * bound + 1 * bound = add-mul n 1 bound in
    omega (arith, sum_few f bound n (λ k low. few k (omega (arith, low))), few n (omega arith), more)

kind_few : (kind : RunKind) (entries : ℕ) → where_mixed kind entries ≤ entries
kind_few Mixed entries = omega arith
kind_few First entries = omega arith
kind_few Later entries = omega arith

pub run_few : (set : PieceSet) (block lions : ℕ) → block < product (block_bases set) → run_words set block lions ≤ 2 ^ 29
run_few set block lions within = omega (arith, kind_few (run_kind lions) (entries_in set block), run_size-small set block within)

pub block_few : (set : PieceSet) (block lions : ℕ) → block < product (block_bases set) → lions ≤ lion_pairs → sum_below (run_words set block) lions ≤ 2 ^ 36
block_few set block lions within upto = omega (arith, sum_few (run_words set block) (2 ^ 29) lions (λ k low. run_few set block k within), upto)

pub blocks_few : (set : PieceSet) (block : ℕ) → block ≤ product (block_bases set) → sum_below (block_words set) block ≤ 2 ^ 41
blocks_few set block upto =
    omega (
      arith,
      sum_few (block_words set) (2 ^ 36) block (λ k low. block_few set k lion_pairs (omega (arith, low, upto)) (omega arith)),
      blocks_small set,
      upto,
    )

pub words_few : (set : PieceSet) → words_of set ≤ 2 ^ 42
words_few set = omega (arith, blocks_few set (product (block_bases set)) (omega arith), blocks_small set)
