-- How many of a run's places are of the family, before each of them.
use Rattle.dob_rank.proofs.Common.{◌*◌, ◌+◌, ◌-◌, ◌<◌, ◌∙◌, ◌∷◌, ◌≡◌, ◌≤◌, Bool, List, [], ap, arith, refl, suc, ℕ, mul_comm, sum_alike, sum_blocks, sum_same}
use Rattle.dob_rank.proofs.Common.{sum_times, marks_below, one_if, count, order, settle, sum_below, with_first, are_allowed, Empty, nat_tests}
use Rattle.dob_rank.proofs.Arithmetic.MixedRadix.{digit_below}

-- ---- marks that a part of the place gives

-- The low part doesn't matter: marks by blocks of n alike, up to a place within one.
pub low_alike : (mark high : ℕ → Bool) (n a b : ℕ) → ((q r : ℕ) → q * n + r < a * n + b → r < n → mark (q * n + r) ≡ high q) → b ≤ n
    → marks_below mark (a * n + b) ≡ marks_below high a * n + b * one_if (high a)
unfolding marks_below
low_alike mark high n a b h le =
    sum_blocks (λ r. one_if (mark r)) n a b
    ∙ ap (λ (x : ℕ). x + sum_below (λ r. one_if (mark (a * n + r))) b)
    (sum_same _ (λ q. n * one_if (high q)) a (λ q lq. sum_same _ (λ r. one_if (high q)) n
    (λ r lr. ap one_if (h q r (let first = digit_below q a n r lq lr in omega arith) lr)) ∙ sum_alike (one_if (high q)) n)
    ∙ sum_times n (λ q. one_if (high q)) a ∙ mul_comm n (sum_below (λ q. one_if (high q)) a))
    ∙ ap (λ (x : ℕ). sum_below (λ q. one_if (high q)) a * n + x)
    (sum_same _ (λ r. one_if (high a)) b (λ r lr. ap one_if (h a r (omega arith) (omega arith))) ∙ sum_alike (one_if (high a)) b)

-- The part between doesn't matter: of each c there are n blocks of m places each, marked alike.
pub middle_alike : (mark : ℕ → Bool) (ok : ℕ → ℕ → Bool) (n m c s f : ℕ)
    → ((d t g : ℕ) → d ≤ c → t < n → g < m → mark ((d * n + t) * m + g) ≡ ok d g) → s < n → f ≤ m
    → marks_below mark ((c * n + s) * m + f)
    ≡ sum_below (λ d. n * marks_below (ok d) m) c + s * marks_below (ok c) m + marks_below (ok c) f
unfolding marks_below
middle_alike mark ok n m c s f h ls lf =
    sum_blocks (λ r. one_if (mark r)) m (c * n + s) f
    ∙ ap (λ (x : ℕ). x + sum_below (λ g. one_if (mark ((c * n + s) * m + g))) f)
    (sum_blocks (λ q. sum_below (λ g. one_if (mark (q * m + g))) m) n c s
    ∙ ap (λ (x : ℕ). x + sum_below (λ t. sum_below (λ g. one_if (mark ((c * n + t) * m + g))) m) s)
    (sum_same (λ d. sum_below (λ t. sum_below (λ g. one_if (mark ((d * n + t) * m + g))) m) n) (λ d. n * sum_below (λ g. one_if (ok d g)) m) c
    (λ d ld. sum_same (λ t. sum_below (λ g. one_if (mark ((d * n + t) * m + g))) m) (λ t. sum_below (λ g. one_if (ok d g)) m) n
    (λ t lt. sum_same (λ g. one_if (mark ((d * n + t) * m + g))) (λ g. one_if (ok d g)) m (λ g lg. ap one_if (h d t g (omega arith) lt lg)))
    ∙ sum_alike (sum_below (λ g. one_if (ok d g)) m) n))
    ∙ ap (λ (x : ℕ). sum_below (λ d. n * sum_below (λ g. one_if (ok d g)) m) c + x)
    (sum_same (λ t. sum_below (λ g. one_if (mark ((c * n + t) * m + g))) m) (λ t. sum_below (λ g. one_if (ok c g)) m) s
    (λ t lt. sum_same (λ g. one_if (mark ((c * n + t) * m + g))) (λ g. one_if (ok c g)) m (λ g lg. ap one_if (h c t g (omega arith) (omega arith) lg)))
    ∙ sum_alike (sum_below (λ g. one_if (ok c g)) m) s))
    ∙ ap (λ (x : ℕ). sum_below (λ d. n * sum_below (λ g. one_if (ok d g)) m) c + s * sum_below (λ g. one_if (ok c g)) m + x)
    (sum_same (λ g. one_if (mark ((c * n + s) * m + g))) (λ g. one_if (ok c g)) f (λ g lg. ap one_if (h c s g (omega arith) ls (omega arith))))

-- ---- layers settled later

-- what a later layer's pieces leave of an earlier one
pub record LeavesLayer (ok : ℕ → ℕ → Bool) (base t n s : ℕ) (ls rs : List ℕ) : Type 0 where
  pub counted : count t rs ≡ count t ls
  pub allowed_is : are_allowed ok base t n s rs ≡ are_allowed ok base t n s ls

pub settled_later : (ok : ℕ → ℕ → Bool) (base t n u s pieces number : ℕ) (ls : List ℕ) → t < u → u < order Empty
    → LeavesLayer ok base t n s ls (settle u pieces number ls)
settled_later ok base t n u s pieces number [] h k = record { counted = refl; allowed_is = refl }
settled_later ok base t n u s pieces number (l ∷ ls) h k =
    let taken = settled_later ok base t n u (suc s) (pieces - 1) number ls h k in
    let left = settled_later ok base t n u (suc s) pieces (number - with_first (count (order Empty) ls) pieces) ls h k in
    grind (arith, nat_tests, settled_later ok base t n u (suc s) pieces number ls h k, taken, left)
