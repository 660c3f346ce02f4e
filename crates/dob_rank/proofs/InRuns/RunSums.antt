-- The marks of a block as a sum over the runs of one hand.
use Rattle.dob_rank.proofs.Common.{◌%◌, ◌*◌, ◌<◌, ◌∷◌, ◌≡◌, ◌≤◌, [], arith, suc, zero, ℕ, PieceSet, block_bases, digits_of, enemy_squares, own_squares, product}
use Rattle.dob_rank.proofs.Common.{lion_pairs, runs_in}
use Rattle.dob_rank.proofs.Arithmetic.MixedRadix.{product-append}
use Rattle.dob_rank.proofs.InRuns.RunPlaces.{no_runs}
use Rattle.dob_rank.proofs.Positions.Blocks.{hand_bases}

-- ---- sums

-- the runs of a hand
pub runs_by_hand : (set : PieceSet) (block : ℕ) → runs_in set block ≡ product (hand_bases set (digits_of (block_bases set) block)) * lion_pairs
unfolding runs_in
runs_by_hand set block = product-append (hand_bases set (digits_of (block_bases set) block)) (own_squares ∷ enemy_squares ∷ [])

-- ---- the first runs
pub lions_same : (lions : ℕ) → lions < lion_pairs → lions % lion_pairs ≡ lions
lions_same lions low = omega arith

-- each pair of lions has a run of the first hand
pub lions_there : (set : PieceSet) (block lions : ℕ) → block < product (block_bases set) → lions < lion_pairs → lions < runs_in set block
lions_there set block lions within low =
    by_hands (product (hand_bases set (digits_of (block_bases set) block))) (runs_in set block) (runs_by_hand set block) (no_runs set block within)
  where
    by_hands : (hands runs : ℕ) → runs ≡ hands * lion_pairs → (runs ≤ 0 → ⊥) → lions < runs
    by_hands zero runs whole some = absurd (some (omega arith))
    by_hands (suc hands) runs whole some = omega (arith, low)
