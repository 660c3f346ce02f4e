-- How many positions and classes a family has at most.
use Rattle.dob_rank.proofs.Common.{◌<◌, ◌^◌, ◌≤◌, arith, subst, sym, ℕ, PieceSet, Family, classes_of, is_marked, block_bases, product, size_of_set}
use Rattle.dob_rank.proofs.Positions.BlockStarts.{start_few}
use Rattle.dob_rank.proofs.Positions.Blocks.{size_of_set-sum}
use Rattle.dob_rank.proofs.Marked.Words.{marks_below-le}

size_few : (set : PieceSet) → size_of_set set < 2 ^ 31
size_few set =
    subst (λ (n : ℕ). n < 2 ^ 31) (sym (size_of_set-sum set))
    (start_few set (product (block_bases set)) (all_blocks (product (block_bases set))))
  where
    all_blocks : (n : ℕ) → n ≤ n
    all_blocks n = omega arith

-- no more of its classes than setups
pub classes_of-below : (family : Family) → classes_of family < 2 ^ 31
unfolding classes_of
classes_of-below family = omega (arith, marks_below-le (is_marked family) (size_of_set family.set), size_few family.set)
