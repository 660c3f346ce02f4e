-- Marked ranks.
use Rattle.std.specs.Prelude.{ℕ, ◌&&◌, nat_lt, nat_le, Bool}
use Rattle.dob_pieces.specs.Lists.{one_if}
use Rattle.dob_pieces.specs.declared.piece_set.PieceSet.{PieceSet}
use Rattle.dob_pieces.specs.Setups.{mirrored}
use Rattle.dob_rank.specs.Numbers.{sum_below, size_of_set, rank_of_set, nth}

-- how many places below a bound are marked
unfoldable pub marks_below : (ℕ → Bool) → ℕ → ℕ
marks_below mark n = sum_below (λ (r : ℕ). one_if (mark r)) n

-- the setup of the rank is no later than its mirror image
abbrev pub is_first : PieceSet → ℕ → Bool
is_first set r = nat_le r (rank_of_set set (mirrored (nth set r)))

-- the same, for a rank of the set alone
unfoldable pub marked : PieceSet → ℕ → Bool
marked set r = nat_lt r (size_of_set set) && is_first set r
