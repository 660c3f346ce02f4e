-- Values that are worth less than nothing together.
use Rattle.dob_zugzwang.proofs.Common.{arith, subst, ℕ, Value, Draw, Loss, Win, IsWorse}
use Rattle.std.proofs.Math.IntN.{+ℤ_comm}
use Rattle.std.specs.Prelude.{ℤ, pos, ◌<ℤ◌}
use Rattle.std.proofs.lemmas.Int.{ints}
use Rattle.dob_zugzwang.specs.Zugzwangs.{worth}

-- with a win they aren't
pub win_not_worse : (plies : ℕ) (other : Value) → ¬ IsWorse (Win plies) other
win_not_worse plies (Win n) worse = absurd (omega (arith, ints, worse))
win_not_worse plies (Loss n) worse = absurd (omega (arith, ints, worse))
win_not_worse plies Draw worse = absurd (omega (arith, ints, worse))

-- in either order
pub worse_exchanged : (v w : Value) → IsWorse v w → IsWorse w v
worse_exchanged v w worse = subst (λ (n : ℤ). n <ℤ pos 0) (+ℤ_comm (worth v) (worth w)) worse
