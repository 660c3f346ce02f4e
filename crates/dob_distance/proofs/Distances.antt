-- A win, or a loss, has one distance.
use Rattle.dob_distance.proofs.Common.{◌≡◌, ℕ, Loss, Win}

pub same_win : (a b : ℕ) → Win a ≡ Win b → a ≡ b
same_win a b e = cc

pub same_loss : (a b : ℕ) → Loss a ≡ Loss b → a ≡ b
same_loss a b e = cc
