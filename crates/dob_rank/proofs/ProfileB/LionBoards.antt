-- The board of two lions alone: ten squares are left.
use Rattle.dob_rank.proofs.Common.{◌%◌, ◌/◌, ◌<◌, ◌≡◌, arith, ℕ, choose, count, empty_layers, enemy_squares}
use Rattle.dob_rank.proofs.Common.{free_squares, order, settle, lion_pairs, lions_in, Chicks}
use Rattle.dob_rank.proofs.Boards.LayerCounts.{IsStage, none_shown, next_stage, first_stage, lions_stage}

-- ---- ten squares are left
pub lion_board : (run : ℕ) → IsStage (order Chicks) free_squares (lions_in run)
lion_board run = lions_stage (run % lion_pairs / enemy_squares) (run % lion_pairs % enemy_squares) empty_layers (omega arith) (omega arith) first_stage

pub no_chicks : (run : ℕ) → count (order Chicks) (lions_in run) ≡ 0
no_chicks run = none_shown (order Chicks) (lions_in run) (omega arith) (lion_board run).shown

-- a choice settles as many chicks as it is of
pub chicks_settled : (run chicks c : ℕ) → c < choose free_squares chicks → count (order Chicks) (settle (order Chicks) chicks c (lions_in run)) ≡ chicks
chicks_settled run chicks c below = (next_stage (order Chicks) chicks c free_squares (lions_in run) (omega arith) below (lion_board run)).settled.count_is
