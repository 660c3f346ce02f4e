-- Each total is small enough to be read as a signed number, so that their difference is the node's counter.
use Rattle.std.proofs.Common.{◌≡◌, ℕ, ◌^◌, ◌<◌, ◌≤◌, rules, pos, ◌-ℤ◌, to_z, w64, ap, ◌∙◌, arith}
use Rattle.dob_board.proofs.Names.{to_z_pos, to_z-of_z}
use Rattle.dob_board.proofs.seat.NodeSeat.counter.Goals as goal

-- a number up to 2^44, read as a signed one
small_read : (x : ℕ) → x ≤ 2 ^ 44 → to_z w64 x ≡ pos x
small_read x small = let below : x < 2 ^ 63 = omega arith in to_z_pos w64 x below

pub returns-clause-counter : goal.returns-clause-counter
returns-clause-counter c =
    let posted = small_read c.total.result c.total.ensures.few ∙ ap pos c.total.ensures.total in
    let taken = small_read c.total-2.result c.total-2.ensures.few ∙ ap pos c.total-2.ensures.total in
    to_z-of_z w64 _ (search rules) ∙ (λ q. posted q -ℤ taken q)
