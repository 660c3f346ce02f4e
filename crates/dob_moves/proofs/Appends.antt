-- Lists of moves appended one after the other.
use Rattle.dob_moves.proofs.Common.{◌++◌, ◌≡◌, List, append_assoc, Move}

pub three_appended : (a b c d x y z : List Move) → b ≡ a ++ x → c ≡ b ++ y → d ≡ c ++ z → d ≡ a ++ (x ++ y ++ z)
three_appended a b c d x y z first second third = rw (third, second, first) (search append_assoc)
