-- The predecessors of a class as one list: each class as often as moves of its representative lead there.
use Rattle.std.specs.Prelude.{ℕ, ◌==◌, Bool, List, count_by, replicate}
use Rattle.dob_pieces.specs.declared.profile.Family.{Family}
use Rattle.dob_pieces.specs.declared.setup.Setup.{Setup}
use Rattle.dob_pieces.specs.Lists.{each_below}
use Rattle.dob_pieces.specs.Setups.{turned}
use Rattle.dob_moves.specs.declared.game_move.Move.{Move}
use Rattle.dob_moves.specs.Outcomes.{moved}
use Rattle.dob_moves.specs.MoveLists.{moves_of}
use Rattle.dob_rank.specs.Families.{class_setup}
use Rattle.dob_rank.specs.Families.{classes_of, class_number}

-- the move leads from the position into the class
abbrev pub leads_into : Family → Setup → ℕ → Move → Bool
leads_into family p class move = class_number family (turned (moved p move)) == class

-- how many moves of the one class's representative lead into the other class
unfoldable pub edges : Family → ℕ → ℕ → ℕ
edges family from class =
    let p = class_setup family from in
    count_by (leads_into family p class) (moves_of family.profile p)

-- the classes of the family, ascending, each as often as moves lead from it into this class
unfoldable pub predecessors : Family → ℕ → List ℕ
predecessors family class = each_below (λ from. replicate (edges family from class) from) (classes_of family)
