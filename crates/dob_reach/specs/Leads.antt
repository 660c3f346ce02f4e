-- Which classes of a family lead to which others.
use Rattle.std.specs.Prelude.{ℕ}
use Rattle.dob_pieces.specs.declared.profile.Family.{Family}
use Rattle.dob_pieces.specs.declared.setup.Setup.{Setup}
use Rattle.dob_moves.specs.declared.game_move.Move.{Move}
use Rattle.dob_moves.specs.declared.position_status.Status.TheVariants.{Open}
use Rattle.dob_moves.specs.Moves.{Goes}
use Rattle.dob_moves.specs.Statuses.{HasStatus}
use Rattle.dob_rank.specs.Families.{IsInClass, RepresentsClass}

-- the class's representative is open
pub record IsOpen (family : Family) (class : ℕ) : Type 0 where
  pub representative : Setup
  pub represents : RepresentsClass family representative class
  pub is_open : HasStatus family.profile representative Open

-- Some move of the class's representative, which is open, leads into the other class. So nothing leads out of what has ended.
pub record Leads (family : Family) (class other : ℕ) : Type 0 where
  pub representative : Setup
  pub represents : RepresentsClass family representative class
  pub is_open : HasStatus family.profile representative Open
  pub move : Move
  pub outcome : Setup
  pub goes : Goes family.profile representative move outcome
  pub inside : IsInClass family outcome other
