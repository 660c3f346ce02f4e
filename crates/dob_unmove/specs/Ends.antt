-- What is known of a walk over the ways to take a move back and of a square on which that move may have ended, and what is gathered.
use Rattle.std.specs.Prelude.{◌≡◌, ℕ, List, true, false}
use Rattle.dob_pieces.specs.Masks.{is_own}
use Rattle.dob_pieces.specs.declared.profile.Family.{Family}
use Rattle.dob_pieces.specs.declared.setup.Setup.{Setup}
use Rattle.dob_pieces.specs.Setups.{at, turned}
use Rattle.dob_rank.specs.Families.{IsPositionOf, RepresentsClass, class_setup}
use Rattle.dob_unmove.specs.declared.predecessors.End.{End}
use Rattle.dob_unmove.specs.declared.predecessors.RetroMoves.{RetroMoves}
use Rattle.dob_unmove.specs.declared.undo.RetroMove.{RetroMove}
use Rattle.dob_unmove.specs.Classes.{IsSeenTurned}
use Rattle.dob_unmove.specs.Gathers.{AddsClasses}
use Rattle.dob_unmove.specs.Threats.{elsewhere}
use Rattle.dob_unmove.specs.Undoes.{earlier}
use Rattle.dob_unmove.specs.Walks.{TakesAll}
use Rattle.dob_unmove.specs.Ways.{HasLionHome, AreWays}

-- the setup that the moves left: the representative of the class as the side sees it that made them
unfoldable pub seen_after : Family → ℕ → Setup
seen_after family class = turned (class_setup family class)

abbrev pub setup_after : RetroMoves → Setup
setup_after walk = seen_after walk.classes.now.family walk.led_to.value

-- the setup stands after a move of positions of the family, and the ways are those that lead to it
pub record CanWalk (walk : RetroMoves) : Type 0 where
  pub of_set : IsSeenTurned (IsPositionOf walk.classes.now.family) (setup_after walk)
  pub ways_are : AreWays (setup_after walk) walk.ways.now

-- a piece of the mover stands there, none on another square attacks the enemy lion, and the mover's lion came there or stands off row 4
pub record CanEnd (end : End) : Type 0 where
  pub walk : CanWalk end.walk.now
  pub own : is_own (at (setup_after end.walk.now) end.to) ≡ true
  pub calm : elsewhere end.walk.now.ways.now.threat.attackers end.to ≡ false
  pub home : HasLionHome (setup_after end.walk.now) end.to

-- what a way adds to the classes that the walk has found
abbrev pub Takes : RetroMoves → List ℕ → RetroMove → List ℕ → Type 0
Takes walk old undo new = AddsClasses walk.is_own_image (RepresentsClass walk.classes.now.family) (earlier (setup_after walk) undo) old new

-- what the ways, one after the other, add
abbrev pub Collects : RetroMoves → List RetroMove → List ℕ → List ℕ → Type 0
Collects walk undoes old new = TakesAll (Takes walk) old undoes new
