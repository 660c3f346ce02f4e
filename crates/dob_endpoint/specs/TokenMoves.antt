-- How a runner's seat looks for the ring's token and moves it.
use Rattle.std.specs.Prelude.{◌≡◌, ◌≢◌, ◌↔◌, Bool, IsTrue, None, true, false}
use Rattle.dob_safra.specs.declared.token.Token.{Token}
use Rattle.dob_safra.specs.declared.event.RingEvent.TheVariants.{Pass}
use Rattle.dob_board.specs.declared.seat.NodeSeat.{NodeSeat}
use Rattle.dob_board.specs.Histories.{MakesEvent, Observes, HasToken}
use Rattle.dob_board.specs.Seats.{witnessed_by, MayEnd, HasAnnounced}
use Rattle.dob_board.specs.Views.{meets}

-- the seat has observed what the token is, and knows it where it is at its node
pub record HasLooked (old new : NodeSeat) : Type 0 where
  pub token : Token
  pub noted : new.stand ≡ meets old.node old.stand token
  pub observed : Observes old.nodes old.node new.stand (witnessed_by old) (witnessed_by new) (HasToken token)

-- the seat passed the token
abbrev pub HasPassed : NodeSeat → NodeSeat → Type 0
HasPassed old new = MakesEvent old.nodes old.node (Pass old.node) old.stand new.stand (witnessed_by old) (witnessed_by new)

-- The seat, which knows the token, announced the end where it might, or found that the run had failed; and passed the token
-- where it might not.
pub record HandsOn (old new : NodeSeat) : Type 0 where
  pub announced : MayEnd old.stand → HasAnnounced old new new.stand.halt
  pub passed : (¬ MayEnd old.stand) → HasPassed old new

-- The seat looked for the token; whether it knew it then, and if so it moved it.
pub record MovesToken (old new : NodeSeat) (did : Bool) : Type 0 where
  pub found : NodeSeat
  pub looked : HasLooked old found
  pub known : IsTrue did ↔ (found.stand.token ≢ None)
  pub moved : did ≡ true → HandsOn found new
  pub stayed : did ≡ false → new ≡ found
