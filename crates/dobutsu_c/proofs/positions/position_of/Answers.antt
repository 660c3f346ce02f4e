-- What the numbers show is no position for that reason.
use Rattle.dobutsu_c.proofs.Common.{Err, Result, refl, sym, PositionFault, Hands, Position}
use Rattle.dob_pieces.specs.Setups.{setup_of}
use Rattle.dobutsu_c.proofs.Refused.{fault_holds}
use Rattle.dobutsu_c.proofs.positions.position_of.Goals as goal

pub returns-in-Err : goal.returns-in-Err
returns-in-Err c =
    let of = c.in-Err.ensures in
    let refused : Result Position PositionFault = Err c.in-Err.fault in
    let hands : Hands = record { mover = c.hand_of.result; enemy = c.hand_of-2.result } in (
      setup_of c.in-Some.board hands,
      record { board = c.in-Some.ensures; mover = sym c.hand_of.ensures; enemy = sym c.hand_of-2.ensures },
      fault_holds refused c.in-Some.board hands c.in-Err.fault refl of.lions of.count of.far_lion,
    )
