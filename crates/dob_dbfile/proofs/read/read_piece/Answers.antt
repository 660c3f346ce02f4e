-- As many codes are new as the room has pairs.
use Rattle.dob_dbfile.proofs.Common.{◌+◌, ◌∙◌, ◌≡◌, ap, arith, length, length-append}
use Rattle.dob_dbfile.proofs.read.read_piece.Goals as goal

pub returns-clause-counted : goal.returns-clause-counted
returns-clause-counted g c =
    let more = c.in_ok-push_codes.ensures.codes in
    let grown : length c.push_codes.new.codes ≡ length c.args.codes.now + length more.0 = ap length more.1 ∙ length-append c.args.codes.now more.0 in
    let room : length c.fill.new.room ≡ length c.args.room.now = c.fill.auto.room in
    omega (arith, grown, more.3, room)
