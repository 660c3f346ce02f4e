-- A look that shows more than is taken, and then the count, take one batch.
use Rattle.std.proofs.Common.{◌≡◌, arith, ap}
use Rattle.dob_board.proofs.Names.{slice_index, SeatState}
use Rattle.dob_board.proofs.Done.{take_one}
use Rattle.dob_board.proofs.seat.NodeSeat.take.Goals as goal

pub returns-clause-ok : goal.returns-clause-ok
returns-clause-ok c =
    let look = c.look-seen.ensures in
    let same : slice_index c.look-seen.new.self.stand.taken c.args.from ≡ slice_index c.args.self.now.stand.taken c.args.from =
    ap (λ (s : SeatState). slice_index s.taken c.args.from) look.noted in
    take_one c.args.self.now c.look-seen.new.self c.count_taken.new.self c.args.from c.look-seen.result look.not_less (omega arith)
    look.noted look.same c.count_taken.ensures.counted look.observed c.count_taken.ensures.event
