-- With a lesser distance at an entry, the run counts one win less in the one and one more in the other.
use Rattle.std.proofs.Common.{◌<◌, arith, length}
use Rattle.dob_share.proofs.Keeping.{wins_better}
use Rattle.dob_share.proofs.cells.count_better.Goals as goal

pub returns-clause-wins : goal.returns-clause-wins
returns-clause-wins c =
    let inside : c.args.place < length c.args.pool.now = (let below = c.requires.place.1 in let whole = c.requires.within in omega arith) in
    wins_better c.args.pool.now c.args.slot.start c.args.slot.used c.args.place c.args.plies c.requires.place.0 c.requires.place.1 inside
