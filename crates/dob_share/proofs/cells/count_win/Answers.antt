-- With one entry more in use, the run counts one win more in its distance.
use Rattle.dob_share.proofs.Keeping.{wins_more}
use Rattle.dob_share.proofs.cells.count_win.Goals as goal

pub returns-clause-wins : goal.returns-clause-wins
returns-clause-wins c = wins_more c.args.pool.now c.args.start c.args.used c.args.plies c.requires
