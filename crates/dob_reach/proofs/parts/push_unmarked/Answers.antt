-- The number is appended, or marked.
use Rattle.std.proofs.Common.{[], append-nil, sym}
use Rattle.dob_reach.proofs.Stepping.{sifted_out}
use Rattle.dob_reach.proofs.parts.push_unmarked.Goals as goal

pub returns-else-not-has : goal.returns-else-not-has
returns-else-not-has c = ([], sym (append-nil c.args.numbers.now.items), sifted_out c.args.marks.now.words.items c.args.number (c.has.ensures.0 c.if-not-has.false))
