-- What is behind a place.
use Rattle.std.proofs.lemmas.List.{take_rest}
use Rattle.dob_shelf.proofs.line_reader.LineReader.left.Goals as goal

pub returns : goal.returns
returns g c = rw c.deref.ensures.value (take_rest c.args.self.now.read.items c.args.self.now.given)
