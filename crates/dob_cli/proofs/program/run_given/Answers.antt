-- Where there are no arguments, nothing but the one text is told, and nothing is done with the shelf.
use Rattle.std.proofs.Common.{refl}
use Rattle.dob_cli.proofs.Runs.{leaves}
use Rattle.dob_cli.proofs.program.run_given.Goals as goal

pub returns-in-Ok-clause-words : goal.returns-in-Ok-clause-words
returns-in-Ok-clause-words g c = rw c.in-Ok.is c.run_args.ensures

pub returns-in-Ok-clause-memory : goal.returns-in-Ok-clause-memory
returns-in-Ok-clause-memory g c = rw c.in-Ok.is tt

pub returns-in-Ok-clause-unread : goal.returns-in-Ok-clause-unread
returns-in-Ok-clause-unread g c = rw c.in-Ok.is tt

pub returns-in-Ok-clause-shelf : goal.returns-in-Ok-clause-shelf
returns-in-Ok-clause-shelf g c = rw c.in-Ok.is tt

pub returns-in-OutOfMemory-clause-words : goal.returns-in-OutOfMemory-clause-words
returns-in-OutOfMemory-clause-words g c = rw c.in-Err.is tt

pub returns-in-OutOfMemory-clause-memory : goal.returns-in-OutOfMemory-clause-memory
returns-in-OutOfMemory-clause-memory g c = rw c.in-Err.is (λ _. (c.tell_memory.ensures, refl))

pub returns-in-OutOfMemory-clause-shelf : goal.returns-in-OutOfMemory-clause-shelf
returns-in-OutOfMemory-clause-shelf g c = rw c.in-Err.is (leaves (g.S.Shelf.state c.args.shelf.now))

pub returns-in_default-clause-words : goal.returns-in_default-clause-words
returns-in_default-clause-words g c = rw c.in-Err.is tt

pub returns-in_default-clause-unread : goal.returns-in_default-clause-unread
returns-in_default-clause-unread g c = rw c.in-Err.is (λ _. (refl, c.say.ensures, refl))

pub returns-in_default-clause-shelf : goal.returns-in_default-clause-shelf
returns-in_default-clause-shelf g c = rw c.in-Err.is (leaves (g.S.Shelf.state c.args.shelf.now))
