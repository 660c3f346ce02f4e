-- What the table gives is an entry of it.
use Rattle.dob_moves.specs.Shown.{setup_on}
use Rattle.dob_probe.proofs.Entries.{given_is_entry}
use Rattle.dob_probe.proofs.values.TableValueSourceUnit.value_at.Goals as goal

pub returns-clause-entry : goal.returns-clause-entry
returns-clause-entry c = given_is_entry c.args.self.now (setup_on c.args.position.now.board) c.value_on.result c.requires.stands c.value_on.ensures
