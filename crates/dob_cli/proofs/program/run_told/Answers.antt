-- What was done with what was read is what the words ask for.
use Rattle.std.proofs.Common.{inl, refl}
use Rattle.dob_words.specs.declared.command.Reading.TheVariants as reading
use Rattle.dob_cli.proofs.Runs.{leaves, ran, ran_memory, ran_order}
use Rattle.dob_cli.proofs.program.run_told.Goals as goal

pub returns-in-Err-clause-ran : goal.returns-in-Err-clause-ran
returns-in-Err-clause-ran g c = ran_memory _ _ _ (rw c.ending.ensures.status (c.tell_memory.ensures, refl)) (leaves (g.S.Shelf.state c.args.shelf.now))

pub returns-in-Ok-Help-clause-ran : goal.returns-in-Ok-Help-clause-ran
returns-in-Ok-Help-clause-ran g c =
    ran _ _ _ (reading.Help c.in-Ok-Help.text) (rw c.in-Ok-Help.field-0-is at c.in-Ok-Help.ensures.meaning)
    (inl (_, c.tell.ensures.told), leaves (g.S.Shelf.state c.args.shelf.now))

pub returns-in-Ok-Version-clause-ran : goal.returns-in-Ok-Version-clause-ran
returns-in-Ok-Version-clause-ran g c =
    ran _ _ _ reading.Version (rw c.in-Ok-Version.field-0-is at c.in-Ok-Version.ensures.meaning)
    (inl c.tell-in-Ok-Version.ensures.told, leaves (g.S.Shelf.state c.args.shelf.now))

pub returns-in-Ok-Usage-clause-ran : goal.returns-in-Ok-Usage-clause-ran
returns-in-Ok-Usage-clause-ran g c =
    ran _ _ _ (reading.Usage c.in-Ok-Usage.text) (rw c.in-Ok-Usage.field-0-is at c.in-Ok-Usage.ensures.meaning)
    (inl (c.tell_usage.ensures.0, c.ending-in-Ok-Usage.ensures.status, c.tell_usage.ensures.1, refl), leaves (g.S.Shelf.state c.args.shelf.now))

pub returns-in-Ok-Order-clause-ran : goal.returns-in-Ok-Order-clause-ran
returns-in-Ok-Order-clause-ran g c =
    ran_order _ _ _ c.in-Ok-Order.order
    (rw c.in-Ok-Order.field-0-is at c.in-Ok-Order.ensures.meaning) c.run_placed.ensures.done
