-- The list that is written is the one that was made.
use Rattle.dobutsu_c.proofs.Common.{rules}
use Rattle.dobutsu_c.proofs.steps.dobutsu_steps.Goals as goal

pub returns-in-Ok-steps_of-clause-told : goal.returns-in-Ok-steps_of-clause-told
returns-in-Ok-steps_of-clause-told c = λ none.
    let asked = c.in-Ok.asked in (
      asked.family,
      asked.position.setup,
      c.in-Ok-steps_of.list.items,
      c.in-Ok.ensures,
      c.in-Ok-steps_of.ensures,
      rw c.deref.ensures.value at c.write_steps.ensures,
      search rules,
    )
