-- The table was given what was swept.
use Rattle.dob_value.proofs.Common.{◌<◌, subst, sym, ℕ, get_or_from_slice_get, slice_get_within, ClassTable, IsEntry, IsValueTable}
use Rattle.std.proofs.lemmas.Result.{IfOk-weaker}
use Rattle.dob_value.proofs.Rows.{given_is_table}
use Rattle.dob_value.proofs.position_value.table_of.Goals as goal

pub from_fn-requires-clause-asked : goal.from_fn-requires-clause-asked
from_fn-requires-clause-asked c = λ class low. subst (λ (n : ℕ). class < n) (sym c.requires.values.same_length) low

pub from_fn-requires-clause-entries : goal.from_fn-requires-clause-entries
from_fn-requires-clause-entries c = λ class value low at.
    subst IsEntry (get_or_from_slice_get c.args.values.now class value value at)
    (c.requires.entries class value (slice_get_within c.args.values.now class value at))

pub returns-clause-values : goal.returns-clause-values
returns-clause-values c =
    IfOk-weaker c.from_fn.result _ (λ (table : ClassTable). IsValueTable c.args.classes.family table.values)
    (λ (table : ClassTable) given. given_is_table c.args.classes.family c.args.values.now table.values c.requires.values c.requires.entries given)
    c.from_fn.ensures.given
