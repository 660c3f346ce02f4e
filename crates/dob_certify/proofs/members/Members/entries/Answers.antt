-- What is written says what the table does, and so it does in the order of the classes.
use Rattle.std.proofs.Common.{sym, subst}
use Rattle.std.specs.Prelude.{All, List}
use Rattle.std.proofs.lemmas.List.Sorted.{All-permutation}
use Rattle.dob_certificate.specs.declared.entry.Entry.{Entry}
use Rattle.dob_certify.specs.Lists.{IsByTable}
use Rattle.dob_certify.proofs.members.Members.entries.Goals as goal

pub returns-in-Some-from_vec : goal.returns-in-Some-from_vec
returns-in-Some-from_vec c =
    subst (λ (entries : List Entry). All (IsByTable c.args.table.now c.args.kind) entries) (sym c.in-Some-from_vec.ensures.some)
    (All-permutation (IsByTable c.args.table.now c.args.kind) c.loop-class.entries.items c.sort_unstable_by_key.new.self.items c.sort_unstable_by_key.ensures.permutation
    c.loop-class.invariant)
