-- Idle, the node shows the value table.
use Rattle.std.proofs.Common.{ap, subst, ℕ, ◌<◌}
use Rattle.dob_pieces.specs.declared.profile.Family.{Family}
use Rattle.dob_rank.specs.Families.{classes_of}
use Rattle.dob_distance.proofs.Parity.{IfOk-both}
use Rattle.dob_reference.proofs.AloneSteps.{alone_given, shows_entry}
use Rattle.dob_reference.proofs.one_owner.table_of.Goals as goal

pub from_fn-requires-clause-entries : goal.from_fn-requires-clause-entries
from_fn-requires-clause-entries c = λ class value low has.
    shows_entry c.args.node c.requires.made.0 c.requires.made.1 class
    (subst (λ (k : ℕ). class < k) (ap (λ (family : Family). classes_of family) c.requires.family) low) value has

pub returns-clause-table : goal.returns-clause-table
returns-clause-table c =
    IfOk-both c.from_fn.result _ _ _ (λ table given same. alone_given c.args.node c.requires.made.0 c.args.classes.family table.values c.requires.made.1
    c.requires.done c.requires.family given) c.from_fn.ensures.given c.from_fn.ensures.family
