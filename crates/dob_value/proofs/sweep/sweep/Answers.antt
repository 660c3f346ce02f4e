-- The graph's values are those of the classes.
use Rattle.dob_value.proofs.Common.{subst, Family, IsPositionOf, IsShort, IsEntry, AreValues, SomeTooDeep}
use Rattle.std.proofs.Common.{All}
use Rattle.dob_distance.proofs.Parity.{IfOk-both}
use Rattle.dob_value.proofs.Tables.{all_entries}
use Rattle.dob_value.proofs.Nodes.{deep_position}
use Rattle.dob_value.proofs.sweep.sweep.Goals as goal

pub returns-clause-entries : goal.returns-clause-entries
returns-clause-entries c =
    let family = c.in_ok-graph.graph.family in
    IfOk-both c.settle.result
    (λ values. AreValues family values.items)
    (λ values. All IsShort values.items)
    (λ values. All IsEntry values.items)
    (λ values are short. all_entries family values.items are short)
    c.settle.ensures.values c.settle.ensures.short

pub returns-clause-deep : goal.returns-clause-deep
returns-clause-deep c is =
    let deep = c.settle.ensures.deep is in
    subst (λ (family : Family). SomeTooDeep family.profile (IsPositionOf family)) c.in_ok-graph.ensures.family
    (deep_position c.in_ok-graph.graph.family deep.0 deep.1 deep.2)
