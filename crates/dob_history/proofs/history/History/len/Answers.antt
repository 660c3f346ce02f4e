-- As many settlements are seen as are settled at the start, and those counted.
use Rattle.std.proofs.Common.{◌+◌, ◌∙◌, ap, ℕ}
use Rattle.dob_history.proofs.Stored.{count_is}
use Rattle.dob_history.proofs.history.History.len.Goals as goal

pub returns-clause-count : goal.returns-clause-count
returns-clause-count c =
    let h = c.self.inside in
    ap (λ (m : ℕ). m + h.count) c.settled.ensures.count ∙ count_is h.nodes h.id h.room h.count h.starts h.stored c.self.invariant.1 c.self.view_is
