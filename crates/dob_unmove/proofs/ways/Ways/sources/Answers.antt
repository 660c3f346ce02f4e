-- the squares of all four
use Rattle.dob_unmove.proofs.Common.{ℕ, leads}
use Rattle.dob_unmove.proofs.ways.Ways.sources.Goals as goal

pub returns : goal.returns
returns c = λ after are.
    c.and-2.ensures _ _
    (c.but_not.ensures _ (λ (s : ℕ). leads c.args.kind s c.args.self.now.threat.lion) (c.and.ensures _ _ c.sources.ensures are.empty_are) c.sources-2.ensures)
    c.homes_for.ensures
