-- The class's representative stands for it; a held list supports what it doesn't find lost.
use Rattle.dob_certificate.specs.declared.list_kind.ListKind.TheVariants.{Lost, Held}
use Rattle.dob_certificate.proofs.Cases.{beyond, held_shown, lost_shown, said_no, supported_by}
use Rattle.dob_certificate.proofs.asking.supports_at.Goals as goal

pub returns-in-Lost : goal.returns-in-Lost
returns-in-Lost g c =
    rw c.in-Lost.is (supported_by Lost c.args.family (g.L.Lookup.entries_of c.args.list.now) _ _ _ c.in-Some.ensures _
    (lost_shown _ c.finds_lost-lost.result (rw c.in-Lost.is at c.finds_lost-lost.ensures)))

pub returns-in-Held : goal.returns-in-Held
returns-in-Held g c =
    rw c.in-Held.is (supported_by Held c.args.family (g.L.Lookup.entries_of c.args.list.now) _ _ _ c.in-Some.ensures _
    (held_shown _ c.finds_lost-lost.result (rw c.in-Held.is at c.finds_lost-lost.ensures)))

pub returns-in-None : goal.returns-in-None
returns-in-None g c = said_no (beyond c.args.kind c.args.family (g.L.Lookup.entries_of c.args.list.now) _ c.in-None.ensures)
