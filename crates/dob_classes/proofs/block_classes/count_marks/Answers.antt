-- The kind of a run says how many marks it has, or its table does.
use Rattle.dob_classes.proofs.Common.{◌∙◌, ap, arith, false, refl, subst, sym, true, marks_below, is_there, run_kind, ℕ, HasTable}
use Rattle.dob_rank.proofs.InRuns.RunSums.{lions_same, lions_there}
use Rattle.dob_classes.proofs.Tables.RunTables.{count_mixed, count_told, table_for}
use Rattle.dob_classes.proofs.block_classes.count_marks.Goals as goal

pub count_before-requires-clause-run : goal.count_before-requires-clause-run
count_before-requires-clause-run c = lions_there c.args.family.set c.args.block c.args.lions c.requires.block c.requires.lions

pub index-requires : goal.index-requires
index-requires c = omega (arith, (c.requires.table (sym c.kind_of.ensures ∙ c.in-Mixed.is)).0, c.args.mixed.now.ok)

pub returns-in-First : goal.returns-in-First
returns-in-First c =
    count_told c.args.family c.args.block c.args.lions c.requires.block
    (lions_there c.args.family.set c.args.block c.args.lions c.requires.block c.requires.lions) c.count_before.result true
    (c.count_before.ensures ∙ ap (marks_below (is_there c.args.family c.args.block c.args.lions)) c.requires.size)
    (ap run_kind (lions_same c.args.lions c.requires.lions) ∙ sym c.kind_of.ensures ∙ c.in-First.is)

pub returns-in-Later : goal.returns-in-Later
returns-in-Later c =
    count_told c.args.family c.args.block c.args.lions c.requires.block
    (lions_there c.args.family.set c.args.block c.args.lions c.requires.block c.requires.lions) _ false refl
    (ap run_kind (lions_same c.args.lions c.requires.lions) ∙ sym c.kind_of.ensures ∙ c.in-Later.is)

pub returns-in-Mixed : goal.returns-in-Mixed
returns-in-Mixed c =
    let there = lions_there c.args.family.set c.args.block c.args.lions c.requires.block c.requires.lions in
    let same = lions_same c.args.lions c.requires.lions in
    count_mixed c.args.family c.args.block c.args.lions c.requires.block there c.index.result.now
    (table_for c.args.family c.args.block c.args.lions c.requires.block there c.args.table c.args.mixed.now.items _
    (subst (λ (n : ℕ). HasTable c.args.family c.args.block n c.args.table c.args.mixed.now.items) (sym same) c.requires.table)
    (ap run_kind same ∙ sym c.kind_of.ensures ∙ c.in-Mixed.is) c.index.ensures)
