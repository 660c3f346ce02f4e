-- The run says by its kind whether the position is marked, or its table does.
use Rattle.dob_classes.proofs.Common.{◌%◌, ◌≡◌, ◌∙◌, ap, arith, false, subst, sym, true, ℕ, IsInRunOf, IsRun, classes_to_run, lion_pairs}
use Rattle.dob_rank.proofs.InRuns.RunPlaces.{runs_few}
use Rattle.dob_classes.proofs.Tables.RunTables.{IsTableFor, mixed_found, table_for, table_number, told_found}
use Rattle.dob_classes.proofs.block_classes.BlockClasses.look_up.Goals as goal
use Rattle.dob_classes.proofs.block_classes.BlockClasses.look_up.Goals.{After-first_run-first, After-index}

pub short-run-requires : goal.short-run-requires
short-run-requires c = (let block = c.args.self.now in omega (arith, c.requires.run, runs_few block.family.set block.number block.within))

pub row_of-requires : goal.row_of-requires
row_of-requires c = omega (arith, c.short-run.ensures, c.requires.run)

in_run : (c : After-first_run-first) → IsInRunOf c.args.self.now.family c.args.self.now.number c.args.spot.run c.args.spot.local
in_run c = (let block = c.args.self.now in record { block_below = block.within; run_below = c.requires.run; number_below = c.requires.local })

before : (c : After-first_run-first) → c.before_run-before.result ≡ classes_to_run c.args.self.now.family c.args.self.now.number c.args.spot.run
before c =
    let block = c.args.self.now in
    c.before_run-before.ensures block.family block.number block.within (omega (arith, c.short-run.ensures, c.requires.run)) c.row_of.ensures
    ∙ ap (λ n. classes_to_run block.family block.number n) c.short-run.ensures

entry : (c : After-first_run-first) → let block = c.args.self.now in
    IsRun block.family block.number (c.args.spot.run % lion_pairs) block.mixed.items c.first_run-first.result
entry c =
    let block = c.args.self.now in
    subst (λ (n : ℕ). IsRun block.family block.number (n % lion_pairs) block.mixed.items c.first_run-first.result) c.short-run.ensures c.first_run-first.ensures

table : (c : After-index) → IsTableFor c.args.self.now.family c.args.self.now.number c.args.spot.run c.index.result.now
table c =
    let block = c.args.self.now in
    let run = subst (λ (n : ℕ). IsRun block.family block.number (n % lion_pairs) block.mixed.items c.first_run-first.result) c.short-run.ensures
    c.first_run-first.ensures in
    table_for block.family block.number c.args.spot.run block.within c.requires.run _ block.mixed.items _ run.table_is (sym run.kind_is ∙ c.in-Mixed.is)
    c.index.ensures

pub overflow_add-result : goal.overflow_add-result
overflow_add-result c =
    let at = (goal.at.overflow_add-result c).After-first_run-first in
    omega (arith, (told_found _ _ _ _ _ (in_run at) (before at) true (sym (entry at).kind_is ∙ c.in-First.is)).few)

pub index-requires : goal.index-requires
index-requires c =
    let run = c.first_run-first.ensures in
    omega (arith, (run.table_is (sym run.kind_is ∙ c.in-Mixed.is)).0, c.args.self.now.mixed.ok)

pub look_up-is_marked-requires : goal.look_up-is_marked-requires
look_up-is_marked-requires c =
    let at = goal.at.look_up-is_marked-requires c in
    table_number _ _ _ _ _ (in_run at.After-first_run-first) (before at.After-first_run-first) c.index.result.now (table at.After-index)

pub overflow_add-result-in-Mixed : goal.overflow_add-result-in-Mixed
overflow_add-result-in-Mixed c =
    let at = goal.at.overflow_add-result-in-Mixed c in
    let few = (mixed_found _ _ _ _ _ (in_run at.After-first_run-first) (before at.After-first_run-first) c.index.result.now (table at.After-index) _ _
    c.look_up-is_marked.ensures.mark c.look_up-is_marked.ensures.before).few in
    omega (arith, few)

pub returns-in-First : goal.returns-in-First
returns-in-First c =
    let at = (goal.at.returns-in-First c).After-first_run-first in
    let is = told_found _ _ _ _ _ (in_run at) (before at) true (sym (entry at).kind_is ∙ c.in-First.is) in
    record { mark = is.mark_is; before = is.before_is }

pub returns-in-Later : goal.returns-in-Later
returns-in-Later c =
    let at = (goal.at.returns-in-Later c).After-first_run-first in
    let is = told_found _ _ _ _ _ (in_run at) (before at) false (sym (entry at).kind_is ∙ c.in-Later.is) in
    record { mark = is.mark_is; before = (let sum = is.before_is in omega (arith, sum)) }

pub returns-in-Mixed : goal.returns-in-Mixed
returns-in-Mixed c =
    let at = goal.at.returns-in-Mixed c in
    let is = mixed_found _ _ _ _ _ (in_run at.After-first_run-first) (before at.After-first_run-first) c.index.result.now (table at.After-index) _ _
    c.look_up-is_marked.ensures.mark c.look_up-is_marked.ensures.before in
    record { mark = is.mark_is; before = is.before_is }
