-- In a mixed run its table has the number, in another one it is that of those left.
use Rattle.std.proofs.Common.{arith, sym, ◌∙◌}
use Rattle.dob_classes.proofs.Tables.RunTables.{IsTableFor, table_for, lions_left, table_left, mixed_left}
use Rattle.dob_classes.proofs.block_classes.BlockClasses.number_at.Goals as goal
use Rattle.dob_classes.proofs.block_classes.BlockClasses.number_at.Goals.{After-index}

pub returns-in_default : goal.returns-in_default
returns-in_default c =
    let block = c.args.self.now in
    let found = lions_left block.family block.number c.args.run c.args.left block.within c.requires.run c.requires.left
    (λ is. c.in_default.not-Mixed (c.first_run-first.ensures.kind_is ∙ is)) in
    record { number = found.number_below; mark = found.mark_is; left = found.left_is }

pub index-requires : goal.index-requires
index-requires c =
    let first = c.first_run-first.ensures in
    omega (arith, (first.table_is (sym first.kind_is ∙ c.in-Mixed.is)).0, c.args.self.now.mixed.ok)

table : (c : After-index) → IsTableFor c.args.self.now.family c.args.self.now.number c.args.run c.index.result.now
table c =
    let block = c.args.self.now in
    let first = c.first_run-first.ensures in
    table_for block.family block.number c.args.run block.within c.requires.run _ block.mixed.items _ first.table_is (sym first.kind_is ∙ c.in-Mixed.is)
    c.index.ensures

pub number_at-requires : goal.number_at-requires
number_at-requires c =
    let block = c.args.self.now in
    table_left block.family block.number c.args.run c.args.left block.within c.requires.run c.requires.left c.index.result.now
    (table (goal.at.number_at-requires c).After-index)

pub returns-in-Mixed : goal.returns-in-Mixed
returns-in-Mixed c =
    let block = c.args.self.now in
    let found = mixed_left block.family block.number c.args.run c.args.left c.number_at.result c.index.result.now
    (table (goal.at.returns-in-Mixed c).After-index) c.number_at.ensures.number c.number_at.ensures.mark c.number_at.ensures.marks in
    record { number = found.number_below; mark = found.mark_is; left = found.left_is }
