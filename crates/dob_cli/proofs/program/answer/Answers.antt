-- Each subcommand's answer is the order's; the prover finds that of `verify` by itself.
use Rattle.dob_cli.proofs.Common.{rules, unchanged, shelf_change, answered_by}
use Rattle.dob_cli.proofs.program.answer.Goals as goal

pub returns-in-Value : goal.returns-in-Value
returns-in-Value g c =
    let shelf = g.S.Shelf.state c.args.shelf.now in
    rw c.in-Value.is (answered_by (shelf_change shelf shelf) _ _ _ c.answer_value.ensures.ok c.answer_value.ensures.err (search rules), unchanged shelf.has)

pub returns-in-Count : goal.returns-in-Count
returns-in-Count g c =
    let shelf = g.S.Shelf.state c.args.shelf.now in
    rw c.in-Count.is (answered_by (shelf_change shelf shelf) _ _ _ c.answer_count.ensures.ok c.answer_count.ensures.err (search rules), unchanged shelf.has)

pub returns-in-Reach : goal.returns-in-Reach
returns-in-Reach g c = rw c.in-Reach.is c.answer_reach.ensures

pub returns-in-Ask : goal.returns-in-Ask
returns-in-Ask g c = rw c.in-Ask.is c.answer_question.ensures

pub returns-in-Check : goal.returns-in-Check
returns-in-Check g c = rw c.in-Check.is c.answer_check.ensures

pub returns-in-Build : goal.returns-in-Build
returns-in-Build g c = rw c.in-Build.is c.answer_build.ensures

pub returns-in-Show : goal.returns-in-Show
returns-in-Show g c = rw c.in-Show.is c.answer_show.ensures

pub returns-in-Stats : goal.returns-in-Stats
returns-in-Stats g c = rw c.in-Stats.is c.answer_stats.ensures

pub returns-in-Migrate : goal.returns-in-Migrate
returns-in-Migrate g c = rw c.in-Migrate.is c.answer_migrate.ensures

pub returns-in-Zugzwangs : goal.returns-in-Zugzwangs
returns-in-Zugzwangs g c = rw c.in-Zugzwangs.is c.answer_zugzwangs.ensures

pub returns-in-Puzzles : goal.returns-in-Puzzles
returns-in-Puzzles g c = rw c.in-Puzzles.is c.answer_puzzles.ensures

pub returns-in-Certify : goal.returns-in-Certify
returns-in-Certify g c = rw c.in-Certify.is c.answer_certify.ensures

pub returns-in-Reply : goal.returns-in-Reply
returns-in-Reply g c = rw c.in-Reply.is c.answer_reply.ensures

pub returns-in-Info : goal.returns-in-Info
returns-in-Info g c = rw c.in-Info.is c.answer_info.ensures
