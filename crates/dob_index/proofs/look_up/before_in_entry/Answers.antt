-- The entry says how many stand before its place, and the walk how many behind it.
use Rattle.dob_index.proofs.Common.{◌+◌, ◌/◌, ◌^◌, ◌∙◌, ◌≡◌, ◌≤◌, ap, arith, get_or, ℕ, walked_few, row_at}
use Rattle.dob_index.proofs.Walked.{walked}
use Rattle.dob_index.proofs.Read.{entry_read, first_small}
use Rattle.dob_index.proofs.look_up.before_in_entry.Goals as goal
use Rattle.dob_index.proofs.look_up.before_in_entry.Goals.{After-walk_to}

both_few : (c : After-walk_to) → c.word-before.result + c.walk_to.result ≤ 2 ^ 54
both_few c = omega (arith, walked_few c.args.run c.walk_to.new.walk c.walk_to.ensures.walk, c.walk_to.ensures.count, c.word-before.ensures.bound)

pub overflow_add-result : goal.overflow_add-result
overflow_add-result c = (let few = both_few (goal.at.overflow_add-result c).After-walk_to in omega (arith, few))

pub returns : goal.returns
returns c =
    let run = c.args.run in
    let words = c.args.words.now in
    let low = c.requires.first in
    let row : c.row_at.result + 101 + run.run ≡ row_at run.block + (101 + run.run) = omega (arith, c.row_at.ensures) in
    let place = ap (λ (i : ℕ). get_or words i 0) row in
    let few = walked_few run c.walk_from-walk.result c.walk_from-walk.ensures.walk in
    let all = walked run c.walk_to.new.walk c.args.place c.walk_to.ensures.walk c.walk_to.ensures.place in
    record {
      right = λ is.
          (let small = first_small run words is low in
          let first = c.word-first.ensures.value (omega (arith, place, small)) ∙ place in
          let entry = entry_read run words c.word-first.result (c.args.place / 256) c.walk_from-walk.result is low first c.walk_from-walk.ensures.walk
          c.walk_from-walk.ensures.place in
          let before = c.word-before.ensures.value (omega (arith, entry, few)) in
          omega (arith, entry, before, all, c.walk_to.ensures.count));
      bound = both_few (goal.at.returns c).After-walk_to;
    }
