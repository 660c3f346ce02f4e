-- What the walk has passed at the place of an entry is the entry.
use Rattle.dob_index.proofs.Common.{◌*◌, ◌+◌, ◌<◌, ◌∙◌, ◌≡◌, ◌≤◌, ap, arith, length, refl, sym, length-set, marks_below_none, marks_below, walked_few, is_there}
use Rattle.dob_index.proofs.Common.{local_marks_in, marks_before, entries_in, entry_places}
use Rattle.dob_index.proofs.Walked.{walked}
use Rattle.dob_index.proofs.Kept.{entry_written, others_stay}
use Rattle.dob_index.proofs.write.write_entries.Goals as goal

pub loop-entry-init : goal.loop-entry-init
loop-entry-init c =
    let run = c.args.run in record {
      walk = c.walk_from-walk.ensures.walk;
      place = (let place = c.walk_from-walk.ensures.place in omega (arith, place));
      count = sym (ap (marks_before run) (c.walk_from-walk.ensures.walk.number_is ∙ ap (marks_below (is_there run.family run.block run.run)) c.walk_from-walk.ensures.place
          ∙ marks_below_none (is_there run.family run.block run.run)) ∙ marks_below_none (local_marks_in run.family run.block run.run));
      size = refl;
      entries = λ k low. absurd (omega (arith, low));
      others = λ i out. refl;
    }

pub overflow_add-count : goal.overflow_add-count
overflow_add-count c =
    omega (arith, walked_few c.args.run c.walk_to-count.new.walk c.walk_to-count.ensures.walk, c.loop-entry.invariant.count, c.walk_to-count.ensures.count)

pub loop-entry-preserved : goal.loop-entry-preserved
loop-entry-preserved c =
    let run = c.args.run in
    let entry = c.loop-entry.entry in
    let low = c.loop-entry-test.true in
    let inside : entry < entries_in run.family.set run.block = omega (arith, low, c.loop-entry.auto.entry-end, c.requires.size) in
    let place = c.walk_to-count.ensures.place in
    let count : c.loop-entry.count + c.walk_to-count.result ≡ marks_before run c.walk_to-count.new.walk.number
    = omega (arith, c.loop-entry.invariant.count, c.walk_to-count.ensures.count) in
    let passed = walked run c.walk_to-count.new.walk (entry * entry_places) c.walk_to-count.ensures.walk place in
    let room : c.args.at + entries_in run.family.set run.block ≤ length c.loop-entry.words = (let long = c.loop-entry.invariant.size in omega (arith, long, c.requires.room)) in
    record {
      walk = c.walk_to-count.ensures.walk;
      place = omega (arith, place);
      count = count;
      size = length-set c.loop-entry.words (c.args.at + entry) (c.loop-entry.count + c.walk_to-count.result) ∙ c.loop-entry.invariant.size;
      entries = entry_written run.family run.block run.run c.args.at entry (entries_in run.family.set run.block) (c.loop-entry.count + c.walk_to-count.result)
          c.loop-entry.words room inside c.loop-entry.invariant.entries (omega (arith, count, passed));
      others = others_stay c.loop-entry.words c.args.words.now c.args.at entry (entries_in run.family.set run.block) (c.loop-entry.count + c.walk_to-count.result)
          inside c.loop-entry.invariant.others;
    }

pub overflow_add-result : goal.overflow_add-result
overflow_add-result c = omega (arith, walked_few c.args.run c.walk_to.new.walk c.walk_to.ensures.walk, c.loop-entry.invariant.count, c.walk_to.ensures.count)

pub returns-clause-count : goal.returns-clause-count
returns-clause-count c =
    let passed = walked c.args.run c.walk_to.new.walk c.args.size c.walk_to.ensures.walk c.walk_to.ensures.place in
    omega (arith, passed, c.loop-entry.invariant.count, c.walk_to.ensures.count)
