-- The lions say it, or the entries of the first hand's run of those lions.
use Rattle.dob_index.proofs.Common.{◌+◌, ◌∙◌, arith, sym, run_start_next, marks_below-upto, is_marked, run_start, marks_small}
use Rattle.dob_index.proofs.Walked.{by_lions}
use Rattle.dob_index.proofs.look_up.before_place.Goals as goal

pub returns-in-Mixed-clause-right : goal.returns-in-Mixed-clause-right
returns-in-Mixed-clause-right c = λ is.
    by_lions c.args.family c.args.block c.args.run c.args.place c.before_in_entry.result c.requires.block c.requires.run c.requires.place
    (sym c.kind_of.ensures ∙ c.in-Mixed.is) (c.before_in_entry.ensures.right is)

pub returns-in_default : goal.returns-in_default
returns-in_default c = record {
  right = λ is. c.classes_in_run.ensures;
  bound = (let next = run_start_next c.args.family.set c.args.block c.args.run in
      let rise = marks_below-upto (is_marked c.args.family) (run_start c.args.family.set c.args.block c.args.run + c.args.place)
      (run_start c.args.family.set c.args.block (c.args.run + 1)) (omega (arith, next, c.requires.place)) in
      let few = marks_small c.args.family c.args.block (c.args.run + 1) c.requires.block (omega (arith, c.requires.run)) in
      let count = c.classes_in_run.ensures in
      omega (arith, rise, few, count));
}
