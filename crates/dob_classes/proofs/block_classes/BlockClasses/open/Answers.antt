-- Each run's entry and its table go to the ends of the lists.
use Rattle.dob_classes.proofs.Common.{◌+◌, ◌∙◌, ◌≡◌, ap, arith, subst, sym, vec_len, AreFewOnBoard-digits, run_start_end, HasDigits-numbers}
use Rattle.dob_classes.proofs.Common.{is_marked, marks_below, lion_pairs, AreRuns, classes_to_block, classes_to_run}
use Rattle.dob_classes.proofs.Counting.ClassesBefore.{all_lions, none_before}
use Rattle.dob_classes.proofs.Counting.RunOfClass.{row_at_end}
use Rattle.dob_classes.proofs.Tables.RunTables.{AreRuns-none, AreRuns-push, marks_small}
use Rattle.dob_classes.proofs.block_classes.BlockClasses.open.Goals as goal

pub choices_in-choices-requires : goal.choices_in-choices-requires
choices_in-choices-requires c =
    AreFewOnBoard-digits c.args.family.set _ (HasDigits-numbers c.args.family.set c.args.number _ c.requires.within c.numbers_in-on_board.ensures)

pub all_places-requires-clause-few : goal.all_places-requires-clause-few
all_places-requires-clause-few c =
    AreFewOnBoard-digits c.args.family.set _ (HasDigits-numbers c.args.family.set c.args.number _ c.requires.within c.numbers_in-on_board.ensures)

pub loop-lions-init : goal.loop-lions-init
loop-lions-init c = record {
  runs_are = AreRuns-none c.args.family c.args.number c.new-runs.result.items c.new-mixed.result.items c.new-runs.ensures.items;
  count_is = none_before c.args.family c.args.number;
}

pub count_marks-hand-requires-clause-table : goal.count_marks-hand-requires-clause-table
count_marks-hand-requires-clause-table c = c.in_ok-table.ensures.table

pub overflow_add-hand : goal.overflow_add-hand
overflow_add-hand c =
    omega (
      arith,
      marks_small c.args.family c.args.number (c.loop-lions.lions + 1) c.requires.within
          (omega (arith, all_lions c.args.family c.args.number c.requires.within, c.loop-lions-test.true)),
      c.count_marks-hand.ensures,
      c.loop-lions.invariant.count_is,
    )

pub loop-lions-preserved : goal.loop-lions-preserved
loop-lions-preserved c =
    let sum = c.count_marks-hand.ensures in
    let before = c.loop-lions.invariant.count_is in
    record {
      runs_are = AreRuns-push c.args.family c.args.number c.loop-lions.lions c.loop-lions.hand c.in_ok-table.table c.kind_of.result c.loop-lions.runs.items _ _
          (c.in_ok-table.ensures.runs c.loop-lions.lions c.loop-lions.runs.items c.loop-lions.invariant.runs_are) before c.kind_of.ensures
          c.in_ok-table.ensures.table c.in_ok-push.ensures.items;
      count_is = omega (arith, before, sum);
    }

pub invariant_of-result : goal.invariant_of-result
invariant_of-result c =
    let whole : c.loop-lions.lions ≡ lion_pairs = omega (arith, c.loop-lions.auto.lions-end, c.loop-lions-test.false) in
    let long : vec_len c.loop-lions.runs ≡ c.loop-lions.lions = c.loop-lions.runs.ok.0 ∙ c.loop-lions.invariant.runs_are.long in
    let hand_is : classes_to_block c.args.family c.args.number + c.loop-lions.hand ≡ classes_to_run c.args.family c.args.number lion_pairs
    = c.loop-lions.invariant.count_is ∙ ap (λ n. classes_to_run c.args.family c.args.number n) whole in
    let runs = c.count_runs.ensures.value in
    record {
      within = c.requires.within;
      starts = c.requires.before;
      ends = c.before_run.ensures c.args.family c.args.number c.requires.within (omega (arith, runs))
          (row_at_end c.args.family c.args.number c.count_runs.result c.args.before c.loop-lions.hand c.requires.within runs c.requires.before hand_is)
          ∙ ap (λ n. classes_to_run c.args.family c.args.number n) runs
          ∙ ap (marks_below (is_marked c.args.family)) (run_start_end c.args.family.set c.args.number);
      hands = omega (arith, c.requires.before, hand_is);
      numbers = c.numbers_in-on_board.ensures;
      chosen = c.choices_in-choices.ensures;
      whole = long ∙ whole;
      each = c.in_ok-digits.ensures.long;
      told = c.in_ok-digits.ensures.digits;
      placed = c.in_ok-places.ensures;
      table = subst (λ n. AreRuns c.args.family c.args.number n c.loop-lions.runs.items c.loop-lions.mixed.items) (sym long) c.loop-lions.invariant.runs_are;
    }
