-- Each run's digits go to the end of the list.
use Rattle.dob_classes.proofs.Common.{◌+◌, ◌≡◌, ◌∙◌, ap, arith, length, length_push, subst, sym, vec_len, ℕ, HasDigits-numbers, digits_of, run_bases, run_digits, run_in_bases}
use Rattle.dob_rank.specs.declared.runs.RunDigits.{RunDigits}
use Rattle.dob_classes.specs.RunTables.{AreDigits}
use Rattle.dob_classes.proofs.Tables.Pushed.{each_pushed}
use Rattle.dob_classes.proofs.block_classes.all_digits.Goals as goal

pub loop-run-init : goal.loop-run-init
loop-run-init c = record { long = ap length c.new-digits.ensures.items; each = λ run other below. absurd (omega arith) }

pub run_digits_in-requires : goal.run_digits_in-requires
run_digits_in-requires c = record {
  on_board = HasDigits-numbers c.args.set c.args.block _ c.requires.block c.requires.on_board;
  run = run_in_bases c.args.set c.args.block c.loop-run.run _ c.requires.on_board (omega (arith, c.count_runs-run-end.ensures.value, c.loop-run-test.true));
}

pub loop-run-preserved : goal.loop-run-preserved
loop-run-preserved c =
    let are = c.loop-run.invariant in
    record {
      long = ap length c.in_ok-push.ensures.items ∙ length_push c.loop-run.digits.items c.run_digits_in.result ∙ ap (λ n. n + 1) are.long;
      each = each_pushed (λ (k : ℕ) (entry : RunDigits). run_digits entry ≡ digits_of (run_bases c.args.set c.args.on_board.now) k) c.loop-run.digits.items _
          c.run_digits_in.result c.loop-run.run are.long are.each c.run_digits_in.ensures c.in_ok-push.ensures.items;
    }

pub returns : goal.returns
returns c =
    let are = c.loop-run.invariant in
    let long : vec_len c.loop-run.digits ≡ c.loop-run.run = c.loop-run.digits.ok.0 ∙ are.long in
    record {
      long = omega (arith, long, c.count_runs-run-end.ensures.value, c.loop-run.auto.run-end, c.loop-run-test.false);
      digits = subst (λ n. AreDigits c.args.set c.args.on_board.now n c.loop-run.digits.items) (sym long) are;
    }
