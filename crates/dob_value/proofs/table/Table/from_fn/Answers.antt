-- Each class has the value that is given for it.
use Rattle.dob_value.proofs.Common.{◌<◌, ◌∙◌, ◌≡◌, arith, subst, sym, ℕ, All-push, All, HasClasses-classes_of, HasClasses, classes_of}
use Rattle.dob_distance.proofs.Parity.{entries_of_codes}
use Rattle.dob_value.proofs.Listed.{given_more}
use Rattle.dob_value.proofs.table.Table.from_fn.Goals as goal

pub loop-class-preserved : goal.loop-class-preserved
loop-class-preserved g c = record {
  codes = subst (λ xs. All (λ code. code < 65536) xs) (sym c.in_ok-push.ensures.appended)
      (All-push (λ (code : ℕ). code < 65536) c.loop-class.codes c.code_of_value.result c.loop-class.invariant.codes c.code_of_value.type_inv);
  given = given_more (goal.F-post g c.args.value_at) c.loop-class.class c.loop-class.codes c.push.new.self c.code_of_value.result
      c.value_at.result c.loop-class.invariant.given c.in_ok-push.ensures.appended c.code_of_value.ensures.back c.value_at.ensures;
}

pub invariant_of-result : goal.invariant_of-result
invariant_of-result g c =
    let whole : c.loop-class.class ≡ classes_of c.args.classes.family =
    omega (arith, c.loop-class-test.false, c.loop-class.auto.class-end, c.class_count-class-end.ensures.number) in
    record {
      classes = subst (HasClasses c.args.classes.family) (sym (c.loop-class.invariant.given.whole ∙ whole)) (HasClasses-classes_of c.args.classes.family);
      entries = entries_of_codes c.loop-class.codes c.loop-class.invariant.codes;
    }
