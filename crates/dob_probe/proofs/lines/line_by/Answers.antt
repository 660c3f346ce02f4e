-- A line goes on by the first move to the value wanted, and ends with a catch, with no value wanted, or with a fault.
use Rattle.dob_moves.specs.Shown.{setup_on}
use Rattle.dob_probe.proofs.Common.{◌∙◌, rules, sym}
use Rattle.std.proofs.lemmas.Result.{err_from_is_err_and}
use Rattle.dob_probe.proofs.Ways.{begun_more, gap_breaks, line_catches, line_ends}
use Rattle.dob_probe.proofs.lines.line_by.Goals as goal

pub returns-in-Some-clause-line : goal.returns-in-Some-clause-line
returns-in-Some-clause-line g c = λ held is says.
    rw c.in_ok-push_move.ensures (line_catches (c.loop-catch.invariant.on held is says) c.in-Some.catch c.in-Some.ensures)

pub returns-in_default-value_wanted-clause-line : goal.returns-in_default-value_wanted-clause-line
returns-in_default-value_wanted-clause-line g c = λ held is says.
    line_ends (c.loop-catch.invariant.on held is says) c.in_default.ensures (sym c.value_wanted.ensures ∙ c.in_default-value_wanted.is)

pub returns-in_err-next-clause-fault : goal.returns-in_err-next-clause-fault
returns-in_err-next-clause-fault g c =
    let p = err_from_is_err_and c.from_residual-in_err-next.result c.from_residual-in_err-next.ensures.1 in
    let family = c.args.classes.now.family in
    rw (p.1, p.2) (λ held is says.
    gap_breaks family (g.V.ValueSource.says c.args.by.now held) (g.V.ValueSource.lacks c.args.by.now held) c.args.position.setup c.loop-catch.line.items
    (setup_on c.loop-catch.here.board) c.loop-catch.value c.in-Some-value_wanted.wanted c.in_err-next.field-0.0 (c.loop-catch.invariant.on held is says)
    c.in_default.ensures (sym c.value_wanted.ensures ∙ c.in-Some-value_wanted.is)
    (c.in_err-next.ensures.missing held (c.loop-catch.invariant.held held is)))

pub returns-in_err-push_move-2-clause-line : goal.returns-in_err-push_move-2-clause-line
returns-in_err-push_move-2-clause-line g c = λ held is says.
    let p = err_from_is_err_and c.from_residual-in_err-push_move-2.result c.from_residual-in_err-push_move-2.ensures.1 in rw p.1 tt

pub returns-in_err-push_move-2-clause-fault : goal.returns-in_err-push_move-2-clause-fault
returns-in_err-push_move-2-clause-fault g c = λ held is says.
    let p = err_from_is_err_and c.from_residual-in_err-push_move-2.result c.from_residual-in_err-push_move-2.ensures.1 in rw (p.1, p.2) tt

pub loop-catch-preserved : goal.loop-catch-preserved
loop-catch-preserved g c =
    record {
      member = c.in_ok-next.ensures.member;
      entry = c.in_ok-next.ensures.entry;
      held = λ held is. c.in_ok-next.ensures.held held (c.loop-catch.invariant.held held is);
      on = λ held is says.
          rw c.in_ok-push_move-2.ensures
          (begun_more (c.loop-catch.invariant.on held is says) c.in_default.ensures c.in-Some-value_wanted.wanted c.in_ok-next.next.played
          (setup_on c.in_ok-next.next.position.board) (sym c.value_wanted.ensures ∙ c.in-Some-value_wanted.is)
          (c.in_ok-next.ensures.found held (c.loop-catch.invariant.held held is)));
      failed = search rules;
    }
