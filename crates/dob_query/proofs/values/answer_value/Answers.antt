-- The position is the text's, and the fault of finding its value holds of the text.
use Rattle.std.proofs.Common.{ap, Err}
use Rattle.std.proofs.lemmas.Result.{err_from_is_err_and}
use Rattle.dob_distance.specs.declared.fault.ValueFault as value
use Rattle.dob_query.proofs.Valued.{value_fault_holds}
use Rattle.dob_query.proofs.values.answer_value.Goals as goal

pub returns-in_err-value-clause-err : goal.returns-in_err-value-clause-err
returns-in_err-value-clause-err c =
    let p = err_from_is_err_and c.from_residual-in_err-value.result c.from_residual-in_err-value.ensures.1 in
    rw (p.1, p.2) (value_fault_holds c.args.profile _ c.in_ok-position.position.setup _ c.in_ok-position.position.legal
    (record { squares = c.in_ok-position.position.legal.squares; spelled = c.in_ok-position.ensures.read })
    (λ e. c.in_err-value.ensures.deep (ap (λ (f : value.ValueFault). Err f) e)))

pub returns-clause-ok : goal.returns-clause-ok
returns-clause-ok c = record {
  position = c.in_ok-position.position.setup;
  named = (c.in_ok-position.position.legal, record { squares = c.in_ok-position.position.legal.squares; spelled = c.in_ok-position.ensures.read });
  allowed = c.in_ok-position.ensures.allowed;
  told = (c.in_ok-value.value, c.in_ok-value.ensures.value, c.in_ok-line_of.ensures);
}
