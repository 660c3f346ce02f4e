-- What was found has more entries than it may, or doesn't prove the claim for the table's value.
use Rattle.std.proofs.Common.{arith, refl}
use Rattle.std.proofs.lemmas.Result.{err_from_is_err_and}
use Rattle.dob_certify.proofs.making.certify.Goals as goal

pub returns-then-not-are_few-clause-fault : goal.returns-then-not-are_few-clause-fault
returns-then-not-are_few-clause-fault g c = record {
  member = c.in_ok-value.ensures.member;
  named = refl;
  more = record {
    lost = c.in_ok-certificate.certificate.lost;
    held = c.in_ok-certificate.certificate.held;
    lost_ascends = c.are_few.ensures.ascending.0;
    held_ascends = c.are_few.ensures.ascending.1;
    lost_by_table = c.in_ok-certificate.ensures.lost;
    held_by_table = c.in_ok-certificate.ensures.held;
    more = grind (arith, c.are_few.ensures.few, c.if-not-are_few.true);
  };
}

pub returns-in_err-verify_watched-clause-fault : goal.returns-in_err-verify_watched-clause-fault
returns-in_err-verify_watched-clause-fault g c =
    let p = err_from_is_err_and c.from_residual-in_err-verify_watched.result c.from_residual-in_err-verify_watched.ensures.1 in
    rw (p.1, p.2) (record {
      value = c.in_ok-value.value;
      given = c.in_ok-value.ensures.value;
      lost = c.in_ok-certificate.certificate.lost;
      held = c.in_ok-certificate.certificate.held;
      few = c.are_few.ensures.few.0 c.if-not-are_few.false;
      refused = rw (c.claim_of-claim.ensures, c.classes.ensures.family) at c.in_err-verify_watched.ensures.refusal;
    })
