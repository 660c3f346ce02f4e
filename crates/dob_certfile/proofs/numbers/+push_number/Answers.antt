-- By one byte, and the bytes of the rest.
use Rattle.std.proofs.Common.{◌++◌, ◌∙◌, ℕ, List, ap, sym}
use Rattle.dob_certfile.proofs.Fields.{leb_low, push_more}
use Rattle.dob_certfile.proofs.numbers.+push_number.Goals as goal

pub returns-then-number-lt128 : goal.returns-then-number-lt128
returns-then-number-lt128 t c = λ more fits.
    c.in_ok-push.ensures.items ∙ ap (λ (x : List ℕ). c.args.bytes.now.items ++ x) (sym (leb_low more c.args.number c.if-number-lt128.true))

pub returns : goal.returns
returns t c = λ more fits.
    push_more c.push_number.result more c.args.number c.args.bytes.now.items c.push-2.new.self.items c.push_number.new.bytes.items c.if-number-lt128.false fits c.in_ok-push-2.ensures.items c.push_number.ensures
