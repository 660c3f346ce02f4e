-- What joins the list is what the digest takes.
use Rattle.dob_gather.proofs.Common.{◌∙◌, ap, arith, length, length-append, subst, sym, HasTaken}
use Rattle.std.proofs.Common.{take}
use Rattle.std.proofs.lemmas.List.{take_at}
use Rattle.dob_gather.proofs.gathering.Hashed.with.Goals as goal

pub with-hasher-requires : goal.with-hasher-requires
with-hasher-requires c =
    omega (arith, ap length c.in_ok-append.ensures.appended ∙ length-append c.args.self.codes c.args.part.now, c.len-first.ensures.count)

pub returns-clause-hashed : goal.returns-clause-hashed
returns-clause-hashed c = λ family count hashed.
    let codes = c.args.self.codes in
    let first = c.len-first.result in
    c.with-hasher.ensures family count
    (subst (HasTaken c.args.self.hasher family count)
    (sym (ap (take first) c.in_ok-append.ensures.appended ∙ take_at codes c.args.part.now first (sym c.len-first.ensures.count)))
    hashed)
