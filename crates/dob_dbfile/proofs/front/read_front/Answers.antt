-- What the first bytes are refused for is a fault of the stream.
use Rattle.dob_dbfile.proofs.Common.{◌∙◌, ◌≡◌, List, ap, arith, length, subst, take, ℕ, IfErr-weaker, HasHeaderFault}
use Rattle.dob_dbfile.proofs.Headers.{fault_lifts, front_refused}
use Rattle.dob_dbfile.proofs.front.read_front.Goals as goal

pub returns-clause-fault : goal.returns-clause-fault
returns-clause-fault g c = λ stream gives.
    let taken = c.in_ok-fill.ensures.taken stream gives in
    let len : length c.fill.new.room ≡ 20 = c.fill.auto.room ∙ c.requires in
    let front : c.fill.new.room ≡ take 20 stream.bytes = taken.0.same ∙ ap (λ (n : ℕ). take n stream.bytes) len in
    IfErr-weaker c.front_named.result _ _
    (λ given wrong. front_refused stream given (fault_lifts 20 stream.bytes (omega arith) (omega (arith, len, taken.0.within)) given
    (subst (λ (h : List ℕ). HasHeaderFault h given) front wrong)))
    c.front_named.ensures.fault
