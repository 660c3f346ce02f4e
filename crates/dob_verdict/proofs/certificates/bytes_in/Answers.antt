-- What is wrong with the bytes that were read first is wrong with the source's, and all that were read are its bytes, or enough of them.
use Rattle.std.specs.Prelude.{drop, length, take}
use Rattle.dob_device.specs.Devices.{whole}
use Rattle.dob_certfile.specs.Fronts.{front_content}
use Rattle.dob_verdict.proofs.Common.{◌≡◌, List, err_from_is_err_and, subst, sym, ℕ}
use Rattle.dob_verdict.proofs.Headed.{front_read}
use Rattle.dob_verdict.proofs.Lengths.{read_as}
use Rattle.dob_verdict.proofs.Proven.{front_reads}
use Rattle.dob_verdict.specs.Certificates.{ReadsAs}
use Rattle.dob_verdict.proofs.certificates.bytes_in.Goals as goal

pub returns-in_err-front-clause-fault : goal.returns-in_err-front-clause-fault
returns-in_err-front-clause-fault g c =
    let p = err_from_is_err_and c.from_residual.result c.from_residual.ensures.1 in
    let room = c.read_full.new.room in
    let long : length room ≡ 28 = c.read_full.auto.room in
    let Has : List ℕ → Type 0 = λ bytes. g.R.Source.gives c.args.source.now (whole bytes) in
    let read : (bytes : List ℕ) → Has bytes → take c.in-Ok.count room ≡ take 28 bytes = λ bytes gives.
    front_read 28 bytes room c.in-Ok.count long c.in-Ok.ensures.within (c.in-Ok.ensures.given (whole bytes) gives).0 in
    rw (p.1, p.2) (front_reads Has (take c.in-Ok.count room) read c.in_err-front.field-0.0 c.in_err-front.ensures.fault)

pub returns-clause-bytes : goal.returns-clause-bytes
returns-clause-bytes g c bytes gives =
    let room = c.read_full.new.room in
    let count = c.in-Ok.count in
    let first = c.in-Ok.ensures.given (whole bytes) gives in
    subst (λ (read : List ℕ). ReadsAs read bytes) (sym (rw c.deref.ensures.value at c.in_ok-joined.ensures))
    (read_as (front_content c.in_ok-front.front) bytes (take count room) c.in_ok-rest.rest.items count c.most_behind.result first.0.same
    (front_read 28 bytes room count c.read_full.auto.room c.in-Ok.ensures.within first.0) c.in_ok-front.ensures.front c.most_behind.ensures
    (c.in_ok-rest.ensures.given (drop count bytes) first.1))
