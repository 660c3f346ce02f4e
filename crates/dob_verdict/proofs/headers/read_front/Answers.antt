-- What was read is the file's first bytes.
use Rattle.std.specs.Prelude.{length, take}
use Rattle.std.proofs.lemmas.Result.{IfErr-weaker}
use Rattle.dob_device.specs.Devices.{whole}
use Rattle.dob_certfile.specs.Fronts.{front_content}
use Rattle.dob_certfile.specs.Reading.{front_at}
use Rattle.dob_certfile.specs.declared.front.Front.{Front}
use Rattle.dob_verdict.proofs.Common.{◌≡◌, IfOk, List, Ok, subst, ℕ}
use Rattle.dob_verdict.proofs.Headed.{defect_fronts, front_read}
use Rattle.dob_verdict.proofs.headers.read_front.Goals as goal

pub returns-in-Ok-clause-front : goal.returns-in-Ok-clause-front
returns-in-Ok-clause-front g c = λ bytes gives.
    let room = c.read_full.new.room in
    let long : length room ≡ 28 = c.read_full.auto.room in
    let same = front_read 28 bytes room c.in-Ok.count long c.in-Ok.ensures.within (c.in-Ok.ensures.given (whole bytes) gives).0 in
    subst (λ (l : List ℕ). IfOk c.front_in.result (λ (front : Front). front_at l ≡ Ok (front_content front))) same c.front_in.ensures.front

pub returns-in-Ok-clause-fault : goal.returns-in-Ok-clause-fault
returns-in-Ok-clause-fault g c =
    let room = c.read_full.new.room in
    let long : length room ≡ 28 = c.read_full.auto.room in
    let Has : List ℕ → Type 0 = λ bytes. g.R.Source.gives c.args.source.now (whole bytes) in
    let read : (bytes : List ℕ) → Has bytes → take c.in-Ok.count room ≡ take 28 bytes = λ bytes gives.
    front_read 28 bytes room c.in-Ok.count long c.in-Ok.ensures.within (c.in-Ok.ensures.given (whole bytes) gives).0 in
    IfErr-weaker c.front_in.result _ _ (defect_fronts Has (take c.in-Ok.count room) read) c.front_in.ensures.fault
