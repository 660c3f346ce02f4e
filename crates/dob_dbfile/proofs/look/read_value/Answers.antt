-- The two bytes at the class's place are its record.
use Rattle.dob_dbfile.proofs.Common.{◌*◌, ◌+◌, ◌≡◌, err_from_is_err_and, length, subst, ℕ, after, GivesFewer, TakesBytes}
use Rattle.dob_dbfile.proofs.Looked.{record_cut, record_is}
use Rattle.dob_dbfile.proofs.look.read_value.Goals as goal

pub returns-clause-read : goal.returns-clause-read
returns-clause-read g c = λ stream shows.
    let taken = c.in_ok-fill.ensures.taken _ (c.in-Ok.ensures.given stream shows) in
    let two : length c.fill.new.room ≡ 2 = c.fill.auto.room in
    let here = subst (λ (n : ℕ). TakesBytes (after (n + 2 * c.args.class) stream) c.fill.new.room) c.header_len.ensures taken.0 in
    record_is stream c.args.format c.args.class c.fill.new.room c.value_in.result two here c.value_in.ensures.bytes c.value_in.ensures.entry

pub returns-in_err-fill-clause-fault : goal.returns-in_err-fill-clause-fault
returns-in_err-fill-clause-fault g c = λ stream shows.
    let p = err_from_is_err_and c.from_residual.result c.from_residual.ensures.1 in
    let given = c.in_err-fill.field-0.0 in
    let two : length c.fill.new.room ≡ 2 = c.fill.auto.room in
    let cut = subst (λ (n : ℕ). GivesFewer n (c.header_len.result + 2 * c.args.class) (after (c.header_len.result + 2 * c.args.class) stream) given) two
    (c.in_err-fill.ensures.cut _ (c.in-Ok.ensures.given stream shows)) in
    let here = subst (λ (n : ℕ). GivesFewer 2 (n + 2 * c.args.class) (after (n + 2 * c.args.class) stream) given) c.header_len.ensures cut in
    rw (p.1, p.2) (record_cut stream c.args.format c.args.class given here c.in_err-fill.ensures.known)
