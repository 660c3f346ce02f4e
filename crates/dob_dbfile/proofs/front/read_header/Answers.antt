-- The two pieces are the header, and what it is refused for is a fault of the stream.
use Rattle.dob_dbfile.proofs.Common.{◌++◌, ◌+◌, ◌-◌, ◌∙◌, ◌≡◌, ◌||◌, Bool, List, ap, arith, drop, inl, inr, length, length-take-le, rules, subst, sym, take, ℕ, err_from_is_err_and, Stream}
use Rattle.dob_dbfile.proofs.Common.{after, CountsClasses, HasHeaderFault, NamesClasses, NamesSet, header_len, put_mid}
use Rattle.dob_device.proofs.Streams.{after-after}
use Rattle.dob_dbfile.proofs.Headers.{HasCome, counts_lifts, fault_lifts, front_cut, front_refused, header_came, header_long, names_lift, set_lifts}
use Rattle.dob_dbfile.proofs.Headers.{no_failure, takes_front}
use Rattle.dob_dbfile.proofs.Pieces.{failed_later}
use Rattle.dob_dbfile.proofs.front.read_header.Goals.{In_ok-fill}
use Rattle.dob_dbfile.proofs.front.read_header.Goals as goal

pub returns-in_err-fill-clause-fault : goal.returns-in_err-fill-clause-fault
returns-in_err-fill-clause-fault g c = λ stream gives.
    let p = err_from_is_err_and c.from_residual-in_err-fill.result c.from_residual-in_err-fill.ensures.1 in
    let first = c.in_ok-format.ensures.taken stream gives in
    let format = c.in_ok-format.format in
    let twenty : length c.read_front.new.room ≡ 20 = search rules in
    let front : c.read_front.new.room ≡ take 20 stream.bytes = first.0.same ∙ ap (λ (n : ℕ). take n stream.bytes) twenty in
    let names = set_lifts 20 stream.bytes (omega arith) (omega (arith, twenty, first.0.within)) format c.in_ok-format.set
    (subst (NamesSet format c.in_ok-format.set) front c.in_ok-format.ensures.named) in
    let more : 20 + length c.fill.new.room ≡ header_len format = search rules in
    rw (p.1, p.2) (inr (front_cut stream format c.in_ok-format.set (length c.fill.new.room) c.in_err-fill.field-0.0 names more
    (c.in_err-fill.ensures.cut (after 20 stream) first.1) c.in_err-fill.ensures.known))

-- where both pieces came, the room begins with the header, and the source gives what is behind it
abbrev held : (g : _) (c : In_ok-fill g) → List ℕ
held g c = put_mid 20 (c.header_len.result - 20) (c.read_front.new.room ++ drop 20 c.args.room.now) c.fill.new.room

came : (g : _) (c : In_ok-fill g) (stream : Stream) → g.R.Source.gives c.args.source.now stream
    → HasCome stream c.in_ok-format.format (held g c) c.fill.new.room × g.R.Source.gives c.fill.new.source (after (length c.fill.new.room) (after 20 stream))
came g c stream gives =
    let first = c.in_ok-format.ensures.taken stream gives in
    let second = c.in_ok-fill.ensures.taken (after 20 stream) first.1 in (
      header_came stream c.in_ok-format.format c.header_len.result c.read_front.new.room c.args.room.now c.fill.new.room c.requires c.read_front.auto.room
          c.header_len.ensures c.fill.auto.room first.0 second.0,
      second.1,
    )

-- what holds of the header in the room holds of the bytes of the stream
header_is : (g : _) (c : In_ok-fill g) (stream : Stream) → g.R.Source.gives c.args.source.now stream → (size : ℕ) → size ≡ header_len c.in_ok-format.format
    → take size (held g c) ≡ take (header_len c.in_ok-format.format) stream.bytes
header_is g c stream gives size is = ap (λ (n : ℕ). take n (held g c)) is ∙ (came g c stream gives).0.same

pub returns-in_err-classes-clause-fault : goal.returns-in_err-classes-clause-fault
returns-in_err-classes-clause-fault g c = λ stream gives.
    let p = err_from_is_err_and c.from_residual-in_err-classes.result c.from_residual-in_err-classes.ensures.1 in
    let at = (goal.at.returns-in_err-classes-clause-fault g c).In_ok-fill in
    let given = c.in_err-classes.field-0.0 in
    rw (p.1, p.2) (elim c.in_err-classes.ensures.fault [
      | inl none ↦ inl none
      | inr wrong ↦ inr (front_refused stream given (fault_lifts _ stream.bytes (header_long c.in_ok-format.format) (came g at stream gives).0.there given
          (subst (λ (h : List ℕ). HasHeaderFault h given) (header_is g at stream gives c.header_len-2.result c.header_len-2.ensures) wrong)))
    ])

pub returns-in_err-classes-clause-memory : goal.returns-in_err-classes-clause-memory
returns-in_err-classes-clause-memory g c = λ stream gives.
    let p = err_from_is_err_and c.from_residual-in_err-classes.result c.from_residual-in_err-classes.ensures.1 in
    let at = (goal.at.returns-in_err-classes-clause-memory g c).In_ok-fill in
    rw (p.1, p.2) (λ memory. names_lift _ stream.bytes (header_long c.in_ok-format.format) (came g at stream gives).0.there
    (subst NamesClasses (header_is g at stream gives c.header_len-2.result c.header_len-2.ensures) (c.in_err-classes.ensures.memory memory)))

pub returns-clause-counted : goal.returns-clause-counted
returns-clause-counted g c = λ stream gives.
    let at = (goal.at.returns-clause-counted g c).In_ok-fill in
    let format = c.in_ok-format.format in
    counts_lifts _ stream.bytes (header_long format) (came g at stream gives).0.there format c.in_ok-classes.classes.family
    (subst (CountsClasses format c.in_ok-classes.classes.family) (header_is g at stream gives c.header_len-2.result c.header_len-2.ensures)
    c.in_ok-classes.ensures.counted)

pub returns-clause-taken : goal.returns-clause-taken
returns-clause-taken g c = λ stream gives.
    let there = came g (goal.at.returns-clause-taken g c).In_ok-fill stream gives in (
      takes_front stream (header_len c.in_ok-format.format) _ there.0.there there.0.same,
      subst (g.R.Source.gives c.fill.new.source) (after-after stream 20 (length c.fill.new.room) ∙ ap (λ (n : ℕ). after n stream) there.0.counted) there.1,
    )

pub returns-clause-failed : goal.returns-clause-failed
returns-clause-failed g c = failed_later _ _ _ _ c.in_ok-format.ensures.failed c.in_ok-fill.ensures.failed

pub returns-in_err-fill-clause-failed : goal.returns-in_err-fill-clause-failed
returns-in_err-fill-clause-failed g c =
    let p = err_from_is_err_and c.from_residual-in_err-fill.result c.from_residual-in_err-fill.ensures.1 in
    rw (p.1, p.2) (failed_later _ _ _ _ c.in_ok-format.ensures.failed c.in_err-fill.ensures.failed)

pub returns-in_err-classes-clause-failed : goal.returns-in_err-classes-clause-failed
returns-in_err-classes-clause-failed g c =
    let p = err_from_is_err_and c.from_residual-in_err-classes.result c.from_residual-in_err-classes.ensures.1 in
    rw (p.1, p.2) (failed_later _ _ _ _ c.in_ok-format.ensures.failed c.in_ok-fill.ensures.failed
    ∙ ap (λ (b : Bool). g.R.Source.has_failed c.args.source.now || b) (sym (no_failure _ c.in_err-classes.field-0.0 c.in_err-classes.ensures.fault)))

pub returns-in_err-classes-clause-counted : goal.returns-in_err-classes-clause-counted
returns-in_err-classes-clause-counted g c = λ stream gives.
    let p = err_from_is_err_and c.from_residual-in_err-classes.result c.from_residual-in_err-classes.ensures.1 in rw p.1 tt

pub returns-in_err-classes-clause-taken : goal.returns-in_err-classes-clause-taken
returns-in_err-classes-clause-taken g c = λ stream gives.
    let p = err_from_is_err_and c.from_residual-in_err-classes.result c.from_residual-in_err-classes.ensures.1 in rw p.1 tt

pub read_front-requires : goal.read_front-requires
read_front-requires g c = length-take-le 20 c.args.room.now (omega (arith, c.requires))
