-- The records are those of the family that the header names.
use Rattle.dob_query.proofs.Common.{err_from_is_err_and, Stream}
use Rattle.std.proofs.lemmas.Result.{IfErr-weaker, IfOk-weaker}
use Rattle.dob_query.proofs.Asking.{records_ask, refusal_asks}
use Rattle.dob_query.proofs.questions.ask.Goals as goal

pub returns-in_err-check_member-clause-fault : goal.returns-in_err-check_member-clause-fault
returns-in_err-check_member-clause-fault g c =
    let p = err_from_is_err_and c.from_residual-in_err-check_member.result c.from_residual-in_err-check_member.ensures.1 in
    rw (p.1, p.2) (refusal_asks c.args.question _ c.args.position.now.setup c.in_ok-format.format c.in_ok-format.classes.family c.in_err-check_member.field-0.0
    c.in_err-check_member.ensures.refused (λ stream known. c.in_ok-format.ensures.named stream known.0))

pub returns-clause-ok : goal.returns-clause-ok
returns-clause-ok g c = λ stream gives shows.
    IfOk-weaker c.answer_by_records.result _ _ (λ lines told. record {
      format = c.in_ok-format.format;
      family = c.in_ok-format.classes.family;
      by = record { named = c.in_ok-format.ensures.named stream gives; member = c.in_ok-check_member.ensures.member };
      told = told;
    }) (c.answer_by_records.ensures.told.ok stream (c.in_ok-format.ensures.shown stream shows))

pub returns-clause-fault : goal.returns-clause-fault
returns-clause-fault g c =
    let setup = c.args.position.now.setup in
    let format = c.in_ok-format.format in
    let family = c.in_ok-format.classes.family in
    let Gives : Stream → Type 0 = λ stream. g.R.Source.gives c.args.source.now stream × g.R.Source.shows c.args.source.now stream in
    let Shows : Stream → Type 0 = g.R.Source.shows c.read_classes.new.source in
    IfErr-weaker c.answer_by_records.result _ _
    (λ fault. records_ask c.args.question Gives Shows setup format family fault
    (λ stream known. record { named = c.in_ok-format.ensures.named stream known.0; member = c.in_ok-check_member.ensures.member })
    (λ stream known. c.in_ok-format.ensures.shown stream known.1))
    c.answer_by_records.ensures.fault
