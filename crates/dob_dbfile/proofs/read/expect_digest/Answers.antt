-- The digest that was read is compared with that of the bytes before it.
use Rattle.dob_dbfile.proofs.Common.{◌+◌, ◌∙◌, ◌≡◌, after, arith, false, length, subst, sym, true, ℕ, err_from_is_err_and, GivesFewer}
use Rattle.dob_dbfile.proofs.Pieces.{digest_cut, end_wrong, all_taken}
use Rattle.dob_dbfile.specs.Reading.{IsNoEnd}
use Rattle.dob_dbfile.proofs.read.expect_digest.Goals as goal

pub returns-in_err-fill-clause-fault : goal.returns-in_err-fill-clause-fault
returns-in_err-fill-clause-fault g c = λ stream message gives holds.
    let p = err_from_is_err_and c.from_residual.result c.from_residual.ensures.1 in
    let room : length c.fill.new.room ≡ 32 = c.fill.auto.room in
    rw (p.1, p.2) (digest_cut message c.args.before stream _
    (subst (λ (n : ℕ). GivesFewer n c.args.before stream c.in_err-fill.field-0.0) room (c.in_err-fill.ensures.cut stream gives)))

pub returns-then-are_same-clause-is : goal.returns-then-are_same-clause-is
returns-then-are_same-clause-is g c = λ stream message gives holds.
    let taken = c.in_ok-fill.ensures.taken stream gives in
    let found = all_taken stream c.fill.new.room taken.0 (c.in_ok-expect_end.ensures.end _ taken.1) in
    let room : length c.fill.new.room ≡ 32 = c.fill.auto.room in
    record {
      ends = found.ends;
      whole = found.whole ∙ room;
      digest = found.same ∙ c.are_same.ensures.same.0 c.if-are_same.true ∙ c.finalize.ensures message holds;
    }

pub returns-else-are_same-clause-fault : goal.returns-else-are_same-clause-fault
returns-else-are_same-clause-fault g c = λ stream message gives holds.
    let taken = c.in_ok-fill.ensures.taken stream gives in
    let found = all_taken stream c.fill.new.room taken.0 (c.in_ok-expect_end.ensures.end _ taken.1) in
    let room : length c.fill.new.room ≡ 32 = c.fill.auto.room in (
      found.whole ∙ room,
      found.ends,
      λ same.
          let yes : c.are_same.result ≡ true = c.are_same.ensures.same.1 (sym found.same ∙ same ∙ sym (c.finalize.ensures message holds)) in
          let no : c.are_same.result ≡ false = c.if-are_same.false in
          cc,
    )

pub returns-in_err-expect_end-clause-fault : goal.returns-in_err-expect_end-clause-fault
returns-in_err-expect_end-clause-fault g c = λ stream message gives holds.
    let p = err_from_is_err_and c.from_residual-in_err-expect_end.result c.from_residual-in_err-expect_end.ensures.1 in
    let given = c.in_err-expect_end.field-0.0 in
    let taken = c.in_ok-fill.ensures.taken stream gives in
    let room : length c.fill.new.room ≡ 32 = c.fill.auto.room in
    rw (p.1, p.2) (end_wrong message c.args.before stream given (omega (arith, taken.0.within, room))
    (subst (λ (n : ℕ). IsNoEnd (c.args.before + 32) (after n stream) given) room (c.in_err-expect_end.ensures.fault _ taken.1)))
