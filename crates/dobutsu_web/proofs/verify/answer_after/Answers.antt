-- The held list's family is the lost one's.
use Rattle.dobutsu_web.proofs.Common.{inl, inr, refl, cases_Bool, not_so, entries_by, entries_in}
use Rattle.dobutsu_web.proofs.Answered.{proof_of}
use Rattle.dobutsu_web.proofs.verify.answer_after.Goals as goal

pub returns-in-Some-clause-answer : goal.returns-in-Some-clause-answer
returns-in-Some-clause-answer c =
    inr (inl (refl, inr (c.requires.supported, c.in-Some.place, refl, rw c.requires.one at c.in-Some.ensures.broken)))

pub is_shown-requires-clause-member : goal.is_shown-requires-clause-member
is_shown-requires-clause-member c = rw c.of-position.ensures c.requires.member

pub returns-in-None-clause-answer : goal.returns-in-None-clause-answer
returns-in-None-clause-answer c =
    let lost = c.args.lost.now in
    let held = c.args.held.now in
    let all = rw c.requires.one at c.in-None.ensures.broken in
    let shows = rw (c.requires.one, c.of-position.ensures) at c.is_shown.ensures in
    elim (cases_Bool c.is_shown.result) [
      | inl on ↦ inl (
        c.shown_number.ensures.shown on,
        proof_of lost.family (entries_in lost) (entries_by lost.family held.ranks.now held.plies.now) c.args.position.now.setup c.args.claim
            c.requires.supported all (shows.0 on),
      )
      | inr off ↦ inr (inr (
        c.shown_number.ensures.silent off,
        record { lost_supported = c.requires.supported; held_supported = all; hidden = not_so c.is_shown.result off shows },
      ))
    ]
