-- A line more is heard each time; what is held is told at the end, whatever that is.
use Rattle.dob_files.proofs.Common.{◌||◌, ◌∙◌, Bool, ap, false, inl, inr, refl, string_bytes, sym, or-false, err_from_is_err_and, unchanged, is_io, told_of}
use Rattle.dob_files.proofs.EachLine.{AreHeard, ahead_told, all_told, ends_weaker, first_stopped, first_told, never_known, none_heard, one_heard}
use Rattle.dob_files.proofs.EachLine.{put_or_stopped, same_heard, still_works}
use Rattle.dob_files.proofs.Kept.{same_chain}
use Rattle.dob_files.proofs.talk.tell_each.Goals as goal
use Rattle.dob_files.proofs.talk.tell_each.Goals.{In_ok-tell_ahead}

pub loop-init : goal.loop-init
loop-init g c = (
  none_heard (g.T.Answerer.answers c.args.by.now) (g.S.Shelf.state c.args.shelf.now).input (g.O.Sink.state c.args.out.now) c.none-held.result.is_refused
      (string_bytes c.none-held.result.lines) c.none-held.ensures.refused c.none-held.ensures.lines,
  λ line told is. is,
  λ fault ends. ends,
  unchanged (g.S.Shelf.state c.args.shelf.now).has,
  still_works (g.S.Shelf.state c.args.shelf.now).has_failed (g.T.Answerer.has_failed c.args.by.now) c.requires,
)

-- what is told ahead was held
ahead : (g : _) (c : In_ok-tell_ahead g)
    → AreHeard (g.T.Answerer.answers c.args.by.now) (g.S.Shelf.state c.args.shelf.now).input (g.S.Shelf.state c.loop.shelf).input
    (g.O.Sink.state c.args.out.now) (g.O.Sink.state c.tell_ahead.new.out) c.tell_ahead.new.self.is_refused (string_bytes c.tell_ahead.new.self.lines)
ahead g c =
    let done = c.in_ok-tell_ahead.ensures.done in
    ahead_told c.loop.invariant.0 (g.O.Sink.state c.tell_ahead.new.out) c.tell_ahead.new.self.is_refused done.0
    (string_bytes c.tell_ahead.new.self.lines) c.tell_ahead.ensures.refused done.1 done.2

pub returns-in_err-tell_ahead-clause-told : goal.returns-in_err-tell_ahead-clause-told
returns-in_err-tell_ahead-clause-told g c =
    let p = err_from_is_err_and c.from_residual.result c.from_residual.ensures.1 in
    rw (p.1, p.2) (inr (
      c.in_err-tell_ahead.ensures.part.0,
      (c.loop.held.is_refused, first_stopped c.loop.invariant.0 (g.O.Sink.state c.tell_ahead.new.out) c.in_err-tell_ahead.ensures.part.1),
      c.loop.invariant.4 ∙ sym (or-false (g.S.Shelf.state c.args.shelf.now).has_failed),
    ))

pub returns-in_err-tell-in-Ok-false-clause-told : goal.returns-in_err-tell-in-Ok-false-clause-told
returns-in_err-tell-in-Ok-false-clause-told g c =
    let p = err_from_is_err_and c.from_residual-in_err-tell-in-Ok-false.result c.from_residual-in_err-tell-in-Ok-false.ensures.1 in
    let none = rw c.in-Ok-false.field-0-test at c.in-Ok-false.ensures.heard in
    let heard = same_heard (told_of c.hear_next.new.held) none.1 (ahead g (goal.at.returns-in_err-tell-in-Ok-false-clause-told g c).In_ok-tell_ahead) in
    let part = c.in_err-tell-in-Ok-false.ensures.part in
    rw (p.1, p.2) (inr (
      part.0,
      (c.hear_next.new.held.is_refused, first_stopped heard (g.O.Sink.state c.tell.new.out) part.1),
      c.in-Ok-false.ensures.failed ∙ ap (λ (b : Bool). b || false) c.loop.invariant.4,
    ))

pub returns-in-Ok-false-clause-told : goal.returns-in-Ok-false-clause-told
returns-in-Ok-false-clause-told g c =
    let none = rw c.in-Ok-false.field-0-test at c.in-Ok-false.ensures.heard in
    let heard = same_heard (told_of c.hear_next.new.held) none.1 (ahead g (goal.at.returns-in-Ok-false-clause-told g c).In_ok-tell_ahead) in (
      rw c.tell.ensures.refused (all_told heard (g.O.Sink.state c.tell.new.out) none.0 c.in_ok-tell-in-Ok-false.ensures.done),
      c.in-Ok-false.ensures.failed ∙ ap (λ (b : Bool). b || false) c.loop.invariant.4,
    )

pub returns-in-Err-clause-told : goal.returns-in-Err-clause-told
returns-in-Err-clause-told g c =
    let heard = same_heard (told_of c.hear_next.new.held) c.in-Err.ensures.held (ahead g (goal.at.returns-in-Err-clause-told g c).In_ok-tell_ahead) in
    inl (
      (
        ends_weaker (g.T.Answerer.ends c.loop.by) (g.T.Answerer.ends c.args.by.now) (g.S.Shelf.state c.loop.shelf).input (g.S.Shelf.state c.args.shelf.now).input
            c.in-Err.fault c.loop.invariant.2 (never_known c.loop.invariant.0) c.in-Err.ensures.ended,
        c.in-Err.ensures.failed ∙ ap (λ (b : Bool). b || is_io c.in-Err.fault) c.loop.invariant.4,
      ),
      inr (
        c.hear_next.new.held.is_refused,
        first_told heard (g.O.Sink.state c.tell-told.new.out) (g.S.Shelf.state c.hear_next.new.shelf).input c.in-Err.fault c.in-Err.ensures.taken (put_or_stopped _ _ c.tell-told.result c.tell-told.ensures.done c.tell-told.ensures.part),
      ),
    )

pub loop-preserved : goal.loop-preserved
loop-preserved g c =
    let shelf = g.S.Shelf.state c.args.shelf.now in (
      one_heard (ahead g (goal.at.loop-preserved g c).In_ok-tell_ahead) (g.T.Answerer.answers c.loop.by) (g.S.Shelf.state c.hear_next.new.shelf).input
          (told_of c.hear_next.new.held) c.loop.invariant.1 (rw c.in-Ok-true.field-0-test at c.in-Ok-true.ensures.heard),
      λ line told is. c.loop.invariant.1 line told (c.hear_next.ensures.before line told is),
      λ fault ends. c.loop.invariant.2 fault (c.hear_next.ensures.ending fault ends),
      same_chain shelf.has (g.S.Shelf.state c.loop.shelf).has (g.S.Shelf.state c.hear_next.new.shelf).has c.loop.invariant.3 c.hear_next.ensures.files,
      c.in-Ok-true.ensures.failed ∙ ap (λ (b : Bool). b || false) c.loop.invariant.4 ∙ or-false shelf.has_failed,
    )

pub returns-clause-told : goal.returns-clause-told
returns-clause-told g c = inl (
  (inr (inl refl), c.loop.invariant.4 ∙ sym (or-false (g.S.Shelf.state c.args.shelf.now).has_failed)),
  inr (
    c.loop.held.is_refused,
    first_told c.loop.invariant.0 (g.O.Sink.state c.tell-told-2.new.out) _ _ (inl refl)
        (put_or_stopped _ _ c.tell-told-2.result c.tell-told-2.ensures.done c.tell-told-2.ensures.part),
  ),
)

pub returns-in-Err-clause-files : goal.returns-in-Err-clause-files
returns-in-Err-clause-files g c =
    let shelf = g.S.Shelf.state c.args.shelf.now in
    same_chain shelf.has (g.S.Shelf.state c.loop.shelf).has (g.S.Shelf.state c.hear_next.new.shelf).has c.loop.invariant.3 c.in-Err.ensures.files

pub returns-in-Ok-false-clause-files : goal.returns-in-Ok-false-clause-files
returns-in-Ok-false-clause-files g c =
    let shelf = g.S.Shelf.state c.args.shelf.now in
    same_chain shelf.has (g.S.Shelf.state c.loop.shelf).has (g.S.Shelf.state c.hear_next.new.shelf).has c.loop.invariant.3 c.in-Ok-false.ensures.files
