-- The option that has one is one of them.
use Rattle.dob_words.proofs.Common.{◌∙◌, ap, sym, list_any_at, list_any-map, choice_said, is_stream_for}
use Rattle.std.proofs.Common.{is_some}
use Rattle.dob_words.proofs.command.misplaced.first_stream.Goals as goal

pub returns-in-Some : goal.returns-in-Some
returns-in-Some c =
    sym (sym (list_any-map (is_stream_for c.args.inner.now) choice_said c.args.options.now)
    ∙ list_any_at (λ choice. is_stream_for c.args.inner.now (choice_said choice)) c.args.options.now c.loop-choice.choice-index _ c.loop-choice-test.true
    (sym c.stream_for.ensures ∙ ap is_some c.in-Some.is))
