-- None of the options so far has one.
use Rattle.dob_words.proofs.Common.{◌≡◌, false, map, take, list_any, choice_said, is_stream_for}
use Rattle.dob_words.proofs.command.misplaced.first_stream.Given as goal

abbrev pub invariant-loop-choice : goal.invariant-loop-choice
invariant-loop-choice l = list_any (λ choice. is_stream_for l.inner choice) (map choice_said (take l.choice-index l.options)) ≡ false
