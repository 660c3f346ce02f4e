-- The words in the list are the texts of the words gone over, in order.
use Rattle.std.proofs.Common.{◌≡◌, map, string_bytes, take}
use Rattle.dob_cli.proofs.program.texts_of.Given as goal

-- the texts of the first words are in the list
abbrev pub invariant-loop-word : goal.invariant-loop-word
invariant-loop-word l = map (λ w. w.now) l.words.items ≡ map string_bytes (take l.word-index l.given)
