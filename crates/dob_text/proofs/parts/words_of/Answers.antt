-- The words are what stands before the first space and after it.
use Rattle.dob_text.proofs.Common.{◌+◌, ◌-◌, ◌≡◌, List, drop, length, refl, take, true, ℕ, take_rest, IsWord}
use Rattle.dob_text.proofs.Splits.{no_space, words_found, words_only}
use Rattle.dob_text.proofs.parts.words_of.Goals as goal
use Rattle.dob_text.proofs.parts.words_of.Goals.{else-is_word-via-then-is_word+else-is_word-2, else-is_word-via-else-is_word}

pub returns-in_err-space : goal.returns-in_err-space
returns-in_err-space c = rw c.from_residual.ensures (no_space c.args.text.now c.in_err-space.ensures)

pub returns-then-is_word-2 : goal.returns-then-is_word-2
returns-then-is_word-2 c =
    words_found c.args.text.now _ _ c.in_ok-space.space c.in_ok-space.ensures refl (take_rest c.args.text.now (c.in_ok-space.space + 1))
    (c.is_word.ensures.0 c.if-is_word.true) (c.is_word-then-is_word.ensures.0 c.if-is_word-2.true)

pub returns-else-is_word : goal.returns-else-is_word
returns-else-is_word c = λ mover enemy words.
    let text : List ℕ = c.args.text.now in
    let space : ℕ = c.in_ok-space.space in
    let both : IsWord (take space text) × IsWord (take (length text - (space + 1)) (drop (space + 1) text)) =
    words_only text _ _ mover enemy space c.in_ok-space.ensures refl (take_rest text (space + 1)) words in
    elim c.else-is_word.branch [
      | else-is_word-via-then-is_word+else-is_word-2 w ↦ let t : w.is_word-then-is_word.result ≡ true = w.is_word-then-is_word.ensures.1 both.1 in cc
      | else-is_word-via-else-is_word w ↦ let t : c.is_word.result ≡ true = c.is_word.ensures.1 both.0 in cc
    ]
