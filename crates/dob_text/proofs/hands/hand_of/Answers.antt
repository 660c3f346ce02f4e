-- A dash, three runs of letters, or no hand's text.
use Rattle.dob_text.proofs.Common.{◌-◌, ◌∙◌, ◌∷◌, ◌≡◌, ◌≢◌, List, [], ap, arith, drop, get_or, length, refl, take, ℕ, take_rest, Side}
use Rattle.dob_text.proofs.Fronts.{Counts, counts, one_byte, same_hand, hand_spelled, hand_fault}
use Rattle.dob_text.proofs.hands.hand_of.Goals as goal
use Rattle.dob_text.proofs.hands.hand_of.Goals.{After-front_len-giraffes, else-word-eq1-via-then-word-eq1+else-word-eq45, else-word-eq1-via-else-word-eq1}

pub returns-then-word-eq45 : goal.returns-then-word-eq45
returns-then-word-eq45 c =
    (record { chicks = 0; elephants = 0; giraffes = 0 }, one_byte c.args.word.now 45 c.if-word-eq1.true c.if-word-eq45.true, refl)

-- the counts, and what the last of them left
record IsMeasured (side : Side) (word last : List ℕ) (c e g : ℕ) : Type 0 where
  counted : Counts side word c e g
  size : length last ≡ length (drop e (drop c word))

measured : (c : After-front_len-giraffes) → IsMeasured c.args.side c.args.word.now (take (length (take (length c.args.word.now - c.front_len-chicks.result)
    (drop c.front_len-chicks.result c.args.word.now)) - c.front_len-elephants.result) (drop c.front_len-elephants.result
    (take (length c.args.word.now - c.front_len-chicks.result) (drop c.front_len-chicks.result c.args.word.now))))
    c.front_len-chicks.result c.front_len-elephants.result c.front_len-giraffes.result
measured c =
    let word : List ℕ = c.args.word.now in
    let rest : List ℕ = take (length word - c.front_len-chicks.result) (drop c.front_len-chicks.result word) in
    let last : List ℕ = take (length rest - c.front_len-elephants.result) (drop c.front_len-elephants.result rest) in
    let is_rest : rest ≡ drop c.front_len-chicks.result word = take_rest word c.front_len-chicks.result in
    let is_last : last ≡ drop c.front_len-elephants.result rest = take_rest rest c.front_len-elephants.result in
    record {
      counted = counts c.args.side word rest last _ _ _ _ _ _ c.piece_letter.ensures.value c.piece_letter-2.ensures.value c.piece_letter-3.ensures.value
          is_rest is_last c.front_len-chicks.ensures.value c.front_len-elephants.ensures.value c.front_len-giraffes.ensures.value;
      size = ap length (is_last ∙ ap (drop c.front_len-elephants.result) is_rest);
    }

pub returns-then-giraffes-rest : goal.returns-then-giraffes-rest
returns-then-giraffes-rest c =
    let is = measured (goal.at.returns-then-giraffes-rest c).After-front_len-giraffes in
    let size = is.size in
    let other : c.args.word.now ≢ 45 ∷ [] = λ e.
    let one : length c.args.word.now ≡ 1 = ap length e in
    let dash : get_or c.args.word.now 0 0 ≡ 45 = ap (λ (xs : List ℕ). get_or xs 0 0) e in
    elim c.else-word-eq1.branch [
      | else-word-eq1-via-then-word-eq1+else-word-eq45 w ↦ w.if-word-eq45.false dash
      | else-word-eq1-via-else-word-eq1 w ↦ w.if-word-eq1.false one
    ] in
    hand_fault c.args.side c.args.word.now _ _ _ other is.counted.chicks is.counted.elephants is.counted.giraffes (omega arith)

pub returns : goal.returns
returns c =
    let is = measured (goal.at.returns c).After-front_len-giraffes in
    let size = is.size in (
      record { chicks = c.front_len-chicks.result; elephants = c.front_len-elephants.result; giraffes = c.front_len-giraffes.result },
      hand_spelled c.args.side c.args.word.now _ _ _ c.requires is.counted.chicks is.counted.elephants is.counted.giraffes (omega arith),
      same_hand _ _ c.capped_count.ensures c.capped_count-2.ensures c.capped_count-3.ensures,
    )
