-- The bytes before the index are the letter, and the one at it isn't.
use Rattle.std.proofs.Common.{arith}
use Rattle.dob_text.proofs.Fronts.{front_stops}
use Rattle.dob_text.proofs.hands.front_len.Goals as goal

pub returns-then-byte-letter-clause-value : goal.returns-then-byte-letter-clause-value
returns-then-byte-letter-clause-value c =
    front_stops c.args.letter c.args.bytes.now c.loop-i.i (omega arith) c.loop-i.invariant (λ lt. c.if-byte-letter.true)

pub returns-clause-value : goal.returns-clause-value
returns-clause-value c =
    front_stops c.args.letter c.args.bytes.now _ (omega arith) (λ k lt. c.loop-i.invariant k (omega arith)) (λ lt. absurd (omega arith))
