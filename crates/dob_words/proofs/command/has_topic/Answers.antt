-- Three words or more ask for no help.
use Rattle.dob_words.proofs.Common.{◌∷◌, ◌≡◌, ◌≤◌, List, [], arith, false, length, map, refl, Bor, Text, has_topic}
use Rattle.dob_words.proofs.command.has_topic.Goals as goal

too_many : (words : List (Bor Text)) → 3 ≤ length words → false ≡ has_topic (map (λ w. w.now) words)
too_many [] many = absurd (omega (arith, many))
too_many (a ∷ []) many = absurd (omega (arith, many))
too_many (a ∷ b ∷ []) many = absurd (omega (arith, many))
too_many (a ∷ b ∷ c ∷ rest) many = refl

pub returns-in-empty-2 : goal.returns-in-empty-2
returns-in-empty-2 c = too_many c.args.words.now c.in-empty.len_at_least
