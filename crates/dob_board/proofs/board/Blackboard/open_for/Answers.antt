-- The words at the start, with the first token's, keep the rule under one view of all nodes.
use Rattle.std.proofs.lemmas.Grind.{common_steps}
use Rattle.std.proofs.Common.{arith, ℕ, List, [], ◌∷◌, sym, ap, subst, ◌∙◌}
use Rattle.dob_board.proofs.Names.{first_words, IsHeld, whole}
use Rattle.dob_board.proofs.Starts.{begins}
use Rattle.dob_board.proofs.board.Blackboard.open_for.Goals as goal

pub of_words-requires : goal.of_words-requires
of_words-requires c =
    let made = c.in_ok-words.ensures in
    let nodes = c.get-key.result in
    subst (λ (ws : List ℕ). IsHeld nodes ws (whole nodes ∷ []))
    (sym (c.deref.ensures.value ∙ made.2 ∙ ap (λ (n : ℕ). first_words n made.0) (sym c.get-key.ensures.value)))
    (begins nodes made.0 c.get-key.ensures.size made.1)

pub invariant_of-board : goal.invariant_of-board
invariant_of-board c = grind (arith, common_steps)

pub returns-clause-fresh : goal.returns-clause-fresh
returns-clause-fresh c = grind (arith, common_steps)

pub returns-clause-seats : goal.returns-clause-seats
returns-clause-seats c = grind (arith, common_steps)
