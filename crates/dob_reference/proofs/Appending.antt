-- Moves appended piece by piece, as the reference program does.
use Rattle.std.proofs.Common.{List, None, Option, Some, [], add-one, ap, append_assoc, get_or, length, option_to_list, refl, take, ℕ, ◌++◌, ◌+◌, ◌<◌}
use Rattle.std.proofs.Common.{◌∙◌, ◌∷◌, ◌≡◌}
use Rattle.std.proofs.Math.Seq.{take-suc}
use Rattle.std.proofs.lemmas.List.{append-nil}
use Rattle.std.proofs.lemmas.List.Elements.{filter_map-append}
use Rattle.std.specs.List.{cons_option, filter_map}
use Rattle.dob_pieces.specs.Lists.{each_below}
use Rattle.dob_moves.specs.declared.game_move.Move.{Move}

single : (o : Option Move) → option_to_list o ≡ cons_option o []
single None = refl
single (Some m) = refl

-- one more item of a list, and what it gives
pub taken_more : (f : ℕ × ℕ → Option Move) (xs : List (ℕ × ℕ)) (x : ℕ × ℕ) (i : ℕ) (old items new : List Move) → i < length xs
    → items ≡ old ++ filter_map f (take i xs) → new ≡ items ++ option_to_list (f (get_or xs i x)) → new ≡ old ++ filter_map f (take (i + 1) xs)
taken_more f xs x i old items new h before e =
    let one : take (i + 1) xs ≡ take i xs ++ get_or xs i x ∷ [] = rw add-one (take-suc xs i x h) in
    rw (one, filter_map-append f (take i xs) (get_or xs i x ∷ []), ← append_assoc, ← single (f (get_or xs i x)))
    (e ∙ ap (λ (ms : List Move). ms ++ option_to_list (f (get_or xs i x))) before)

-- what one more number gives
pub below_more_moves : (g : ℕ → List Move) (i : ℕ) (old items new : List Move) → items ≡ old ++ each_below g i
    → new ≡ items ++ g i → new ≡ old ++ each_below g (i + 1)
below_more_moves g i old items new before e =
    rw (add-one, ← append_assoc) (e ∙ ap (λ (ms : List Move). ms ++ g i) before)

pub ruleset appends = (taken_more, below_more_moves, append_assoc, append-nil)
