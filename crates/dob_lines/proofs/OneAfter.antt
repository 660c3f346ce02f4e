-- The texts of items, one more at a time.
use Rattle.std.proofs.Common.{◌++◌, ◌+◌, ◌<◌, ◌≡◌, List, append-nil, flat_map, get_or, length, refl, take, ℕ}
use Rattle.std.proofs.lemmas.Grind.{flat_map-append}
use Rattle.std.proofs.lemmas.List.{take_more}

-- one item's text comes to those before
pub next_text : {X : Type 0} (text : X → List ℕ) (items : List X) (i : ℕ) (d : X) (old new : List ℕ) → i < length items
    → old ≡ flat_map text (take i items) → new ≡ old ++ text (get_or items i d) → new ≡ flat_map text (take (i + 1) items)
next_text text items i d old new within before grown = rw (grown, before, take_more items i d within, flat_map-append, append-nil) refl
