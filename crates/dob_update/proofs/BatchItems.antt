-- The items of batches, and of one more.
use Rattle.dob_update.proofs.Common.{◌++◌, ◌∙◌, ◌∷◌, ◌≡◌, List, [], ap, flat_map-append, append-nil, BatchView}
use Rattle.dob_update.specs.Batches.{items_of_batches}

pub items_in_more : (batches : List BatchView) (batch : BatchView) → items_of_batches (batches ++ batch ∷ []) ≡ items_of_batches batches ++ batch.items
items_in_more batches batch =
    flat_map-append (λ (b : BatchView). b.items) batches (batch ∷ []) ∙ ap (λ xs. items_of_batches batches ++ xs) (append-nil batch.items)
