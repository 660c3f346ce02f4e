-- The bytes that were put under the name are those that the sink has received.
use Rattle.std.proofs.Common.{◌≡◌, ◌∙◌, List, ℕ, Some, subst}
use Rattle.std.proofs.lemmas.Option.{same_Some}
use Rattle.dob_shelf.specs.Shelves.{HasJust, bytes_in}
use Rattle.dob_shelf.proofs.shelf.MemShelfShelf.keep.Goals as goal

pub returns-in-Ok-clause-kept : goal.returns-in-Ok-clause-kept
returns-in-Ok-clause-kept c = λ bytes tells same.
    subst (λ (b : List ℕ). HasJust c.args.name.now b (λ other found. bytes_in c.put.new.self.files other ≡ Some found))
    (c.into_bytes.ensures ∙ same_Some _ _ same) c.in-Ok.ensures.put
