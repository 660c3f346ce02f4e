-- The texts of the items so far.
use Rattle.std.proofs.Common.{◌≡◌, Contains, IfOk, List, flat_map, string_bytes, take, ℕ}
use Rattle.dob_lines.proofs.texts.joined.Given as goal

abbrev pub invariant-loop-item : goal.invariant-loop-item
invariant-loop-item g l = (text : g.row.T.Denot → List ℕ)
    → ((item : g.row.T.Denot) → Contains l.items item → (given : _) → goal.F-post g l.text_of item given → IfOk given (λ told. string_bytes told ≡ text item))
    → string_bytes l.told ≡ flat_map text (take l.item-index l.items)
