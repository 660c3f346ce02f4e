-- A text without control characters, piece after piece.
use Rattle.dob_cli.proofs.Common.{List, ℕ}
use Rattle.std.specs.Prelude.{◌≢◌, ◌≤◌}
use Rattle.std.proofs.lemmas.List.Elements.{All-append}
use Rattle.dob_cli.specs.Runs.{AddsShown, LacksControls}

pub lacks_more : (before after : List ℕ) → AddsShown before after → LacksControls before → LacksControls after
lacks_more before after (more, lacks, is) first = rw is (All-append (λ (b : ℕ). (32 ≤ b) × (b ≢ 127)) before more first lacks)
