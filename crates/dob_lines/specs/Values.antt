-- How a value is printed.
use Rattle.std.specs.Prelude.{ℕ, List, [], ◌∷◌, ◌++◌, codes}
use Rattle.std.specs.Fmt.{decimal}
use Rattle.dob_pieces.specs.Bytes.{line_feed}
use Rattle.dob_distance.specs.declared.value.Value.{Value}
use Rattle.dob_distance.specs.declared.value.Value.TheVariants.{Win, Loss, Draw}

-- the line that gives a value, with its line feed
abbrev pub value_line : Value → List ℕ
value_line (Win plies) = codes "win " ++ decimal plies ++ line_feed ∷ []
value_line (Loss plies) = codes "loss " ++ decimal plies ++ line_feed ∷ []
value_line Draw = codes "draw" ++ line_feed ∷ []
