-- The text of a piece set.
use Rattle.std.specs.Prelude.{ℕ, ◌+◌, List, [], ◌∷◌}
use Rattle.dob_pieces.specs.declared.piece_set.PieceSet.{PieceSet}
use Rattle.dob_pieces.specs.Bytes.{digit_zero}

-- the ASCII digit of a number below ten
abbrev pub digit : ℕ → ℕ
digit n = digit_zero + n

-- three digits: chicks, elephants, giraffes
abbrev pub set_text : PieceSet → List ℕ
set_text set = digit set.chicks ∷ digit set.elephants ∷ digit set.giraffes ∷ []
