-- The letters of pieces and squares.
use Rattle.std.specs.Prelude.{ℕ, Some, None}
use Rattle.std.specs.Char.{to_ascii_lowercase}
use Rattle.dob_pieces.specs.declared.kind.Kind.{Kind}
use Rattle.dob_pieces.specs.declared.kind.Kind.TheVariants.{Lion, Giraffe, Elephant, Chick, Hen}
use Rattle.dob_pieces.specs.declared.kind.Side.{Side}
use Rattle.dob_pieces.specs.declared.kind.Side.TheVariants.{Mover, Enemy}
use Rattle.dob_pieces.specs.Setups.{Cell}
use Rattle.dob_pieces.specs.Bytes.{full_stop, upper_c, upper_e, upper_g, upper_h, upper_l}

-- the kind's letter
abbrev pub letter_of_kind : Kind → ℕ
letter_of_kind Lion = upper_l
letter_of_kind Giraffe = upper_g
letter_of_kind Elephant = upper_e
letter_of_kind Chick = upper_c
letter_of_kind Hen = upper_h

-- a letter for a piece of that side: upper case for the mover's pieces, lower case for the enemy's
abbrev pub cased : Side → ℕ → ℕ
cased Mover letter = letter
cased Enemy letter = to_ascii_lowercase letter

-- the letter of what stands on a square, a full stop where nothing does
abbrev pub letter_of : Cell → ℕ
letter_of None = full_stop
letter_of (Some piece) = cased piece.side (letter_of_kind piece.kind)
