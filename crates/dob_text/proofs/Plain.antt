-- The letters of boards and hands are ASCII, and neither slash nor space.
use Rattle.dob_text.proofs.Common.{◌<◌, ◌∷◌, ◌≢◌, All, List, None, Some, [], arith, length, refl, ℕ, All-append, All-replicate, Cell, Hand, Chick, Elephant}
use Rattle.dob_text.proofs.Common.{Giraffe, Hen, Side, Enemy, Mover, cased, letter_of, letter_of_kind, IsBoardLetter, hand_letters, hand_text, or_dash}
use Rattle.dob_pieces.specs.declared.kind.Kind.{Kind}

-- a byte below 128 that is neither slash nor space
pub record IsPlain (byte : ℕ) : Type 0 where
  pub ascii : byte < 128
  pub space : byte ≢ 32
  pub slash : byte ≢ 47

piece_plain : (side : Side) (kind : Kind) → IsPlain (cased side (letter_of_kind kind))
piece_plain Mover Hen = record { ascii = omega arith; space = omega arith; slash = omega arith }
piece_plain Enemy Hen = record { ascii = omega arith; space = omega arith; slash = omega arith }
piece_plain side kind = record { ascii = omega arith; space = omega arith; slash = omega arith }

pub letter_plain : (cell : Cell) → IsPlain (letter_of cell)
letter_plain None = record { ascii = omega arith; space = omega arith; slash = omega arith }
letter_plain (Some piece) = piece_plain piece.side piece.kind

letters_plain : (side : Side) (hand : Hand) → All IsPlain (hand_letters side hand)
letters_plain side hand =
    All-append IsPlain _ _
    (All-append IsPlain _ _
    (All-replicate IsPlain hand.chicks _ (piece_plain side Chick))
    (All-replicate IsPlain hand.elephants _ (piece_plain side Elephant)))
    (All-replicate IsPlain hand.giraffes _ (piece_plain side Giraffe))

dash_plain : (letters : List ℕ) → All IsPlain letters → All IsPlain (or_dash letters)
dash_plain [] each = All-replicate IsPlain 1 45 (record { ascii = omega arith; space = omega arith; slash = omega arith })
dash_plain (letter ∷ letters) each = each

pub hand_plain : (side : Side) (hand : Hand) → All IsPlain (hand_text side hand)
hand_plain side hand = dash_plain (hand_letters side hand) (letters_plain side hand)

dash_filled : (letters : List ℕ) → 0 < length (or_dash letters)
dash_filled letters = grind arith

pub hand_filled : (side : Side) (hand : Hand) → 0 < length (hand_text side hand)
hand_filled side hand = dash_filled (hand_letters side hand)

-- the letter of a square is one of those of boards
piece_letter_known : (side : Side) (kind : Kind) → IsBoardLetter (cased side (letter_of_kind kind))
piece_letter_known Mover Hen = refl
piece_letter_known Enemy Hen = refl
piece_letter_known side kind = refl

pub letter_known : (cell : Cell) → IsBoardLetter (letter_of cell)
letter_known cell = grind (arith, piece_letter_known)
