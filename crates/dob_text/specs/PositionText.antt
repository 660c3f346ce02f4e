-- The text of a position, and what of the form of a text is tested.
use Rattle.std.specs.Prelude.{◌≡◌, ◌≢◌, ℕ, ◌+◌, ◌%◌, ◌<◌, ◌↔◌, Bool, List, [], ◌∷◌, ◌++◌, length, replicate, slice_index, slice_index_or}
use Rattle.std.specs.Prelude.{None, All, IsTrue, IsAscii, codes, ◌==◌}
use Rattle.std.specs.List.{list_any}
use Rattle.dob_pieces.specs.declared.kind.Side.{Side}
use Rattle.dob_pieces.specs.declared.kind.Side.TheVariants.{Mover, Enemy}
use Rattle.dob_pieces.specs.declared.hand.Hand.{Hand}
use Rattle.dob_pieces.specs.declared.setup.Setup.{Setup}
use Rattle.dob_pieces.specs.declared.kind.Kind.TheVariants.{Chick, Elephant, Giraffe}
use Rattle.dob_pieces.specs.Bytes.{hyphen, slash, space}
use Rattle.dob_pieces.specs.Setups.{Cell}
use Rattle.dob_text.specs.Letters.{letter_of, letter_of_kind, cased}

-- the letters of three squares of a row, from that square on
abbrev pub row_text : List Cell → ℕ → List ℕ
row_text board square =
    letter_of (slice_index_or board square None)
    ∷ letter_of (slice_index_or board (square + 1) None)
    ∷ letter_of (slice_index_or board (square + 2) None)
    ∷ []

-- the rows from row 4 down to row 1, joined by slashes
abbrev pub board_text : List Cell → List ℕ
board_text board =
    row_text board 9 ++ slash ∷ row_text board 6 ++ slash ∷ row_text board 3 ++ slash ∷ row_text board 0

-- the letters of a hand: chicks, elephants, giraffes
abbrev pub hand_letters : Side → Hand → List ℕ
hand_letters side hand =
    replicate hand.chicks (cased side (letter_of_kind Chick))
    ++ replicate hand.elephants (cased side (letter_of_kind Elephant))
    ++ replicate hand.giraffes (cased side (letter_of_kind Giraffe))

-- a dash in place of no letters
abbrev pub or_dash : List ℕ → List ℕ
or_dash [] = hyphen ∷ []
or_dash (letter ∷ letters) = letter ∷ letters

-- a hand: its letters, or a dash
abbrev pub hand_text : Side → Hand → List ℕ
hand_text side hand = or_dash (hand_letters side hand)

-- the board, a space, the mover's hand, a space, the enemy's hand
abbrev pub text_of : Setup → List ℕ
text_of setup =
    board_text setup.board
    ++ space ∷ hand_text Mover setup.hands.mover
    ++ space ∷ hand_text Enemy setup.hands.enemy

-- whether a byte is a space
abbrev pub is_space : ℕ → Bool
is_space byte = byte == space

-- a word: one byte or more, none of them a space
pub record IsWord (word : List ℕ) : Type 0 where
  pub filled : 0 < length word
  pub whole : All (λ byte. byte ≢ space) word

-- fifteen bytes with slashes at 3, 7 and 11, no other slash, and no space
pub record IsGrid (grid : List ℕ) : Type 0 where
  pub size : length grid ≡ 15
  pub slashes : (i : ℕ) → i < 15 → (slice_index grid i ≡ slash) ↔ (i % 4 ≡ 3)
  pub spaces : All (λ byte. byte ≢ space) grid

-- two words with a space between them
pub record AreTwoWords (text mover enemy : List ℕ) : Type 0 where
  pub joined : text ≡ mover ++ space ∷ enemy
  pub first : IsWord mover
  pub second : IsWord enemy

-- a grid, a space and two words
pub record AreParts (text grid mover enemy : List ℕ) : Type 0 where
  pub joined : text ≡ grid ++ space ∷ mover ++ space ∷ enemy
  pub board : IsGrid grid
  pub first : IsWord mover
  pub second : IsWord enemy

-- a text of ASCII bytes with these parts
abbrev pub HasShape : List ℕ → Type 0
HasShape text = IsAscii text × (grid : List ℕ) × (mover : List ℕ) × (enemy : List ℕ) × AreParts text grid mover enemy

-- the letter of a square or a full stop
abbrev pub IsBoardLetter : ℕ → Type 0
IsBoardLetter byte = IsTrue (list_any (λ letter. letter == byte) (codes ".LGECHlgech"))

-- each of the first fifteen bytes other than the slashes is the letter of a square
abbrev pub HasLetters : List ℕ → Type 0
HasLetters text = (i : ℕ) → i < 15 → i % 4 ≢ 3 → IsBoardLetter (slice_index text i)

-- after the first fifteen bytes come a space, a hand of the mover's, a space and a hand of the enemy's
abbrev pub HasHands : List ℕ → Type 0
HasHands text = (grid : List ℕ) × (mover : Hand) × (enemy : Hand)
    × (length grid ≡ 15) × (text ≡ grid ++ space ∷ hand_text Mover mover ++ space ∷ hand_text Enemy enemy)

-- the text of this board and these hands
pub record Spells (text : List ℕ) (setup : Setup) : Type 0 where
  pub squares : length setup.board ≡ 12
  pub spelled : text ≡ text_of setup
