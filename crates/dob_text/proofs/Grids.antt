-- The text of a board stands for one board.
use Rattle.dob_text.proofs.Common.{◌+◌, if◌then◌else◌, ◌%◌, ◌-◌, ◌<◌, ◌==◌, ◌↔◌, ◌∙◌, ◌∷◌, ◌≡◌, ◌≢◌, All, List, None, Some, [], ap, arith, get_or, length}
use Rattle.dob_text.proofs.Common.{nat_lt, refl, suc, sym, zero, ℕ, All-from_get_or, Cell, Chick, Elephant, Giraffe, Hen, Lion, Side, Enemy, Mover, cased}
use Rattle.dob_text.proofs.Common.{letter_of, letter_of_kind, HasLetters, IsBoardLetter, IsGrid, board_text, letter_place}
use Rattle.std.proofs.Common.{◌*◌, ◌/◌}
use Rattle.dob_pieces.specs.declared.kind.Kind.{Kind}
use Rattle.dob_text.proofs.Plain.{letter_plain, letter_known}

-- what a byte of a board's text is
abbrev IsPlaced : ℕ → ℕ → Type 0
IsPlaced byte i = (byte ≢ 32) × ((byte ≡ 47) ↔ (i % 4 ≡ 3)) × (i % 4 ≢ 3 → IsBoardLetter byte) × (byte < 128)

letter_placed : (cell : Cell) (i : ℕ) → i % 4 ≢ 3 → IsPlaced (letter_of cell) i
letter_placed cell i other =
    let plain = letter_plain cell in (plain.space, (λ e. absurd (plain.slash e), λ e. absurd (other e)), λ _. letter_known cell, plain.ascii)

slash_placed : (i : ℕ) → i % 4 ≡ 3 → IsPlaced 47 i
slash_placed i here = (omega arith, (λ _. here, λ _. refl), λ other. absurd (other here), omega arith)

-- the text of a board, byte by byte
pub placed : (board : List Cell) (i : ℕ) → i < 15 → IsPlaced (get_or (board_text board) i 0) i
placed board (suc (suc (suc zero))) lt = slash_placed 3 refl
placed board (suc (suc (suc (suc (suc (suc (suc zero))))))) lt = slash_placed 7 refl
placed board (suc (suc (suc (suc (suc (suc (suc (suc (suc (suc (suc zero))))))))))) lt = slash_placed 11 refl
placed board (suc (suc (suc (suc (suc (suc (suc (suc (suc (suc (suc (suc (suc (suc (suc i))))))))))))))) lt = absurd (omega arith)
placed board i lt = letter_placed (get_or board (9 + i % 4 - 3 * (i / 4)) None) i (omega arith)

-- a list of fifteen, element by element
fifteen : (xs : List ℕ) → length xs ≡ 15 → xs ≡ get_or xs 0 0 ∷ get_or xs 1 0 ∷ get_or xs 2 0 ∷ get_or xs 3 0 ∷ get_or xs 4 0 ∷ get_or xs 5 0
    ∷ get_or xs 6 0 ∷ get_or xs 7 0 ∷ get_or xs 8 0 ∷ get_or xs 9 0 ∷ get_or xs 10 0 ∷ get_or xs 11 0 ∷ get_or xs 12 0 ∷ get_or xs 13 0 ∷ get_or xs 14 0 ∷ []
fifteen (a ∷ b ∷ c ∷ d ∷ e ∷ f ∷ g ∷ h ∷ i ∷ j ∷ k ∷ l ∷ m ∷ n ∷ o ∷ []) size = refl
fifteen _ size = absurd (omega arith)

cons : {x y : ℕ} {xs ys : List ℕ} → x ≡ y → xs ≡ ys → x ∷ xs ≡ y ∷ ys
cons h t = cc

-- fifteen bytes are the text of a board whose squares stand for their letters
pub board_spelled : (grid : List ℕ) (board : List Cell) → IsGrid grid
    → ((k : ℕ) → k < 12 → get_or grid (letter_place k) 0 ≡ letter_of (get_or board k None)) → grid ≡ board_text board
board_spelled grid board shape each =
    let slash : (i : ℕ) → i < 15 → i % 4 ≡ 3 → get_or grid i 0 ≡ 47 = λ i lt here. (shape.slashes i lt).1 here in
    fifteen grid shape.size
    ∙ cons (each 9 (omega arith)) (cons (each 10 (omega arith)) (cons (each 11 (omega arith)) (cons (slash 3 (omega arith) refl)
    (cons (each 6 (omega arith)) (cons (each 7 (omega arith)) (cons (each 8 (omega arith)) (cons (slash 7 (omega arith) refl)
    (cons (each 3 (omega arith)) (cons (each 4 (omega arith)) (cons (each 5 (omega arith)) (cons (slash 11 (omega arith) refl)
    (cons (each 0 (omega arith)) (cons (each 1 (omega arith)) (cons (each 2 (omega arith)) refl))))))))))))))

-- what a letter stands for
abbrev upper : ℕ → ℕ
upper byte = if nat_lt byte 97 then byte else byte - 32

abbrev kind_in : ℕ → Kind
kind_in byte = if byte == 76 then Lion else (if byte == 71 then Giraffe else (if byte == 69 then Elephant else (if byte == 67 then Chick else Hen)))

abbrev side_in : ℕ → Side
side_in byte = if nat_lt byte 97 then Mover else Enemy

abbrev cell_in : ℕ → Cell
cell_in byte = if byte == 46 then None else Some (record { side = side_in byte; kind = kind_in (upper byte) })

piece_back : (side : Side) (kind : Kind) → cell_in (cased side (letter_of_kind kind)) ≡ Some (record { side = side; kind = kind })
piece_back Mover Hen = refl
piece_back Enemy Hen = refl
piece_back side kind = refl

letter_back : (cell : Cell) → cell_in (letter_of cell) ≡ cell
letter_back None = refl
letter_back (Some piece) = piece_back piece.side piece.kind

-- the board that a text stands for
abbrev board_in : List ℕ → List Cell
board_in text = cell_in (get_or text 12 0) ∷ cell_in (get_or text 13 0) ∷ cell_in (get_or text 14 0) ∷ cell_in (get_or text 8 0)
    ∷ cell_in (get_or text 9 0) ∷ cell_in (get_or text 10 0) ∷ cell_in (get_or text 4 0) ∷ cell_in (get_or text 5 0) ∷ cell_in (get_or text 6 0)
    ∷ cell_in (get_or text 0 0) ∷ cell_in (get_or text 1 0) ∷ cell_in (get_or text 2 0) ∷ []

cell_cons : {x y : Cell} {xs ys : List Cell} → x ≡ y → xs ≡ ys → x ∷ xs ≡ y ∷ ys
cell_cons h t = cc

board_back : (board : List Cell) → length board ≡ 12 → board_in (board_text board) ≡ board
board_back (a ∷ b ∷ c ∷ d ∷ e ∷ f ∷ g ∷ h ∷ i ∷ j ∷ k ∷ l ∷ []) size =
    cell_cons (letter_back a) (cell_cons (letter_back b)
    (cell_cons (letter_back c) (cell_cons (letter_back d)
    (cell_cons (letter_back e) (cell_cons (letter_back f)
    (cell_cons (letter_back g) (cell_cons (letter_back h)
    (cell_cons (letter_back i) (cell_cons (letter_back j) (cell_cons (letter_back k) (cell_cons (letter_back l) (refl))))))))))))
board_back _ size = absurd (omega arith)

-- two boards of one text are one board
pub same_board : (xs ys : List Cell) → length xs ≡ 12 → length ys ≡ 12 → board_text xs ≡ board_text ys → xs ≡ ys
same_board xs ys size_x size_y same = sym (board_back xs size_x) ∙ ap board_in same ∙ board_back ys size_y

-- the text of a board is a grid
pub board_grid : (board : List Cell) → IsGrid (board_text board)
board_grid board = record {
  size = refl;
  slashes = λ i lt. (placed board i lt).1;
  spaces = All-from_get_or (λ byte. byte ≢ 32) (board_text board) 0 (λ i lt. (placed board i lt).0);
}

pub board_ascii : (board : List Cell) → All (λ byte. byte < 128) (board_text board)
board_ascii board = All-from_get_or (λ byte. byte < 128) (board_text board) 0 (λ i lt. (placed board i lt).3)

pub board_letters : (board : List Cell) → HasLetters (board_text board)
board_letters board = λ i lt other. (placed board i lt).2 other
