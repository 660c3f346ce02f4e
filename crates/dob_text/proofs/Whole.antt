-- What a text spells: it has the form, and is the text of one setup.
use Rattle.dob_text.proofs.Common.{◌++◌, ◌<◌, ◌∙◌, ◌∷◌, ◌≡◌, ◌≢◌, All, List, append_assoc, arith, get_or, length, refl, subst, sym, ℕ, get_or_append_left}
use Rattle.dob_text.proofs.Common.{All-append, All-cons, All-weaker, Cell, Hand, Side, Enemy, Mover, Setup, AreParts, HasHands, HasLetters, HasShape, IsWord}
use Rattle.dob_text.proofs.Common.{Spells, board_text, hand_text, text_of}
use Rattle.std.specs.Str.{IsAscii}
use Rattle.std.proofs.lemmas.Str.Ascii.{IsAscii-from_all}
use Rattle.dob_text.proofs.Plain.{IsPlain, hand_plain, hand_filled}
use Rattle.dob_text.proofs.Grids.{same_board, board_grid, board_ascii, board_letters}
use Rattle.dob_text.proofs.Fronts.{same_hand_text}
use Rattle.dob_text.proofs.Splits.{same_parts}

hand_word : (side : Side) (hand : Hand) → IsWord (hand_text side hand)
hand_word side hand = record {
  filled = hand_filled side hand;
  whole = All-weaker IsPlain (λ byte. byte ≢ 32) (λ byte plain. plain.space) _ (hand_plain side hand);
}

hand_ascii : (side : Side) (hand : Hand) → All (λ byte. byte < 128) (hand_text side hand)
hand_ascii side hand = All-weaker IsPlain (λ byte. byte < 128) (λ byte plain. plain.ascii) _ (hand_plain side hand)

-- the parts of the text of a setup
pub text_parts : (text : List ℕ) (setup : Setup) → text ≡ text_of setup
    → AreParts text (board_text setup.board) (hand_text Mover setup.hands.mover) (hand_text Enemy setup.hands.enemy)
text_parts text setup is = record {
  joined = is;
  board = board_grid setup.board;
  first = hand_word Mover setup.hands.mover;
  second = hand_word Enemy setup.hands.enemy;
}

-- the bytes before the first space are those of the grid
pub grid_reads : (text grid mover enemy : List ℕ) → AreParts text grid mover enemy → (i : ℕ) → i < 15 → get_or text i 0 ≡ get_or grid i 0
grid_reads text grid mover enemy parts i lt =
    rw (parts.joined, append_assoc grid (32 ∷ mover) (32 ∷ enemy)) (get_or_append_left grid _ 0 i (omega (arith, parts.board.size)))

-- the letters of the text are those of its grid
pub letters_up : (text grid mover enemy : List ℕ) → AreParts text grid mover enemy → HasLetters grid → HasLetters text
letters_up text grid mover enemy parts letters = λ i lt other. rw (grid_reads text grid mover enemy parts i lt) (letters i lt other)

pub spelled_shape : (text : List ℕ) (setup : Setup) → Spells text setup → HasShape text
spelled_shape text setup spells =
    let space : 32 < 128 = omega arith in
    let mover : List ℕ = hand_text Mover setup.hands.mover in
    let enemy : List ℕ = hand_text Enemy setup.hands.enemy in
    let all : All (λ byte. byte < 128) (text_of setup) =
    All-append (λ byte. byte < 128) (board_text setup.board ++ 32 ∷ mover) (32 ∷ enemy)
    (All-append (λ byte. byte < 128) (board_text setup.board) (32 ∷ mover) (board_ascii setup.board)
    (All-cons (λ byte. byte < 128) 32 mover space (hand_ascii Mover setup.hands.mover)))
    (All-cons (λ byte. byte < 128) 32 enemy space (hand_ascii Enemy setup.hands.enemy)) in (
      subst (λ (x : List ℕ). IsAscii x) (sym spells.spelled) (IsAscii-from_all (text_of setup) all),
      board_text setup.board,
      mover,
      enemy,
      text_parts text setup spells.spelled,
    )

pub spelled_letters : (text : List ℕ) (setup : Setup) → Spells text setup → HasLetters text
spelled_letters text setup spells = letters_up text _ _ _ (text_parts text setup spells.spelled) (board_letters setup.board)

pub spelled_hands : (text : List ℕ) (setup : Setup) → Spells text setup → HasHands text
spelled_hands text setup spells = (board_text setup.board, setup.hands.mover, setup.hands.enemy, refl, spells.spelled)

pub same_setup : (s t : Setup) → s.board ≡ t.board → s.hands.mover ≡ t.hands.mover → s.hands.enemy ≡ t.hands.enemy → s ≡ t
same_setup s t board mover enemy = λ i. record { board = board i; hands = record { mover = mover i; enemy = enemy i } }

-- a text spells one setup
pub same_spelled : (text : List ℕ) (s t : Setup) → Spells text s → Spells text t → s ≡ t
same_spelled text s t spells_s spells_t =
    let parts = same_parts (board_text s.board) (board_text t.board) _ _ _ _ refl (hand_word Mover s.hands.mover).whole (hand_word Mover t.hands.mover).whole
    (sym spells_s.spelled ∙ spells_t.spelled) in
    same_setup s t
    (same_board s.board t.board spells_s.squares spells_t.squares parts.0)
    (same_hand_text Mover s.hands.mover t.hands.mover parts.1)
    (same_hand_text Enemy s.hands.enemy t.hands.enemy parts.2)

-- a text whose parts are those of a board and hands spells them
pub spelled_by : (text grid mover enemy : List ℕ) (board : List Cell) (first second : Hand) → AreParts text grid mover enemy → length board ≡ 12
    → grid ≡ board_text board → mover ≡ hand_text Mover first → enemy ≡ hand_text Enemy second
    → Spells text (record { board = board; hands = record { mover = first; enemy = second } })
spelled_by text grid mover enemy board first second parts size is_grid is_mover is_enemy =
    record { squares = size; spelled = rw (is_grid, is_mover, is_enemy) at parts.joined }

-- the words of a text with hands are the hands
hands_are : (text grid mover enemy : List ℕ) → AreParts text grid mover enemy → (hands : HasHands text)
    → (mover ≡ hand_text Mover hands.1) × (enemy ≡ hand_text Enemy hands.2)
hands_are text grid mover enemy parts hands =
    let same : (grid ≡ hands.0) × (mover ≡ hand_text Mover hands.1) × (enemy ≡ hand_text Enemy hands.2) =
    same_parts grid hands.0 mover _ enemy _ (parts.board.size ∙ sym hands.3) parts.first.whole (hand_word Mover hands.1).whole (sym parts.joined ∙ hands.4) in
    (same.1, same.2)

-- a first word that is no hand's
pub no_mover : (text grid mover enemy : List ℕ) → AreParts text grid mover enemy → ((hand : Hand) → mover ≢ hand_text Mover hand) → ¬ HasHands text
no_mover text grid mover enemy parts none hands = none hands.1 (hands_are text grid mover enemy parts hands).0

-- a second word that is no hand's
pub no_enemy : (text grid mover enemy : List ℕ) → AreParts text grid mover enemy → ((hand : Hand) → enemy ≢ hand_text Enemy hand) → ¬ HasHands text
no_enemy text grid mover enemy parts none hands = none hands.2 (hands_are text grid mover enemy parts hands).1

pub shape_by : (text grid mover enemy : List ℕ) → IsAscii text → AreParts text grid mover enemy → HasShape text
shape_by text grid mover enemy ascii parts = (ascii, grid, mover, enemy, parts)

pub letters_by : (text grid mover enemy : List ℕ) (board : List Cell) → AreParts text grid mover enemy → grid ≡ board_text board → HasLetters text
letters_by text grid mover enemy board parts is = letters_up text grid mover enemy parts (rw is (board_letters board))
