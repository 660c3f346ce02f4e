-- The order of the positions of one piece set, and what it means that there are so many of a kind. A plain program
-- that walks the positions in this order, src/tests/plain.rt, stands beside it.
use Rattle.std.specs.Prelude.{◌≡◌, ◌≢◌, ℕ, suc, ◌<◌, ◌⊎◌, Bool, cond, List, [], ◌∷◌, ◌++◌, Some, None, map, length, count_by}
use Rattle.std.specs.List.{All, AllPairs, Contains, filter}
use Rattle.dob_pieces.specs.declared.kind.Kind.{Kind}
use Rattle.dob_pieces.specs.declared.kind.Kind.TheVariants.{Lion, Giraffe, Elephant, Chick, Hen}
use Rattle.dob_pieces.specs.declared.kind.HandKind.{HandKind}
use Rattle.dob_pieces.specs.declared.kind.HandKind.TheVariants as hand
use Rattle.dob_pieces.specs.declared.kind.Side.{Side}
use Rattle.dob_pieces.specs.declared.kind.Side.TheVariants.{Mover, Enemy}
use Rattle.dob_pieces.specs.declared.piece_set.PieceSet.{PieceSet}
use Rattle.dob_pieces.specs.declared.setup.Setup.{Setup}
use Rattle.dob_pieces.specs.Setups.{Cell, held, holds_lion, holds_kind, total, IsLegal, mirrored}

-- how many pieces of a kind a piece set has
abbrev pub pieces_of : PieceSet → HandKind → ℕ
pieces_of set hand.Chick = set.chicks
pieces_of set hand.Elephant = set.elephants
pieces_of set hand.Giraffe = set.giraffes

-- a position with just the pieces of the set
pub record IsPositionOfSet (set : PieceSet) (setup : Setup) : Type 0 where
  pub legal : IsLegal setup
  pub pieces : (kind : HandKind) → total kind setup ≡ pieces_of set kind

-- the squares, in ascending order, whose cells pass the test; the first of the cells stands on that square
abbrev pub squares_from : {X : Type 0} → ℕ → (X → Bool) → List X → List ℕ
squares_from square test [] = []
squares_from square test (cell ∷ cells) =
    cond (test cell) (square ∷ squares_from (suc square) test cells) (squares_from (suc square) test cells)

-- the squares of the board whose cells pass the test, in ascending order
abbrev pub squares : (Cell → Bool) → Setup → List ℕ
squares test setup = squares_from 0 test setup.board

-- the form of a piece: own chick 0, own hen 1, enemy chick 2, enemy hen 3; of elephants and giraffes own 0,
-- enemy 1
abbrev pub form_of : Side → Kind → ℕ
form_of Mover Hen = 1
form_of Mover _ = 0
form_of Enemy Chick = 2
form_of Enemy Hen = 3
form_of Enemy Elephant = 1
form_of Enemy Giraffe = 1
form_of Enemy Lion = 0

-- the form of the piece on a cell
abbrev pub form : Cell → ℕ
form None = 0
form (Some piece) = form_of piece.side piece.kind

-- the forms of the pieces of a kind, in the order of their squares
abbrev pub forms : HandKind → Setup → List ℕ
forms kind setup = map form (filter (holds_kind kind) setup.board)

-- one number for each kind: chicks (hens counted with them), elephants, giraffes
abbrev pub each_kind : (HandKind → ℕ) → List ℕ
each_kind number = number hand.Chick ∷ number hand.Elephant ∷ number hand.Giraffe ∷ []

-- The key of a position: the numbers on the board, the numbers in the mover's hand, the squares of the lions,
-- the squares of each kind, and the forms on those squares.
unfoldable pub key : Setup → List ℕ
key setup =
    each_kind (λ kind. count_by (holds_kind kind) setup.board)
    ++ (each_kind (held setup.hands.mover)
    ++ (squares (holds_lion Mover) setup
    ++ (squares (holds_lion Enemy) setup
    ++ (squares (holds_kind hand.Chick) setup
    ++ (squares (holds_kind hand.Elephant) setup
    ++ (squares (holds_kind hand.Giraffe) setup
    ++ (forms hand.Chick setup
    ++ (forms hand.Elephant setup
    ++ forms hand.Giraffe setup))))))))

-- the lexicographic order of lists of numbers
abbrev pub Precedes : List ℕ → List ℕ → Type 0
Precedes xs [] = ⊥
Precedes [] (y ∷ ys) = Unit {0}
Precedes (x ∷ xs) (y ∷ ys) = (x < y) ⊎ ((x ≡ y) × Precedes xs ys)

-- the one position stands before the other
unfoldable pub Before : Setup → Setup → Type 0
Before p q = Precedes (key p) (key q)

-- Just so many setups have the property: a list of that length has each of them once, and no other.
pub record HasCount (P : Setup → Type 0) (number : ℕ) : Type 0 where
  pub list : List Setup
  pub sound : All P list
  pub whole : (setup : Setup) → P setup → Contains list setup
  pub once : AllPairs (λ (p q : Setup). p ≢ q) list
  pub counted : length list ≡ number

-- the setup is no later than its mirror image
abbrev pub IsFirstOfTwo : Setup → Type 0
IsFirstOfTwo setup = Before (mirrored setup) setup → ⊥

-- one of a setup and its mirror image
abbrev pub IsEither : Setup → Setup → Type 0
IsEither setup other = (other ≡ setup) ⊎ (other ≡ mirrored setup)

-- a representative of its class: a position of the set that is no later than its mirror image
abbrev pub IsRepresentativeOfSet : PieceSet → Setup → Type 0
IsRepresentativeOfSet set setup = IsPositionOfSet set setup × IsFirstOfTwo setup

-- the setup is the earlier of another one and its mirror image
abbrev pub RepresentativeOf : Setup → Setup → Type 0
RepresentativeOf setup representative = IsEither setup representative × IsFirstOfTwo representative
