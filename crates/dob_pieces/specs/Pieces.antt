-- The kinds of piece and their steps.
use Rattle.std.specs.Prelude.{ℕ, ◌+◌, ◌-◌, ◌*◌, ◌==◌, ◌&&◌, nat_lt, Bool, true, false, cond, List, [], ◌∷◌, Option, Some, None}
use Rattle.std.specs.List.{list_any}
use Rattle.dob_pieces.specs.declared.kind.Kind.{Kind}
use Rattle.dob_pieces.specs.declared.kind.Kind.TheVariants.{Lion, Giraffe, Elephant, Chick, Hen}
use Rattle.dob_pieces.specs.declared.kind.HandKind.{HandKind}
use Rattle.dob_pieces.specs.declared.kind.HandKind.TheVariants as hand
use Rattle.dob_pieces.specs.declared.kind.Side.{Side}
use Rattle.dob_pieces.specs.declared.kind.Side.TheVariants.{Mover, Enemy}
use Rattle.dob_pieces.specs.Squares.{column, row}

-- The steps of each kind, seen from the side to move: columns and rows, each with one added, so that (1, 2) is a step
-- straight ahead; in the order of the squares to which they lead.
abbrev pub steps_of : Kind → List (ℕ × ℕ)
steps_of Lion = (0, 0) ∷ (1, 0) ∷ (2, 0) ∷ (0, 1) ∷ (2, 1) ∷ (0, 2) ∷ (1, 2) ∷ (2, 2) ∷ []
steps_of Giraffe = (1, 0) ∷ (0, 1) ∷ (2, 1) ∷ (1, 2) ∷ []
steps_of Elephant = (0, 0) ∷ (2, 0) ∷ (0, 2) ∷ (2, 2) ∷ []
steps_of Chick = (1, 2) ∷ []
steps_of Hen = (1, 0) ∷ (0, 1) ∷ (2, 1) ∷ (0, 2) ∷ (1, 2) ∷ (2, 2) ∷ []

-- the square of that column and row, each with one added, if the board has it
abbrev pub square_of : ℕ → ℕ → Option ℕ
square_of column row = cond (nat_lt 0 column && nat_lt column 4 && (nat_lt 0 row && nat_lt row 5)) (Some (3 * (row - 1) + (column - 1))) None

-- the square to which a step leads, if the board has it
abbrev pub square_after : ℕ → ℕ × ℕ → Option ℕ
square_after from step = square_of (column from + step.0) (row from + step.1)

-- one of the kind's steps leads from the one square of the board to the other
unfoldable pub leads : Kind → ℕ → ℕ → Bool
leads kind from to = nat_lt to 12
    && list_any (λ (d : ℕ × ℕ). (column from + d.0 == column to + 1) && (row from + d.1 == row to + 1)) (steps_of kind)

-- the other side
abbrev pub other_side : Side → Side
other_side Mover = Enemy
other_side Enemy = Mover

-- the kind that a caught piece has in hand: a hen becomes a chick again, and a lion has none
abbrev pub kind_in_hand : Kind → Option HandKind
kind_in_hand Lion = None
kind_in_hand Giraffe = Some hand.Giraffe
kind_in_hand Elephant = Some hand.Elephant
kind_in_hand Chick = Some hand.Chick
kind_in_hand Hen = Some hand.Chick

-- the kind that a piece from the hand has on the board
abbrev pub kind_on_board : HandKind → Kind
kind_on_board hand.Chick = Chick
kind_on_board hand.Elephant = Elephant
kind_on_board hand.Giraffe = Giraffe

abbrev pub is_side : Side → Side → Bool
is_side Mover Mover = true
is_side Enemy Enemy = true
is_side _ _ = false

abbrev pub is_lion : Kind → Bool
is_lion Lion = true
is_lion _ = false

-- the kind counts as that kind of the piece set, a hen as a chick
abbrev pub counts_as : HandKind → Kind → Bool
counts_as hand.Chick Chick = true
counts_as hand.Chick Hen = true
counts_as hand.Elephant Elephant = true
counts_as hand.Giraffe Giraffe = true
counts_as _ _ = false
