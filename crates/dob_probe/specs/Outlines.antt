-- Positions that are alike: of one block, with the lions on the same squares.
use Rattle.std.specs.Prelude.{◌≡◌, ◌==◌, ◌&&◌, Bool, List, Some, count_by}
use Rattle.std.specs.List.{AllZip}
use Rattle.dob_pieces.specs.declared.kind.HandKind.TheVariants as hand
use Rattle.dob_pieces.specs.declared.kind.Kind.TheVariants.{Lion}
use Rattle.dob_pieces.specs.declared.kind.Side.TheVariants.{Mover, Enemy}
use Rattle.dob_pieces.specs.declared.setup.Setup.{Setup}
use Rattle.dob_pieces.specs.Setups.{HasLions, at, holds_kind, piece_of}
use Rattle.dob_rank.specs.Families.{class_setup}
use Rattle.dob_value.specs.Follows.{ClassTable}
use Rattle.dob_probe.specs.declared.outlines.Outline.{Outline}
use Rattle.dob_probe.specs.declared.puzzles.Puzzle.{Puzzle}

-- as many pieces of each kind stand on the board, and the lions stand on those squares
pub record IsOutline (p : Setup) (outline : Outline) : Type 0 where
  pub chicks : outline.chicks ≡ count_by (holds_kind hand.Chick) p.board
  pub elephants : outline.elephants ≡ count_by (holds_kind hand.Elephant) p.board
  pub giraffes : outline.giraffes ≡ count_by (holds_kind hand.Giraffe) p.board
  pub lion : at p outline.lion ≡ Some (piece_of Mover Lion)
  pub enemy_lion : at p outline.enemy_lion ≡ Some (piece_of Enemy Lion)

-- both have one outline: as many of each kind stand on the board, so they are of one block, and the lions on the same squares
abbrev pub AreAlike : Setup → Setup → Type 0
AreAlike p q = (outline : Outline) × IsOutline p outline × IsOutline q outline

-- the representatives of the puzzles' classes are alike
abbrev pub AreLike : ClassTable → Puzzle → Puzzle → Type 0
AreLike table a b = AreAlike (class_setup table.family a.class) (class_setup table.family b.class)

abbrev pub same_outline : Outline → Outline → Bool
same_outline a b =
    (a.chicks == b.chicks) && ((a.elephants == b.elephants) && ((a.giraffes == b.giraffes) && ((a.lion == b.lion) && (a.enemy_lion == b.enemy_lion))))

-- the outline of a puzzle's representative
pub record IsOutlineOf (table : ClassTable) (puzzle : Puzzle) (outline : Outline) : Type 0 where
  pub lions : HasLions (class_setup table.family puzzle.class)
  pub same : IsOutline (class_setup table.family puzzle.class) outline

abbrev pub AreOutlines : ClassTable → List Puzzle → List Outline → Type 0
AreOutlines table = AllZip (IsOutlineOf table)
