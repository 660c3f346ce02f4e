-- The order in which the ways to take the last move back are gone through, and what is done with each.
use Rattle.std.specs.Prelude.{◌≡◌, ℕ, ◌&&◌, nat_lt, Bool, true, false, cond, not, List, [], ◌∷◌, ◌++◌, Option, Some, None}
use Rattle.std.specs.Option.{is_some}
use Rattle.dob_pieces.specs.declared.kind.Kind.{Kind}
use Rattle.dob_pieces.specs.declared.kind.Kind.TheVariants.{Lion, Giraffe, Elephant, Chick, Hen}
use Rattle.dob_pieces.specs.declared.kind.HandKind.{HandKind}
use Rattle.dob_pieces.specs.declared.kind.HandKind.TheVariants as hand
use Rattle.dob_pieces.specs.declared.kind.Side.{Side}
use Rattle.dob_pieces.specs.declared.kind.Side.TheVariants.{Mover, Enemy}
use Rattle.dob_pieces.specs.declared.hand.Hand.{Hand}
use Rattle.dob_pieces.specs.declared.setup.Setup.{Setup}
use Rattle.dob_pieces.specs.Lists.{each_below}
use Rattle.dob_pieces.specs.Masks.{is_kind}
use Rattle.dob_pieces.specs.Pieces.{leads, kind_in_hand, kind_on_board}
use Rattle.dob_pieces.specs.Setups.{Cell, at, held}
use Rattle.dob_unmove.specs.declared.undo.RetroMove.{RetroMove}
use Rattle.dob_unmove.specs.declared.undo.RetroMove.TheVariants.{Unstep, Unput}
use Rattle.dob_unmove.specs.Undoes.{arrives_at}

-- The step R takes each of the ways in turn, from the one state to the other.
abbrev pub TakesAll : {S : Type 0} → (S → RetroMove → S → Type 0) → S → List RetroMove → S → Type 0
TakesAll R old [] new = old ≡ new
TakesAll {S} R old (undo ∷ undoes) new = (next : S) × R old undo next × TakesAll R next undoes new

-- the way alone, if the test is met
abbrev pub if_so : Bool → RetroMove → List RetroMove
if_so test undo = cond test (undo ∷ []) []

abbrev pub is_movers : Side → Bool
is_movers Mover = true
is_movers Enemy = false

-- the mover's piece of that kind stands there
abbrev pub stands : Cell → Kind → Bool
stands None kind = false
stands (Some piece) kind = is_movers piece.side && is_kind piece.kind kind

abbrev pub holds_any : Hand → Option HandKind → Bool
holds_any h None = false
holds_any h (Some taken) = nat_lt 0 (held h taken)

-- the hand holds what a caught piece of that kind became
abbrev pub holds_caught : Hand → Kind → Bool
holds_caught h caught = holds_any h (kind_in_hand caught)

-- a step that caught a piece of that kind
abbrev pub uncatch : Setup → Kind → ℕ → ℕ → Kind → List RetroMove
uncatch after kind from to caught = if_so (holds_caught after.hands.mover caught) (Unstep kind from to (Some caught))

-- the steps of that kind from the one square to the other, without and with a catch
abbrev pub unsteps_between : Setup → Kind → ℕ → ℕ → List RetroMove
unsteps_between after kind from to =
    Unstep kind from to None ∷ (uncatch after kind from to Giraffe
    ++ (uncatch after kind from to Elephant
    ++ (uncatch after kind from to Chick
    ++ uncatch after kind from to Hen)))

-- those that a step of the kind from an empty square allows
unfoldable pub unsteps_from : Setup → Kind → ℕ → ℕ → List RetroMove
unsteps_from after kind to from = cond (not (is_some (at after from)) && leads kind from to) (unsteps_between after kind from to) []

-- the steps of pieces of that kind to the square
unfoldable pub unsteps : Setup → Kind → ℕ → List RetroMove
unsteps after kind to = cond (stands (at after to) (arrives_at kind to)) (each_below (unsteps_from after kind to) 12) []

-- the drop of that kind on the square
unfoldable pub unputs : Setup → HandKind → ℕ → List RetroMove
unputs after kind to = if_so (stands (at after to) (kind_on_board kind)) (Unput kind to)

-- all ways in which the last move may have ended on the square
unfoldable pub undoes_at : Setup → ℕ → List RetroMove
undoes_at after to =
    unsteps after Lion to
    ++ (unsteps after Giraffe to
    ++ (unsteps after Elephant to
    ++ (unsteps after Chick to
    ++ (unsteps after Hen to
    ++ (unputs after hand.Chick to
    ++ (unputs after hand.Elephant to
    ++ unputs after hand.Giraffe to))))))

-- all ways in which the last move may have been made
unfoldable pub undoes : Setup → List RetroMove
undoes after = each_below (undoes_at after) 12
