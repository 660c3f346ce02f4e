-- What a move was, and what stood and lay where before it, by the way in which it is taken back.
use Rattle.std.specs.Prelude.{◌≡◌, ℕ, ◌<◌, Bool, true, cond, Option, Some, None, slice_set}
use Rattle.std.specs.Option.{is_some}
use Rattle.dob_pieces.specs.declared.kind.Kind.{Kind}
use Rattle.dob_pieces.specs.declared.kind.Kind.TheVariants.{Hen}
use Rattle.dob_pieces.specs.declared.kind.HandKind.{HandKind}
use Rattle.dob_pieces.specs.declared.kind.Side.TheVariants.{Mover, Enemy}
use Rattle.dob_pieces.specs.declared.hand.Hand.{Hand}
use Rattle.dob_pieces.specs.declared.profile.Profile.{Profile}
use Rattle.dob_pieces.specs.declared.setup.Setup.{Setup}
use Rattle.dob_pieces.specs.Pieces.{leads, kind_in_hand, kind_on_board}
use Rattle.dob_pieces.specs.Profiles.{may_stand}
use Rattle.dob_pieces.specs.Setups.{Cell, at, held, piece_of, with_one_more, with_one_less}
use Rattle.dob_moves.specs.declared.game_move.Move.{Move}
use Rattle.dob_moves.specs.declared.game_move.Move.TheVariants.{Step, Put}
use Rattle.dob_moves.specs.Moves.{grows_at}
use Rattle.dob_unmove.specs.declared.undo.RetroMove.{RetroMove}
use Rattle.dob_unmove.specs.declared.undo.RetroMove.TheVariants.{Unstep, Unput}

-- the move that is taken back
abbrev pub choice : RetroMove → Move
choice (Unstep kind from to caught) = Step kind from to (is_some caught) (grows_at kind to)
choice (Unput kind to) = Put kind to

-- the kind as which a piece of that kind arrives there
abbrev pub arrives_at : Kind → ℕ → Kind
arrives_at kind to = cond (grows_at kind to) Hen kind

-- an enemy piece of that kind, if there is one
abbrev pub enemy_cell : Option Kind → Cell
enemy_cell None = None
enemy_cell (Some kind) = Some (piece_of Enemy kind)

abbrev pub without_any : Hand → Option HandKind → Hand
without_any h None = h
without_any h (Some taken) = with_one_less h taken

-- a hand without the piece that was caught, if there is one
abbrev pub without_caught : Hand → Option Kind → Hand
without_caught h None = h
without_caught h (Some kind) = without_any h (kind_in_hand kind)

-- The setup before the move. In what stands after it the side that made it is still the mover.
unfoldable pub earlier : Setup → RetroMove → Setup
earlier after (Unstep kind from to caught) = record {
  board = slice_set (slice_set after.board to (enemy_cell caught)) from (Some (piece_of Mover kind));
  hands = record after.hands { mover = without_caught after.hands.mover caught };
}
earlier after (Unput kind to) = record {
  board = slice_set after.board to None;
  hands = record after.hands { mover = with_one_more after.hands.mover kind };
}

-- the profile lets the piece that was caught stand where it was
abbrev pub may_give_back : Profile → RetroMove → Bool
may_give_back profile (Unstep kind from to caught) = may_stand profile to (enemy_cell caught)
may_give_back profile (Unput kind to) = true

-- the hand has the piece that was caught, if there is one
abbrev pub CanGiveBack : Hand → Option Kind → Type 0
CanGiveBack h None = Unit {0}
CanGiveBack h (Some kind) = (taken : HandKind) × (kind_in_hand kind ≡ Some taken) × (0 < held h taken)

-- a step of that kind may have been the last move: it leads from an empty square to where it stands now
pub record CanUnstep (after : Setup) (kind : Kind) (from to : ℕ) (caught : Option Kind) : Type 0 where
  pub stands : at after to ≡ Some (piece_of Mover (arrives_at kind to))
  pub on_board : from < 12
  pub empty : at after from ≡ None
  pub leads : leads kind from to ≡ true
  pub in_hand : CanGiveBack after.hands.mover caught

-- the last move may have been made in this way
abbrev pub CanUndo : Setup → RetroMove → Type 0
CanUndo after (Unstep kind from to caught) = CanUnstep after kind from to caught
CanUndo after (Unput kind to) = at after to ≡ Some (piece_of Mover (kind_on_board kind))
