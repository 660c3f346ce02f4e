-- The moves of the game, what each changes, and their order.
use Rattle.std.specs.Prelude.{◌≡◌, ℕ, ◌+◌, ◌*◌, ◌<◌, ◌==◌, Bool, true, false, Some, None, slice_set}
use Rattle.dob_pieces.specs.declared.kind.Kind.{Kind}
use Rattle.dob_pieces.specs.declared.kind.Kind.TheVariants.{Lion, Chick, Hen}
use Rattle.dob_pieces.specs.declared.kind.HandKind.{HandKind}
use Rattle.dob_pieces.specs.declared.kind.HandKind.TheVariants as hand
use Rattle.dob_pieces.specs.declared.kind.Side.TheVariants.{Mover, Enemy}
use Rattle.dob_pieces.specs.declared.hand.Hands.{Hands}
use Rattle.dob_pieces.specs.declared.profile.Profile.{Profile}
use Rattle.dob_pieces.specs.declared.profile.Profile.TheVariants.{A, B}
use Rattle.dob_pieces.specs.declared.setup.Setup.{Setup}
use Rattle.dob_pieces.specs.Squares.{row}
use Rattle.dob_pieces.specs.Pieces.{leads, kind_in_hand, kind_on_board}
use Rattle.dob_pieces.specs.Profiles.{may_stand}
use Rattle.dob_pieces.specs.Setups.{at, held, with_one_more, with_one_less, piece_of, turned}
use Rattle.dob_moves.specs.declared.game_move.Move.{Move}
use Rattle.dob_moves.specs.declared.game_move.Move.TheVariants.{Step, Put}

-- a step of that kind that ends there makes a hen: a chick's onto its far row
abbrev pub grows_at : Kind → ℕ → Bool
grows_at Chick to = row to == 3
grows_at _ to = false

-- The mover's piece of that kind stands on from, one of its steps leads to to, and it arrives there as a piece of
-- another kind or the same; the hands become these, nothing else changes, and then the board is turned.
pub record Steps (p : Setup) (kind : Kind) (from to : ℕ) (arrives : Kind) (hands : Hands) (q : Setup) : Type 0 where
  pub own : at p from ≡ Some (piece_of Mover kind)
  pub leads : leads kind from to ≡ true
  pub outcome : q ≡ turned (record {
    board = slice_set (slice_set p.board from None) to (Some (piece_of Mover arrives));
    hands = hands;
  })

-- an enemy piece other than a lion stands there, which goes to hand as that kind
abbrev pub CanTake : Setup → ℕ → HandKind → Type 0
CanTake p to taken = (caught : Kind) × (at p to ≡ Some (piece_of Enemy caught)) × (kind_in_hand caught ≡ Some taken)

-- the hands after the mover has caught a piece
abbrev pub hands_after_catch : Hands → HandKind → Hands
hands_after_catch hands taken = record hands { mover = with_one_more hands.mover taken }

-- The mover has that kind in hand and puts it on an empty square; then the board is turned.
pub record Drops (p : Setup) (kind : HandKind) (to : ℕ) (q : Setup) : Type 0 where
  pub in_hand : 0 < held p.hands.mover kind
  pub on_board : to < 12
  pub free : at p to ≡ None
  pub outcome : q ≡ turned (record {
    board = slice_set p.board to (Some (piece_of Mover (kind_on_board kind)));
    hands = record p.hands { mover = with_one_less p.hands.mover kind };
  })

-- What comes of a move at p, whatever a profile forbids: q, which is seen from the other side.
abbrev pub HasOutcome : Setup → Move → Setup → Type 0
-- a step to an empty square
HasOutcome p (Step kind from to false false) q =
    (grows_at kind to ≡ false) × (at p to ≡ None) × Steps p kind from to kind p.hands q
-- a catch
HasOutcome p (Step kind from to true false) q =
    (grows_at kind to ≡ false) × (taken : HandKind) × CanTake p to taken × Steps p kind from to kind (hands_after_catch p.hands taken) q
-- a chick's step onto its far row, which makes a hen, to an empty square or with a catch
HasOutcome p (Step kind from to false true) q =
    (grows_at kind to ≡ true) × (at p to ≡ None) × Steps p kind from to Hen p.hands q
HasOutcome p (Step kind from to true true) q =
    (grows_at kind to ≡ true) × (taken : HandKind) × CanTake p to taken × Steps p kind from to Hen (hands_after_catch p.hands taken) q
-- a drop
HasOutcome p (Put kind to) q = Drops p kind to q

-- a profile lets a piece from the hand stand on the square
abbrev pub may_put : Profile → HandKind → ℕ → Bool
may_put profile kind to = may_stand profile to (Some (piece_of Mover (kind_on_board kind)))

-- and so a drop be made; it forbids no step, since a chick grows on its far row
abbrev pub may_go : Profile → Move → Bool
may_go profile (Step kind from to catch grows) = true
may_go profile (Put kind to) = may_put profile kind to

-- From p the move goes to q by the rules of the profile. In profile A each outcome is one.
abbrev pub Goes : Profile → Setup → Move → Setup → Type 0
Goes A p move q = HasOutcome p move q
Goes B p move q = HasOutcome p move q × (may_go B move ≡ true)

-- some outcome follows from the move
abbrev pub CanGo : Profile → Setup → Move → Type 0
CanGo profile p move = (q : Setup) × Goes profile p move q

-- a step of the mover that ends on the enemy lion
abbrev pub CatchesLion : Setup → Move → Type 0
CatchesLion p (Step kind from to true grows) =
    (at p from ≡ Some (piece_of Mover kind)) × (leads kind from to ≡ true)
    × (at p to ≡ Some (piece_of Enemy Lion)) × (grows ≡ grows_at kind to)
CatchesLion p _ = ⊥

-- the order of the kinds in hand
abbrev pub hand_place : HandKind → ℕ
hand_place hand.Chick = 0
hand_place hand.Elephant = 1
hand_place hand.Giraffe = 2

-- the first place of a drop in the move order, behind those of all steps
abbrev pub first_drop : ℕ
first_drop = 12 * 12

-- A move's place in the move order: steps by their first square and then their last, after them drops by kind and
-- then square. Squares are below 12.
abbrev pub place : Move → ℕ
place (Step kind from to catch grows) = 12 * from + to
place (Put kind to) = first_drop + 12 * hand_place kind + to
