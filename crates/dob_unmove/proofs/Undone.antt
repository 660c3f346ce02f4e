-- The ways that can undo the last move are those of the moves that lead there.
use Rattle.dob_unmove.proofs.Common.{◌+◌, ◌-◌, ◌<◌, ◌∙◌, ◌≡◌, ◌≢◌, Bool, List, None, Option, Some, ap, arith, cond, false, get_or, length, refl, set, subst}
use Rattle.dob_unmove.proofs.Common.{sym, true, ℕ, get_or-set_other, get_or-set_same, get_or_past, length-set, set-get_or, set-set, set_comm, is_some}
use Rattle.dob_unmove.proofs.Common.{leads-apart, leads-to_board, length-turned, within-from_piece, turned-turned, kind_on_board, Cell, at, held, piece_of}
use Rattle.dob_unmove.proofs.Common.{turned, with_one_less, with_one_more, Hand, HandKind, Kind, Hen, Mover, Setup, HasOutcome, grows_at, Move, Put, Step}
use Rattle.dob_unmove.proofs.Common.{CanGiveBack, CanUndo, arrives_at, choice, earlier, enemy_cell, without_caught, RetroMove, Unput, Unstep, HasFewPieces, HasLions}
use Rattle.dob_unmove.proofs.Common.{IsLegal, total, Enemy, HasOutcome-is, lions-HasOutcome, total-HasOutcome, HasFewPieces-turned, HasLions-turned}
use Rattle.dob_unmove.proofs.Common.{IsSeenTurned}
use Rattle.dob_pieces.specs.declared.kind.HandKind.TheVariants as hand
use Rattle.dob_pieces.specs.Setups.{setup_of}
unfoldable use Rattle.dob_moves.specs.Outcomes.{stepped, dropped}
use Rattle.dob_moves.specs.Outcomes.{arrives_as, moved, with_caught}
use Rattle.dob_moves.proofs.Outcomes.{Met, step_parts, HasOutcome-parts}

-- ---- hands and boards written and written back
one_less-more : (h : Hand) (k : HandKind) → with_one_less (with_one_more h k) k ≡ h
one_less-more h hand.Chick = let e : h.chicks + 1 - 1 ≡ h.chicks = omega arith in λ i. record h { chicks = e i }
one_less-more h hand.Elephant = let e : h.elephants + 1 - 1 ≡ h.elephants = omega arith in λ i. record h { elephants = e i }
one_less-more h hand.Giraffe = let e : h.giraffes + 1 - 1 ≡ h.giraffes = omega arith in λ i. record h { giraffes = e i }

one_more-less : (h : Hand) (k : HandKind) → 0 < held h k → with_one_more (with_one_less h k) k ≡ h
one_more-less h hand.Chick some = let e : h.chicks - 1 + 1 ≡ h.chicks = omega arith in λ i. record h { chicks = e i }
one_more-less h hand.Elephant some = let e : h.elephants - 1 + 1 ≡ h.elephants = omega arith in λ i. record h { elephants = e i }
one_more-less h hand.Giraffe some = let e : h.giraffes - 1 + 1 ≡ h.giraffes = omega arith in λ i. record h { giraffes = e i }

some_after_more : (h : Hand) (k : HandKind) → 0 < held (with_one_more h k) k
some_after_more h hand.Chick = omega arith
some_after_more h _ = omega arith

-- two squares written, and then both written back
written_back : (b : List Cell) (i j : ℕ) (c d x y : Cell) → i ≢ j → get_or b j None ≡ x → get_or b i None ≡ y
    → set (set (set (set b i c) j d) j x) i y ≡ b
written_back b i j c d x y apart at_j at_i = rw (set-set, set_comm b i j c x apart, ← at_j, set-get_or, set-set, ← at_i, set-get_or) refl

-- one square written, and then written back
written_back_once : (b : List Cell) (i : ℕ) (c x : Cell) → get_or b i None ≡ x → set (set b i c) i x ≡ b
written_back_once b i c x at_i = rw (set-set, ← at_i, set-get_or) refl

-- ---- what stood where

-- the square from which the piece came, for a drop one beyond the board
abbrev pub leaves : RetroMove → ℕ
leaves (Unstep kind from to caught) = from
leaves (Unput kind to) = 12

-- the square on which the move ended
abbrev pub ends_on : RetroMove → ℕ
ends_on (Unstep kind from to caught) = to
ends_on (Unput kind to) = to

-- what stood on the one, and what stands on the other
abbrev pub came : RetroMove → Cell
came (Unstep kind from to caught) = Some (piece_of Mover kind)
came (Unput kind to) = None

abbrev pub arrived : RetroMove → Kind
arrived (Unstep kind from to caught) = arrives_at kind to
arrived (Unput kind to) = kind_on_board kind

-- what is given back there
abbrev pub given : RetroMove → Option Kind
given (Unstep kind from to caught) = caught
given (Unput kind to) = None

-- the move changed the cells of these two squares alone
pub record IsBefore (after : Setup) (u : RetroMove) : Type 0 where
  pub from_after : at after (leaves u) ≡ None
  pub to_after : at after (ends_on u) ≡ Some (piece_of Mover (arrived u))
  pub from_before : at (earlier after u) (leaves u) ≡ came u
  pub to_before : at (earlier after u) (ends_on u) ≡ enemy_cell (given u)
  pub others : (s : ℕ) → s ≢ leaves u → s ≢ ends_on u → at (earlier after u) s ≡ at after s

pub is_before : (after : Setup) (u : RetroMove) → length after.board ≡ 12 → CanUndo after u → IsBefore after u
unfolding earlier
is_before after (Unstep kind from to caught) twelve can =
    let given = set after.board to (enemy_cell caught) in record {
      from_after = can.empty;
      to_after = can.stands;
      from_before = get_or-set_same given from (Some (piece_of Mover kind)) None (rw (length-set, twelve) can.on_board);
      to_before =
          get_or-set_other given from to (Some (piece_of Mover kind)) None (λ e. leads-apart kind from to can.leads (sym e))
          ∙ get_or-set_same after.board to (enemy_cell caught) None (rw twelve (leads-to_board kind from to can.leads));
      others = λ s away apart.
          get_or-set_other given from s (Some (piece_of Mover kind)) None away ∙ get_or-set_other after.board to s (enemy_cell caught) None apart;
    }
is_before after (Unput kind to) twelve can =
    let on = within-from_piece after to (piece_of Mover (kind_on_board kind)) can in record {
      from_after = get_or_past after.board 12 None (omega (arith, twelve));
      to_after = can;
      from_before = get_or_past (set after.board to None) 12 None (rw (length-set, twelve) (omega arith));
      to_before = get_or-set_same after.board to None None on;
      others = λ s away apart. get_or-set_other after.board to s None None apart;
    }

-- ---- what can be undone was a move

-- a chick that grows is a hen
same_arrival : (kind : Kind) (grows : Bool) → arrives_as kind grows ≡ cond grows Hen kind
same_arrival kind true = refl
same_arrival kind false = refl

-- what is given back is caught again
caught_again : (h : Hand) (caught : Option Kind) → CanGiveBack h caught → with_caught (without_caught h caught) (enemy_cell caught) ≡ h
caught_again h None some = refl
caught_again h (Some kind) some = rw some.1 (one_more-less h some.0 some.2)

met_again : (p : Setup) (to : ℕ) (h : Hand) (caught : Option Kind) → at p to ≡ enemy_cell caught → CanGiveBack h caught → Met p to (is_some caught)
met_again p to h None there some = there
met_again p to h (Some kind) there some = (some.0, (kind, there, some.1))

module _ (after : Setup) (twelve : length after.board ≡ 12) where
  moved_again : (u : RetroMove) → CanUndo after u → moved (earlier after u) (choice u) ≡ after
  unfolding earlier stepped dropped
  moved_again (Unstep kind from to caught) can =
      let board = written_back after.board to from (enemy_cell caught) (Some (piece_of Mover kind)) None
      (Some (piece_of Mover (arrives_as kind (grows_at kind to)))) (λ e. leads-apart kind from to can.leads (sym e)) can.empty
      (can.stands ∙ ap (λ (k : Kind). Some (piece_of Mover k)) (sym (same_arrival kind (grows_at kind to)))) in
      let mover = ap (with_caught (without_caught after.hands.mover caught)) (is_before after (Unstep kind from to caught) twelve can).to_before
      ∙ caught_again after.hands.mover caught can.in_hand in
      λ i. setup_of (board i) (record after.hands { mover = mover i })
  moved_again (Unput kind to) can =
      let board = written_back_once after.board to None (Some (piece_of Mover (kind_on_board kind))) can in
      λ i. setup_of (board i) (record after.hands { mover = one_less-more after.hands.mover kind i })

  HasOutcome-earlier : (u : RetroMove) → CanUndo after u → HasOutcome (earlier after u) (choice u) (turned after)
  unfolding earlier stepped dropped
  HasOutcome-earlier (Unstep kind from to caught) can =
      let u = Unstep kind from to caught in
      let b = is_before after u twelve can in
      HasOutcome-parts (earlier after u) kind from to (turned after) (is_some caught) (grows_at kind to) (record {
        grows_is = refl;
        met = met_again (earlier after u) to after.hands.mover caught b.to_before can.in_hand;
        steps = record { own = b.from_before; leads = can.leads; outcome = ap turned (sym (moved_again u can)) };
      })
  HasOutcome-earlier (Unput kind to) can = record {
    in_hand = some_after_more after.hands.mover kind;
    on_board = rw twelve at (within-from_piece after to (piece_of Mover (kind_on_board kind)) can);
    free = (is_before after (Unput kind to) twelve can).to_before;
    outcome = ap turned (sym (moved_again (Unput kind to) can));
  }

-- ---- every move can be undone

-- what a step took, and the hands before it
record IsTaken (p : Setup) (to : ℕ) (catch : Bool) : Type 0 where
  caught : Option Kind
  found : at p to ≡ enemy_cell caught
  catches : is_some caught ≡ catch
  in_hand : CanGiveBack (with_caught p.hands.mover (at p to)) caught
  back : without_caught (with_caught p.hands.mover (at p to)) caught ≡ p.hands.mover

is_taken : (p : Setup) (to : ℕ) (catch : Bool) → Met p to catch → IsTaken p to catch
is_taken p to false free = record { caught = None; found = free; catches = refl; in_hand = tt; back = rw free refl }
is_taken p to true t = record {
  caught = Some t.1.0;
  found = t.1.1;
  catches = refl;
  in_hand = (t.0, t.1.2, rw (t.1.1, t.1.2) (some_after_more p.hands.mover t.0));
  back = rw (t.1.1, t.1.2) (one_less-more p.hands.mover t.0);
}

-- a way that takes the move back to p
abbrev pub Undoes : Setup → Move → Setup → RetroMove → Type 0
Undoes p m after u = CanUndo after u × (choice u ≡ m) × (earlier after u ≡ p)

undone : (p : Setup) (m : Move) (q : Setup) → length p.board ≡ 12 → HasOutcome p m q → (u : RetroMove) × Undoes p m (moved p m) u
unfolding earlier stepped dropped
undone p (Step kind from to catch grows) q twelve g =
    let parts = step_parts p kind from to q catch grows g in
    let s = parts.steps in
    let t = is_taken p to catch parts.met in
    let apart = leads-apart kind from to s.leads in
    let cell = Some (piece_of Mover (arrives_as kind grows)) in
    let here = within-from_piece p from (piece_of Mover kind) s.own in
    let board = written_back p.board from to None cell (enemy_cell t.caught) (Some (piece_of Mover kind)) apart t.found s.own in (
      Unstep kind from to t.caught,
      (
        record {
          stands = get_or-set_same (set p.board from None) to cell None (rw (length-set, twelve) (leads-to_board kind from to s.leads))
              ∙ ap (λ (k : Kind). Some (piece_of Mover k)) (same_arrival kind grows ∙ ap (λ b. cond b Hen kind) (sym parts.grows_is));
          on_board = rw twelve at here;
          empty = get_or-set_other (set p.board from None) to from cell None apart ∙ get_or-set_same p.board from None None here;
          leads = s.leads;
          in_hand = t.in_hand;
        },
        λ i. Step kind from to (t.catches i) (parts.grows_is i),
        λ i. setup_of (board i) (record p.hands { mover = t.back i }),
      ),
    )
undone p (Put kind to) q twelve d =
    let cell = Some (piece_of Mover (kind_on_board kind)) in
    let board = written_back_once p.board to cell None d.free in (
      Unput kind to,
      (
        get_or-set_same p.board to cell None (rw twelve d.on_board),
        refl,
        λ i. setup_of (board i) (record p.hands { mover = one_more-less p.hands.mover kind d.in_hand i }),
      ),
    )

length-moved : (p : Setup) (m : Move) → length (moved p m).board ≡ length p.board
unfolding stepped dropped
length-moved p (Step kind from to catch grows) = length-set (set p.board from None) to _ ∙ length-set p.board from None
length-moved p (Put kind to) = length-set p.board to _

pub undo_from_HasOutcome : (p : Setup) (m : Move) (q : Setup) → length p.board ≡ 12 → HasOutcome p m q → (u : RetroMove) × Undoes p m (turned q) u
undo_from_HasOutcome p m q twelve g =
    let after : turned q ≡ moved p m = ap turned (HasOutcome-is p m q g) ∙ turned-turned (moved p m) (length-moved p m ∙ twelve) in
    subst (λ (t : Setup). (u : RetroMove) × Undoes p m t u) (sym after) (undone p m q twelve g)

-- ---- two ways never take the same move back to the same setup
abbrev kind_there : Cell → Option Kind
kind_there None = None
kind_there (Some piece) = Some piece.kind

same_caught : (caught other : Option Kind) → enemy_cell caught ≡ enemy_cell other → caught ≡ other
same_caught None None e = refl
same_caught (Some a) (Some b) e = ap kind_there e
same_caught _ _ e = cc

pub same_undo : (after : Setup) (u v : RetroMove) → length after.board ≡ 12 → CanUndo after u → CanUndo after v
    → choice u ≡ choice v → earlier after u ≡ earlier after v → u ≡ v
same_undo after (Unstep kind from to caught) (Unstep kind2 from2 to2 caught2) twelve can other e f =
    let here = is_before after (Unstep kind from to caught) twelve can in
    let there = is_before after (Unstep kind2 from2 to2 caught2) twelve other in
    let tos : to ≡ to2 = cc in
    let caughts : caught ≡ caught2 = same_caught caught caught2 (sym here.to_before ∙ (λ i. at (f i) (tos i)) ∙ there.to_before) in
    cc
same_undo after (Unput kind to) (Unput kind2 to2) twelve can other e f = cc
same_undo after _ _ twelve can other e f = cc

-- ---- what a setup after a move keeps of the position to which it was turned, and what stood before it
pub turned_squares : (after : Setup) → IsSeenTurned IsLegal after → length after.board ≡ 12
turned_squares after t = rw t.2 (length-turned t.0)

pub turned_lions : (after : Setup) → IsSeenTurned IsLegal after → HasLions after
turned_lions after t = rw t.2 (HasLions-turned t.0 t.1.squares t.1.lions)

pub few_turned : (after : Setup) → IsSeenTurned IsLegal after → HasFewPieces after
few_turned after t = rw t.2 (HasFewPieces-turned t.0 t.1.squares t.1.few)

-- a hand has few pieces
pub few_held : (s : Setup) (kind : HandKind) → HasFewPieces s → held s.hands.mover kind < 255
unfolding total
few_held s kind few = omega (arith, few kind)

pub HasOutcome-from_undo : (q after : Setup) (u : RetroMove) → length q.board ≡ 12 → after ≡ turned q → CanUndo after u → HasOutcome (earlier after u) (choice u) q
HasOutcome-from_undo q after u twelve e can =
    subst (HasOutcome (earlier after u) (choice u)) (ap turned e ∙ turned-turned q twelve) (HasOutcome-earlier after (rw e (length-turned q)) u can)

length-earlier : (after : Setup) (u : RetroMove) → length (earlier after u).board ≡ length after.board
unfolding earlier
length-earlier after (Unstep kind from to caught) = length-set (set after.board to (enemy_cell caught)) from _ ∙ length-set after.board to _
length-earlier after (Unput kind to) = length-set after.board to _

module _ (after : Setup) (t : IsSeenTurned IsLegal after) (u : RetroMove) (can : CanUndo after u) where
  pub goes_before : HasOutcome (earlier after u) (choice u) t.0
  goes_before = HasOutcome-from_undo t.0 after u t.1.squares t.2 can

  pub squares_before : length (earlier after u).board ≡ 12
  squares_before = length-earlier after u ∙ turned_squares after t

  pub total_before : (kind : HandKind) → total kind t.0 ≡ total kind (earlier after u)
  total_before = total-HasOutcome (earlier after u) (choice u) t.0 goes_before squares_before

  pub lions_before : HasLions (earlier after u)
  lions_before Mover = sym (lions-HasOutcome (earlier after u) (choice u) t.0 goes_before squares_before Enemy) ∙ t.1.lions Enemy
  lions_before Enemy = sym (lions-HasOutcome (earlier after u) (choice u) t.0 goes_before squares_before Mover) ∙ t.1.lions Mover
