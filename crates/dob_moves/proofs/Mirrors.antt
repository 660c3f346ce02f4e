-- The mirror image of a move is a move of the mirror image, and leads to the mirror image of its outcome.
use Rattle.dob_moves.proofs.Common.{◌<◌, ◌==◌, ◌∙◌, ◌≡◌, ◌≢◌, List, None, Some, ap, arith, false, get_or, length, refl, set, subst, sym, true, ℕ, ⊎_elim}
use Rattle.dob_moves.proofs.Common.{cases_eq, get_or-set_other, get_or-set_same, length-set, at-board_by, board_by-from_cells, leads-to_board, length-mirrored}
use Rattle.dob_moves.proofs.Common.{within-from_piece, kind_on_board, Cell, at, board_by, mirrored, piece_of, turned, with_one_less, mirrored_square, row}
use Rattle.dob_moves.proofs.Common.{Hands, HandKind, Kind, Chick, Mover, A, Setup, mirrored_move, CanGo, CatchesLion, Drops, HasOutcome, Steps, grows_at}
use Rattle.dob_moves.proofs.Common.{CanCatch, HasStatus, HasTried, Move, Put, Step, Status, Caught, Open, Stuck, Tried, Bool, arrives_as}
use Rattle.std.proofs.Common.{rules}
use Rattle.dob_pieces.specs.Setups.{setup_of}
use Rattle.dob_pieces.proofs.Symmetries.{mirrored_square_bound, mirrored_square_twice, at-image, mirrored-mirrored, turned-mirrored, leads-mirrored}
use Rattle.dob_moves.proofs.Outcomes.{Met, hands_stepped, step_parts, HasOutcome-parts}

-- ---- squares

-- the image of a square on row 1 is one there
mirrored_low : (k : ℕ) → k < 3 → mirrored_square k < 3
mirrored_low k h = omega arith

-- and always on the same row
pub row-mirrored : (k : ℕ) → row (mirrored_square k) ≡ row k
row-mirrored k = omega arith

-- other squares have other images
mirrored_apart : (k i : ℕ) → k < 12 → k ≢ mirrored_square i → mirrored_square k ≢ i
mirrored_apart k i h apart e = apart (sym (mirrored_square_twice k h) ∙ ap mirrored_square e)

-- a chick grows at the image where it grows
grows_at-mirrored : (kind : Kind) (to : ℕ) → grows_at kind (mirrored_square to) ≡ grows_at kind to
grows_at-mirrored Chick to = ap (λ r. r == 3) (row-mirrored to)
grows_at-mirrored _ to = refl

-- ---- boards
abbrev mirrored_board : List Cell → List Cell
mirrored_board board = board_by (λ k. get_or board (mirrored_square k) None)

-- a write to the mirror image
mirrored_put : (board : List Cell) (i : ℕ) (c : Cell) → length board ≡ 12 → i < 12
    → mirrored_board (set board i c) ≡ set (mirrored_board board) (mirrored_square i) c
mirrored_put board i c twelve h =
    let image = mirrored_board board in
    let j = mirrored_square i in
    let f = λ (k : ℕ). get_or (set board i c) (mirrored_square k) None in
    let here : get_or (set image j c) j None ≡ f j =
    get_or-set_same image j c None (mirrored_square_bound i h)
    ∙ sym (ap (λ k. get_or (set board i c) k None) (mirrored_square_twice i h) ∙ get_or-set_same board i c None (rw twelve h)) in
    sym (board_by-from_cells f (set image j c) (length-set image j c) (λ k small.
    ⊎_elim (λ (e : k ≡ j). subst (λ k. get_or (set image j c) k None ≡ f k) (sym e) here)
    (λ (e : k ≡ j → ⊥).
    get_or-set_other image j k c None e ∙ at-board_by (λ k. get_or board (mirrored_square k) None) k small
    ∙ sym (get_or-set_other board i (mirrored_square k) c None (mirrored_apart k i small e)))
    (cases_eq k j)))

-- ---- moves

-- what a piece of the mover stands on is on the board
mover_on_board : (p : Setup) (k : ℕ) (kind : Kind) → length p.board ≡ 12 → at p k ≡ Some (piece_of Mover kind) → k < 12
mover_on_board p k kind twelve e = let lt = within-from_piece p k (piece_of Mover kind) e in omega arith

-- the mirror image of what stands after a step
stepped_image : (p : Setup) (from to : ℕ) (c : Cell) (hands : Hands) → length p.board ≡ 12 → from < 12 → to < 12
    → mirrored (record { board = set (set p.board from None) to c; hands = hands })
    ≡ record { board = set (set (mirrored p).board (mirrored_square from) None) (mirrored_square to) c; hands = hands }
unfolding mirrored
stepped_image p from to c hands twelve h k = search (rules, mirrored_put)

-- the mirror image of what stands after a drop
dropped_image : (p : Setup) (to : ℕ) (c : Cell) (hands : Hands) → length p.board ≡ 12 → to < 12
    → mirrored (record { board = set p.board to c; hands = hands })
    ≡ record { board = set (mirrored p).board (mirrored_square to) c; hands = hands }
unfolding mirrored
dropped_image p to c hands twelve k =
    ap (λ (b : List Cell). setup_of b hands) (mirrored_put p.board to c twelve k)

-- a step in the mirror
Steps-mirrored : (p : Setup) (kind : Kind) (from to : ℕ) (arrives : Kind) (hands : Hands) (q : Setup) → length p.board ≡ 12
    → Steps p kind from to arrives hands q
    → Steps (mirrored p) kind (mirrored_square from) (mirrored_square to) arrives hands (mirrored q)
Steps-mirrored p kind from to arrives hands q twelve s =
    let h = mover_on_board p from kind twelve s.own in
    let k = leads-to_board kind from to s.leads in
    record {
      own = at-image p from h ∙ s.own;
      leads = leads-mirrored kind from to h k ∙ s.leads;
      outcome =
          ap mirrored s.outcome ∙ sym (turned-mirrored _)
          ∙ ap turned (stepped_image p from to (Some (piece_of Mover arrives)) hands twelve h k);
    }

-- a drop in the mirror
Drops-mirrored : (p : Setup) (kind : HandKind) (to : ℕ) (q : Setup) → length p.board ≡ 12
    → Drops p kind to q → Drops (mirrored p) kind (mirrored_square to) (mirrored q)
unfolding mirrored
Drops-mirrored p kind to q twelve d = record {
  in_hand = d.in_hand;
  on_board = mirrored_square_bound to d.on_board;
  free = at-image p to d.on_board ∙ d.free;
  outcome =
      ap mirrored d.outcome ∙ sym (turned-mirrored _)
      ∙ ap turned (dropped_image p to (Some (piece_of Mover (kind_on_board kind)))
      (record p.hands { mover = with_one_less p.hands.mover kind }) twelve d.on_board);
}

-- what a step meets in the mirror
Met-mirrored : (p : Setup) (to : ℕ) (catch : Bool) → to < 12 → Met p to catch → Met (mirrored p) (mirrored_square to) catch
Met-mirrored p to false k free = at-image p to k ∙ free
Met-mirrored p to true k t = (t.0, (t.1.0, at-image p to k ∙ t.1.1, t.1.2))

-- a move of the mirror image leads to the mirror image
pub HasOutcome-mirrored : (p : Setup) (move : Move) (q : Setup) → length p.board ≡ 12
    → HasOutcome p move q → HasOutcome (mirrored p) (mirrored_move move) (mirrored q)
unfolding mirrored
HasOutcome-mirrored p (Step kind from to catch grows) q twelve g =
    let s = step_parts p kind from to q catch grows g in
    let k = leads-to_board kind from to s.steps.leads in
    HasOutcome-parts (mirrored p) kind (mirrored_square from) (mirrored_square to) (mirrored q) catch grows (record {
      grows_is = grows_at-mirrored kind to ∙ s.grows_is;
      met = Met-mirrored p to catch k s.met;
      steps = rw (at-image p to k) (Steps-mirrored p kind from to (arrives_as kind grows) (hands_stepped p to) q twelve s.steps);
    })
HasOutcome-mirrored p (Put kind to) q twelve g = Drops-mirrored p kind to q twelve g

-- a move that can go has one that can go for its image
CanGo-mirrored : (p : Setup) (move : Move) → length p.board ≡ 12 → CanGo A p move → CanGo A (mirrored p) (mirrored_move move)
CanGo-mirrored p move twelve can = (mirrored can.0, HasOutcome-mirrored p move can.0 twelve can.1)

-- so has one that catches the lion
CatchesLion-mirrored : (p : Setup) (move : Move) → length p.board ≡ 12
    → CatchesLion p move → CatchesLion (mirrored p) (mirrored_move move)
CatchesLion-mirrored p (Step kind from to true grows) twelve c =
    search (rules, mover_on_board, leads-to_board, at-image, leads-mirrored, grows_at-mirrored)
CatchesLion-mirrored p _ twelve c = c

-- ---- statuses

-- a catch of the lion, and a try, have images
CanCatch-mirrored : (p : Setup) → length p.board ≡ 12 → CanCatch p → CanCatch (mirrored p)
CanCatch-mirrored p twelve c = (mirrored_move c.0, CatchesLion-mirrored p c.0 twelve c.1)

HasTried-mirrored : (p : Setup) → HasTried p → HasTried (mirrored p)
HasTried-mirrored p t = (mirrored_square t.0, mirrored_low t.0 t.1, at-image p t.0 (let low = t.1 in omega arith) ∙ t.2)

-- what the mirror image of a setup has, the setup has
no_catch : (p : Setup) → length p.board ≡ 12 → ¬ CanCatch p → ¬ CanCatch (mirrored p)
no_catch p twelve not c = not (rw mirrored-mirrored at (CanCatch-mirrored (mirrored p) (length-mirrored p) c))

no_try : (p : Setup) → length p.board ≡ 12 → ¬ HasTried p → ¬ HasTried (mirrored p)
no_try p twelve not t = not (rw mirrored-mirrored at (HasTried-mirrored (mirrored p) t))

no_move : (p : Setup) → length p.board ≡ 12 → ((move : Move) → ¬ CanGo A p move) → (move : Move) → ¬ CanGo A (mirrored p) move
no_move p twelve not move can = not (mirrored_move move) (rw mirrored-mirrored at (CanGo-mirrored (mirrored p) move (length-mirrored p) can))

-- the mirror image has the same status
pub HasStatus-mirrored_in_A : (p : Setup) (status : Status) → length p.board ≡ 12 → HasStatus A p status → HasStatus A (mirrored p) status
HasStatus-mirrored_in_A p Caught twelve h = CanCatch-mirrored p twelve h
HasStatus-mirrored_in_A p Tried twelve h = (no_catch p twelve h.0, HasTried-mirrored p h.1)
HasStatus-mirrored_in_A p Stuck twelve h = (no_catch p twelve h.0, no_try p twelve h.1, no_move p twelve h.2)
HasStatus-mirrored_in_A p Open twelve h = (no_catch p twelve h.0, no_try p twelve h.1, (mirrored_move h.2.0, CanGo-mirrored p h.2.0 twelve h.2.1))

pub ruleset images = (HasOutcome-mirrored)
