-- Every outcome of a move is the turned form of `moved`, and legal where the position was legal and open.
use Rattle.dob_moves.proofs.Common.{◌&&◌, ◌+◌, ◌<◌, ◌∙◌, ◌≡◌, ◌≢◌, ◌≤◌, Bool, List, None, Some, ap, arith, cond, false, get_or, length, refl, set, subst, sym}
use Rattle.dob_moves.proofs.Common.{true, ℕ, length-set, count_by, count-moved, count-set, leads-apart, leads-to_board, lions-turned, one_if, total-turned}
use Rattle.dob_moves.proofs.Common.{within-from_piece, kind_on_board, leads, other_side, Cell, IsLegal, at, held, holds_kind, holds_lion, piece_of, total}
use Rattle.dob_moves.proofs.Common.{turned, with_one_less, Hand, Hands, HandKind, Kind, Hen, Lion, Side, Enemy, Mover, A, Setup}
use Rattle.dob_moves.proofs.Common.{CanGo, CanTake, HasOutcome, Steps, grows_at, hands_after_catch, arrives_as, dropped, moved, stepped, with_caught, HasTried}
use Rattle.dob_moves.proofs.Common.{Move, Put, Step}
use Rattle.std.proofs.lemmas.Bool.{and_right}
use Rattle.std.proofs.Common.{rules}
use Rattle.dob_pieces.specs.declared.kind.HandKind.TheVariants as hand
use Rattle.dob_pieces.specs.Pieces.{is_lion, is_side, counts_as}
pub use Rattle.dob_moves.specs.Arrivals.{Met}
use Rattle.dob_moves.proofs.Turns.{sides_apart, IsFreeOfTry, IsLegal-turned}

-- ---- a step, whether or not it catches or grows

-- the hands after it
abbrev pub hands_stepped : Setup → ℕ → Hands
hands_stepped p to = record p.hands { mover = with_caught p.hands.mover (at p to) }

pub record StepParts (p : Setup) (kind : Kind) (from to : ℕ) (catch grows : Bool) (q : Setup) : Type 0 where
  pub grows_is : grows_at kind to ≡ grows
  pub met : Met p to catch
  pub steps : Steps p kind from to (arrives_as kind grows) (hands_stepped p to) q

-- a step to an empty square changes no hand
hands-none : (p : Setup) (to : ℕ) → at p to ≡ None → p.hands ≡ hands_stepped p to
hands-none p to e = rw e

-- a catch puts the caught piece into the hand
hands-caught : (p : Setup) (to : ℕ) (taken : HandKind) → CanTake p to taken → hands_after_catch p.hands taken ≡ hands_stepped p to
hands-caught p to taken t = rw (t.1, t.2)

module _ (p : Setup) (kind : Kind) (from to : ℕ) (q : Setup) where
  with_hands : (arrives : Kind) (a b : Hands) → a ≡ b → Steps p kind from to arrives a q → Steps p kind from to arrives b q
  with_hands arrives a b e s = subst (λ (h : Hands). Steps p kind from to arrives h q) e s

  pub step_parts : (catch grows : Bool) → HasOutcome p (Step kind from to catch grows) q → StepParts p kind from to catch grows q
  step_parts false false g = record { grows_is = g.0; met = g.1; steps = with_hands kind _ _ (hands-none p to g.1) g.2 }
  step_parts false true g = record { grows_is = g.0; met = g.1; steps = with_hands Hen _ _ (hands-none p to g.1) g.2 }
  step_parts true false g = record { grows_is = g.0; met = (g.1, g.2); steps = with_hands kind _ _ (hands-caught p to g.1 g.2) g.3 }
  step_parts true true g = record { grows_is = g.0; met = (g.1, g.2); steps = with_hands Hen _ _ (hands-caught p to g.1 g.2) g.3 }

  pub HasOutcome-parts : (catch grows : Bool) → StepParts p kind from to catch grows q → HasOutcome p (Step kind from to catch grows) q
  HasOutcome-parts false false s = (s.grows_is, s.met, with_hands kind _ _ (sym (hands-none p to s.met)) s.steps)
  HasOutcome-parts false true s = (s.grows_is, s.met, with_hands Hen _ _ (sym (hands-none p to s.met)) s.steps)
  HasOutcome-parts true false s = (s.grows_is, s.met.0, s.met.1, with_hands kind _ _ (sym (hands-caught p to s.met.0 s.met.1)) s.steps)
  HasOutcome-parts true true s = (s.grows_is, s.met.0, s.met.1, with_hands Hen _ _ (sym (hands-caught p to s.met.0 s.met.1)) s.steps)

-- the outcome of a move is one
pub HasOutcome-is : (p : Setup) (m : Move) (q : Setup) → HasOutcome p m q → q ≡ turned (moved p m)
unfolding stepped dropped
HasOutcome-is p (Step kind from to catch grows) q g = (step_parts p kind from to q catch grows g).steps.outcome
HasOutcome-is p (Put kind to) q g = g.outcome

-- The cell has no lion, and the mover's hand gets what it has.
record Yields (c : Cell) : Type 0 where
  no_lion : (side : Side) → holds_lion side c ≡ false
  catch : (h : Hand) (k : HandKind) → held (with_caught h c) k ≡ held h k + cond (holds_kind k c) 1 0

-- the kind counts as the other
record Keeps (kind arrives : Kind) : Type 0 where
  lion : is_lion arrives ≡ is_lion kind
  counts : (k : HandKind) → counts_as k arrives ≡ counts_as k kind

-- a step's squares, its piece and what it takes
pub record IsStep (p : Setup) (kind : Kind) (from to : ℕ) (grows : Bool) : Type 0 where
  pub own : at p from ≡ Some (piece_of Mover kind)
  pub leads : leads kind from to ≡ true
  yields : Yields (at p to)
  keeps : Keeps kind (arrives_as kind grows)

-- what a hand with one less holds
held-one_less : (h : Hand) (put k : HandKind) → 0 < held h put
    → held (with_one_less h put) k + cond (counts_as k (kind_on_board put)) 1 0 ≡ held h k
held-one_less h hand.Chick hand.Chick some = omega arith
held-one_less h hand.Elephant hand.Chick some = omega arith
held-one_less h hand.Giraffe hand.Chick some = omega arith
held-one_less h _ _ some = omega arith

-- every step that can go is one
pub IsStep-from : (p : Setup) (kind : Kind) (from to : ℕ) (catch grows : Bool) (q : Setup)
    → HasOutcome p (Step kind from to catch grows) q → IsStep p kind from to grows
IsStep-from p kind from to catch grows q g = search rules

-- where a cell without the enemy lion is put there is none
free-set : (xs : List Cell) (i : ℕ) (cell : Cell) (k : ℕ) → cell ≢ Some (piece_of Enemy Lion) → get_or xs k None ≢ Some (piece_of Enemy Lion)
    → i < length xs → get_or (set xs i cell) k None ≢ Some (piece_of Enemy Lion)
free-set xs i cell k other free h e = search rules

-- a piece of the mover is no enemy lion
own_piece : (kind : Kind) → Some (piece_of Mover kind) ≢ Some (piece_of Enemy Lion)
own_piece kind e = sides_apart Lion kind (sym e)

module _ (p : Setup) (kind : Kind) (from to : ℕ) (grows : Bool) (twelve : length p.board ≡ 12) (s : IsStep p kind from to grows) where
  on_board : to < 12
  on_board = leads-to_board kind from to s.leads

  pub length-stepped : length (stepped p kind from to grows).board ≡ 12
  unfolding stepped
  length-stepped = rw (length-set, length-set) twelve

  count_by-stepped : (f : Cell → Bool) → f None ≡ false
      → count_by f (stepped p kind from to grows).board + one_if (f (Some (piece_of Mover kind))) + one_if (f (at p to))
      ≡ count_by f p.board + one_if (f (Some (piece_of Mover (arrives_as kind grows))))
  unfolding stepped
  count_by-stepped f none =
      let put = count-moved f p.board from to (Some (piece_of Mover (arrives_as kind grows)))
      (within-from_piece p from (piece_of Mover kind) s.own) (omega (arith, on_board)) (leads-apart kind from to s.leads)
      in
      let own = ap (λ c. one_if (f c)) s.own in
      let nothing = ap one_if none in
      omega (arith, put, own, nothing)

  total-stepped : (k : HandKind) → total k (stepped p kind from to grows) ≡ total k p
  unfolding total stepped
  total-stepped k =
      let counts = count_by-stepped (holds_kind k) refl in
      let same = ap one_if (s.keeps.counts k) in
      omega (arith, counts, same, s.yields.catch p.hands.mover k)

  lions-stepped : (side : Side) → count_by (holds_lion side) (stepped p kind from to grows).board ≡ count_by (holds_lion side) p.board
  lions-stepped side =
      let counts = count_by-stepped (holds_lion side) refl in
      let same = ap (λ b. one_if (is_side side Mover && b)) s.keeps.lion in
      let caught = ap one_if (s.yields.no_lion side) in
      omega (arith, counts, same, caught)

  free-stepped : IsFreeOfTry p → IsFreeOfTry (stepped p kind from to grows)
  unfolding stepped
  free-stepped free k low e = search (rules, free-set, own_piece, within-from_piece)

  -- a step keeps a position legal
  legal-stepped : IsLegal p → IsFreeOfTry p → IsLegal (turned (stepped p kind from to grows))
  legal-stepped legal free =
      IsLegal-turned (stepped p kind from to grows) length-stepped
      (λ side. lions-stepped side ∙ legal.lions side) (λ k. rw (total-stepped k) (legal.few k)) (free-stepped free)

  same-stepped : (k : HandKind) → total k (turned (stepped p kind from to grows)) ≡ total k p
  same-stepped k = total-turned k (stepped p kind from to grows) length-stepped ∙ total-stepped k

-- no lion is dropped
put_lion : (put : HandKind) → is_lion (kind_on_board put) ≡ false
put_lion hand.Chick = refl
put_lion _ = refl

module _ (p : Setup) (put : HandKind) (to : ℕ) (twelve : length p.board ≡ 12) (some : 0 < held p.hands.mover put)
    (on : to < 12) (free_to : at p to ≡ None) where
  pub length-dropped : length (dropped p put to).board ≡ 12
  unfolding dropped
  length-dropped = rw length-set twelve

  count_by-dropped : (f : Cell → Bool) → f None ≡ false
      → count_by f (dropped p put to).board ≡ count_by f p.board + one_if (f (Some (piece_of Mover (kind_on_board put))))
  unfolding dropped
  count_by-dropped f none = grind (arith, count-set)

  total-dropped : (k : HandKind) → total k (dropped p put to) ≡ total k p
  unfolding total dropped
  total-dropped k =
      let counts = count_by-dropped (holds_kind k) refl in
      omega (arith, counts, held-one_less p.hands.mover put k some)

  lions-dropped : (side : Side) → count_by (holds_lion side) (dropped p put to).board ≡ count_by (holds_lion side) p.board
  lions-dropped side =
      let counts = count_by-dropped (holds_lion side) refl in
      let nothing = ap one_if (and_right (is_side side Mover) (is_lion (kind_on_board put)) (put_lion put)) in
      omega (arith, counts, nothing)

  free-dropped : IsFreeOfTry p → IsFreeOfTry (dropped p put to)
  unfolding dropped
  free-dropped free k low e = free-set p.board to _ k (own_piece (kind_on_board put)) (free k low) (omega arith) e

  -- a drop keeps a position legal
  legal-dropped : IsLegal p → IsFreeOfTry p → IsLegal (turned (dropped p put to))
  legal-dropped legal free =
      IsLegal-turned (dropped p put to) length-dropped
      (λ side. lions-dropped side ∙ legal.lions side) (λ k. rw (total-dropped k) (legal.few k)) (free-dropped free)

  same-dropped : (k : HandKind) → total k (turned (dropped p put to)) ≡ total k p
  same-dropped k = total-turned k (dropped p put to) length-dropped ∙ total-dropped k

-- where the enemy has not tried, no enemy lion is on row 1
no_try : (p : Setup) → ¬ HasTried p → IsFreeOfTry p
no_try p not k low e = not (k, low, e)

-- the outcome of a move of a position in which the enemy hasn't tried is legal
pub IsLegal-HasOutcome : (p : Setup) (m : Move) (q : Setup) → HasOutcome p m q → IsLegal p → ¬ HasTried p → IsLegal q
IsLegal-HasOutcome p (Step kind from to catch grows) q g legal not =
    subst (λ r. IsLegal r) (sym (HasOutcome-is p (Step kind from to catch grows) q g))
    (legal-stepped p kind from to grows legal.squares (IsStep-from p kind from to catch grows q g) legal (no_try p not))
IsLegal-HasOutcome p (Put put to) q g legal not =
    subst (λ r. IsLegal r) (sym (HasOutcome-is p (Put put to) q g))
    (legal-dropped p put to legal.squares g.in_hand g.on_board g.free legal (no_try p not))

-- no move changes how many pieces of a kind there are
pub total-HasOutcome : (p : Setup) (m : Move) (q : Setup) → HasOutcome p m q → length p.board ≡ 12 → (k : HandKind) → total k q ≡ total k p
total-HasOutcome p (Step kind from to catch grows) q g twelve k =
    ap (total k) (HasOutcome-is p (Step kind from to catch grows) q g)
    ∙ same-stepped p kind from to grows twelve (IsStep-from p kind from to catch grows q g) k
total-HasOutcome p (Put put to) q g twelve k =
    ap (total k) (HasOutcome-is p (Put put to) q g)
    ∙ same-dropped p put to twelve g.in_hand g.on_board g.free k

-- nor how many lions a side has, which is the other side after it
pub lions-HasOutcome : (p : Setup) (m : Move) (q : Setup) → HasOutcome p m q → length p.board ≡ 12 → (side : Side)
    → count_by (holds_lion side) q.board ≡ count_by (holds_lion (other_side side)) p.board
lions-HasOutcome p (Step kind from to catch grows) q g twelve side =
    let step = IsStep-from p kind from to catch grows q g in
    ap (λ (r : Setup). count_by (holds_lion side) r.board) (HasOutcome-is p (Step kind from to catch grows) q g)
    ∙ lions-turned side (stepped p kind from to grows) (length-stepped p kind from to grows twelve step)
    ∙ lions-stepped p kind from to grows twelve step (other_side side)
lions-HasOutcome p (Put put to) q g twelve side =
    ap (λ (r : Setup). count_by (holds_lion side) r.board) (HasOutcome-is p (Put put to) q g)
    ∙ lions-turned side (dropped p put to) (length-dropped p put to twelve g.in_hand g.on_board g.free)
    ∙ lions-dropped p put to twelve g.in_hand g.on_board g.free (other_side side)

-- a hand has few pieces
pub held_few : (p : Setup) → IsLegal p → (k : HandKind) → held p.hands.mover k ≤ 2
unfolding total
held_few p legal k = omega (arith, legal.few k)

-- a move that can go goes to its one outcome
pub HasOutcome-moved : (p : Setup) (m : Move) → CanGo A p m → HasOutcome p m (turned (moved p m))
HasOutcome-moved p m can = subst (λ r. HasOutcome p m r) (HasOutcome-is p m can.0 can.1) can.1

pub ruleset outcomes = (HasOutcome-is, IsLegal-HasOutcome, total-HasOutcome)
