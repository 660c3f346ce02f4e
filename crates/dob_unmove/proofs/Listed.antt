-- The list of the ways has each way that can undo the last move, once, and no other.
use Rattle.dob_unmove.proofs.Common.{rules, ◌&&◌, ◌++◌, ◌<◌, ◌∙◌, ◌∷◌, ◌≡◌, Bool, Contains, List, None, Option, Some, [], ap, false, inl, inr, length, not}
use Rattle.dob_unmove.proofs.Common.{refl, subst, true, ℕ, and_parts, lt-ltb, ltb-true, Contains-append_cases, Contains-append_left, Contains-append_right}
use Rattle.dob_unmove.proofs.Common.{is_some, leads-to_board, within-from_piece, cond_sound, cons_cases, each_sound, head_in, none_in_empty, is_kind}
use Rattle.dob_unmove.proofs.Common.{kind_in_hand, kind_on_board, leads, Cell, at, held, piece_of, Hand, HandKind, Kind, Chick, Elephant, Giraffe, Hen, Lion}
use Rattle.dob_unmove.proofs.Common.{Side, Enemy, Mover, Setup, CanGiveBack, CanUndo, CanUnstep, arrives_at, holds_any, holds_caught, if_so, is_movers, stands}
use Rattle.dob_unmove.proofs.Common.{uncatch, undoes, undoes_at, unputs, unsteps, unsteps_between, unsteps_from, RetroMove, Unput, Unstep}
use Rattle.dob_pieces.specs.declared.kind.HandKind.TheVariants as hand
use Rattle.dob_unmove.proofs.Runs.{runs}
use Rattle.dob_unmove.proofs.Undone.{ends_on}
use Rattle.dob_pieces.proofs.Lists.{cond_whole, each_whole, rest_in}

-- ---- the tests
pub is_kind-same : (own kind : Kind) → is_kind own kind ≡ true → own ≡ kind
is_kind-same Lion Lion e = refl
is_kind-same Giraffe Giraffe e = refl
is_kind-same Elephant Elephant e = refl
is_kind-same Chick Chick e = refl
is_kind-same Hen Hen e = refl
is_kind-same _ _ e = cc

is_kind-itself : (kind : Kind) → is_kind kind kind ≡ true
is_kind-itself Lion = refl
is_kind-itself _ = refl

movers : (side : Side) → is_movers side ≡ true → side ≡ Mover
movers Mover e = refl
movers Enemy e = cc

-- the test finds the mover's piece
pub stands-true : (cell : Cell) (kind : Kind) → stands cell kind ≡ true → cell ≡ Some (piece_of Mover kind)
stands-true None kind e = cc
stands-true (Some piece) kind e = search (rules, movers, is_kind-same)

pub stands-from : (cell : Cell) (kind : Kind) → cell ≡ Some (piece_of Mover kind) → stands cell kind ≡ true
stands-from cell kind e = ap (λ (c : Cell). stands c kind) e ∙ is_kind-itself kind

holds-true : (h : Hand) (caught : Kind) (taken : Option HandKind) → kind_in_hand caught ≡ taken → holds_any h taken ≡ true → CanGiveBack h (Some caught)
holds-true h caught None e some = cc
holds-true h caught (Some taken) e some = (taken, e, ltb-true 0 (held h taken) some)

holds-from : (h : Hand) (caught : Kind) → CanGiveBack h (Some caught) → holds_caught h caught ≡ true
holds-from h caught g = ap (holds_any h) g.1 ∙ lt-ltb 0 (held h g.0) g.2

no_lion_back : (h : Hand) → CanGiveBack h (Some Lion) → ⊥
no_lion_back h g = cc

empty-true : (cell : Cell) → not (is_some cell) ≡ true → cell ≡ None
empty-true None e = refl
empty-true (Some piece) e = cc

-- a step to where the piece stands, from a free square
pub free_step : (after : Setup) (kind : Kind) (from to : ℕ) → stands (at after to) (arrives_at kind to) ≡ true → is_some (at after from) ≡ false
    → leads kind from to ≡ true → from < 12 → CanUnstep after kind from to None
free_step after kind from to there empty leads on_board = search (rules, stands-true, empty-true)

pub ruleset steps = (runs, free_step)

-- ---- the way alone, if a test is met
pub if_so_sound : (b : Bool) (x u : RetroMove) → Contains (if_so b x) u → (b ≡ true) × (x ≡ u)
if_so_sound b x u h = search (rules, cond_sound, cons_cases, none_in_empty)

if_so_whole : (b : Bool) (x : RetroMove) → b ≡ true → Contains (if_so b x) x
if_so_whole b x e = cond_whole b (x ∷ []) x e (head_in x [])

-- ---- every way in the list can undo the last move
either : {P : Type 0} (xs ys : List RetroMove) (u : RetroMove) → Contains (xs ++ ys) u → (Contains xs u → P) → (Contains ys u → P) → P
either xs ys u h first second = elim (Contains-append_cases xs ys u h) [ inl a ↦ first a | inr b ↦ second b ]

-- a step of the kind between these squares, with a catch or without
pub record IsStep (t : Setup) (kind : Kind) (from to : ℕ) (u : RetroMove) : Type 0 where
  pub caught : Option Kind
  pub is : Unstep kind from to caught ≡ u
  pub can : CanUnstep t kind from to caught

-- the way ends on the square
abbrev pub EndsOn : Setup → ℕ → RetroMove → Type 0
EndsOn t to u = CanUndo t u × (ends_on u ≡ to)

module _ (t : Setup) where
  uncatch_sound : (kind : Kind) (from to : ℕ) (caught : Kind) (u : RetroMove) → CanUnstep t kind from to None → Contains (uncatch t kind from to caught) u
      → IsStep t kind from to u
  uncatch_sound kind from to caught u step h =
      let found = if_so_sound (holds_caught t.hands.mover caught) (Unstep kind from to (Some caught)) u h in
      let back = holds-true t.hands.mover caught (kind_in_hand caught) refl found.0 in
      record {
        caught = Some caught;
        is = found.1;
        can = record { stands = step.stands; on_board = step.on_board; empty = step.empty; leads = step.leads; in_hand = back };
      }

  between_sound : (kind : Kind) (from to : ℕ) (u : RetroMove) → CanUnstep t kind from to None → Contains (unsteps_between t kind from to) u
      → IsStep t kind from to u
  between_sound kind from to u step h = elim (cons_cases _ _ u h) [
    | inl e ↦ record { caught = None; is = e; can = step }
    | inr rest ↦
        let some = λ (caught : Kind) (there : Contains (uncatch t kind from to caught) u). uncatch_sound kind from to caught u step there in
        either _ _ u rest (some Giraffe) (λ rest. either _ _ u rest (some Elephant) (λ rest. either _ _ u rest (some Chick) (some Hen)))
  ]

  pub from_sound : (kind : Kind) (from to : ℕ) (u : RetroMove) → at t to ≡ Some (piece_of Mover (arrives_at kind to)) → from < 12
      → Contains (unsteps_from t kind to from) u → IsStep t kind from to u
  unfolding unsteps_from
  from_sound kind from to u here low h =
      let found = cond_sound _ _ u h in
      let parts = and_parts (not (is_some (at t from))) (leads kind from to) found.0 in
      between_sound kind from to u (record { stands = here; on_board = low; empty = empty-true (at t from) parts.0; leads = parts.1; in_hand = tt }) found.1

  unsteps_sound : (kind : Kind) (to : ℕ) (u : RetroMove) → Contains (unsteps t kind to) u → EndsOn t to u
  unfolding unsteps
  unsteps_sound kind to u h =
      let found = cond_sound _ _ u h in
      let w = each_sound (unsteps_from t kind to) 12 u found.1 in
      let step = from_sound kind w.0 to u (stands-true (at t to) (arrives_at kind to) found.0) w.1 w.2 in
      subst (EndsOn t to) step.is (step.can, refl)

  unputs_sound : (kind : HandKind) (to : ℕ) (u : RetroMove) → Contains (unputs t kind to) u → EndsOn t to u
  unfolding unputs
  unputs_sound kind to u h =
      let found = if_so_sound (stands (at t to) (kind_on_board kind)) (Unput kind to) u h in
      subst (EndsOn t to) found.1 (stands-true (at t to) (kind_on_board kind) found.0, refl)

  pub at_sound : (to : ℕ) (u : RetroMove) → Contains (undoes_at t to) u → EndsOn t to u
  unfolding undoes_at
  at_sound to u h =
      let step = λ (kind : Kind) (there : Contains (unsteps t kind to) u). unsteps_sound kind to u there in
      let put = λ (kind : HandKind) (there : Contains (unputs t kind to) u). unputs_sound kind to u there in
      either _ _ u h (step Lion)
      (λ rest. either _ _ u rest (step Giraffe)
      (λ rest. either _ _ u rest (step Elephant)
      (λ rest. either _ _ u rest (step Chick)
      (λ rest. either _ _ u rest (step Hen)
      (λ rest. either _ _ u rest (put hand.Chick)
      (λ rest. either _ _ u rest (put hand.Elephant) (put hand.Giraffe)))))))

  pub undoes_sound : (u : RetroMove) → Contains (undoes t) u → CanUndo t u
  unfolding undoes
  undoes_sound u h = let w = each_sound (undoes_at t) 12 u h in (at_sound w.0 u w.2).0

  -- ---- every way that can undo the last move is in the list

  uncatch_whole : (kind : Kind) (from to : ℕ) (caught : Kind) → CanGiveBack t.hands.mover (Some caught)
      → Contains (uncatch t kind from to caught) (Unstep kind from to (Some caught))
  uncatch_whole kind from to caught g = if_so_whole (holds_caught t.hands.mover caught) (Unstep kind from to (Some caught)) (holds-from t.hands.mover caught g)

  between_whole : (kind : Kind) (from to : ℕ) (caught : Option Kind) → CanGiveBack t.hands.mover caught
      → Contains (unsteps_between t kind from to) (Unstep kind from to caught)
  between_whole kind from to None g = head_in _ _
  between_whole kind from to (Some caught) g = rest_in _ _ _ (by_caught caught g (uncatch_whole kind from to caught g)) where
    by_caught : (caught : Kind) → CanGiveBack t.hands.mover (Some caught) → Contains (uncatch t kind from to caught) (Unstep kind from to (Some caught))
        → Contains (uncatch t kind from to Giraffe ++ (uncatch t kind from to Elephant ++ (uncatch t kind from to Chick ++ uncatch t kind from to Hen)))
        (Unstep kind from to (Some caught))
    by_caught Lion back i = absurd (no_lion_back t.hands.mover back)
    by_caught _ back i = search (Contains-append_left, Contains-append_right)

  from_whole : (kind : Kind) (from to : ℕ) (caught : Option Kind) → CanUnstep t kind from to caught
      → Contains (unsteps_from t kind to from) (Unstep kind from to caught)
  unfolding unsteps_from
  from_whole kind from to caught s =
      let test : (not (is_some (at t from)) && leads kind from to) ≡ true = rw s.empty s.leads in
      cond_whole _ _ _ test (between_whole kind from to caught s.in_hand)

  unsteps_whole : (kind : Kind) (from to : ℕ) (caught : Option Kind) → CanUnstep t kind from to caught
      → Contains (unsteps t kind to) (Unstep kind from to caught)
  unfolding unsteps
  unsteps_whole kind from to caught s =
      cond_whole _ _ _ (stands-from (at t to) (arrives_at kind to) s.stands)
      (each_whole (unsteps_from t kind to) 12 from _ s.on_board (from_whole kind from to caught s))

  unputs_whole : (kind : HandKind) (to : ℕ) → CanUndo t (Unput kind to) → Contains (unputs t kind to) (Unput kind to)
  unfolding unputs
  unputs_whole kind to u = if_so_whole (stands (at t to) (kind_on_board kind)) (Unput kind to) (stands-from (at t to) (kind_on_board kind) u)

  step_at_whole : (kind : Kind) (to : ℕ) (u : RetroMove) → Contains (unsteps t kind to) u → Contains (undoes_at t to) u
  unfolding undoes_at
  step_at_whole Lion to u h = search (Contains-append_left, Contains-append_right) depth 9
  step_at_whole _ to u h = search (Contains-append_left, Contains-append_right) depth 9

  put_at_whole : (kind : HandKind) (to : ℕ) (u : RetroMove) → Contains (unputs t kind to) u → Contains (undoes_at t to) u
  unfolding undoes_at
  put_at_whole hand.Chick to u h = search (Contains-append_left, Contains-append_right) depth 9
  put_at_whole _ to u h = search (Contains-append_left, Contains-append_right) depth 9

  pub undoes_whole : (u : RetroMove) → length t.board ≡ 12 → CanUndo t u → Contains (undoes t) u
  unfolding undoes
  undoes_whole (Unstep kind from to caught) twelve s =
      each_whole (undoes_at t) 12 to _ (leads-to_board kind from to s.leads) (step_at_whole kind to _ (unsteps_whole kind from to caught s))
  undoes_whole (Unput kind to) twelve u =
      each_whole (undoes_at t) 12 to _ (rw twelve at (within-from_piece t to _ u)) (put_at_whole kind to _ (unputs_whole kind to u))
