-- The lists of steps and of drops have exactly the moves of the rules, in the move order.
use Rattle.dob_moves.proofs.Common.{◌*◌, ◌++◌, ◌+◌, ◌<◌, ◌∙◌, ◌≡◌, Bool, Contains, List, None, Option, Some, ap, arith, cond, false, inl, inr, length}
use Rattle.dob_moves.proofs.Common.{option_to_list, refl, subst, suc, sym, true, ℕ, lt-ltb, ltb-true, Contains-append_cases, Contains-append_left}
use Rattle.dob_moves.proofs.Common.{Contains-append_right, is_some, leads-to_board, within-from_piece, Rising, cond_sound, cond_whole, each_sound, each_whole}
use Rattle.dob_moves.proofs.Common.{none_in_empty, rising-append, rising-cond, rising-each, rising-lower, each_below, own_kind, kind_in_hand, leads, Cell, at}
use Rattle.dob_moves.proofs.Common.{held, piece_of, HandKind, Kind, Chick, Elephant, Giraffe, Hen, Lion, Side, Enemy, Mover, Profile, A, Setup, CanGo}
use Rattle.dob_moves.proofs.Common.{CatchesLion, first_drop, grows_at, hand_place, may_go, may_put, place, IsFirstCatch, all_drops, all_steps, drops_of, first}
use Rattle.dob_moves.proofs.Common.{may_end, put_if, put_on, step_onto, steps_by, steps_from, steps_if, Aim, AtLion, Elsewhere, Move, Put, Step}
use Rattle.std.proofs.Common.{rules}
use Rattle.dob_pieces.specs.declared.kind.HandKind.TheVariants as hand
use Rattle.dob_pieces.proofs.OwnKinds.{own_cell}
use Rattle.dob_moves.proofs.ByProfile.{goes, may, can_go_in}
use Rattle.dob_moves.proofs.Outcomes.{Met, HasOutcome-parts}
use Rattle.dob_moves.proofs.Runs.{cond_some, rising-below, option_sound, option_whole, rising-option, first_none, first_some, first_least}
use Rattle.dob_moves.proofs.Tables.{step_to, steps_by-squares}
use Rattle.dob_moves.specs.Walks.{may_take}

-- ---- one step

-- a step that the kind makes from its square
pub record IsStep (p : Setup) (kind : Kind) (from to : ℕ) : Type 0 where
  pub own : at p from ≡ Some (piece_of Mover kind)
  pub leads : leads kind from to ≡ true

-- what a step is, by where it is to end
abbrev pub Meets : Aim → Setup → Move → Type 0
Meets AtLion p move = CatchesLion p move
Meets Elsewhere p move = CanGo A p move

go_step : (p : Setup) (kind : Kind) (from to : ℕ) (catch : Bool) → IsStep p kind from to → Met p to catch
    → CanGo A p (Step kind from to catch (grows_at kind to))
go_step p kind from to catch s met = (
  _,
  HasOutcome-parts p kind from to _ catch (grows_at kind to)
      (record { grows_is = refl; met = met; steps = record { own = s.own; leads = s.leads; outcome = refl } }),
)

pub step_sound : (aim : Aim) (p : Setup) (kind : Kind) (from to : ℕ) (cell : Cell) (m : Move) → IsStep p kind from to
    → at p to ≡ cell → step_onto aim cell kind from to ≡ Some m → Meets aim p m
step_sound aim p kind from to cell m s here e =
    let on = cond_some (may_end aim cell) (Some (Step kind from to (is_some cell) (grows_at kind to))) m e in
    let same : Step kind from to (is_some cell) (grows_at kind to) ≡ m = cc on.1 in
    subst (λ (x : Move). Meets aim p x) same (meets aim cell here on.0)
  where
    taken : (aim : Aim) (side : Side) (stands : Kind) → at p to ≡ Some (piece_of side stands) → may_take aim side stands ≡ true
        → Meets aim p (Step kind from to true (grows_at kind to))
    taken AtLion Enemy Lion there may = (s.own, s.leads, there, refl)
    taken Elsewhere Enemy Giraffe there may = go_step p kind from to true s (hand.Giraffe, (Giraffe, there, refl))
    taken Elsewhere Enemy Elephant there may = go_step p kind from to true s (hand.Elephant, (Elephant, there, refl))
    taken Elsewhere Enemy Chick there may = go_step p kind from to true s (hand.Chick, (Chick, there, refl))
    taken Elsewhere Enemy Hen there may = go_step p kind from to true s (hand.Chick, (Hen, there, refl))
    taken _ _ _ there may = cc

    meets : (aim : Aim) (cell : Cell) → at p to ≡ cell → may_end aim cell ≡ true → Meets aim p (Step kind from to (is_some cell) (grows_at kind to))
    meets AtLion None there may = cc
    meets Elsewhere None there may = go_step p kind from to false s there
    meets aim (Some piece) there may = taken aim piece.side piece.kind there may

-- its place
pub step_place : (aim : Aim) (kind : Kind) (from to : ℕ) (cell : Cell) (m : Move) → step_onto aim cell kind from to ≡ Some m → place m ≡ 12 * from + to
step_place aim kind from to cell m e = grind (arith, cond_some)

-- the same of the step of a piece that stands there
pub step_to_is : (aim : Aim) (p : Setup) (kind : Kind) (from to : ℕ) (m : Move) → at p from ≡ Some (piece_of Mover kind)
    → step_to aim p kind from to ≡ Some m → Meets aim p m × (place m ≡ 12 * from + to)
step_to_is aim p kind from to m own e =
    let on = cond_some (leads kind from to) (step_onto aim (at p to) kind from to) m e in
    (step_sound aim p kind from to (at p to) m (record { own = own; leads = on.0 }) refl on.1, step_place aim kind from to (at p to) m on.1)

-- each step of the rules is found
catch_found : (p : Setup) (caught kind : Kind) (taken : HandKind) (from to : ℕ) (grows : Bool) → at p to ≡ Some (piece_of Enemy caught)
    → kind_in_hand caught ≡ Some taken → grows_at kind to ≡ grows → step_onto Elsewhere (at p to) kind from to ≡ Some (Step kind from to true grows)
catch_found p Lion kind taken from to grows e t g = cc
catch_found p _ kind taken from to grows e t g = rw (e, g) refl

met_found : (p : Setup) (kind : Kind) (from to : ℕ) (catch grows : Bool) → Met p to catch → grows_at kind to ≡ grows
    → step_onto Elsewhere (at p to) kind from to ≡ Some (Step kind from to catch grows)
met_found p kind from to false grows free g = rw (free, g) refl
met_found p kind from to true grows t g = catch_found p t.1.0 kind t.0 from to grows t.1.1 t.1.2 g

-- a step that is found, and where it starts
pub record IsFound (aim : Aim) (p : Setup) (kind : Kind) (from to : ℕ) (m : Move) : Type 0 where
  pub step : IsStep p kind from to
  pub found : step_onto aim (at p to) kind from to ≡ Some m

pub go_found : (p : Setup) (kind : Kind) (from to : ℕ) (catch grows : Bool) → CanGo A p (Step kind from to catch grows)
    → IsFound Elsewhere p kind from to (Step kind from to catch grows)
go_found p kind from to catch grows can = grind (arith, met_found)

pub lion_found : (p : Setup) (kind : Kind) (from to : ℕ) (catch grows : Bool) → CatchesLion p (Step kind from to catch grows)
    → IsFound AtLion p kind from to (Step kind from to catch grows)
lion_found p kind from to false grows h = absurd h
lion_found p kind from to true grows h = record { step = record { own = h.0; leads = h.1 }; found = rw (h.2, h.3) refl }

-- ---- the steps of a piece
steps_by_sound : (aim : Aim) (p : Setup) (kind : Kind) (from : ℕ) (m : Move) → from < 12 → at p from ≡ Some (piece_of Mover kind)
    → Contains (steps_by aim p kind from) m → Meets aim p m
steps_by_sound aim p kind from m lt own h =
    let g : ℕ → List Move = λ to. option_to_list (step_to aim p kind from to) in
    let w = each_sound g 12 m (subst (λ (ms : List Move). Contains ms m) (steps_by-squares aim p kind from lt) h) in
    (step_to_is aim p kind from w.0 m own (option_sound _ m w.2)).0

steps_by_rising : (aim : Aim) (p : Setup) (kind : Kind) (from : ℕ) → from < 12 → Rising place (12 * from) (12 * suc from) (steps_by aim p kind from)
steps_by_rising aim p kind from lt =
    let g : ℕ → List Move = λ to. option_to_list (step_to aim p kind from to) in
    let one : (to : ℕ) → to < 12 → Rising place (12 * from + to) (12 * from + suc to) (g to) = λ to h.
    rising-option (12 * from + to) (12 * from + suc to) (step_to aim p kind from to) (omega arith)
    (λ m e. step_place aim kind from to (at p to) m (cond_some (leads kind from to) (step_onto aim (at p to) kind from to) m e).1) in
    let low : 12 * from ≡ 12 * from + 0 = omega arith in
    let high : 12 * suc from ≡ 12 * from + 12 = omega arith in
    rw (low, high, steps_by-squares aim p kind from lt) (rising-each place g (λ to. 12 * from + to) 12 one)

found_in_steps_by : (aim : Aim) (p : Setup) (kind : Kind) (from to : ℕ) (m : Move) → from < 12
    → IsFound aim p kind from to m → Contains (steps_by aim p kind from) m
found_in_steps_by aim p kind from to m lt h =
    let g : ℕ → List Move = λ to. option_to_list (step_to aim p kind from to) in
    let near = leads-to_board kind from to h.step.leads in
    let it : step_to aim p kind from to ≡ Some m = rw h.step.leads h.found in
    subst (λ (ms : List Move). Contains ms m) (sym (steps_by-squares aim p kind from lt))
    (each_whole g 12 to m near (option_whole (step_to aim p kind from to) m it))

-- ---- the steps from each square
steps_from_sound : (aim : Aim) (p : Setup) (from : ℕ) (m : Move) → from < 12 → Contains (steps_from aim p from) m → Meets aim p m
unfolding steps_from
steps_from_sound aim p from m lt h = by_own (own_kind (at p from)) refl h where
  by_own : (o : Option Kind) → own_kind (at p from) ≡ o → Contains (steps_if aim p from o) m → Meets aim p m
  by_own None e h = absurd (none_in_empty m h)
  by_own (Some kind) e h = steps_by_sound aim p kind from m lt (own_cell (at p from) kind e) h

steps_from_rising : (aim : Aim) (p : Setup) (from : ℕ) → from < 12 → Rising place (12 * from) (12 * suc from) (steps_from aim p from)
unfolding steps_from
steps_from_rising aim p from lt = by_own (own_kind (at p from)) where
  by_own : (o : Option Kind) → Rising place (12 * from) (12 * suc from) (steps_if aim p from o)
  by_own None = omega arith
  by_own (Some kind) = steps_by_rising aim p kind from lt

found_in_steps_from : (aim : Aim) (p : Setup) (kind : Kind) (from to : ℕ) (m : Move) → from < 12
    → IsFound aim p kind from to m → Contains (steps_from aim p from) m
unfolding steps_from
found_in_steps_from aim p kind from to m lt h = rw h.step.own (found_in_steps_by aim p kind from to m lt h)

-- ---- all steps
pub steps_sound : (aim : Aim) (p : Setup) (m : Move) → Contains (all_steps aim p) m → Meets aim p m
unfolding all_steps
steps_sound aim p m h =
    let w = each_sound (steps_from aim p) 12 m h in
    steps_from_sound aim p w.0 m w.1 w.2

pub steps_rising : (aim : Aim) (p : Setup) → Rising place 0 first_drop (all_steps aim p)
unfolding all_steps
steps_rising aim p = rising-each place (steps_from aim p) (λ from. 12 * from) 12 (λ from lt. steps_from_rising aim p from lt)

pub found_in_steps : (aim : Aim) (p : Setup) (kind : Kind) (from to : ℕ) (m : Move) → length p.board ≡ 12
    → IsFound aim p kind from to m → Contains (all_steps aim p) m
unfolding all_steps
found_in_steps aim p kind from to m len h =
    let lt : from < 12 = rw len at (within-from_piece p from (piece_of Mover kind) h.step.own) in
    each_whole (steps_from aim p) 12 from m lt (found_in_steps_from aim p kind from to m lt h)

-- ---- drops

-- no profile forbids a step
pub step_may : (profile : Profile) (m : Move) → place m < first_drop → may_go profile m ≡ true
step_may profile (Step kind from to catch grows) low = refl
step_may profile (Put kind to) low = absurd (omega (arith, low))

pub steps_go : (profile : Profile) (p : Setup) (m : Move) → Contains (all_steps Elsewhere p) m → CanGo profile p m
steps_go profile p m h =
    can_go_in profile p m (steps_sound Elsewhere p m h) (step_may profile m (rising-below 0 first_drop (all_steps Elsewhere p) m (steps_rising Elsewhere p) h))

put_if_some : (cell : Cell) (kind : HandKind) (to : ℕ) (m : Move) → put_if cell kind to ≡ Some m → (cell ≡ None) × (Put kind to ≡ m)
put_if_some None kind to m e = (refl, (cc))
put_if_some (Some piece) kind to m e = cc

pub put_sound : (profile : Profile) (p : Setup) (kind : HandKind) (to : ℕ) (m : Move) → to < 12 → 0 < held p.hands.mover kind
    → may_put profile kind to ≡ true → put_if (at p to) kind to ≡ Some m → CanGo profile p m × (place m ≡ first_drop + 12 * hand_place kind + to)
put_sound profile p kind to m lt some may e =
    let on = put_if_some (at p to) kind to m e in
    subst (λ (x : Move). CanGo profile p x × (place x ≡ first_drop + 12 * hand_place kind + to)) on.1
    (can_go_in profile p (Put kind to) (_, record { in_hand = some; on_board = lt; free = on.0; outcome = refl }) may, refl)

put_place : (profile : Profile) (p : Setup) (kind : HandKind) (to : ℕ) (m : Move) → put_on profile p kind to ≡ Some m
    → place m ≡ first_drop + 12 * hand_place kind + to
put_place profile p kind to m e = search (rules, put_if_some, cond_some)

drops_of_sound : (profile : Profile) (p : Setup) (kind : HandKind) (m : Move) → Contains (drops_of profile p kind) m → CanGo profile p m
unfolding drops_of
drops_of_sound profile p kind m h =
    let found = cond_sound _ _ m h in
    let w = each_sound (λ to. option_to_list (put_on profile p kind to)) 12 m found.1 in
    let on = cond_some (may_put profile kind w.0) (put_if (at p w.0) kind w.0) m (option_sound (put_on profile p kind w.0) m w.2) in
    (put_sound profile p kind w.0 m w.1 (ltb-true 0 (held p.hands.mover kind) found.0) on.0 on.1).0

drops_of_rising : (profile : Profile) (p : Setup) (kind : HandKind) → Rising place (first_drop + 12 * hand_place kind) (first_drop + 12 * hand_place kind + 12) (drops_of profile p kind)
unfolding drops_of
drops_of_rising profile p kind =
    let low = first_drop + 12 * hand_place kind in
    let g : ℕ → List Move = λ to. option_to_list (put_on profile p kind to) in
    let one : (to : ℕ) → to < 12 → Rising place (low + to) (low + suc to) (g to) = λ to h.
    rising-option (low + to) (low + suc to) (put_on profile p kind to) (omega arith) (λ m e. put_place profile p kind to m e) in
    rising-cond place _ low (low + 12) (each_below g 12) (omega arith)
    (rising-lower place low (low + 0) (low + 12) _ (omega arith) (rising-each place g (λ to. low + to) 12 one))

drops_of_whole : (profile : Profile) (p : Setup) (kind : HandKind) (to : ℕ) → CanGo profile p (Put kind to) → Contains (drops_of profile p kind) (Put kind to)
unfolding drops_of
drops_of_whole profile p kind to (q, g) =
    let d = goes profile p (Put kind to) q g in
    let here : may_put profile kind to ≡ true = may profile p (Put kind to) q g in
    let it : put_on profile p kind to ≡ Some (Put kind to) =
    ap (λ (b : Bool). cond b (put_if (at p to) kind to) None) here ∙ ap (λ (cell : Cell). put_if cell kind to) d.free in
    cond_whole _ _ _ (lt-ltb 0 (held p.hands.mover kind) d.in_hand)
    (each_whole (λ to. option_to_list (put_on profile p kind to)) 12 to (Put kind to) d.on_board (option_whole (put_on profile p kind to) (Put kind to) it))

pub drops_sound : (profile : Profile) (p : Setup) (m : Move) → Contains (all_drops profile p) m → CanGo profile p m
unfolding all_drops
drops_sound profile p m h =
    elim (Contains-append_cases (drops_of profile p hand.Chick ++ drops_of profile p hand.Elephant) (drops_of profile p hand.Giraffe) m h) [
      | inl two ↦ elim (Contains-append_cases (drops_of profile p hand.Chick) (drops_of profile p hand.Elephant) m two) [
        | inl chick ↦ drops_of_sound profile p hand.Chick m chick
        | inr elephant ↦ drops_of_sound profile p hand.Elephant m elephant
      ]
      | inr giraffe ↦ drops_of_sound profile p hand.Giraffe m giraffe
    ]

pub drops_rising : (profile : Profile) (p : Setup) → Rising place first_drop (first_drop + 36) (all_drops profile p)
unfolding all_drops
drops_rising profile p =
    rising-append place _ _ _ _ _ (rising-append place _ _ _ _ _ (drops_of_rising profile p hand.Chick) (drops_of_rising profile p hand.Elephant))
    (drops_of_rising profile p hand.Giraffe)

pub drops_whole : (profile : Profile) (p : Setup) (kind : HandKind) (to : ℕ) → CanGo profile p (Put kind to) → Contains (all_drops profile p) (Put kind to)
unfolding all_drops
drops_whole profile p hand.Chick to h = search (drops_of_whole, Contains-append_left, Contains-append_right)
drops_whole profile p _ to h = search (drops_of_whole, Contains-append_left, Contains-append_right)

-- ---- what is found says of the position
catch_listed : (p : Setup) → length p.board ≡ 12 → (m : Move) → CatchesLion p m → Contains (all_steps AtLion p) m
catch_listed p len (Step kind from to catch grows) h =
    found_in_steps AtLion p kind from to (Step kind from to catch grows) len (lion_found p kind from to catch grows h)
catch_listed p len (Put kind to) h = absurd h

pub no_catch : (p : Setup) → length p.board ≡ 12 → first (all_steps AtLion p) ≡ None → (m : Move) → CatchesLion p m → ⊥
no_catch p len none m h = first_none (all_steps AtLion p) none m (catch_listed p len m h)

pub is_first_catch : (p : Setup) → length p.board ≡ 12 → (m : Move) → first (all_steps AtLion p) ≡ Some m → IsFirstCatch p m
is_first_catch p len m e = record {
  catches = steps_sound AtLion p m (first_some (all_steps AtLion p) m e);
  first = λ other h. first_least 0 first_drop (all_steps AtLion p) m other (steps_rising AtLion p) e (catch_listed p len other h);
}

pub no_move : (p : Setup) → length p.board ≡ 12 → first (all_steps Elsewhere p) ≡ None → first (all_drops A p) ≡ None → (m : Move) → CanGo A p m → ⊥
no_move p len steps drops (Step kind from to catch grows) h =
    first_none (all_steps Elsewhere p) steps (Step kind from to catch grows)
    (found_in_steps Elsewhere p kind from to (Step kind from to catch grows) len (go_found p kind from to catch grows h))
no_move p len steps drops (Put kind to) h = first_none (all_drops A p) drops (Put kind to) (drops_whole A p kind to h)

pub step_goes : (p : Setup) (m : Move) → first (all_steps Elsewhere p) ≡ Some m → CanGo A p m
step_goes p m e = steps_sound Elsewhere p m (first_some (all_steps Elsewhere p) m e)

pub drop_goes : (p : Setup) (m : Move) → first (all_drops A p) ≡ Some m → CanGo A p m
drop_goes p m e = drops_sound A p m (first_some (all_drops A p) m e)
