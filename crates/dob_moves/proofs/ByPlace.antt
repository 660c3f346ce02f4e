-- What is looked for at a place of the move order is the move there.
use Rattle.dob_moves.proofs.Common.{◌∙◌, ◌&&◌, ◌*◌, ◌+◌, ◌<◌, ◌≡◌, ◌≤◌, Bool, MatchOption, None, Option, Some, arith, length, nat_lt, refl, sym, ℕ, and_parts}
use Rattle.dob_moves.proofs.Common.{ltb-true, leads-to_board, within-from_piece, at, held, HandKind, Kind, Profile, Setup, CanGo, first_drop, hand_place}
use Rattle.dob_moves.proofs.Common.{may_put, place, put_if, Aim, AtLion, Elsewhere, Move, Put, Step}
use Rattle.dob_pieces.specs.declared.kind.HandKind.TheVariants as hand
use Rattle.dob_moves.specs.AtPlaces.{step_between, drop_on}
use Rattle.dob_pieces.proofs.OwnKinds.{own_cell}
use Rattle.dob_moves.proofs.ByProfile.{goes, can_go, can_go_in}
use Rattle.dob_moves.proofs.Reach.{step_to_is, put_sound, IsFound, Meets, go_found, lion_found, step_may}
use Rattle.dob_moves.proofs.Runs.{cond_some}
use Rattle.std.proofs.Common.{rules}

-- what was looked for at that place of the move order is such a move, or there is none
abbrev pub IsFoundAt : (Move → Type 0) → Option Move → ℕ → Type 0
IsFoundAt P o there = MatchOption o ((m : Move) → P m → place m ≡ there → ⊥) (λ m. P m × (place m ≡ there))

-- the same as one fact of a move
pub as_pairs : (P : Move → Type 0) (there : ℕ) (o : Option Move) → IsFoundAt P o there
    → MatchOption o ((m : Move) → ¬ (P m × (place m ≡ there))) (λ m. P m × (place m ≡ there))
as_pairs P there None none = λ m h. none m h.0 h.1
as_pairs P there (Some m) is = is

-- ---- steps

-- what is found is such a step, and stands there
step_is : (aim : Aim) (p : Setup) (from to : ℕ) (m : Move) → step_between aim p from to ≡ Some m → Meets aim p m × (place m ≡ 12 * from + to)
step_is aim p from to m e = search (rules, step_to_is, own_cell)

-- each such step is found at its place
pub found_there : (aim : Aim) (p : Setup) (kind : Kind) (from to : ℕ) (m : Move) → IsFound aim p kind from to m → step_between aim p from to ≡ Some m
found_there aim p kind from to m h = rw (h.step.own, h.step.leads) h.found

one_place : (f t from to : ℕ) → t < 12 → to < 12 → 12 * f + t ≡ 12 * from + to → f ≡ from
one_place f t from to low high e = omega (arith, low, high, e)

step_meets : (aim : Aim) (p : Setup) (kind : Kind) (f t : ℕ) (catch grows : Bool) → Meets aim p (Step kind f t catch grows)
    → IsFound aim p kind f t (Step kind f t catch grows)
step_meets AtLion p kind f t catch grows h = lion_found p kind f t catch grows h
step_meets Elsewhere p kind f t catch grows h = go_found p kind f t catch grows h

put_after : (aim : Aim) (p : Setup) (kind : HandKind) (t from to : ℕ) → from < 12 → to < 12 → first_drop + 12 * hand_place kind + t ≡ 12 * from + to → ⊥
put_after aim p kind t from to low high e = omega (arith, low, high, e)

step_there : (aim : Aim) (p : Setup) (from to : ℕ) (m : Move) → from < 12 → to < 12 → Meets aim p m → place m ≡ 12 * from + to
    → step_between aim p from to ≡ Some m
step_there aim p from to (Step kind f t catch grows) low high h e =
    let found = step_meets aim p kind f t catch grows h in
    let near = leads-to_board kind f t found.step.leads in
    let is : f ≡ from = one_place f t from to near high e in
    let also : t ≡ to = omega (arith, is, e) in
    sym (λ i. step_between aim p (is i) (also i)) ∙ found_there aim p kind f t (Step kind f t catch grows) found
step_there aim p from to (Put kind t) low high h e = absurd (put_after aim p kind t from to low high e)

-- a step that is aimed so, or there is none
pub step_answer : (aim : Aim) (p : Setup) (from to : ℕ) (o : Option Move) → from < 12 → to < 12 → o ≡ step_between aim p from to
    → IsFoundAt (Meets aim p) o (12 * from + to)
step_answer aim p from to None low high e = λ m h there. let found = step_there aim p from to m low high h there in cc
step_answer aim p from to (Some m) low high e = step_is aim p from to m (sym e)

-- no profile forbids a step
pub step_goes : (profile : Profile) (p : Setup) (from to : ℕ) (o : Option Move) → from < 12 → to < 12 → o ≡ step_between Elsewhere p from to
    → IsFoundAt (CanGo profile p) o (12 * from + to)
step_goes profile p from to None low high e =
    let none = step_answer Elsewhere p from to None low high e in
    λ m can there. none m (can_go profile p m can) there
step_goes profile p from to (Some m) low high e =
    let is = step_answer Elsewhere p from to (Some m) low high e in
    (can_go_in profile p m is.0 (step_may profile m (omega (arith, is.1, low, high))), is.1)

-- ---- drops
drop_is : (profile : Profile) (p : Setup) (kind : HandKind) (to : ℕ) (m : Move) → to < 12 → drop_on profile p kind to ≡ Some m
    → CanGo profile p m × (place m ≡ first_drop + 12 * hand_place kind + to)
drop_is profile p kind to m lt e =
    let on = cond_some (nat_lt 0 (held p.hands.mover kind) && may_put profile kind to) (put_if (at p to) kind to) m e in
    let parts = and_parts (nat_lt 0 (held p.hands.mover kind)) (may_put profile kind to) on.0 in
    put_sound profile p kind to m lt (ltb-true 0 (held p.hands.mover kind) parts.0) parts.1 on.1

drop_found : (profile : Profile) (p : Setup) (kind : HandKind) (to : ℕ) → CanGo profile p (Put kind to) → drop_on profile p kind to ≡ Some (Put kind to)
drop_found profile p kind to (q, g) = grind arith

drop_square : (profile : Profile) (p : Setup) (kind : HandKind) (to : ℕ) → CanGo profile p (Put kind to) → to < 12
drop_square profile p kind to (q, g) = (goes profile p (Put kind to) q g).on_board

pub one_kind : (a b : HandKind) → hand_place a ≡ hand_place b → a ≡ b
one_kind hand.Chick hand.Chick e = refl
one_kind hand.Elephant hand.Elephant e = refl
one_kind hand.Giraffe hand.Giraffe e = refl
one_kind _ _ e = absurd (omega (arith, e))

-- a step's place is before those of drops
pub step_before : (profile : Profile) (p : Setup) (kind : Kind) (from to : ℕ) (catch grows : Bool) → length p.board ≡ 12 → CanGo profile p (Step kind from to catch grows)
    → 12 * from + to < first_drop
step_before profile p kind from to catch grows len can = grind (arith, go_found, within-from_piece, leads-to_board)

drop_there : (profile : Profile) (p : Setup) (kind : HandKind) (to : ℕ) (m : Move) → length p.board ≡ 12 → to < 12 → CanGo profile p m
    → place m ≡ first_drop + 12 * hand_place kind + to → drop_on profile p kind to ≡ Some m
drop_there profile p kind to (Step k f t catch grows) len lt can e =
    absurd (omega (arith, step_before profile p k f t catch grows len can, e))
drop_there profile p kind to (Put k t) len lt can e =
    let near = drop_square profile p k t can in
    let number : hand_place k ≡ hand_place kind = omega (arith, near, lt, e) in
    let is : k ≡ kind = one_kind k kind number in
    let also : t ≡ to = omega (arith, number, e) in
    sym (λ i. drop_on profile p (is i) (also i)) ∙ drop_found profile p k t can

-- a drop, or there is none at that place
pub drop_goes : (profile : Profile) (p : Setup) (kind : HandKind) (to : ℕ) (o : Option Move) → length p.board ≡ 12 → to < 12 → o ≡ drop_on profile p kind to
    → IsFoundAt (CanGo profile p) o (first_drop + 12 * hand_place kind + to)
drop_goes profile p kind to None len lt e = λ m can there. let found = drop_there profile p kind to m len lt can there in cc
drop_goes profile p kind to (Some m) len lt e = drop_is profile p kind to m lt (sym e)

-- no move stands behind the drops
few_kinds : (kind : HandKind) → hand_place kind ≤ 2
few_kinds hand.Chick = omega arith
few_kinds _ = omega arith

pub none_after : (profile : Profile) (p : Setup) (there : ℕ) → length p.board ≡ 12 → first_drop + 36 ≤ there → (m : Move) → CanGo profile p m → place m ≡ there → ⊥
none_after profile p there len far (Step k f t catch grows) can e =
    omega (arith, step_before profile p k f t catch grows len can, far, e)
none_after profile p there len far (Put k t) can e =
    omega (arith, drop_square profile p k t can, few_kinds k, far, e)
