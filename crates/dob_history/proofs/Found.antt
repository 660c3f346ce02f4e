-- Each position has one status, and so each family has openings, those of the classes so far and one more, whether they were listed or not; those of an
-- owner's classes are among them.
use Rattle.dob_history.proofs.Common.{◌++◌, ◌+◌, ◌<◌, ◌∙◌, ◌∷◌, ◌≡◌, ◌≤◌, ◌⊎◌, AreMoves, AreMoves-moves_of, AreOpenings, AreOpeningsBelow, AreOwn}
use Rattle.dob_history.proofs.Common.{AreOwnOpenings, AreOwnSoFar, Bool, CanCatch, Caught, Family, HasStatus, HasTried, IsFirstCatch, IsOpening, List}
use Rattle.dob_history.proofs.Common.{MatchOption, Move, None, Open, Opening, Option, Profile, Setup, Some, Status, Stuck, Tried, [], ap, arith, at_end}
use Rattle.dob_history.proofs.Common.{class_of_place, class_setup, classes_of, false, has_tried, head_in, inl, inr, length, length-append, moves_of}
use Rattle.dob_history.proofs.Common.{none_in_empty, not_tried_at, one_status, opening_of, refl, slice_get_within, subst, suc, sym, tried_at, true, zero, ℕ}
use Rattle.dob_moves.proofs.FewMoves.{moves_few}
use Rattle.dob_moves.proofs.Verdicts.{catch_answer}
use Rattle.dob_moves.specs.Laws.{most_moves}
use Rattle.dob_pieces.specs.Setups.{IsLegal}
use Rattle.dob_history.proofs.Opens.{legal_class, opening_listed, twelve_squares}
use Rattle.std.proofs.Math.Bridge.{le_prop}

-- ---- the status of a position

-- where the game isn't over, by the list of the moves
going_on : (profile : Profile) (p : Setup) → ¬ CanCatch p → ¬ HasTried p → (moves : List Move) → AreMoves profile p moves → (s : Status) × HasStatus profile p s
going_on profile p no_catch no_try [] are = (Stuck, (no_catch, no_try, λ m goes. none_in_empty m (are.whole m (no_catch, no_try, (m, goes)) goes)))
going_on profile p no_catch no_try (m ∷ moves) are = (Open, (are.sound m (head_in m moves)).0)

by_catch : (p : Setup) (found : Option Move) → MatchOption found (¬ CanCatch p) (λ m. IsFirstCatch p m) → CanCatch p ⊎ (¬ CanCatch p)
by_catch p None none = inr none
by_catch p (Some m) is = inl (m, is.catches)

by_tests : (profile : Profile) (p : Setup) → length p.board ≡ 12 → CanCatch p ⊎ (¬ CanCatch p) → (tried : Bool) → has_tried p ≡ tried → (s : Status) × HasStatus profile p s
by_tests profile p twelve (inl catch) tried h = (Caught, catch)
by_tests profile p twelve (inr none) true h = (Tried, (none, tried_at p _ _ _ refl refl refl h))
by_tests profile p twelve (inr none) false h =
    going_on profile p none (λ try. not_tried_at p _ _ _ refl refl refl h try.0 try.1 try.2) (moves_of profile p) (AreMoves-moves_of profile p twelve)

pub has_status : (profile : Profile) (p : Setup) → length p.board ≡ 12 → (s : Status) × HasStatus profile p s
has_status profile p twelve = by_tests profile p twelve (by_catch p _ (catch_answer p _ twelve refl)) (has_tried p) refl

-- ---- the openings of a family

-- the opening of one more class
pub openings_more : (family : Family) (upto : ℕ) (openings : List Opening) (given : Opening) → AreOpeningsBelow family upto openings →
    IsOpening family.profile (class_setup family upto) given → AreOpeningsBelow family (upto + 1) (openings ++ given ∷ [])
openings_more family upto openings given before is = record {
  whole = length-append openings (given ∷ []) ∙ ap (λ n. n + 1) before.whole;
  each = λ class other there. elim (at_end openings given other class there) [
    | inl earlier ↦ before.each class other earlier
    | inr last ↦ rw (← last.1, last.0, before.whole) is
  ];
}

pub openings_none : (family : Family) → AreOpeningsBelow family 0 []
openings_none family = record {
  whole = refl;
  each = λ class given there. let none : class < 0 = slice_get_within [] class given there in absurd (omega arith);
}

abbrev opening_with : (status : Status) (moves : ℕ) → moves ≤ most_moves → Opening
opening_with status moves few = record { status = status; moves = moves; few = few }

-- a class has a status and moves
an_opening : (profile : Profile) (p : Setup) → IsLegal p → (s : Status) × HasStatus profile p s → (given : Opening) × IsOpening profile p given
an_opening profile p legal has = (opening_with has.0 (length (moves_of profile p)) (moves_few profile p legal), record { status = has.1; moves = refl })

openings_below : (family : Family) (upto : ℕ) → upto ≤ classes_of family → (openings : List Opening) × AreOpeningsBelow family upto openings
openings_below family zero within = ([], record { whole = refl; each = λ k given at. absurd (cc) })
openings_below family (suc class) within =
    let before = openings_below family class (omega (arith, within)) in
    let more = an_opening family.profile (class_setup family class) (legal_class family class (omega (arith, within))) (has_status family.profile (class_setup family class) (twelve_squares family class (omega (arith, within)))) in
    let one_more : class + 1 ≡ suc class = omega arith in
    (before.0 ++ more.0 ∷ [], subst (λ (k : ℕ). AreOpeningsBelow family k (before.0 ++ more.0 ∷ [])) one_more (openings_more family class before.0 more.0 before.1 more.1))

pub some_openings : (family : Family) → (openings : List Opening) × AreOpenings family openings
some_openings family = openings_below family (classes_of family) (omega arith)

-- ---- those of an owner's classes

-- a position has one
one_opening : (profile : Profile) (p : Setup) (one other : Opening) → IsOpening profile p one → IsOpening profile p other → one ≡ other
one_opening profile p one other is is_other =
    ap (λ (status : Status). opening_with status one.moves one.few) (one_status profile p one.status other.status is.status is_other.status)
    ∙ subst (λ (moves : ℕ). (few : moves ≤ most_moves) → opening_with other.status one.moves one.few ≡ opening_with other.status moves few) (is.moves ∙ sym is_other.moves)
    (λ few. ap (opening_with other.status one.moves) (le_prop one.few few)) other.few

pub own_are : (family : Family) (openings own : List Opening) (n id : ℕ) → AreOpenings family openings → AreOwnOpenings family n id own → AreOwn openings n id own
own_are family openings own n id all are = record {
  places = λ place. rw all.whole (are.places place);
  each = λ place low.
      let class : ℕ = class_of_place n id place in
      let inside : class < length openings = rw all.whole ((are.places place).0 low) in
      one_opening family.profile (class_setup family class) (opening_of own place) (opening_of openings class)
      (are.each place (opening_of own place) (opening_listed own place low))
      (all.each class (opening_of openings class) (opening_listed openings class inside));
}

pub own_none : (family : Family) (n id : ℕ) → AreOwnSoFar family n id []
own_none family n id place given there = let none : place < 0 = slice_get_within [] place given there in absurd (omega arith)

pub own_more : (family : Family) (n id : ℕ) (own : List Opening) (given : Opening) → AreOwnSoFar family n id own →
    IsOpening family.profile (class_setup family (class_of_place n id (length own))) given → AreOwnSoFar family n id (own ++ given ∷ [])
own_more family n id own given before is place other there = elim (at_end own given other place there) [
  | inl earlier ↦ before place other earlier
  | inr last ↦ rw (← last.1, last.0) is
]
