-- Ways that lead back to no open position: where a piece attacked the enemy lion before, or the mover's lion stood on row 4. Before each of the others it stood
-- off that row.
use Rattle.dob_unmove.proofs.Common.{rules, if◌then◌else◌, ◌&&◌, ◌<◌, ◌||◌, ◌∙◌, ◌∷◌, ◌≡◌, ◌≢◌, ◌≤◌, ◌⊎◌, Bool, List, None, Option, Some, [], ap, arith, false}
use Rattle.dob_unmove.proofs.Common.{inl, inr, not, cases_eq, one_lion, side_of, HasLions, HasLionHome, HasLionOffFarRow, TellsHome, enemy_cell, refl, subst}
use Rattle.dob_unmove.proofs.Common.{sym, true, true≢false, ℕ, and_parts, cases_Bool, not-true, lion_mask, passes_somewhere, is_empty, is_own, is_piece}
use Rattle.dob_unmove.proofs.Common.{kind_of, leads, Cell, IsLegal, at, piece_of, Kind, Chick, Elephant, Giraffe, Hen, Lion, Enemy, Mover, Family, Setup}
use Rattle.dob_unmove.proofs.Common.{IsSeenTurned, CanWalk, HasStatus, IsPositionOf, Open, A, TakesAll, elsewhere, stood_before, CanUndo, CanUnstep, arrives_at, earlier, stands, uncatch}
use Rattle.dob_unmove.proofs.Common.{undoes_at, unsteps_between, unsteps_from, comes_home, is_home, may_come, may_have_ended, Threat, RetroMove, Unput, Unstep, setup_after}
use Rattle.std.proofs.lemmas.Bool.Decides.{nat_tests}
use Rattle.std.proofs.lemmas.Bool.{and_cases, not-false, or_cases, or_parts}
use Rattle.dob_unmove.specs.declared.predecessors.RetroMoves.{RetroMoves}
use Rattle.dob_unmove.proofs.Undone.{leaves, ends_on, came, given, IsBefore, turned_squares, turned_lions}
use Rattle.dob_unmove.proofs.Kept.{legal_turned}
use Rattle.dob_unmove.proofs.Images.{adds_none}
use Rattle.dob_unmove.proofs.Runs.{takes_append}
use Rattle.dob_unmove.specs.Ends.{Takes}
use Rattle.dob_unmove.proofs.Listed.{at_sound, from_sound, stands-true, free_step}
use Rattle.dob_unmove.proofs.Threats.{stood_by, was_not_open, changed, stays}
use Rattle.dob_unmove.proofs.WayMasks.{lion_passes}
use Rattle.dob_unmove.proofs.Gathered.{IsDead, AreDead}

abbrev own_lion : Cell
own_lion = Some (piece_of Mover Lion)

off_far_row : (square : ℕ) → 9 ≤ square → is_home square ≡ true → ⊥
off_far_row square far home = grind arith

on_far_row : (square : ℕ) → is_home square ≡ false → 9 ≤ square
on_far_row square away = grind (arith, nat_tests)

no_enemy : (caught : Option Kind) → enemy_cell caught ≢ own_lion
no_enemy None e = cc
no_enemy (Some kind) e = let sides : Enemy ≡ Mover = ap side_of e in cc

-- a step may come from there
abbrev pub MayCome : Setup → ℕ → RetroMove → Type 0
MayCome after lion (Unstep kind from to caught) = may_come after lion kind to from ≡ true
MayCome after lion (Unput kind to) = Unit {0}

-- then the lion comes from a home
from_home : (after : Setup) (lion : ℕ) (u : RetroMove) → MayCome after lion u → came u ≡ own_lion → is_home (leaves u) ≡ true
from_home after lion (Unstep kind from to caught) may e =
    let same : kind ≡ Lion = ap kind_of e in
    ap (λ (k : Kind). comes_home k from) (sym same) ∙ (and_parts _ (comes_home kind from) may).1
from_home after lion (Unput kind to) may e = cc

-- the lion alone comes from a home
not_home : (kind : Kind) (s : ℕ) → comes_home kind s ≡ false → (kind ≡ Lion) × (is_home s ≡ false)
not_home Lion s e = (refl, e)
not_home _ s e = cc

-- a piece that attacked before
stood_either : (b c : Bool) → (b ≡ true) ⊎ (c ≡ true) → (if b then true else c) ≡ true
stood_either true c is = refl
stood_either false c (inl is) = cc
stood_either false c (inr is) = is

module _ (walk : RetroMoves) (w : CanWalk walk) where
  abbrev family : Family
  family = walk.classes.now.family

  abbrev after : Setup
  after = setup_after walk

  abbrev threat : Threat
  threat = walk.ways.now.threat

  abbrev legal : IsSeenTurned IsLegal after
  legal = legal_turned family after w.of_set

  abbrev Dead : RetroMove → Type 0
  Dead u = IsDead (Takes walk) u

  absent_dead : (u : RetroMove) → (IsPositionOf family (earlier after u) → ¬ HasStatus A (earlier after u) Open) → Dead u
  absent_dead u absent xs = adds_none family (earlier after u) absent walk.is_own_image xs

  module _ (u : RetroMove) (can : CanUndo after u) where
    abbrev both : IsBefore after u
    both = changed after threat legal w.ways_are.threat_is u can

    -- before a way that is gone through the lion moved from a home, or it stands on one
    pub home_before : HasLionHome after (ends_on u) → MayCome after threat.lion u → HasLionOffFarRow (earlier after u)
    home_before home may square far there = elim (cases_eq square (leaves u)) [
      | inl same ↦
          off_far_row square far
          (ap is_home same ∙ from_home after threat.lion u may (sym both.from_before ∙ ap (at (earlier after u)) (sym same) ∙ there))
      | inr away ↦ elim (cases_eq square (ends_on u)) [
        | inl same ↦ no_enemy (given u) (sym both.to_before ∙ ap (at (earlier after u)) (sym same) ∙ there)
        | inr apart ↦ elim (home square (sym (both.others square away apart) ∙ there)) [
          | inl same ↦ apart same
          | inr at_home ↦ off_far_row square far at_home
        ]
      ]
    ]

    dead_stood : stood_before threat u ≡ true → Dead u
    dead_stood stood = absent_dead u (λ is. was_not_open after threat legal w.ways_are.threat_is u can stood)

    dead_away : (s : ℕ) → at (earlier after u) s ≡ own_lion → is_home s ≡ false → Dead u
    dead_away s there away = absent_dead u (λ is has. is.of_set.legal.home s (on_far_row s away) there)

  -- ---- where the move can't have ended

  lion_there : (square : ℕ) × (square < 12) × (is_piece Mover Lion (at after square) ≡ true)
  lion_there =
      let are = w.ways_are.board_is.own_lion_is in
      let some = lion_mask after Mover walk.ways.now.board.own_lion (turned_squares after legal) (turned_lions after legal) are in
      passes_somewhere (λ square. is_piece Mover Lion (at after square)) walk.ways.now.board.own_lion are (λ none. omega (arith, some, none))

  abbrev lion_now : ℕ
  lion_now = lion_there.0

  lion_is_now : at after lion_now ≡ own_lion
  lion_is_now = lion_passes Mover (at after lion_now) lion_there.2

  pub ends_dead : AreDead (Takes walk) (may_have_ended after threat w.ways_are.stays) (undoes_at after)
  ends_dead k lt off u inside =
      let ends = at_sound after k u inside in
      let can = ends.0 in
      let b = both u can in
      elim (cases_Bool (elsewhere threat.attackers (ends_on u))) [
        | inl stood ↦ dead_stood u can (stood_by threat u ∙ stood_either _ _ (inr stood))
        | inr calm ↦
            let off_there : may_have_ended after threat w.ways_are.stays (ends_on u) ≡ false = ap (may_have_ended after threat w.ways_are.stays) ends.1 ∙ off in
            let no = or_parts w.ways_are.stays (is_piece Mover Lion (at after (ends_on u))) (rw (ap is_own b.to_after, calm) at off_there) in
            dead_away u can lion_now
            (stays after threat legal w.ways_are.threat_is u can lion_now (piece_of Mover Lion) lion_is_now
            (λ e. true≢false (sym (ap (is_piece Mover Lion) (ap (at after) (sym e) ∙ lion_is_now)) ∙ no.1)))
            (w.ways_are.home_is lion_now lion_is_now ∙ no.0)
      ]

  -- ---- from where no piece can have come

  pub comes_dead : (kind : Kind) (to : ℕ) → stands (at after to) (arrives_at kind to) ≡ true
      → AreDead (Takes walk) (may_come after threat.lion kind to) (unsteps_from after kind to)
  comes_dead kind to there k lt off u inside =
      let s = from_sound after kind k to u (stands-true (at after to) (arrives_at kind to) there) lt inside in
      let way = Unstep kind k to s.caught in
      subst Dead s.is (elim (and_cases (not (leads kind k threat.lion)) (comes_home kind k) (rw (s.can.leads, s.can.empty) at off)) [
        | inl stood ↦ dead_stood way s.can (stood_either _ _ (inl (not-false (leads kind k threat.lion) stood)))
        | inr away ↦
            let lion = not_home kind k away in
            dead_away way s.can k ((both way s.can).from_before ∙ ap (λ (x : Kind). Some (piece_of Mover x)) lion.0) lion.1
      ])

-- ---- what the tests say where they hold

-- where a move may have ended
pub end_home : (after : Setup) (danger : Threat) (stays : Bool) (to : ℕ) → HasLions after → TellsHome after stays
    → may_have_ended after danger stays to ≡ true → HasLionHome after to
end_home after danger stays to lions tells on square there =
    elim (or_cases stays (is_piece Mover Lion (at after to)) (and_parts _ (stays || is_piece Mover Lion (at after to)) on).1) [
      | inl at_home ↦ inr (tells square there ∙ at_home)
      | inr moved ↦ inl (one_lion Mover after square to lions there (lion_passes Mover (at after to) moved))
    ]

pub own_end : (after : Setup) (danger : Threat) (stays : Bool) (square : ℕ) → may_have_ended after danger stays square ≡ true
    → is_own (at after square) ≡ true
own_end after danger stays square on =
    (and_parts (is_own (at after square)) (not (elsewhere danger.attackers square))
    (and_parts _ (stays || is_piece Mover Lion (at after square)) on).0).0

pub calm_end : (after : Setup) (danger : Threat) (stays : Bool) (square : ℕ) → may_have_ended after danger stays square ≡ true
    → elsewhere danger.attackers square ≡ false
calm_end after danger stays square on = grind (arith, not-true)

-- the step alone, which may come from there
come_parts : (a b c d : Bool) → (((a && b) && not c) && d) ≡ true → (a ≡ true) × (b ≡ true) × (c ≡ false)
come_parts true true false d on = (refl, refl, refl)
come_parts _ _ _ _ on = cc

empty_there : (cell : Cell) → is_empty cell ≡ true → cell ≡ None
empty_there None e = refl
empty_there (Some piece) e = cc

module _ (after : Setup) (threat : Threat) (kind : Kind) (from to : ℕ) (there : stands (at after to) (arrives_at kind to) ≡ true)
    (on : may_come after threat.lion kind to from ≡ true) where
  parts : (leads kind from to ≡ true) × (is_empty (at after from) ≡ true) × (leads kind from threat.lion ≡ false)
  parts = come_parts (leads kind from to) (is_empty (at after from)) (leads kind from threat.lion) (comes_home kind from) on

  -- then the ways from that square are those of the step
  pub comes_between : unsteps_from after kind to from ≡ unsteps_between after kind from to
  unfolding unsteps_from
  comes_between = search (rules, empty_there)

  -- and the step may have been made
  pub comes_step : from < 12 → CanUnstep after kind from to None
  comes_step on_board = search (rules, free_step, empty_there)

-- a step without a catch, and with each
pub steps_from : (R : List ℕ → RetroMove → List ℕ → Type 0) (after : Setup) (kind : Kind) (from to : ℕ) (a b c d e f : List ℕ)
    → unsteps_from after kind to from ≡ unsteps_between after kind from to
    → TakesAll R a (Unstep kind from to None ∷ []) b → TakesAll R b (uncatch after kind from to Giraffe) c
    → TakesAll R c (uncatch after kind from to Elephant) d → TakesAll R d (uncatch after kind from to Chick) e
    → TakesAll R e (uncatch after kind from to Hen) f → TakesAll R a (unsteps_from after kind to from) f
steps_from R after kind from to a b c d e f same none giraffe elephant chick hen =
    subst (λ (us : List RetroMove). TakesAll R a us f) (sym same)
    (takes_append R a b f (Unstep kind from to None ∷ []) _ none
    (takes_append R b c f (uncatch after kind from to Giraffe) _ giraffe
    (takes_append R c d f (uncatch after kind from to Elephant) _ elephant
    (takes_append R d e f (uncatch after kind from to Chick) (uncatch after kind from to Hen) chick hen))))
