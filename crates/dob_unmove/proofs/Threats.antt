-- Before a move some piece could catch the enemy lion exactly where one that didn't move attacks it, or the one that moved
-- did from where it stood.
use Rattle.dob_unmove.proofs.Common.{if◌then◌else◌, ◌&&◌, ◌-◌, ◌<◌, ◌==◌, ◌∙◌, ◌≡◌, ◌≢◌, Bool, None, Option, Some, ap, arith, false, inl, inr, not, refl, sym}
use Rattle.dob_unmove.proofs.Common.{true}
use Rattle.dob_unmove.proofs.Common.{true≢false, ℕ, and_parts, cases_Bool, cases_eq, eq-eqb, eqb-true, ne_eqb, attacks_piece, own_attacks, at-turned, IsLowest}
use Rattle.dob_unmove.proofs.Common.{one_lion, within-from_piece, lowest_is, none_passes, passes_somewhere, without_square, IsFirst, IsMask, IsMask-less}
use Rattle.dob_unmove.proofs.Common.{attacks, attacks_by, Cell}
use Rattle.dob_unmove.proofs.Common.{HasLions, IsLegal, at, piece_of, Kind, Lion, Enemy, A, Setup, sides_apart, turned_lion, CanCatch, HasStatus, HasTried}
use Rattle.dob_unmove.proofs.Common.{Step, Open, IsSeenTurned, AreAttackers, IsThreat, elsewhere, stood_before, CanUndo, choice, earlier, enemy_cell, Attackers}
use Rattle.dob_unmove.proofs.Common.{Nobody, One, Several, Threat, RetroMove, Unput, Unstep}
use Rattle.std.proofs.lemmas.Bool.{not-false}
use Rattle.dob_moves.proofs.Masked.{catch_by}
use Rattle.dob_unmove.proofs.Undone.{leaves, ends_on, came, arrived, given, IsBefore, is_before, turned_squares, goes_before, lions_before}
use Rattle.dob_pieces.specs.declared.kind.Piece.{Piece}

-- ---- attackers by their set

-- none, where the set is empty
pub nobody : (p : Setup) (target mask : ℕ) → IsMask (λ from. attacks p from target) mask → mask ≡ 0 → AreAttackers p target 12 Nobody
nobody p target mask are none = none_passes (λ from. attacks p from target) mask are none

module _ (p : Setup) (target mask place : ℕ) (are : IsMask (λ from. attacks p from target) mask) (lowest : IsFirst mask place) where
  first : IsLowest (λ from. attacks p from target) mask place
  first = lowest_is (λ from. attacks p from target) mask place are lowest

  others : IsMask (λ s. attacks p s target && not (s == place)) (without_square mask place)
  others = IsMask-less (λ from. attacks p from target) mask place first.on_board are

  -- one, where it has no other square than the lowest
  pub one_alone : without_square mask place ≡ 0 → AreAttackers p target 12 (One place)
  one_alone alone = (
    first.on_board,
    first.passes,
    λ s lt is.
        let off : (attacks p s target && not (s == place)) ≡ false = none_passes (λ s. attacks p s target && not (s == place)) _ others alone s lt in
        eqb-true s place (not-false (s == place) (ap (λ (b : Bool). b && not (s == place)) (sym is) ∙ off)),
  )

  -- and several else
  pub several : without_square mask place ≢ 0 → AreAttackers p target 12 Several
  several more =
      let second = passes_somewhere (λ s. attacks p s target && not (s == place)) (without_square mask place) others more in
      let parts = and_parts (attacks p second.0 target) (not (second.0 == place)) second.2 in
      (place, second.0, (λ same. true≢false (sym parts.1 ∙ ap not (eq-eqb second.0 place (sym same)))), first.passes, parts.0)

-- ---- before the move

-- by what stood where the piece came from, or what stands elsewhere
pub stood_by : (threat : Threat) (u : RetroMove) → stood_before threat u
    ≡ (if attacks_by (came u) (leaves u) threat.lion then true else elsewhere threat.attackers (ends_on u))
stood_by threat (Unstep kind from to caught) = refl
stood_by threat (Unput kind to) = refl

-- what attacks from another square is there, and so it is told
elsewhere_attacks : (after : Setup) (lion to : ℕ) (found : Attackers) → AreAttackers after lion 12 found → elsewhere found to ≡ true
    → (s : ℕ) × (s ≢ to) × (attacks after s lion ≡ true)
elsewhere_attacks after lion to Nobody are some = cc
elsewhere_attacks after lion to (One a) are some = (a, (λ e. true≢false (sym some ∙ ap not (eq-eqb a to e))), are.1)
elsewhere_attacks after lion to Several are some = elim (cases_eq are.0 to) [
  | inl e ↦ (are.1, (λ other. are.2 (e ∙ sym other)), are.4)
  | inr ne ↦ (are.0, ne, are.3)
]

attacks_elsewhere : (after : Setup) (lion to : ℕ) (found : Attackers) (s : ℕ) → s < 12 → AreAttackers after lion 12 found → s ≢ to
    → attacks after s lion ≡ true → elsewhere found to ≡ true
attacks_elsewhere after lion to Nobody s lt are apart is = absurd (true≢false (sym is ∙ are s lt))
attacks_elsewhere after lion to (One a) s lt are apart is = ap not (ne_eqb a to (λ e. apart (are.2 s lt is ∙ e)))
attacks_elsewhere after lion to Several s lt are apart is = refl

-- what catches the lion attacks it
attack_by : (p : Setup) (lion : ℕ) → HasLions p → at p lion ≡ Some (piece_of Enemy Lion) → CanCatch p → (from : ℕ) × (attacks p from lion ≡ true)
attack_by p lion lions there (Step kind from to true grows, h) =
    let here = one_lion Enemy p to lion lions h.2 there in
    (from, ap (λ (x : ℕ). attacks p from x) (sym here) ∙ own_attacks (at p from) kind from to h.0 ∙ h.1)
attack_by p lion lions there (_, h) = absurd h

-- a piece that was given back doesn't attack
enemy_stands_still : (caught : Option Kind) (from to : ℕ) → attacks_by (enemy_cell caught) from to ≡ false
enemy_stands_still None from to = refl
enemy_stands_still (Some kind) from to = refl

module _ (after : Setup) (threat : Threat) (t : IsSeenTurned IsLegal after) (h : IsThreat after threat) (u : RetroMove) (can : CanUndo after u) where
  abbrev before : Setup
  before = earlier after u

  pub changed : IsBefore after u
  changed = is_before after u (turned_squares after t) can

  -- a piece of another square stood there, unless it is the one that moved
  apart : (s : ℕ) (piece : Piece) → at after s ≡ Some piece → s ≢ leaves u
  apart s piece there e = let none : at after s ≡ None = ap (at after) e ∙ changed.from_after in cc

  pub stays : (s : ℕ) (piece : Piece) → at after s ≡ Some piece → s ≢ ends_on u → at before s ≡ Some piece
  stays s piece there away = changed.others s (apart s piece there) away ∙ there

  -- the enemy lion stood where it stands
  pub here : at before threat.lion ≡ Some (piece_of Enemy Lion)
  here = stays threat.lion (piece_of Enemy Lion) h.lion (λ e. sides_apart Lion (arrived u) (sym h.lion ∙ ap (at after) e ∙ changed.to_after))

  lion_stood : (s : ℕ) → at before s ≡ Some (piece_of Enemy Lion) → s ≡ threat.lion
  lion_stood s e = one_lion Enemy before s threat.lion (lions_before after t u can) e here

  attacked_before : (s : ℕ) → attacks before s threat.lion ≡ true → CanCatch before
  attacked_before s is = catch_by before s threat.lion here is

  stood_catches : stood_before threat u ≡ true → CanCatch before
  stood_catches stood = elim (cases_Bool (attacks_by (came u) (leaves u) threat.lion)) [
    | inl is ↦ attacked_before (leaves u) (ap (λ (c : Cell). attacks_by c (leaves u) threat.lion) changed.from_before ∙ is)
    | inr isnt ↦
        let some = elsewhere_attacks after threat.lion (ends_on u) threat.attackers h.attackers
        (ap (λ b. if b then true else elsewhere threat.attackers (ends_on u)) (sym isnt) ∙ sym (stood_by threat u) ∙ stood) in
        let piece = attacks_piece (at after some.0) some.0 threat.lion some.2 in
        attacked_before some.0 (own_attacks (at before some.0) piece.0 some.0 threat.lion (stays some.0 _ piece.1 some.1) ∙ piece.2)
  ]

  catch_stood : CanCatch before → stood_before threat u ≡ true
  catch_stood catching =
      let found = attack_by before threat.lion (lions_before after t u can) here catching in
      let s = found.0 in
      stood_by threat u ∙ elim (cases_eq s (leaves u)) [
        | inl e ↦
            ap (λ b. if b then true else elsewhere threat.attackers (ends_on u))
            (sym (ap (λ (c : Cell). attacks_by c (leaves u) threat.lion) changed.from_before) ∙ ap (λ (x : ℕ). attacks before x threat.lion) (sym e) ∙ found.1)
        | inr away ↦ elim (cases_eq s (ends_on u)) [
          | inl e ↦
              absurd (true≢false (sym found.1 ∙ ap (λ (x : ℕ). attacks before x threat.lion) e
              ∙ ap (λ (c : Cell). attacks_by c (ends_on u) threat.lion) changed.to_before ∙ enemy_stands_still (given u) (ends_on u) threat.lion))
          | inr other ↦
              let now : attacks after s threat.lion ≡ true = ap (λ (c : Cell). attacks_by c s threat.lion) (sym (changed.others s away other)) ∙ found.1 in
              let within = within-from_piece after s _ (attacks_piece (at after s) s threat.lion now).1 in
              ap (λ b. if attacks_by (came u) (leaves u) threat.lion then true else b)
              (attacks_elsewhere after threat.lion (ends_on u) threat.attackers s (rw turned_squares at within) h.attackers other now)
              ∙ always (attacks_by (came u) (leaves u) threat.lion)
        ]
      ]
    where
      always : (b : Bool) → (if b then true else true) ≡ true
      always true = refl
      always false = refl

  untried : HasTried before → ⊥
  untried tried =
      let now : at after tried.0 ≡ Some (piece_of Enemy Lion) = ap (at after) (lion_stood tried.0 tried.2) ∙ h.lion in
      let low : tried.0 < 12 = let three = tried.1 in omega (arith, three) in
      t.1.home (11 - tried.0) (let three = tried.1 in omega (arith, three))
      (turned_lion Enemy (at t.0 (11 - tried.0)) (sym (at-turned t.0 tried.0 low) ∙ ap (λ (x : Setup). at x tried.0) (sym t.2) ∙ now))

  -- before a move the position was open unless a piece attacked the enemy lion
  pub was_open : stood_before threat u ≡ false → HasStatus A before Open
  was_open calm = ((λ catching. true≢false (sym (catch_stood catching) ∙ calm)), untried, (choice u, (t.0, goes_before after t u can)))

  -- and where one did it wasn't
  pub was_not_open : stood_before threat u ≡ true → ¬ HasStatus A before Open
  was_not_open stood open_then = open_then.0 (stood_catches stood)
