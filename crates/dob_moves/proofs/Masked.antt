-- What the sets of squares of a position say of its status.
use Rattle.dob_moves.proofs.Common.{◌&&◌, ◌/◌, ◌<◌, ◌∙◌, ◌≡◌, ◌≢◌, ◌≤◌, Bool, None, Some, arith, false, inl, inr, length, refl, sym, true, subst}
use Rattle.dob_moves.proofs.Common.{true≢false, ℕ, and_parts, cases_lt, is_some, attacks_piece, own_attacks, one_lion, within-from_piece, IsFirst, IsLowest}
use Rattle.dob_moves.proofs.Common.{lowest_is, none_passes, passes_somewhere, IsMask, attacks, is_end, leads, Cell, HasLions, at, piece_of, Kind, Lion, Enemy}
use Rattle.dob_moves.proofs.Common.{Mover, A, Setup}
use Rattle.dob_moves.proofs.Common.{CanGo, CatchesLion, grows_at, place, CanCatch, HasTried, IsFirstCatch, may_end, step_onto, Elsewhere, Move, Put, Step}
use Rattle.dob_moves.proofs.Common.{ap, is_own}
use Rattle.dob_moves.proofs.Reach.{IsStep, step_sound}
use Rattle.dob_moves.proofs.Turns.{kind_of}

-- ---- who catches the enemy lion

-- a piece that attacks the lion catches it
pub catch_by : (p : Setup) (from lion : ℕ) → at p lion ≡ Some (piece_of Enemy Lion) → attacks p from lion ≡ true → CanCatch p
catch_by p from lion stands is =
    let found = attacks_piece (at p from) from lion is in
    (Step found.0 from lion true (grows_at found.0 lion), (found.1, found.2, stands, refl))

-- and one that catches it attacks it
record IsAttack (p : Setup) (lion from to : ℕ) : Type 0 where
  on_board : from < 12
  at_lion : to ≡ lion
  attacks_it : attacks p from lion ≡ true

attack_of : (p : Setup) (lion : ℕ) (kind : Kind) (from to : ℕ) (grows : Bool) → length p.board ≡ 12 → HasLions p
    → at p lion ≡ Some (piece_of Enemy Lion) → CatchesLion p (Step kind from to true grows) → IsAttack p lion from to
attack_of p lion kind from to grows twelve lions stands h = grind (arith, one_lion, within-from_piece, own_attacks)

pub no_attack : (p : Setup) (lion mask : ℕ) → length p.board ≡ 12 → HasLions p → at p lion ≡ Some (piece_of Enemy Lion)
    → IsMask (λ from. attacks p from lion) mask → mask ≡ 0 → ¬ CanCatch p
no_attack p lion mask twelve lions stands are none (Step kind from to true grows, h) =
    let a = attack_of p lion kind from to grows twelve lions stands h in
    true≢false (sym a.attacks_it ∙ none_passes (λ from. attacks p from lion) mask are none from a.on_board)
no_attack p lion mask twelve lions stands are none (Step kind from to false grows, h) = h
no_attack p lion mask twelve lions stands are none (Put kind to, h) = h

pub some_attack : (p : Setup) (lion mask : ℕ) → at p lion ≡ Some (piece_of Enemy Lion)
    → IsMask (λ from. attacks p from lion) mask → mask ≢ 0 → CanCatch p
some_attack p lion mask stands are some =
    let attacker = passes_somewhere (λ from. attacks p from lion) mask are some in catch_by p attacker.0 lion stands attacker.2

-- the catch from the lowest square is the first
pub first_attack : (p : Setup) (lion mask from : ℕ) (kind : Kind) → length p.board ≡ 12 → HasLions p → at p lion ≡ Some (piece_of Enemy Lion)
    → IsMask (λ from. attacks p from lion) mask → IsFirst mask from → (is_own (at p from) ≡ true → at p from ≡ Some (piece_of Mover kind))
    → IsFirstCatch p (Step kind from lion true (grows_at kind lion))
first_attack p lion mask from kind twelve lions stands are lowest kind_is =
    let it = lowest_is (λ from. attacks p from lion) mask from are lowest in
    let piece = attacks_piece (at p from) from lion it.passes in
    let own : at p from ≡ Some (piece_of Mover kind) = kind_is (ap is_own piece.1) in
    let same : piece.0 ≡ kind = ap kind_of (sym piece.1 ∙ own) in
    record { catches = (own, subst (λ (k : Kind). leads k from lion ≡ true) same piece.2, stands, refl); first = least kind it } where
      least : (kind : Kind) → IsLowest (λ from. attacks p from lion) mask from → (other : Move) → CatchesLion p other
          → place (Step kind from lion true (grows_at kind lion)) ≤ place other
      least kind it (Step other start to true grows) h =
          let a = attack_of p lion other start to grows twelve lions stands h in
          let same = a.at_lion in
          elim (cases_lt start from) [
            | inl before ↦ absurd (true≢false (sym a.attacks_it ∙ it.lowest start before))
            | inr after ↦ omega (arith, same, after)
          ]
      least kind it (Step other start to false grows) h = absurd h
      least kind it (Put other to) h = absurd h

-- ---- a try
pub tried_by : (p : Setup) (lion : ℕ) → HasLions p → at p lion ≡ Some (piece_of Enemy Lion) → HasTried p → lion / 3 ≡ 0
tried_by p lion lions stands t = grind (arith, one_lion)

-- ---- where steps may end
pub end_is : (cell : Cell) → is_end cell ≡ may_end Elsewhere cell
end_is None = refl
end_is (Some piece) = grind arith

ends_step : (p : Setup) (kind : Kind) (from to : ℕ) → IsStep p kind from to → is_end (at p to) ≡ true → (move : Move) × CanGo A p move
ends_step p kind from to step is =
    let move = Step kind from to (is_some (at p to)) (grows_at kind to) in
    let found : step_onto Elsewhere (at p to) kind from to ≡ Some move = rw (sym (end_is (at p to)), is) refl in
    (move, step_sound Elsewhere p kind from to (at p to) move step refl found)

pub some_step : (p : Setup) (kind : Kind) (from mask : ℕ) → at p from ≡ Some (piece_of Mover kind)
    → IsMask (λ square. leads kind from square && is_end (at p square)) mask → mask ≢ 0 → (move : Move) × CanGo A p move
some_step p kind from mask own are some =
    let to = passes_somewhere (λ square. leads kind from square && is_end (at p square)) mask are some in
    let parts = and_parts (leads kind from to.0) (is_end (at p to.0)) to.2 in
    ends_step p kind from to.0 (record { own = own; leads = parts.0 }) parts.1
