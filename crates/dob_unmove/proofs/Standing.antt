-- What the piece that stands on a square says of the ways that end there: only lists of its own kind have some.
use Rattle.dob_unmove.proofs.Common.{◌++◌, ◌==◌, ◌∷◌, ◌≡◌, Bool, Some, [], ap, append-nil, cond, false, refl, true, ℕ, is_kind, kind_on_board, at, piece_of}
use Rattle.dob_unmove.proofs.Common.{row, HandKind, Kind, Chick, Elephant, Giraffe, Hen, Lion, Mover, Setup, if_so, undoes_at, unputs, unsteps, Unput}
use Rattle.dob_pieces.specs.declared.kind.HandKind.TheVariants as hand
use Rattle.dob_unmove.proofs.Listed.{stands-from}

-- no chick becomes one of the others
chick_apart : (own : Kind) (grows : Bool) → is_kind own Chick ≡ false → is_kind own Hen ≡ false → is_kind own (cond grows Hen Chick) ≡ false
chick_apart own true chick hen = hen
chick_apart own false chick hen = chick

module _ (after : Setup) (to : ℕ) where
  pub ways_of_lion : at after to ≡ Some (piece_of Mover Lion) → undoes_at after to ≡ unsteps after Lion to
  unfolding undoes_at unsteps unputs
  ways_of_lion there = rw (there, chick_apart Lion (row to == 3) refl refl, append-nil)

  pub ways_of_giraffe : at after to ≡ Some (piece_of Mover Giraffe) → undoes_at after to ≡ unsteps after Giraffe to ++ unputs after hand.Giraffe to
  unfolding undoes_at unsteps unputs
  ways_of_giraffe there = rw (there, chick_apart Giraffe (row to == 3) refl refl)

  pub ways_of_elephant : at after to ≡ Some (piece_of Mover Elephant) → undoes_at after to ≡ unsteps after Elephant to ++ unputs after hand.Elephant to
  unfolding undoes_at unsteps unputs
  ways_of_elephant there = rw (there, chick_apart Elephant (row to == 3) refl refl)

  pub ways_of_chick : at after to ≡ Some (piece_of Mover Chick) → undoes_at after to ≡ unsteps after Chick to ++ unputs after hand.Chick to
  unfolding undoes_at unsteps unputs
  ways_of_chick there = rw there

  -- on its far row a chick was dropped
  pub no_chick_steps : at after to ≡ Some (piece_of Mover Chick) → (row to == 3) ≡ true → unsteps after Chick to ≡ []
  unfolding unsteps
  no_chick_steps there far = rw (there, far)

  pub ways_of_hen : at after to ≡ Some (piece_of Mover Hen) → undoes_at after to ≡ unsteps after Chick to ++ unsteps after Hen to
  unfolding undoes_at unsteps unputs
  ways_of_hen there = rw (there, append-nil)

  -- and elsewhere a hen was one before
  pub no_growth : at after to ≡ Some (piece_of Mover Hen) → (row to == 3) ≡ false → unsteps after Chick to ≡ []
  unfolding unsteps
  no_growth there near = rw (there, near)

  -- the drop alone
  pub way_of_drop : (kind : HandKind) → at after to ≡ Some (piece_of Mover (kind_on_board kind)) → unputs after kind to ≡ Unput kind to ∷ []
  unfolding unputs
  way_of_drop kind there = ap (λ b. if_so b (Unput kind to)) (stands-from (at after to) (kind_on_board kind) there)
