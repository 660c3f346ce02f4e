-- What holds of what each move of a list leads to.
use Rattle.std.proofs.Common.{◌+◌, ◌<◌, ◌∙◌, ◌≡◌, ◌≤◌, List, Option, Some, ap, arith, length, slice_get, ℕ}
use Rattle.std.proofs.lemmas.Option.{slice_get-get_or}
use Rattle.dob_pieces.specs.declared.profile.Profile.{Profile}
use Rattle.dob_pieces.specs.declared.setup.Setup.{Setup}
use Rattle.dob_moves.specs.declared.game_move.Move.{Move}
use Rattle.dob_moves.specs.declared.position_status.Status.TheVariants.{Open}
use Rattle.dob_moves.specs.Moves.{Goes}
use Rattle.dob_moves.specs.Statuses.{AreMoves, HasStatus}

-- it holds of what the moves below an index lead to
abbrev pub AllBelow : Profile → (Setup → Type 0) → Setup → List Move → ℕ → Type 0
AllBelow profile Fits p legal upto = (index : ℕ) (move : Move) (q : Setup) → index < upto → slice_get legal index ≡ Some move →
    Goes profile p move q → Fits q

module _ (profile : Profile) (Fits : Setup → Type 0) (p : Setup) (legal : List Move) where
  pub all_none : AllBelow profile Fits p legal 0
  all_none index move q below there goes = absurd (omega arith)

  pub all_more : (upto : ℕ) (played : Move) (outcome : Setup) → slice_get legal upto ≡ Some played →
      ((q : Setup) → Goes profile p played q → outcome ≡ q) → Fits outcome →
      AllBelow profile Fits p legal upto → AllBelow profile Fits p legal (upto + 1)
  all_more upto played outcome here alone fits before index move q below there goes = grind arith

  pub all_done : (upto : ℕ) → length legal ≤ upto → AreMoves profile p legal → AllBelow profile Fits p legal upto →
      HasStatus profile p Open → (move : Move) (q : Setup) → Goes profile p move q → Fits q
  all_done upto all are_moves below goes_on move q goes =
      let there = are_moves.whole move goes_on (q, goes) in
      let read : slice_get legal there.0 ≡ Some move = slice_get-get_or legal there.0 move there.1
      ∙ ap (λ m. let o : Option Move = Some m in o) there.2 in
      below there.0 move q (omega (arith, all, there.1)) read goes
