-- What the searches say of a position.
use Rattle.std.proofs.Common.{Bool, None, Option, Some, false, length, sym, true, ◌∙◌, ◌≡◌}
use Rattle.std.specs.Bool.{IsTrue}
use Rattle.std.specs.Option.{is_some}
use Rattle.dob_pieces.specs.declared.profile.Profile.TheVariants.{A}
use Rattle.dob_pieces.specs.declared.setup.Setup.{Setup}
use Rattle.dob_moves.proofs.Reach.{drop_goes, no_move, step_goes}
use Rattle.dob_moves.specs.Moves.{CanGo}
use Rattle.dob_moves.specs.Walks.{all_drops, all_steps, first}
use Rattle.dob_moves.specs.declared.first_moves.Aim.TheVariants.{Elsewhere}
use Rattle.dob_moves.specs.declared.game_move.Move.{Move}
use Rattle.dob_reference.proofs.Firsts.{none_from}

pub step_answer : (p : Setup) (b : Bool) (o : Option Move) → o ≡ first (all_steps Elsewhere p) → is_some o ≡ true → b ≡ true
    → (IsTrue b → (move : Move) × CanGo A p move) × (((move : Move) × CanGo A p move) → IsTrue b)
step_answer p b None e h t = cc
step_answer p b (Some m) e h t = (λ _. (m, step_goes p m (sym e)), λ _. t)

pub drop_answer : (p : Setup) (b : Bool) (o drop : Option Move) → length p.board ≡ 12 → o ≡ first (all_steps Elsewhere p) → is_some o ≡ false
    → drop ≡ first (all_drops A p) → b ≡ is_some drop → (IsTrue b → (move : Move) × CanGo A p move) × (((move : Move) × CanGo A p move) → IsTrue b)
drop_answer p b o None len e h d t =
    (λ (yes : IsTrue b). cc, λ (w : (move : Move) × CanGo A p move). absurd (no_move p len (sym e ∙ none_from o h) (sym d) w.0 w.1))
drop_answer p b o (Some m) len e h d t = (λ _. (m, drop_goes p m (sym d)), λ _. t)
