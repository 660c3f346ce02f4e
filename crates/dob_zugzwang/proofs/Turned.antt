-- Turns of positions.
use Rattle.dob_zugzwang.proofs.Common.{◌∙◌, IsLegal, turned, Profile, Setup, HasStatus, Open, TurnsArePositions}
use Rattle.dob_pieces.proofs.Allowed.{IsAllowed-turned}
use Rattle.dob_pieces.proofs.Boards.{total-turned}
use Rattle.dob_moves.proofs.Turns.{IsLegal-turned}

-- in an open position the enemy lion isn't on row 1, so the turn's own isn't on row 4
pub turn_legal : (profile : Profile) (p : Setup) → IsLegal p → HasStatus profile p Open → IsLegal (turned p)
turn_legal profile p legal is_open = IsLegal-turned p legal.squares legal.lions legal.few (λ k low there. is_open.1 (k, low, there))

pub turn_is_position : TurnsArePositions
turn_is_position family p is is_open = record {
  of_set = record {
    legal = turn_legal family.profile p is.of_set.legal is_open;
    pieces = λ kind. total-turned kind p is.of_set.legal.squares ∙ is.of_set.pieces kind;
  };
  allowed = IsAllowed-turned family.profile p is.of_set.legal.squares is.allowed;
}
