-- Mirror images are won and lost at the same depths.
use Rattle.dob_distance.proofs.Common.{inl, inr, subst, suc, zero, ℕ, Profile, Setup, Goes-mirrored, HasStatus-mirrored, IsLegal-Goes, Goes, Move, Caught, Open}
use Rattle.dob_distance.proofs.Common.{Stuck, Tried, MirrorsHaveOneOutlook, MirrorsHaveOneValue, SameOutlook, HasLost, Lost, Won}
use Rattle.dob_pieces.specs.Setups.{IsLegal, mirrored}
use Rattle.dob_pieces.proofs.Boards.{IsLegal-mirrored}
use Rattle.dob_pieces.proofs.Symmetries.{mirrored-mirrored}
use Rattle.dob_moves.specs.Mirrors.{mirrored_move}
use Rattle.dob_distance.proofs.Outlooks.{value_same}

-- what has lost has lost in the mirror
over_mirrored : (profile : Profile) (p : Setup) → IsLegal p → HasLost profile p → HasLost profile (mirrored p)
over_mirrored profile p legal over = elim over [
  | inl tried ↦ inl (HasStatus-mirrored profile p Tried legal tried)
  | inr stuck ↦ inr (HasStatus-mirrored profile p Stuck legal stuck)
]

-- a move from the mirror image is the mirror image of a move
from_mirrored : (profile : Profile) (p : Setup) (move : Move) (q : Setup) → IsLegal p → Goes profile (mirrored p) move q →
    Goes profile p (mirrored_move move) (mirrored q)
from_mirrored profile p move q legal goes =
    subst (λ s. Goes profile s (mirrored_move move) (mirrored q)) (mirrored-mirrored p legal.squares)
    (Goes-mirrored profile (mirrored p) move q (IsLegal-mirrored p legal).squares goes)

mutual
  pub won_mirrored : (profile : Profile) (n : ℕ) (p : Setup) → IsLegal p → Won profile n p → Won profile n (mirrored p)
  won_mirrored profile zero p legal won = absurd won
  won_mirrored profile (suc n) p legal won = elim won [
    | inl caught ↦ inl (HasStatus-mirrored profile p Caught legal caught)
    | inr open_win ↦
        let next_legal = IsLegal-Goes profile p open_win.1 open_win.2 open_win.3 legal open_win.0.1 in
        inr (
          HasStatus-mirrored profile p Open legal open_win.0,
          mirrored_move open_win.1,
          mirrored open_win.2,
          Goes-mirrored profile p open_win.1 open_win.2 legal.squares open_win.3,
          lost_mirrored profile n open_win.2 next_legal open_win.4,
        )
  ]

  pub lost_mirrored : (profile : Profile) (n : ℕ) (p : Setup) → IsLegal p → Lost profile n p → Lost profile n (mirrored p)
  lost_mirrored profile zero p legal over = over_mirrored profile p legal over
  lost_mirrored profile (suc n) p legal lost = elim lost [
    | inl over ↦ inl (over_mirrored profile p legal over)
    | inr open_loss ↦
        let image_open = HasStatus-mirrored profile p Open legal open_loss.0 in
        inr (
          image_open,
          λ move q goes.
              let back = from_mirrored profile p move q legal goes in
              let won = won_mirrored profile n (mirrored q) (IsLegal-Goes profile p (mirrored_move move) (mirrored q) back legal open_loss.0.1)
              (open_loss.1 (mirrored_move move) (mirrored q) back) in
              let q_legal = IsLegal-Goes profile (mirrored p) move q goes (IsLegal-mirrored p legal) image_open.1 in
              subst (λ s. Won profile n s) (mirrored-mirrored q q_legal.squares) won,
        )
  ]

pub one_outlook : MirrorsHaveOneOutlook
one_outlook profile p legal =
    let image = IsLegal-mirrored p legal in
    let twice = mirrored-mirrored p legal.squares in
    record {
      won = λ n. (won_mirrored profile n p legal, λ won. subst (λ s. Won profile n s) twice (won_mirrored profile n (mirrored p) image won));
      lost = λ n. (lost_mirrored profile n p legal, λ lost. subst (λ s. Lost profile n s) twice (lost_mirrored profile n (mirrored p) image lost));
    }

pub one_value : MirrorsHaveOneValue
one_value profile p v legal has =
    let image = IsLegal-mirrored p legal in
    let same = subst (λ s. SameOutlook profile (mirrored p) s) (mirrored-mirrored p legal.squares) (one_outlook profile (mirrored p) image) in
    value_same profile p (mirrored p) v same has
