-- The move is one of the list of all.
use Rattle.dobutsu_c.proofs.Common.{Contains, List, subst, sym, can_go, CanGo, Move, Open}
use Rattle.dob_moves.specs.Statuses.{HasStatus}
use Rattle.dob_moves.proofs.ProfileMoves.{goes_there, status_there}
use Rattle.dobutsu_c.proofs.steps.dobutsu_make.Goals as goal
use Rattle.dobutsu_c.proofs.steps.dobutsu_make.Goals.{In-Some}

is_move : (c : In-Some) → HasStatus c.in-Ok.asked.family.profile c.in-Ok.asked.position.setup Open
    × CanGo c.in-Ok.asked.family.profile c.in-Ok.asked.position.setup c.in-Some.played
is_move c = c.in-Ok-moves.ensures.sound c.in-Some.played (rw c.deref.ensures.value at c.in-Some.ensures.0)

pub apply-requires-clause-open : goal.apply-requires-clause-open
apply-requires-clause-open c =
    let asked = c.in-Ok.asked in
    status_there asked.family.profile asked.position.setup Open asked.position.legal (is_move (goal.at.apply-requires-clause-open c).In-Some).0

pub apply-requires-clause-can_go : goal.apply-requires-clause-can_go
apply-requires-clause-can_go c =
    can_go c.in-Ok.asked.family.profile c.in-Ok.asked.position.setup c.in-Some.played (is_move (goal.at.apply-requires-clause-can_go c).In-Some).1

pub returns-in-Some-clause-told : goal.returns-in-Some-clause-told
returns-in-Some-clause-told c = λ none.
    let asked = c.in-Ok.asked in
    let found = is_move (goal.at.returns-in-Some-clause-told c).In-Some in (
      asked.family,
      asked.position.setup,
      c.in-Some.played,
      c.apply.result.setup,
      c.in-Ok.ensures,
      found.0,
      goes_there asked.family.profile asked.position.setup c.in-Some.played c.apply.result.setup found.1 c.apply.ensures,
      c.in-Some.ensures.1,
      c.shown_position.ensures,
    )

pub returns-clause-none : goal.returns-clause-none
returns-clause-none c = λ none.
    let asked = c.in-Ok.asked in (
      asked.family,
      asked.position.setup,
      c.in-Ok.ensures,
      λ played is_open goes.
          c.in-None.ensures played (subst (λ (list : List Move). Contains list played) (sym c.deref.ensures.value)
          (c.in-Ok-moves.ensures.whole played is_open goes)),
    )
