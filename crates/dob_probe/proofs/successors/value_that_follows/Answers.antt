-- The value follows from what is kept of the successors' values.
use Rattle.dob_probe.proofs.Common.{◌<◌, inl, inr, refl, subst, sym, ℕ, HasStatus, IsPositionOf, Open}
use Rattle.dob_moves.specs.declared.position_status.Status.TheVariants.{Caught, Stuck, Tried}
use Rattle.dob_moves.specs.Shown.{setup_on}
use Rattle.dob_probe.proofs.Following.{follows_from, least_has_next, greatest_has_next}
use Rattle.dob_probe.proofs.successors.value_that_follows.Goals as goal
use Rattle.dob_probe.proofs.successors.value_that_follows.Goals.{After-start, In-Open}

-- the representative is a position of the family
member : (c : After-start) → IsPositionOf c.args.table.now.family (setup_on c.representative_of-position.result.board)
member c = (rw c.classes.ensures.family at c.representative_of-position.ensures.represents).0.0

status : (c : After-start) → HasStatus c.args.table.now.family.profile (setup_on c.representative_of-position.result.board) c.start.result
status c = rw c.family.ensures.family at c.start.ensures.status

-- the position is open
open_is : (c : In-Open) → HasStatus c.args.table.now.family.profile (setup_on c.representative_of-position.result.board) Open
open_is c = rw c.in-Open.is at (rw c.family.ensures.family at c.start.ensures.status)

pub representative_of-position-requires : goal.representative_of-position-requires
representative_of-position-requires c =
    rw c.classes.ensures.family (subst (λ (n : ℕ). c.args.class < n) (sym c.classes.ensures.count) c.requires)

pub successors_of-requires-clause-member : goal.successors_of-requires-clause-member
successors_of-requires-clause-member c = member (goal.at.successors_of-requires-clause-member c).After-start

pub successors_of-requires-clause-walk : goal.successors_of-requires-clause-walk
successors_of-requires-clause-walk c = rw c.family.ensures.family at c.start.ensures.walk

pub returns-in-Caught : goal.returns-in-Caught
returns-in-Caught c =
    let same = (rw c.classes.ensures.family at c.representative_of-position.ensures).setup in
    let is = status (goal.at.returns-in-Caught c).After-start in
    rw (← same) (Caught, rw c.in-Caught.is at is, refl)

pub returns-in-Tried : goal.returns-in-Tried
returns-in-Tried c =
    let same = (rw c.classes.ensures.family at c.representative_of-position.ensures).setup in
    let is = status (goal.at.returns-in-Tried c).After-start in
    rw (← same) (elim c.in-Tried.is [ inl is_so ↦ (Tried, rw is_so at is, refl) | inr is_so ↦ (Stuck, rw is_so at is, refl) ])

pub value-requires-clause-least : goal.value-requires-clause-least
value-requires-clause-least c =
    least_has_next c.args.table.now (setup_on c.representative_of-position.result.board) (member (goal.at.value-requires-clause-least c).After-start)
    (open_is (goal.at.value-requires-clause-least c).In-Open)
    c.successors_of.ensures.0 c.successors_of.ensures.1 c.classes.ensures.table c.successors_of.result.least_loss c.successors_of.ensures.2.least

pub value-requires-clause-greatest : goal.value-requires-clause-greatest
value-requires-clause-greatest c =
    greatest_has_next c.args.table.now (setup_on c.representative_of-position.result.board) (member (goal.at.value-requires-clause-greatest c).After-start)
    (open_is (goal.at.value-requires-clause-greatest c).In-Open)
    c.successors_of.ensures.0 c.successors_of.ensures.1 c.classes.ensures.table c.successors_of.result.greatest_win c.successors_of.ensures.2.greatest

pub returns-in-Open : goal.returns-in-Open
returns-in-Open c =
    let same = (rw c.classes.ensures.family at c.representative_of-position.ensures).setup in
    let p = setup_on c.representative_of-position.result.board in
    let found = c.successors_of.result in
    let kept = c.successors_of.ensures in
    let is_open = open_is (goal.at.returns-in-Open c).In-Open in
    rw (← same) (
      Open,
      is_open,
      rw c.value.ensures (follows_from c.args.table.now p (member (goal.at.returns-in-Open c).After-start) is_open kept.0 kept.1 found.least_loss found.greatest_win
          found.has_draw kept.2.least kept.2.greatest kept.2.draw),
    )
