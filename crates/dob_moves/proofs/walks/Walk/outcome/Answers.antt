-- What stands in the list is a move of an open position, and what it leaves is its outcome.
use Rattle.dob_moves.proofs.Common.{◌<◌, ◌≡◌, List, Some, length, subst, sym, turned, moved, Move, Setup, Goes}
use Rattle.std.specs.Prelude.{slice_get}
use Rattle.dob_pieces.proofs.Elements.{read_there}
use Rattle.dob_moves.proofs.Walked.{next_at}
use Rattle.dob_moves.proofs.walks.Walk.outcome.Goals as goal
use Rattle.dob_moves.proofs.walks.Walk.outcome.Goals.{After-index-deref-place}

-- the move that was read
there : (c : After-index-deref-place) → slice_get c.args.self.now.moves.items c.args.place ≡ Some c.index-deref-place.result
there c =
    let moves : List Move = c.deref.result.now in
    let same = c.deref.ensures.0 in
    subst (λ (xs : List Move). slice_get xs c.args.place ≡ Some c.index-deref-place.result) same
    (read_there moves c.args.place c.index-deref-place.result (subst (λ (xs : List Move). c.args.place < length xs) (sym same) c.requires.within)
    c.index-deref-place.is)

pub board_after-requires : goal.board_after-requires
board_after-requires c =
    let p = c.requires.walk.1 in
    let is = c.requires.walk.2 in
    let next = next_at c.requires.walk.0 p c.args.self.now c.args.place c.index-deref-place.result is
    (there (goal.at.board_after-requires c).After-index-deref-place) in
    (p, is.legal, is.seen next.is_open, next.can)

pub new-position-requires : goal.new-position-requires
new-position-requires c =
    let p = c.requires.walk.1 in
    let is = c.requires.walk.2 in
    let played = c.index-deref-place.result in
    let next = next_at c.requires.walk.0 p c.args.self.now c.args.place played is
    (there (goal.at.new-position-requires c).After-index-deref-place) in
    (turned (moved p played), next.legal, c.board_after.ensures p (turned (moved p played)) is.legal (is.seen next.is_open) next.outcome)

pub returns-clause-played : goal.returns-clause-played
returns-clause-played c = there (goal.at.returns-clause-played c).After-index-deref-place

pub returns-clause-goes : goal.returns-clause-goes
returns-clause-goes c = λ profile p is.
    let played = c.index-deref-place.result in
    let next = next_at profile p c.args.self.now c.args.place played is (there (goal.at.returns-clause-goes c).After-index-deref-place) in
    let q = turned (moved p played) in (
      next.is_open,
      subst (λ (s : Setup). Goes profile p played s)
          (sym (c.new-position.ensures q next.legal (c.board_after.ensures p q is.legal (is.seen next.is_open) next.outcome))) next.goes,
    )
