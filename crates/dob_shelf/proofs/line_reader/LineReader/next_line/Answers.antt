-- The line ends with the piece that was taken, or with the source.
use Rattle.std.proofs.Common.{◌≡◌, ◌∙◌, ◌++◌, List, Some, [], ap, append-nil, drop, rules, subst, sym, ℕ}
use Rattle.dob_device.specs.Devices.{whole}
use Rattle.dob_shelf.proofs.FirstLine.{line_taken, read_taken, rest_taken}
use Rattle.dob_shelf.proofs.line_reader.LineReader.next_line.Goals as goal

pub returns-then-branch-clause-given : goal.returns-then-branch-clause-given
returns-then-branch-clause-given g c = λ rest gives.
    let left = c.loop-self.invariant.1 rest gives in (
      left.0,
      subst (λ s. g.R.Source.gives s (whole left.0)) (sym c.take_piece.ensures.source) left.1,
      line_taken _ (drop c.loop-self.self.given c.loop-self.self.read.items) c.loop-self.line.items c.take_piece.new.line.items left.0
          (drop c.take_piece.new.self.given c.take_piece.new.self.read.items) c.in_ok-take_piece.field-0 c.loop-self.invariant.0 left.2 c.if-branch.true
          c.in_ok-take_piece.ensures.taken,
    )

pub returns-then-not-branch-clause-given : goal.returns-then-not-branch-clause-given
returns-then-not-branch-clause-given g c = λ rest gives.
    let left = c.loop-self.invariant.1 rest gives in
    let taken = read_taken _ (drop c.loop-self.self.given c.loop-self.self.read.items) c.loop-self.line.items c.take_piece.new.line.items left.0
    (drop c.take_piece.new.self.given c.take_piece.new.self.read.items) c.in_ok-take_piece.field-0 c.loop-self.invariant.0 left.2 c.if-branch.false
    c.in_ok-take_piece.ensures.taken in
    let more = c.in_ok-read_on.ensures.given left.0 (subst (λ s. g.R.Source.gives s (whole left.0)) (sym c.take_piece.ensures.source) left.1) in
    let none : left.0 ≡ [] = more.3 c.if-not-branch.true in (
      more.0,
      more.1,
      rest_taken _ c.take_piece.new.line.items _ c.is_empty.result taken.0 (taken.1 ∙ ap (λ (l : List ℕ). c.take_piece.new.line.items ++ l) none ∙ append-nil c.take_piece.new.line.items)
          (ap (λ (l : List ℕ). Some l) (sym more.2 ∙ none)) (search rules),
    )
