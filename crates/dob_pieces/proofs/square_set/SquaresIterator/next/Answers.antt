-- the first square, and the others are left
use Rattle.std.proofs.Common.{◌∙◌, ◌∷◌, ap, arith, length, sym, ℕ}
use Rattle.dob_pieces.specs.Masks.{squares_in}
use Rattle.dob_pieces.proofs.MaskWalks.{first_square, no_squares}
use Rattle.dob_pieces.proofs.square_set.SquaresIterator.next.Goals as goal

pub returns-then-left-eq0-clause-steps : goal.returns-then-left-eq0-clause-steps
returns-then-left-eq0-clause-steps c =
    let none = no_squares c.args.self.now.left (sym c.left.view_is ∙ c.if-left-eq0.true) in (none, none)

pub returns : goal.returns
returns c =
    let first = first_square c.args.self.now.left c.lowest-first.result (rw (← c.left.view_is) c.left.invariant) c.lowest-first.ensures
    ∙ ap (λ (set : ℕ). c.lowest-first.result ∷ squares_in set) (sym c.without-self.ensures) in
    record { steps = first; goes = record { on = λ _. (tt, tt, omega (arith, ap length first)); keeps = tt; rests = λ _. tt } }
