-- What is refused is never begun.
use Rattle.dob_cli.proofs.Common.{◌∙◌, inl, inr, refl, sym, true≢false}
use Rattle.dob_cli.proofs.Runs.{leaves}
use Rattle.dob_cli.proofs.program.run_placed.Goals as goal

pub returns-then-is_refused-clause-done : goal.returns-then-is_refused-clause-done
returns-then-is_refused-clause-done g c =
    let refused = c.is_misplaced-is_refused.ensures.only c.if-is_refused.true in
    inr (refused.0, refused.1, inl (_, c.ending.ensures.status, c.say.ensures, refl), leaves (g.S.Shelf.state c.args.shelf.now))

pub returns-clause-done : goal.returns-clause-done
returns-clause-done g c =
    inl (
      c.run_order.ensures.done.0,
      c.run_order.ensures.done.1,
      λ makes. true≢false (sym (c.is_misplaced-is_refused.ensures.never makes) ∙ c.if-is_refused.false),
    )
