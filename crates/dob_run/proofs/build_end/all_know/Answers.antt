-- The first runner that knows of another halt tells, and with the last each knows of it.
use Rattle.std.proofs.lemmas.Grind.{common_steps}
use Rattle.std.proofs.lemmas.Option.{slice_get_read, slice_get_within}
use Rattle.dob_pieces.proofs.Elements.{before_or_here}
use Rattle.dob_run.proofs.Common.{◌∙◌, ◌≡◌, arith, inl, inr, refl, ap, length, Runner}
use Rattle.dob_run.proofs.build_end.all_know.Goals as goal

pub loop-runner-preserved : goal.loop-runner-preserved
loop-runner-preserved c = λ k runner low there.
    let at = slice_get_read c.args.runners.now (length c.args.runners.now) c.loop-runner.runner-index c.runner-item.result refl c.loop-runner-test.true c.runner-item.is in
    let same : c.runner-item.result.endpoint.seat.stand.halt ≡ c.args.halt = grind (arith, common_steps) in
    elim (before_or_here c.args.runners.now c.loop-runner.runner-index k c.runner-item.result runner at there low) [
      | inl before ↦ c.loop-runner.invariant k runner before there
      | inr here ↦ ap (λ (r : Runner). r.endpoint.seat.stand.halt) here ∙ same
    ]

pub returns : goal.returns
returns c = (
  λ all k runner there. c.loop-runner.invariant k runner
      (let low = slice_get_within c.args.runners.now k runner there in omega (arith, low, c.loop-runner-test.false)) there,
  λ known. refl,
)
