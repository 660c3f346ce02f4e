-- The lists of the start have their places.
use Rattle.dob_world.proofs.Common.{◌*◌, ◌∙◌, ap, length, refl, subst, true, ℕ, length-replicate, IsSize}
use Rattle.std.proofs.Common.{replicate}
use Rattle.dob_world.proofs.detector.Detector.open.Goals as goal

pub returns-clause-counted : goal.returns-clause-counted
returns-clause-counted c =
    let n = c.args.nodes in
    let count = c.get-count.ensures.value in
    let posted = c.in_ok-posted.ensures.items_if_clones_equal (λ a e. e) ∙ ap (λ (k : ℕ). replicate (k * k) 0) count in
    let taken = c.in_ok-taken.ensures.items_if_clones_equal (λ a e. e) ∙ ap (λ (k : ℕ). replicate (k * k) 0) count in
    let black = c.in_ok-black.ensures.items_if_clones_equal (λ a e. e) ∙ ap (λ (k : ℕ). replicate k true) count in (
      record {
        nodes = subst (λ (k : ℕ). IsSize k) count c.get-count.ensures.size;
        posted = ap length posted ∙ length-replicate (n * n) 0;
        taken = ap length taken ∙ length-replicate (n * n) 0;
        black = ap length black ∙ length-replicate n true;
      },
      refl,
    )
