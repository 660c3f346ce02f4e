-- The weights are products of fewer and fewer bases, and the last at which the numbers differ is the width.
use Rattle.dob_classes.proofs.Common.{◌*◌, ◌-◌, ◌/◌, ◌<◌, ◌^◌, ◌∙◌, ◌≡◌, ◌≤◌, ap, arith, drop, get_or, inl, inr, length, refl, sym, ℕ, mul_comm, cases_eq}
use Rattle.dob_classes.proofs.Common.{drop_back, product-positive, product_fits, product}
use Rattle.std.proofs.lemmas.List.{drop_all}
use Rattle.std.proofs.lemmas.List.Elements.{All-drop}
use Rattle.dob_classes.proofs.stretches.width_of.Goals as goal
use Rattle.dob_classes.proofs.stretches.width_of.Goals.{then-local-weight, else-local-weight}

pub loop-i-init : goal.loop-i-init
loop-i-init c =
    let bases = c.args.bases.now in
    let none : 1 ≡ product (drop (length c.args.bases.now) c.args.bases.now) = sym (ap product (drop_all (length bases) bases (omega arith))) in
    record {
      weight_is = rw c.told-bases at none;
      some = omega arith;
      width_is = record {
        digits = length c.args.bases.now;
        width_is = none;
        some = omega arith;
        apart = elim (cases_eq c.args.local c.args.other) [ inl same ↦ inl same | inr differ ↦ inr (λ q. differ (omega (arith, q))) ];
        alone = λ same. refl;
      };
    }

pub overflow_mul-weight : goal.overflow_mul-weight
overflow_mul-weight c =
    let upto : c.loop-i.i ≤ length c.args.bases.now = omega (arith, c.loop-i.auto.i, c.told-bases) in
    omega (
      arith,
      product_fits c.args.bases.now c.loop-i.i c.loop-i.weight
          (2 ^ 64) c.requires.positive c.requires.fits c.loop-i-test.true upto c.loop-i.invariant.weight_is,
    )

pub loop-i-preserved : goal.loop-i-preserved
loop-i-preserved c =
    let bases = c.args.bases.now in
    let weight = c.loop-i.weight in
    let kept = c.loop-i.invariant in
    let upto : c.loop-i.i ≤ length c.args.bases.now = omega (arith, c.loop-i.auto.i, c.told-bases) in
    let next : c.loop-i.weight * get_or c.args.bases.now (c.loop-i.i - 1) 0 ≡ product (drop (c.loop-i.i - 1) c.args.bases.now)
    = mul_comm weight (get_or bases (c.loop-i.i - 1) 0) ∙ ap (λ n. get_or bases (c.loop-i.i - 1) 0 * n) kept.weight_is
    ∙ sym (ap product (drop_back bases c.loop-i.i 0 c.loop-i-test.true upto)) in
    record {
      weight_is = next;
      some = rw next (product-positive (drop (c.loop-i.i - 1) bases) (All-drop (λ (b : ℕ). 0 < b) (c.loop-i.i - 1) bases c.requires.positive));
      width_is = elim c.if-local-weight.branch [
        | then-local-weight w ↦ rw w.width-is (record {
          digits = c.loop-i.i;
          width_is = kept.weight_is;
          some = kept.some;
          apart = inr w.if-local-weight.true;
          alone = λ same. absurd (w.if-local-weight.true (ap (λ n. n / weight) same));
        })
        | else-local-weight w ↦ rw w.width-is kept.width_is
      ];
    }
