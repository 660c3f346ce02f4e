-- A sweep that changes nothing is the last, and there are as many classes as the depth that it comes to.
use Rattle.dob_value.proofs.Common.{◌+◌, ◌∙◌, ap, arith, length, map, refl, subst, sym, IsShort, AreCutOff, AreValues, value_at_start}
use Rattle.std.proofs.Common.{All}
use Rattle.dob_value.proofs.Tables.{starts_cut, unchanged_is_final, put_back, all_short}
use Rattle.dob_value.proofs.Bounds.{deep_within}
use Rattle.dob_value.proofs.sweep.settle.Goals as goal

pub loop-depth-init : goal.loop-depth-init
loop-depth-init c = record {
  cut_off = subst (λ xs. AreCutOff 0 c.args.graph.now.family xs) (sym (c.in_ok-values.ensures ∙ ap (map value_at_start) c.deref.ensures.value))
      (starts_cut c.args.graph.now c.requires);
  below = omega arith;
}

pub returns-clause-values : goal.returns-clause-values
returns-clause-values c =
    let unchanged = c.loop-depth-test.ensures.same refl ∙ c.deref_mut.ensures.value in
    let whole = put_back c.loop-depth.values.len c.sweep_once.new.values c.loop-depth.values.items (ap length unchanged) (c.loop-depth.values.ok.0) in
    let final = unchanged_is_final c.loop-depth.depth c.args.graph.now c.loop-depth.values.items c.requires c.loop-depth.invariant.cut_off
    (subst (λ xs. AreCutOff (c.loop-depth.depth + 1) c.args.graph.now.family xs) unchanged c.sweep_once.ensures.cut_off) in
    subst (λ xs. AreValues c.args.graph.now.family xs) (sym (whole ∙ unchanged)) final

pub returns-then-depth-gt-MAX_DISTANCE-clause-many : goal.returns-then-depth-gt-MAX_DISTANCE-clause-many
returns-then-depth-gt-MAX_DISTANCE-clause-many c = λ same.
    let most = deep_within c.args.graph.now.family (c.loop-depth.depth + 1) c.sweep_once.new.values c.sweep_once.ensures.cut_off
    (c.sweep_once.ensures.found c.loop-depth-test.true) in
    omega (arith, most, c.if-depth-gt-MAX_DISTANCE.true)

pub returns-clause-short : goal.returns-clause-short
returns-clause-short c =
    let unchanged = c.loop-depth-test.ensures.same refl ∙ c.deref_mut.ensures.value in
    let whole = put_back c.loop-depth.values.len c.sweep_once.new.values c.loop-depth.values.items (ap length unchanged) (c.loop-depth.values.ok.0) in
    subst (λ xs. All IsShort xs) (sym (whole ∙ unchanged))
    (all_short c.loop-depth.depth c.args.graph.now.family c.loop-depth.values.items c.loop-depth.invariant.below c.loop-depth.invariant.cut_off)

pub loop-depth-preserved : goal.loop-depth-preserved
loop-depth-preserved c =
    let whole = put_back c.loop-depth.values.len c.sweep_once.new.values c.loop-depth.values.items
    (c.sweep_once.auto.values ∙ ap length c.deref_mut.ensures.value) (c.loop-depth.values.ok.0) in
    record {
      cut_off = subst (λ xs. AreCutOff (c.loop-depth.depth + 1) c.args.graph.now.family xs) (sym whole) c.sweep_once.ensures.cut_off;
      below = omega (arith, c.if-depth-gt-MAX_DISTANCE.false);
    }
