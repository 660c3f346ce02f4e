-- The next row goes behind the others, and after the last all things stand row by row.
use Rattle.dob_inboxes.proofs.Common.{◌+◌, ◌∙◌, ap, arith, length, refl, rules, subst, ℕ, AreInOrder}
use Rattle.dob_endpoint.proofs.Places.{gone_all, next_at, none_gone, one_gone}
use Rattle.dob_inboxes.proofs.Inboxes.{joined_more}
use Rattle.dob_inboxes.proofs.rows.join.Goals as goal

pub loop-row-init : goal.loop-row-init
loop-row-init g c = record {
  done = 0;
  gone = none_gone c.into_iter-row-iterator.ensures.into_iter_gives.0 refl;
  so_far = record { count = omega (arith, ap length c.new-things.ensures.items); each = λ i j x below there. absurd (omega (arith, below)) };
}

pub loop-row-preserved : goal.loop-row-preserved
loop-row-preserved g c =
    let on = c.loop-row.invariant in
    let at = next_at on.gone c.in-Some.ensures.steps.0 in
    record {
      done = on.done + 1;
      gone = one_gone on.gone c.in-Some.ensures.steps.0 refl;
      so_far = joined_more c.args.width on.done c.args.rows.items c.in-Some.row c.loop-row.things.items c.append.new.self.items on.so_far at
          (c.requires.each on.done c.in-Some.row at) c.in_ok-append.ensures.items;
    }

pub returns : goal.returns
returns g c = subst (λ (k : ℕ). AreInOrder c.args.width k c.args.rows.items c.loop-row.things.items)
    (gone_all c.loop-row.invariant.gone (search rules) ∙ search rules)
    c.loop-row.invariant.so_far
