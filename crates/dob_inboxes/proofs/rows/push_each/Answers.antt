-- The next thing goes last in the row at its own place, and after the last thing all are dealt.
use Rattle.dob_inboxes.proofs.Common.{◌+◌, ◌<◌, ◌∙◌, ◌≡◌, Some, ap, arith, length, rules, set, subst, sym, ℕ, slice_get, read_there, AreDealt}
use Rattle.dob_endpoint.proofs.Places.{gone_all, next_at, one_gone, place_left}
use Rattle.dob_inboxes.proofs.Inboxes.{dealt_one}
use Rattle.dob_inboxes.proofs.rows.push_each.Goals as goal

pub loop-place-preserved : goal.loop-place-preserved
loop-place-preserved g c =
    let inv = c.loop-place.invariant in
    let things = c.args.things.items in
    let old = c.args.rows.now.items in
    let rows = c.loop-place.rows.items in
    let place = c.in-Some.place in
    let row = c.index_mut.result.now in
    let step = c.in-Some.ensures.steps in
    let same = step.1 in
    let long : length things ≡ length old = search rules in
    let low : place < length rows = omega (arith, same, place_left inv.rest step.0.0, inv.dealt.rows, long) in
    let at : slice_get rows place ≡ Some row = read_there rows place row low c.index_mut.ensures.value in
    let thing : slice_get things place ≡ Some c.in-Some.thing = ap (slice_get things) same ∙ next_at inv.rest step.0.0 in
    let so_far = subst (λ (k : ℕ). AreDealt k things old rows) (sym same) inv.dealt in
    let next : place + 1 ≡ c.next.new.self.count = omega (arith, same, step.2) in record {
      rest = one_gone inv.rest step.0.0 step.2;
      dealt = subst (λ (k : ℕ). AreDealt k things old (set rows place c.push.new.self)) next (dealt_one place things old rows row c.push.new.self c.in-Some.thing so_far at thing
          c.in_ok-push.ensures.items);
    }

pub returns : goal.returns
returns g c =
    let inv = c.loop-place.invariant in
    subst (λ (k : ℕ). AreDealt k c.args.things.items c.args.rows.now.items c.loop-place.rows.items) (gone_all inv.rest (search rules) ∙ search rules) inv.dealt
