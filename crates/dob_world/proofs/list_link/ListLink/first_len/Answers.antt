-- The first batch that waits is the first in the ring.
use Rattle.dob_world.proofs.Common.{◌∙◌, ◌≡◌, None, Some, ap, rules, slice_get, sym, LinkView}
use Rattle.dob_world.proofs.Firsts.{none_first, with_first}
use Rattle.dob_world.proofs.list_link.ListLink.first_len.Goals as goal

pub returns-in-Some-clause-some : goal.returns-in-Some-clause-some
returns-in-Some-clause-some c =
    let there : slice_get c.self.inside.slots.items 0 ≡ Some c.in-Some.batch.now = search rules in
    let rest = with_first c.args.self.now.waiting c.in-Some.batch.now (sym (ap (λ (v : LinkView). slice_get v.waiting 0) c.self.view_is) ∙ there) in
    (c.in-Some.batch.now, rest.0, rest.1, c.len.ensures.len)

pub returns-in-None-clause-none : goal.returns-in-None-clause-none
returns-in-None-clause-none c =
    let there : slice_get c.self.inside.slots.items 0 ≡ None = search rules in
    none_first c.args.self.now.waiting (sym (ap (λ (v : LinkView). slice_get v.waiting 0) c.self.view_is) ∙ there)
