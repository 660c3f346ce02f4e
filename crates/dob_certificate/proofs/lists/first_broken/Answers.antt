-- Each entry is one more, or the first that isn't supported.
use Rattle.dob_certificate.proofs.Common.{◌≤◌, arith, length, rules, Supports}
use Rattle.dob_certificate.proofs.Cases.{not_so}
use Rattle.dob_certificate.proofs.Firsts.{entries_more, entries_done}
use Rattle.dob_certificate.proofs.lists.first_broken.Goals as goal

pub loop-place-preserved : goal.loop-place-preserved
loop-place-preserved g c =
    let entries = g.L.Lookup.entries_of c.args.list.now in
    entries_more (Supports c.args.kind c.args.family entries) entries c.loop-place.place (c.supports_at.ensures.0 (search rules))
    c.loop-place.invariant

pub returns-then-not-supports_at : goal.returns-then-not-supports_at
returns-then-not-supports_at g c = record {
  within = omega (arith, c.count-place-end.ensures, c.loop-place-test.true);
  unsupported = not_so c.supports_at.result (search rules) c.supports_at.ensures;
  before = c.loop-place.invariant;
}

pub returns : goal.returns
returns g c =
    let entries = g.L.Lookup.entries_of c.args.list.now in
    let all : length entries ≤ c.loop-place.place = omega (arith, c.count-place-end.ensures, c.loop-place-test.false) in
    entries_done (Supports c.args.kind c.args.family entries) entries c.loop-place.place all c.loop-place.invariant
