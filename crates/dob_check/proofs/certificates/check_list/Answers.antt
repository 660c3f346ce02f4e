-- The verdicts of the entries in order, and the first refusal among them.
use Rattle.dob_check.proofs.Common.{◌-◌, ◌<◌, ◌∙◌, ◌≡◌, List, ap, arith, length, subst, ℕ, AllZip, range_with_len, AllZip-weaken, nat_range-All, nat_range}
use Rattle.dob_check.proofs.Common.{IsToldAt}
use Rattle.dob_certificate.specs.declared.entry.Entry.{Entry}
use Rattle.dob_certificate.specs.Lists.{Supports}
use Rattle.dob_check.proofs.Found.{each_has, first_found}
use Rattle.dob_check.proofs.Firsts.{Answer, AnswersAt, SupportedAt, list_answered}
use Rattle.dob_check.proofs.certificates.check_list.Goals as goal

pub find_first-first_refusal-requires-clause-items : goal.find_first-first_refusal-requires-clause-items
find_first-first_refusal-requires-clause-items g c = λ κs lives.
    let ends = c.into_par_iter.ensures in
    let long = ap length c.as_slice.ensures.entries in
    let inside = nat_range-All (λ i. i < length c.args.entries.now) 0 (length c.as_slice.result.now) (λ i low high. omega (arith, high, long)) in
    rw (c.map.ensures.base, c.map.ensures.f, ends.0, ends.1) (λ k d lt. (inside k d lt, λ y e b same. tt))

-- the answer of each entry, and what was told of it
abbrev Says : (g : _) (c : goal.After-unwrap_or g) → ℕ → Answer → Type 0
Says g c place answer = AnswersAt (Supports c.args.kind c.args.classes.now.family c.args.entries.now) c.args.entries.now place answer
    × IsToldAt (g.W.Watch.told c.args.watch.now) (length c.args.entries.now) place

all_say : (g : _) (c : goal.After-unwrap_or g) → AllZip (Says g c) (range_with_len 0 (length c.args.entries.now)) c.find_first-first_refusal.ensures.0
all_say g c =
    let done = c.find_first-first_refusal.ensures in
    let ends = c.into_par_iter.ensures in
    let count : length c.as_slice.result.now ≡ length c.args.entries.now = ap length c.as_slice.ensures.entries in
    let whole : length c.as_slice.result.now - 0 ≡ length c.args.entries.now = omega arith in
    let chain = rw (c.map.ensures.base, c.map.ensures.f) at done.2 in
    let places = chain.1 ∙ (λ i. nat_range (ends.0 i) (ends.1 i)) ∙ ap (range_with_len 0) whole in
    subst (λ (places : List ℕ). AllZip (Says g c) places done.0) places (AllZip-weaken _ (Says g c) (λ place answer h. (h.0, h.1)) chain.0 done.0 chain.2)

pub returns-clause-verdict : goal.returns-clause-verdict
returns-clause-verdict g c =
    let entries = c.args.entries.now in
    let Fits : Entry → Type 0 = Supports c.args.kind c.args.classes.now.family entries in
    let done = c.find_first-first_refusal.ensures in
    let verdicts = AllZip-weaken _ (AnswersAt Fits entries) (λ place answer h. h.0) (range_with_len 0 (length entries)) done.0 (all_say g c) in
    list_answered Fits entries c.find_first-first_refusal.result c.unwrap_or.result c.unwrap_or.ensures
    (rw done.4 (first_found (SupportedAt Fits entries) (AnswersAt Fits entries) (λ k x is. is) 0 (length entries) done.0 done.1 verdicts done.3))

pub returns-clause-told : goal.returns-clause-told
returns-clause-told g c = λ place low.
    let many = length c.args.entries.now in
    let found = c.find_first-first_refusal.ensures.0 in
    each_has (IsToldAt (g.W.Watch.told c.args.watch.now) many) 0 many found
    (AllZip-weaken _ _ (λ place answer h. h.1) (range_with_len 0 many) found (all_say g c)) place (omega arith) (omega (arith, low))
