-- The runner was handed to the thread that promised to let it make its turns.
use Rattle.dob_threads.proofs.Common.{◌∙◌, ◌≡◌, ap, refl, rules, sym, Kept}
use Rattle.dob_threads.proofs.Threaded.{handed_on}
use Rattle.dob_threads.proofs.threads.start.Goals as goal

pub returns : goal.returns
returns g c =
    let taking : c.in-Ok.taking ≡ c.of.result.value = search rules in
    let until : c.args.until.now ≡ c.of-2.result.value = search rules in
    let gate : c.args.gate.now ≡ c.of-3.result.value = search rules in
    let ok = c.in-Ok-spawn_with.ensures.ok in
    handed_on g.G.Gate.says c.args.gate.now c.args.until.now c.args.runner c.in-Ok.giving c.push_reserved.new.self c.in-Ok.taking
    c.in-Ok-spawn_with.handle.promise _ c.in-Ok.ensures.producer.0 c.push_reserved.ensures.sent.0 refl c.in-Ok.ensures.pair c.push_reserved.ensures.ring
    (ap (λ (p : Kept g.row.G.Denot). p.taking.value) ok ∙ sym taking) (ap (λ (p : Kept g.row.G.Denot). p.until.value) ok ∙ sym until)
    (ap (λ (p : Kept g.row.G.Denot). p.gate.value) ok ∙ sym gate)
