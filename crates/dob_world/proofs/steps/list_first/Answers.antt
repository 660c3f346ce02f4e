-- All items are listed, and those behind the first are cut off again.
use Rattle.std.proofs.Common.{◌++◌, ◌+◌, ◌∙◌, ap, length, rules, take, ◌≡◌}
use Rattle.std.proofs.Math.Seq.{take-append-add}
use Rattle.dob_world.proofs.steps.list_first.Goals as goal

pub returns : goal.returns
returns c =
    let old = c.args.list.now.items in
    let long : c.len-before.result ≡ length old = search rules in
    c.truncate.ensures.items ∙ ap (λ xs. take (c.len-before.result + c.args.k) xs) c.list_items.ensures
    ∙ ap (λ m. take (m + c.args.k) (old ++ c.args.batch.now.items)) long ∙ take-append-add old c.args.batch.now.items c.args.k
