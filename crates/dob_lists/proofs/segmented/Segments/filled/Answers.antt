-- Whole segments, and one with the rest.
use Rattle.std.proofs.Common.{◌≡◌, ℕ, ap, sym, ◌∙◌, length, replicate, arith}
use Rattle.std.proofs.lemmas.List.{length-replicate}
use Rattle.dob_lists.proofs.Segmentation.{one_more_whole, all_copies}
use Rattle.dob_lists.specs.Segmented.{joined}
use Rattle.dob_lists.proofs.segmented.Segments.filled.Goals as goal

pub loop-number-preserved : goal.loop-number-preserved
loop-number-preserved g c =
    rw c.in_ok-push.ensures.items
    (one_more_whole c.args.item c.args.segment_length.items c.loop-number._number c.loop-number.segments.items c.in_ok-copies.field-0
    c.args.segment_length.size.0 c.loop-number.invariant
    (c.in_ok-copies.ensures ∙ ap (λ (k : ℕ). replicate k c.args.item) c.items.ensures.items))

pub returns : goal.returns
returns g c =
    let reached : c.loop-number._number ≡ c.split-whole.result.0 = omega arith in
    ap (λ vs. joined vs) c.in_ok-push-2.ensures.items
    ∙ (all_copies c.args.item c.args.segment_length.items c.args.count c.loop-number._number c.split-whole.result.1 c.loop-number.segments.items
    c.in_ok-copies-2.field-0 c.args.segment_length.size.0 c.loop-number.invariant (reached ∙ c.split-whole.ensures.number)
    c.split-whole.ensures.within c.in_ok-copies-2.ensures).0

pub invariant_of-result : goal.invariant_of-result
invariant_of-result g c =
    let reached : c.loop-number._number ≡ c.split-whole.result.0 = omega arith in
    let shown : joined c.push-2.new.self.items ≡ replicate c.args.count c.args.item = returns g c in (
      omega arith,
      sym (ap length shown ∙ length-replicate c.args.count c.args.item),
      rw c.in_ok-push-2.ensures.items
          (all_copies c.args.item c.args.segment_length.items c.args.count c.loop-number._number c.split-whole.result.1
          c.loop-number.segments.items c.in_ok-copies-2.field-0 c.args.segment_length.size.0 c.loop-number.invariant
          (reached ∙ c.split-whole.ensures.number) c.split-whole.ensures.within c.in_ok-copies-2.ensures).1,
    )
