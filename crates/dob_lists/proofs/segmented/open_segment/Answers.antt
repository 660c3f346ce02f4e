-- An empty segment more changes no item.
use Rattle.std.proofs.Common.{◌≡◌, ◌≤◌, ◌/◌, refl, ap, sym, ◌∙◌, length, vec_len, arith}
use Rattle.dob_lists.proofs.Segmentation.{end_at, one_empty_more}
use Rattle.dob_lists.specs.Segmented.{joined}
use Rattle.dob_lists.proofs.segmented.open_segment.Goals as goal

pub returns-in_ok-push-clause-same : goal.returns-in_ok-push-clause-same
returns-in_ok-push-clause-same g c =
    ap (λ vs. joined vs) c.in_ok-push.ensures.items
    ∙ (one_empty_more c.args.segment_length.items c.args.segments.now.items c.in_ok-with_capacity.field-0 c.args.segment_length.size.0 c.requires.whole
    (sym c.requires.end ∙ c.if-number-len.true ∙ c.len.ensures ∙ c.args.segments.now.ok.0) c.in_ok-with_capacity.ensures.items).0

pub returns-in_ok-push-clause-whole : goal.returns-in_ok-push-clause-whole
returns-in_ok-push-clause-whole g c =
    rw c.in_ok-push.ensures.items
    (one_empty_more c.args.segment_length.items c.args.segments.now.items c.in_ok-with_capacity.field-0 c.args.segment_length.size.0 c.requires.whole
    (sym c.requires.end ∙ c.if-number-len.true ∙ c.len.ensures ∙ c.args.segments.now.ok.0) c.in_ok-with_capacity.ensures.items).1

pub returns-else-number-len-clause-opened : goal.returns-else-number-len-clause-opened
returns-else-number-len-clause-opened g c =
    let reached : length (joined c.args.segments.now.items) / c.args.segment_length.items ≤ length c.args.segments.now.items
    = (end_at c.args.segment_length.items _ c.args.segments.now.items c.args.segment_length.size.0 c.requires.whole refl).reached in
    let is : c.args.number ≡ length (joined c.args.segments.now.items) / c.args.segment_length.items = c.requires.end in
    let count : vec_len c.args.segments.now ≡ length c.args.segments.now.items = c.args.segments.now.ok.0 in
    omega arith
