-- The item joins the last segment; where memory is refused the list is as it was.
use Rattle.std.proofs.Common.{rules, ◌≤◌, ◌+◌, ℕ, ap, sym, ◌∙◌, length, arith, ◌^◌}
use Rattle.std.proofs.lemmas.List.{length_push}
use Rattle.dob_pieces.proofs.Results.{on_err}
use Rattle.dob_lists.proofs.Segmentation.{pushed_is, same_is}
use Rattle.dob_lists.proofs.segmented.Segments.push.Goals as goal

pub invariant_of-self-in_err-push : goal.invariant_of-self-in_err-push
invariant_of-self-in_err-push g c =
    let kept = same_is c.self.inside.segment_length.items c.self.inside.count c.split-number.result.0 c.open_segment.new.segments c.args.self.now
    c.self.inside.segment_length.size.0 c.open_segment.ensures.whole (c.open_segment.ensures.same ∙ c.self.view_is) (c.self.invariant.1 ∙ ap length c.self.view_is)
    c.split-number.ensures.number c.in_ok-open_segment.ensures.opened
    c.index_mut-segment.result.now c.push.new.self c.index_mut-segment.ensures.value c.in_err-push.ensures.items in
    (c.self.invariant.0, c.self.invariant.1 ∙ ap length c.self.view_is ∙ sym (ap length kept.0), kept.1)

pub returns-in_err-push-clause-unchanged : goal.returns-in_err-push-clause-unchanged
returns-in_err-push-clause-unchanged g c =
    on_err c.from_residual-in_err-push.result
    (same_is c.self.inside.segment_length.items c.self.inside.count c.split-number.result.0 c.open_segment.new.segments c.args.self.now
    c.self.inside.segment_length.size.0 c.open_segment.ensures.whole (c.open_segment.ensures.same ∙ c.self.view_is) (c.self.invariant.1 ∙ ap length c.self.view_is)
    c.split-number.ensures.number c.in_ok-open_segment.ensures.opened
    c.index_mut-segment.result.now c.push.new.self c.index_mut-segment.ensures.value c.in_err-push.ensures.items).0

pub invariant_of-self-2 : goal.invariant_of-self-2
invariant_of-self-2 g c =
    let kept = pushed_is c.self.inside.segment_length.items c.self.inside.count c.split-number.result.0 c.open_segment.new.segments c.args.self.now
    c.self.inside.segment_length.size.0 c.open_segment.ensures.whole (c.open_segment.ensures.same ∙ c.self.view_is) (c.self.invariant.1 ∙ ap length c.self.view_is)
    c.split-number.ensures.number c.in_ok-open_segment.ensures.opened
    c.index_mut-segment.result.now c.push.new.self c.args.item c.index_mut-segment.ensures.value c.in_ok-push.ensures.items in
    let below : c.self.inside.count + 1 ≤ 2 ^ 56 = (let most : c.self.inside.count ≤ 2 ^ 56 = c.self.invariant.0 in omega arith) in (
      below,
      ap (λ (k : ℕ). k + 1) (c.self.invariant.1 ∙ ap length c.self.view_is) ∙ sym (length_push c.args.self.now c.args.item) ∙ sym (ap length kept.0),
      kept.1,
    )

pub returns-clause-appended : goal.returns-clause-appended
returns-clause-appended g c =
    (pushed_is c.self.inside.segment_length.items c.self.inside.count c.split-number.result.0 c.open_segment.new.segments c.args.self.now
    c.self.inside.segment_length.size.0 c.open_segment.ensures.whole (c.open_segment.ensures.same ∙ c.self.view_is) (c.self.invariant.1 ∙ ap length c.self.view_is)
    c.split-number.ensures.number c.in_ok-open_segment.ensures.opened
    c.index_mut-segment.result.now c.push.new.self c.args.item c.index_mut-segment.ensures.value c.in_ok-push.ensures.items).0

pub open_segment-requires-clause-end : goal.open_segment-requires-clause-end
open_segment-requires-clause-end c = search rules fits 100
