-- The items join the last segment; where memory is refused the list is as it was.
use Rattle.std.proofs.Common.{◌≤◌, ◌+◌, ◌∙◌, ◌^◌, ap, arith, length, sym, take}
use Rattle.std.proofs.lemmas.List.{length-append, length-take-le}
use Rattle.dob_pieces.proofs.Results.{on_err}
use Rattle.dob_lists.proofs.Segmentation.{joined_is, same_is}
use Rattle.dob_lists.proofs.segmented.Segments.append_some.Goals as goal

pub invariant_of-self-in_err-extend_from_slice : goal.invariant_of-self-in_err-extend_from_slice
invariant_of-self-in_err-extend_from_slice g c =
    let kept = same_is c.self.inside.segment_length.items c.self.inside.count c.split-number.result.0 c.open_segment.new.segments c.args.self.now
    c.self.inside.segment_length.size.0 c.open_segment.ensures.whole (c.open_segment.ensures.same ∙ c.self.view_is) (c.self.invariant.1 ∙ ap length c.self.view_is)
    c.split-number.ensures.number c.in_ok-open_segment.ensures.opened
    c.index_mut-segment.result.now c.extend_from_slice.new.self c.index_mut-segment.ensures.value c.in_err-extend_from_slice.ensures.items in
    (c.self.invariant.0, c.self.invariant.1 ∙ ap length c.self.view_is ∙ sym (ap length kept.0), kept.1)

pub returns-in_err-extend_from_slice-clause-unchanged : goal.returns-in_err-extend_from_slice-clause-unchanged
returns-in_err-extend_from_slice-clause-unchanged g c =
    on_err c.from_residual-in_err-extend_from_slice.result
    (same_is c.self.inside.segment_length.items c.self.inside.count c.split-number.result.0 c.open_segment.new.segments c.args.self.now
    c.self.inside.segment_length.size.0 c.open_segment.ensures.whole (c.open_segment.ensures.same ∙ c.self.view_is) (c.self.invariant.1 ∙ ap length c.self.view_is)
    c.split-number.ensures.number c.in_ok-open_segment.ensures.opened
    c.index_mut-segment.result.now c.extend_from_slice.new.self c.index_mut-segment.ensures.value c.in_err-extend_from_slice.ensures.items).0

pub invariant_of-self-2 : goal.invariant_of-self-2
invariant_of-self-2 g c =
    let count = c.min-count.result in
    let long = length-take-le count c.args.items.now (omega (arith, c.min-count.ensures)) in
    let all = joined_is c.self.inside.segment_length.items c.self.inside.count c.split-number.result.0 c.open_segment.new.segments c.args.self.now
    c.self.inside.segment_length.size.0 c.open_segment.ensures.whole (c.open_segment.ensures.same ∙ c.self.view_is) (c.self.invariant.1 ∙ ap length c.self.view_is)
    c.split-number.ensures.number c.in_ok-open_segment.ensures.opened
    c.index_mut-segment.result.now c.extend_from_slice.new.self (take count c.args.items.now) c.index_mut-segment.ensures.value
    c.in_ok-extend_from_slice.ensures.items (omega (arith, long, c.min-count.ensures, c.split-number.ensures.within, c.items.ensures.items)) in
    let below : c.self.inside.count + count ≤ 2 ^ 56 = (let most : c.self.inside.count ≤ 2 ^ 56 = c.self.invariant.0 in omega (arith, most, c.if-count-self.false)) in (
      below,
      omega (arith, c.self.invariant.1, ap length c.self.view_is, long, length-append c.args.self.now (take count c.args.items.now), ap length all.0),
      all.1,
    )

pub returns-clause-appended : goal.returns-clause-appended
returns-clause-appended g c =
    let count = c.min-count.result in
    let long = length-take-le count c.args.items.now (omega (arith, c.min-count.ensures)) in
    (joined_is c.self.inside.segment_length.items c.self.inside.count c.split-number.result.0 c.open_segment.new.segments c.args.self.now
    c.self.inside.segment_length.size.0 c.open_segment.ensures.whole (c.open_segment.ensures.same ∙ c.self.view_is) (c.self.invariant.1 ∙ ap length c.self.view_is)
    c.split-number.ensures.number c.in_ok-open_segment.ensures.opened
    c.index_mut-segment.result.now c.extend_from_slice.new.self (take count c.args.items.now) c.index_mut-segment.ensures.value
    c.in_ok-extend_from_slice.ensures.items (omega (arith, long, c.min-count.ensures, c.split-number.ensures.within, c.items.ensures.items))).0
