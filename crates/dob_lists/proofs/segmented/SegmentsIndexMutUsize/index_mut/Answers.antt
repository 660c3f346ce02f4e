-- What is lent is the item, and the rest stays.
use Rattle.std.proofs.Common.{refl, length, ap, ◌∙◌, sym}
use Rattle.std.proofs.Math.ListN.{length-set}
use Rattle.std.specs.Vec.{with_item}
use Rattle.dob_lists.proofs.Segmentation.{number_below, within_below, read_is, written_is}
use Rattle.dob_lists.proofs.segmented.SegmentsIndexMutUsize.index_mut.Goals as goal

pub index_mut-segment-requires : goal.index_mut-segment-requires
index_mut-segment-requires g c =
    number_below c.self.inside.segment_length.items c.args.index c.split-number.result.0 c.split-number.result.1 c.self.inside.segments c.args.self.now
    c.self.inside.segment_length.size.0 c.self.invariant.2 c.self.view_is c.requires c.split-number.ensures.number c.split-number.ensures.within

pub index_mut-requires : goal.index_mut-requires
index_mut-requires g c =
    within_below c.self.inside.segment_length.items c.args.index c.split-number.result.0 c.split-number.result.1 c.self.inside.segments c.args.self.now
    c.self.inside.segment_length.size.0 c.self.invariant.2 c.self.view_is c.requires c.split-number.ensures.number c.split-number.ensures.within
    c.index_mut-segment.result.now c.index_mut-segment.ensures.value

pub invariant_of-self-lent : goal.invariant_of-self-lent
invariant_of-self-lent g c w =
    let written = written_is c.self.inside.segment_length.items c.args.index c.split-number.result.0 c.split-number.result.1 c.self.inside.segments c.args.self.now
    c.self.inside.segment_length.size.0 c.self.invariant.2 c.self.view_is c.requires c.split-number.ensures.number c.split-number.ensures.within
    c.index_mut-segment.result.now (with_item c.index_mut-segment.result.now c.split-number.result.1 w) w c.index_mut-segment.ensures.value refl in (
      c.self.invariant.0,
      c.self.invariant.1 ∙ ap length c.self.view_is ∙ sym (length-set c.args.self.now c.args.index w) ∙ sym (ap length written.0),
      written.1,
    )

pub returns : goal.returns
returns g c = (
  (
    refl,
    λ w. (written_is c.self.inside.segment_length.items c.args.index c.split-number.result.0 c.split-number.result.1 c.self.inside.segments c.args.self.now
        c.self.inside.segment_length.size.0 c.self.invariant.2 c.self.view_is c.requires c.split-number.ensures.number c.split-number.ensures.within
        c.index_mut-segment.result.now (with_item c.index_mut-segment.result.now c.split-number.result.1 w) w c.index_mut-segment.ensures.value refl).0,
  ),
  record {
    writes_back = tt;
    value =
        read_is c.self.inside.segment_length.items c.args.index c.split-number.result.0 c.split-number.result.1 c.self.inside.segments c.args.self.now
        c.self.inside.segment_length.size.0 c.self.invariant.2 c.self.view_is c.requires c.split-number.ensures.number c.split-number.ensures.within
        c.index_mut-segment.result.now c.index_mut.result.now c.index_mut-segment.ensures.value c.index_mut.ensures.value;
  },
)
