-- An index is a segment and a place in it.
use Rattle.dob_lists.proofs.Segmentation.{number_below, within_below, read_is}
use Rattle.dob_lists.proofs.segmented.SegmentsIndexUsize.index.Goals as goal

pub index-requires : goal.index-requires
index-requires g c =
    number_below c.self.inside.segment_length.items c.args.index c.split-number.result.0 c.split-number.result.1 c.self.inside.segments c.args.self.now
    c.self.inside.segment_length.size.0 c.self.invariant.2 c.self.view_is c.requires c.split-number.ensures.number c.split-number.ensures.within

pub index-requires-2 : goal.index-requires-2
index-requires-2 g c =
    within_below c.self.inside.segment_length.items c.args.index c.split-number.result.0 c.split-number.result.1 c.self.inside.segments c.args.self.now
    c.self.inside.segment_length.size.0 c.self.invariant.2 c.self.view_is c.requires c.split-number.ensures.number c.split-number.ensures.within
    c.index.result.now c.index.ensures

pub returns : goal.returns
returns g c = read_is c.self.inside.segment_length.items c.args.index c.split-number.result.0 c.split-number.result.1 c.self.inside.segments c.args.self.now
    c.self.inside.segment_length.size.0 c.self.invariant.2 c.self.view_is c.requires c.split-number.ensures.number c.split-number.ensures.within
    c.index.result.now c.index-2.result.now c.index.ensures c.index-2.ensures
