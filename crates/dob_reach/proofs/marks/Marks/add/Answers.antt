-- One bit is set, and no other is changed.
use Rattle.dob_reach.proofs.Common.{◌/◌, ◌<◌, ◌∙◌, arith, get_or_default, length}
use Rattle.std.proofs.lemmas.List.{length-set}
use Rattle.dob_reach.proofs.Marking.{added_marked, added_others}
use Rattle.dob_reach.proofs.marks.Marks.add.Goals as goal

pub returns : goal.returns
returns c =
    let words = c.args.self.now.words.items in
    let within : c.args.number / 64 < length words = omega (arith, c.requires) in
    let read = c.index_mut.ensures.value ∙ get_or_default words (c.args.number / 64) c.index_mut.result.now 0 within in
    record {
      marked = added_marked words c.args.number c.index_mut.result.now c.requires read;
      others = added_others words c.args.number c.index_mut.result.now c.requires read;
      long = length-set words _ _;
    }
