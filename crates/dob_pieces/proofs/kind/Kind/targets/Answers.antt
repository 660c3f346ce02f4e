-- the row of the kind has the set at the square
use Rattle.dob_pieces.proofs.Targets.{target_read}
use Rattle.dob_pieces.proofs.kind.Kind.targets.Goals as goal

pub returns : goal.returns
returns c =
    rw c.of_bits.ensures
    (target_read c.args.self c.place.result c.args.from c.index.result c.place.ensures.value c.index.ensures.value c.index.ensures.bound)
