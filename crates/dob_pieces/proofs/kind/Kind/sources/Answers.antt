-- the row of the kind has the set at the square
use Rattle.dob_pieces.proofs.Targets.{source_read}
use Rattle.dob_pieces.proofs.kind.Kind.sources.Goals as goal

pub returns : goal.returns
returns c =
    rw c.of_bits.ensures
    (source_read c.args.self c.place.result c.args.to c.index.result c.place.ensures.value c.index.ensures.value c.index.ensures.bound)
