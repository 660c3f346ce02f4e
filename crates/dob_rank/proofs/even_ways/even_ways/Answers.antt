-- The entry is the number of ways, computed for each pair of lions and each set of pieces.
use Rattle.std.proofs.Common.{◌*◌, ◌+◌, ◌∙◌, ap, arith, slice_index}
use Rattle.dob_rank.proofs.InRuns.EvenCode.{entry, entry_told}
use Rattle.dob_rank.proofs.even_ways.even_ways.Goals as goal

pub returns : goal.returns
returns c =
    let told = entry_told c.args.profile (slice_index c.args.on_board.now 0) (slice_index c.args.on_board.now 1) (slice_index c.args.on_board.now 2)
    c.args.lions c.requires.few.chicks c.requires.few.elephants c.requires.few.giraffes c.requires.lions c.requires.kind in
    let read = c.from.ensures
    ∙ ap (λ shape. entry shape (9 * slice_index c.args.on_board.now 0 + 3 * slice_index c.args.on_board.now 1 + slice_index c.args.on_board.now 2))
    c.shape_of-shape.ensures.value in
    record { value = read ∙ told.value_is; bound = omega (arith, told.few, read) }
