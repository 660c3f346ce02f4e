-- A place is one of its run.
use Rattle.dob_rank.proofs.InRuns.DigitParts.{AreFewOnBoard-digits, split_place}
use Rattle.dob_rank.proofs.block.spot_at.Goals as goal

pub size_of_runs-size-requires-clause-few : goal.size_of_runs-size-requires-clause-few
size_of_runs-size-requires-clause-few c = AreFewOnBoard-digits c.args.set c.args.on_board.now c.requires.on_board

pub nonzero_div-result : goal.nonzero_div-result
nonzero_div-result c = (split_place c.args.set c.args.on_board.now c.args.place _ c.requires.place c.size_of_runs-size.ensures.value).some

pub nonzero_rem-result : goal.nonzero_rem-result
nonzero_rem-result c = (split_place c.args.set c.args.on_board.now c.args.place _ c.requires.place c.size_of_runs-size.ensures.value).some

pub returns : goal.returns
returns c =
    let split = split_place c.args.set c.args.on_board.now c.args.place _ c.requires.place c.size_of_runs-size.ensures.value in
    record { run = split.run_low; local = split.local_low; place = split.whole }
