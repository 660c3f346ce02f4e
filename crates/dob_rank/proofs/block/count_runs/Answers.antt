-- The first five bases are those of the runs.
use Rattle.std.proofs.Common.{◌≤◌, ℕ, sym, subst, ◌^◌}
use Rattle.dob_rank.proofs.InRuns.RunPlaces.{runs_found, runs_few}
use Rattle.dob_rank.proofs.block.count_runs.Goals as goal

pub returns : goal.returns
returns c =
    let is = runs_found c.args.set c.args.block _ _ c.numbers_in-on_board.ensures c.bases_in.ensures in
    record { value = is; bound = subst (λ (n : ℕ). n ≤ 2 ^ 12) (sym is) (runs_few c.args.set c.args.block c.requires) }
