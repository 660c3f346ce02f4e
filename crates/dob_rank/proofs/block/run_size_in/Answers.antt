-- The runs of a block have the size that the numbers on its board say.
use Rattle.std.proofs.Common.{◌<◌, ◌≤◌, ℕ, sym, subst, ◌^◌}
use Rattle.dob_rank.proofs.Positions.Blocks.{HasDigits-numbers}
use Rattle.dob_rank.proofs.Positions.Blocks.{AreFewOnBoard-digits}
use Rattle.dob_rank.proofs.InRuns.RunPlaces.{run_size-found, run_size-some, run_size-small}
use Rattle.dob_rank.proofs.block.run_size_in.Goals as goal

pub choices_in-requires : goal.choices_in-requires
choices_in-requires c = AreFewOnBoard-digits c.args.set _ (HasDigits-numbers c.args.set c.args.block _ c.requires c.numbers_in-on_board.ensures)

pub size_of_runs-requires-clause-few : goal.size_of_runs-requires-clause-few
size_of_runs-requires-clause-few c = AreFewOnBoard-digits c.args.set _ (HasDigits-numbers c.args.set c.args.block _ c.requires c.numbers_in-on_board.ensures)

pub returns : goal.returns
returns c =
    let is = run_size-found c.args.set c.args.block _ _ c.numbers_in-on_board.ensures c.size_of_runs.ensures.value in
    record {
      value = is;
      positive = subst (λ (n : ℕ). 0 < n) (sym is) (run_size-some c.args.set c.args.block c.requires);
      bound = subst (λ (n : ℕ). n ≤ 2 ^ 36) (sym is) (run_size-small c.args.set c.args.block c.requires);
    }
