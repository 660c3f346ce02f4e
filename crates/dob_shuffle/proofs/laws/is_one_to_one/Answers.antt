-- Rounds are undone by rounds.
use Rattle.dob_shuffle.proofs.Turning.{number_at-below, number_at-place_of, place_again, place_of-below}
use Rattle.dob_shuffle.proofs.laws.is_one_to_one.Goals as goal

pub returns : goal.returns
returns c = record {
  number_below = number_at-below c.args.shuffle.now;
  place_below = place_of-below c.args.shuffle.now;
  place_again = place_again c.args.shuffle.now;
  number_again = number_at-place_of c.args.shuffle.now;
}
