-- The law, from the lemma on consistent tables.
use Rattle.dob_value.proofs.Consistency.{consistent_is_right}
use Rattle.dob_value.proofs.laws.law_consistent.Goals as goal

pub returns : goal.returns
returns c = consistent_is_right
