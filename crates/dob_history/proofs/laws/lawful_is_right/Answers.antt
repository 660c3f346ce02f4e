-- Where lawful nodes have applied all items, the values of the classes are the value table.
use Rattle.dob_history.proofs.Ends.{lawful_is_right}
use Rattle.dob_history.proofs.laws.lawful_is_right.Goals as goal

pub returns : goal.returns
returns c = lawful_is_right
