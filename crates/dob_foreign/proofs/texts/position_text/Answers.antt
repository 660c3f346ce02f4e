-- A position's hands are small enough for the room.
use Rattle.dob_foreign.proofs.Hands.{few_own, few_theirs}
use Rattle.dob_foreign.proofs.texts.position_text.Goals as goal

pub push_hand-requires-clause-few : goal.push_hand-requires-clause-few
push_hand-requires-clause-few c = few_own c.args.position.now.setup c.args.position.now.legal

pub push_hand-requires-2-clause-few : goal.push_hand-requires-2-clause-few
push_hand-requires-2-clause-few c = few_theirs c.args.position.now.setup c.args.position.now.legal
