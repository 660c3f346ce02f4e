-- a receipt keeps the rule, and an empty inbox holds nothing next
use Rattle.std.proofs.Common.{ap, arith}
use Rattle.std.proofs.lemmas.Grind.{common_steps}
use Rattle.dob_chan.proofs.Deliveries.{takes, next}
use Rattle.dob_chan.proofs.ends.TakeEnd.next.Goals as goal

pub pop_as-requires-clause-rule : goal.pop_as-requires-clause-rule
pop_as-requires-clause-rule g c = (takes _ _ (ap (λ v. v.takes) c.args.self.now.role), next _ _ (ap (λ v. v.takes) c.args.self.now.role))

pub overflow_add-index_mut : goal.overflow_add-index_mut
overflow_add-index_mut g c = grind (arith, common_steps)

pub invariant_of-self-2 : goal.invariant_of-self-2
invariant_of-self-2 g c = grind (arith, common_steps)
