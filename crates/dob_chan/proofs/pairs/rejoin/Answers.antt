-- the rejoining of the one end is the only one
use Rattle.dob_chan.proofs.Common.{◌∷◌, ◌≡◌, [], ap, rules, Some, slice_get}
use Rattle.dob_chan.proofs.pairs.rejoin.Goals as goal

pub returns-in-Ok-rejoin_inbox-clause-joined : goal.returns-in-Ok-rejoin_inbox-clause-joined
returns-in-Ok-rejoin_inbox-clause-joined g c =
    let one : c.push_reserved.new.self.items ≡ c.args.send ∷ [] = search rules in
    let send : slice_get c.push_reserved.new.self.items 0 ≡ Some c.args.send = ap (λ l. slice_get l 0) one in
    let joined : slice_get c.in-Ok-rejoin_inbox.joined.items 0 ≡ Some c.only_one.result = ap (λ l. slice_get l 0) c.only_one.ensures in
    c.in-Ok-rejoin_inbox.ensures.joined.1 0 c.args.send c.only_one.result send joined
