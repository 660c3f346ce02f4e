-- The owner stands at its place.
use Rattle.dob_gather.proofs.Common.{◌∙◌, ◌≡◌, Some, length, subst, sym, ℕ, same_Some, slice_get, read_there, owner_of, HasValueNow, Share}
use Rattle.dob_gather.proofs.gathering.value_of.Goals as goal
use Rattle.dob_gather.proofs.gathering.value_of.Goals.{After-index-shares-node}

there : (c : After-index-shares-node) → slice_get c.args.shares.now (owner_of (length c.args.shares.now) c.args.class) ≡ Some c.index-shares-node.result
there c = subst (λ (m : ℕ). slice_get c.args.shares.now m ≡ Some c.index-shares-node.result) c.owner-node.ensures.owner
    (read_there c.args.shares.now c.owner-node.result c.index-shares-node.result c.owner-node.ensures.one_of_n c.index-shares-node.is)

pub value-requires : goal.value-requires
value-requires c = c.requires.own c.index-shares-node.result (there (goal.at.value-requires c).After-index-shares-node)

pub returns : goal.returns
returns c = λ share at.
    subst (λ (s : Share). HasValueNow s c.args.class c.value.result)
    (same_Some c.index-shares-node.result share (sym (there (goal.at.returns c).After-index-shares-node) ∙ at)) c.value.ensures
