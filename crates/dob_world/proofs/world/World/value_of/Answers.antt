-- The class is its owner's own, which shows the value of the world.
use Rattle.dob_world.proofs.Common.{◌<◌, ◌∙◌, ◌≡◌, List, ap, cond, eqb, refl, slice_get, subst, sym, ℕ, lt-ltb, classes_of, IsEntry, Draw, fresh, owner_of}
use Rattle.dob_world.proofs.Common.{HasValueNow, IsOwn, cell_at, status_at, below_owner, value_shown, Node, part, nodes_shown, world_shown, IsNodeOf, Stand}
use Rattle.dob_world.proofs.Common.{Nodes, Setting, value_in, Detector, Lane}
use Rattle.dob_distance.specs.declared.value.Value.{Value}
use Rattle.dob_history.proofs.Kept.{last_now-entry}
use Rattle.dob_world.proofs.InPlace.{NodeAt, kept_of, node_there}
use Rattle.dob_world.proofs.world.World.value_of.Goals as goal
use Rattle.dob_world.proofs.world.World.value_of.Goals.{After-index}

module _ {k : Setting} {nodes : List Node} {lanes : List Lane} {detector : Detector} {steps : ℕ} (stand : Stand k nodes lanes detector steps)
    (class : ℕ) (low : class < classes_of k.family) {node : Node} (there : NodeAt nodes (owner_of k.n class) node) where
  abbrev shown : Nodes
  shown = (world_shown k.family k.n nodes lanes).nodes

  is_node : IsNodeOf k (owner_of k.n class) node
  is_node = stand.places.node (owner_of k.n class) node there.is

  -- the class is its owner's own
  owned : IsOwn node.share class
  owned = ((kept_of is_node).owned class).1 (refl, low)

  cell_shown : shown.cell class ≡ cell_at node.share class
  unfolding world_shown nodes_shown
  cell_shown = ap (λ b. cond b (part (fresh 0) (λ (x : Node). cell_at x.share class) (slice_get nodes (owner_of k.n class))) (fresh 0))
      (lt-ltb class (classes_of k.family) low)
      ∙ ap (part (fresh 0) (λ (x : Node). cell_at x.share class)) there.is

  -- it shows the value of the world
  shows : (v : Value) → HasValueNow node.share class v → v ≡ value_in k.n shown class
  shows v is = value_shown k.family k.n shown.history shown.applied shown.cell (value_in k.n shown) stand.lawful class low (cell_at node.share class) cell_shown
      (status_at node.share class) v (is_node.statuses class owned) is

  -- which a table can have
  shows_entry : (v : Value) → HasValueNow node.share class v → IsEntry v
  shows_entry v is = subst (λ w. IsEntry w) (sym (shows v is))
      (last_now-entry (λ s. eqb s.class class) Draw (shown.history (owner_of k.n class)) tt
      (stand.lawful.entries (owner_of k.n class) (below_owner k.n class stand.setting.nodes.0)))

-- the owner stands at its place
there : (c : After-index) → NodeAt c.args.self.now.nodes.items (owner_of c.args.self.now.node_count c.args.class) c.index.result.now
there c = subst (λ (m : ℕ). NodeAt c.args.self.now.nodes.items m c.index.result.now)
    (c.owner-node.ensures.owner ∙ ap (λ (n : ℕ). owner_of n c.args.class) c.get.ensures.value)
    (node_there c.requires.standing.places c.owner-node.result c.index.result.now
    (subst (λ (n : ℕ). c.owner-node.result < n) c.get.ensures.value c.owner-node.ensures.one_of_n) c.index.ensures)

pub value-requires : goal.value-requires
value-requires c = owned c.requires.standing c.args.class c.requires.low (there (goal.at.value-requires c).After-index)

pub returns-clause-value : goal.returns-clause-value
returns-clause-value c =
    shows c.requires.standing c.args.class c.requires.low (there (goal.at.returns-clause-value c).After-index) c.value.result c.value.ensures

pub returns-clause-entry : goal.returns-clause-entry
returns-clause-entry c =
    shows_entry c.requires.standing c.args.class c.requires.low (there (goal.at.returns-clause-entry c).After-index) c.value.result c.value.ensures
