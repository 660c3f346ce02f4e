-- The promise of the whole, in three parts, of which each holds in every world after any events.
use Rattle.std.specs.Prelude.{◌≡◌, ◌≢◌, ℕ, ◌<◌, true, List}
use Rattle.dob_pieces.specs.Lists.{IsBeginning}
use Rattle.dob_moves.specs.declared.position_status.Status.{Status}
use Rattle.dob_moves.specs.Statuses.{HasStatus}
use Rattle.dob_rank.specs.Families.{classes_of}
use Rattle.dob_rank.specs.Families.{class_setup}
use Rattle.dob_distance.specs.declared.value.Value.{Value}
use Rattle.dob_value.specs.Follows.{IsValueTable}
use Rattle.dob_history.specs.Histories.{AreValuesBelow}
use Rattle.dob_history.specs.Lawful.{known_of}
use Rattle.dob_history.specs.Quiet.{FollowsAtStatus}
use Rattle.dob_safra.specs.Rings.{in_flight}
use Rattle.dob_world.specs.declared.event.Event.{Event}
use Rattle.dob_world.specs.Worlds.{Setting, Nodes, WorldView, State, value_in, items_in, AreLawful, IsAtRest, Matches, waiting_batches}
use Rattle.dob_world.specs.Events.{CanHappen, WorldMayEnd}

-- Each class has the value that follows, at its status, from what the copies of its moves know by the items applied.
abbrev pub HaveKnownValues : Setting → Nodes → Type 0
HaveKnownValues k nodes = (class : ℕ) (status : Status) → class < classes_of k.family → HasStatus k.family.profile (class_setup k.family class) status →
    FollowsAtStatus status (known_of k.family k.n nodes.history nodes.applied class) (value_in k.n nodes class)

-- What was sent over each link is a beginning of the items of the sender's history, and what its receiver has applied is a
-- beginning of what was sent, in its order and each item once; of its own items a node has applied a beginning. Each cell
-- and value is what the items applied say.
pub record AreBeginnings (k : Setting) (world : WorldView) : Type 0 where
  pub sent : (i j : ℕ) → i < k.n → j < k.n → i ≢ j → IsBeginning (world.sent i j) (items_in k world.nodes i j)
  pub applied : (i j : ℕ) → i < k.n → j < k.n → i ≢ j → IsBeginning (world.nodes.applied i j) (world.sent i j)
  pub own : (i : ℕ) → i < k.n → IsBeginning (world.nodes.applied i i) (items_in k world.nodes i i)
  pub cells : AreLawful k world.nodes
  pub known : HaveKnownValues k world.nodes

-- Nothing is left to do, and so no event can happen.
pub record IsSilent (k : Setting) (state : State) : Type 0 where
  pub rest : IsAtRest k state.world
  pub nothing : (event : Event) → ¬ CanHappen k state event

-- The values of all classes are those of the game: each position's win or loss with the least forced distance, or a draw.
abbrev pub HasRightValues : Setting → WorldView → Type 0
HasRightValues k world = (values : List Value) → AreValuesBelow (value_in k.n world.nodes) (classes_of k.family) values → IsValueTable k.family values

-- What each owner has applied from a sender is a beginning of what that sender sent; once the end is announced nothing more
-- is sent or applied, and the values are right. The ring's state is lawful and matches the world, as many batches are in
-- flight as wait on the links, and the end may be announced only where nothing is left to do.
pub record Headline (k : Setting) (state : State) : Type 0 where
  pub beginnings : AreBeginnings k state.world
  pub silence : state.ring.announced ≡ true → IsSilent k state
  pub gathering : state.ring.announced ≡ true → HasRightValues k state.world
  pub matches : Matches k state
  pub flight : in_flight k.n state.ring ≡ waiting_batches k.n state.world
  pub quiet : WorldMayEnd k state → IsAtRest k state.world
