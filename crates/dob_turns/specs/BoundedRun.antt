-- What a crew leaves whose runners made some turns without the token.
use Rattle.std.specs.Prelude.{◌≡◌, ◌≢◌, ℕ, ◌+◌, ◌-◌, ◌*◌, ◌<◌, ◌≤◌, List, ◌++◌, Option, Some, length, map, take, slice_get, slice_index}
use Rattle.dob_pieces.specs.declared.profile.Family.{Family}
use Rattle.dob_share.specs.declared.news.Item.{Item}
use Rattle.dob_update.specs.Batches.{BatchView, items_of_batches}
use Rattle.dob_board.specs.Words.{posted_word, taken_word, word_count}
use Rattle.dob_board.specs.Seats.{AreWords}
use Rattle.dob_chan.specs.declared.ends.Rejoined.{Rejoined}
use Rattle.dob_chan.specs.Inboxes.{IsLawfulInbox}
use Rattle.dob_chan.specs.Ends.{taken_by, IsRejoined}
use Rattle.dob_node.specs.declared.node.Node.{Node}
use Rattle.dob_node.specs.Nodes.{outbox_to}
use Rattle.dob_endpoint.specs.declared.slots.Outlet.{Outlet}
use Rattle.dob_endpoint.specs.declared.slots.Inlet.{Inlet}
use Rattle.dob_runner.specs.declared.runner.Runner.{Runner}
use Rattle.dob_turns.specs.declared.bounded_run.Worker.{Worker}
use Rattle.dob_turns.specs.declared.bounded_run.Turned.{Turned}
use Rattle.dob_crew.specs.CrewClose.{AreLinked, seat_in, slots_out, slots_in}
use Rattle.dob_endpoint.specs.Slots.{in_slot}
use Rattle.dob_runner.specs.Knows.{KnowsRight}
use Rattle.dob_crew.specs.CrewRunners.{endpoint_of}
use Rattle.dob_runner.specs.LawfulRunners.{planned}

-- The worker is that of node i. It has applied what its node planned for itself and isn't left in its own list, and knows just
-- what the items applied say: its cells are what these make of them.
pub record IsWorker (family : Family) (n i : ℕ) (applied : ℕ → List Item) (worker : Worker) : Type 0 where
  pub of : (worker.node.family ≡ family) × (worker.node.id ≡ i) × (worker.node.n ≡ n)
  pub own : planned worker.node i ≡ applied i ++ worker.node.own
  pub knows : KnowsRight family n i worker.node.share worker.node.history.settlements applied

-- The link from one worker's node to another's: what was sent is what was received and then what waits; the counts are those
-- of the lists; the posted word counts what was sent and what lies in the sending slot, and the taken word what was received
-- without what lies in the taking slot; what the sender's node planned is, in order, what was sent, what lies in the slot, and
-- what is left in the outbox, in batches of at most that size; and the taker's node has applied the items of the batches
-- received, without what lies in the taking slot.
pub record IsLink (n size : ℕ) (words : List ℕ) (i j : ℕ) (sender taker : Worker) (applied : List Item) (link : Rejoined) : Type 0 where
  pub sent : List BatchView
  pub received : List BatchView
  pub sending : Option BatchView
  pub taking : Option BatchView
  pub sending_is : slice_get sender.sending.items j ≡ Some sending
  pub taking_is : slice_get taker.taking.items i ≡ Some taking
  pub sent_count : link.sent ≡ length sent
  pub received_count : link.received ≡ length received
  pub lawful : IsLawfulInbox sent received link.waiting.items
  pub posted : slice_index words (posted_word n i j) ≡ link.sent + length (in_slot sending)
  pub taken : slice_index words (taken_word n i j) + length (in_slot taking) ≡ link.received
  pub planned_is : i ≢ j → planned sender.node j ≡ items_of_batches (sent ++ in_slot sending) ++ (outbox_to sender.node j).items
  pub small : i ≢ j → (k : ℕ) (batch : BatchView) → slice_get (sent ++ in_slot sending) k ≡ Some batch → length batch.items ≤ size
  pub applied_is : i ≢ j → applied ≡ items_of_batches (take (length received - length (in_slot taking)) received)

-- n workers of the family, and a link from each to each, by the items of each that each has applied
pub record IsTurned (family : Family) (n size : ℕ) (turned : Turned) : Type 0 where
  pub applied : ℕ → ℕ → List Item
  pub count : length turned.workers.items ≡ n
  pub words : length turned.closed.words.items ≡ word_count n
  pub links_count : length turned.links.items ≡ n * n
  pub nodes : (i : ℕ) (worker : Worker) → slice_get turned.workers.items i ≡ Some worker → IsWorker family n i (λ from. applied from i) worker
  pub links : (i j : ℕ) (sender taker : Worker) → slice_get turned.workers.items i ≡ Some sender → slice_get turned.workers.items j ≡ Some taker →
      (link : Rejoined) × (slice_get turned.links.items (i * n + j) ≡ Some link)
      × IsLink n size turned.closed.words.items i j sender taker (applied i j) link

-- Over each link of n nodes went at most so many batches: by its counts, and by what was sent and received.
pub record CarriesFew (n most : ℕ) (turned : Turned) : Type 0 where
  pub counts : (i j : ℕ) → i < n → j < n →
      (slice_index turned.closed.words.items (posted_word n i j) ≤ most) × (slice_index turned.closed.words.items (taken_word n i j) ≤ most)
  pub links : (i j : ℕ) → i < n → j < n →
      (link : Rejoined) × (slice_get turned.links.items (i * n + j) ≡ Some link) × (link.sent ≤ most) × (link.received ≤ most)

-- The first workers have the nodes and the rows of slots that stand at their places.
pub record AreWorkers (upto : ℕ) (nodes : List Node) (sending taking : List (List (Option BatchView))) (workers : List Worker) : Type 0 where
  pub count : length workers ≡ upto
  pub each : (k : ℕ) (worker : Worker) → slice_get workers k ≡ Some worker →
      (slice_get nodes k ≡ Some worker.node) × (slice_get sending k ≡ Some worker.sending.items) × (slice_get taking k ≡ Some worker.taking.items)

-- The workers of a crew's runners: each has its runner's node and slots; and the rest is what their endpoints leave.
pub record HasLeft (n : ℕ) (runners : List Runner) (turned : Turned) : Type 0 where
  pub count : length turned.workers.items ≡ length runners
  pub workers : (k : ℕ) (worker : Worker) → slice_get turned.workers.items k ≡ Some worker → (runner : Runner) × (slice_get runners k ≡ Some runner)
      × (worker.node ≡ runner.node) × (worker.sending.items ≡ slots_out runner.endpoint) × (worker.taking.items ≡ slots_in runner.endpoint)
  pub words : AreWords n (map seat_in (map endpoint_of runners)) turned.closed.words.items
  pub links_count : length turned.links.items ≡ n * n
  pub links : (i j : ℕ) (outlet : Outlet) (inlet : Inlet) → AreLinked (map endpoint_of runners) i j outlet inlet →
      (link : Rejoined) × (slice_get turned.links.items (i * n + j) ≡ Some link) × IsRejoined outlet.end (taken_by inlet.end) link
