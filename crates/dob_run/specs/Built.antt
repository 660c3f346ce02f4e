-- What a build by threads leaves.
use Rattle.std.specs.Prelude.{◌≡◌, ◌≢◌, ℕ, ◌+◌, ◌*◌, ◌<◌, ◌≤◌, ◌==◌, cond, List, [], Some, length, slice_get, slice_index_or, slice_index}
use Rattle.std.specs.List.{count_by, sum_by, range_with_len}
use Rattle.dob_pieces.specs.declared.profile.Family.{Family}
use Rattle.dob_rank.specs.Families.{classes_of}
use Rattle.dob_distance.specs.declared.value.Value.{Value}
use Rattle.dob_distance.specs.declared.value.Value.TheVariants.{Draw}
use Rattle.dob_distance.specs.Entries.{is_draw}
use Rattle.dob_value.specs.Follows.{IsValueTable}
use Rattle.dob_unmove.specs.Edges.{predecessors}
use Rattle.dob_share.specs.Owners.{owner_of}
use Rattle.dob_board.specs.Words.{posted_word, taken_word, word_count}
use Rattle.dob_chan.specs.declared.ends.Rejoined.{Rejoined}
use Rattle.dob_run.specs.declared.built_table.Built.{Built}

-- how many items give node j the value of a class: one for each move into it from a class of node j
abbrev pub edges_to : Family → ℕ → ℕ → ℕ → ℕ
edges_to family n j class = count_by (λ from. owner_of n from == j) (predecessors family class)

-- how many items node i has to send node j at least: those of its classes that aren't a draw
abbrev pub needed : Family → ℕ → List Value → ℕ → ℕ → ℕ
needed family n values i j = sum_by (λ class. cond (owner_of n class == i) (cond (is_draw (slice_index_or values class Draw)) 0 (edges_to family n j class)) 0)
    (range_with_len 0 (classes_of family))

-- The link from node i to node j is done: the batches posted, taken, sent and received are one number, nothing waits, and in
-- so many batches of that size there was room for all that i had to send j.
pub record IsLinkDone (family : Family) (n size : ℕ) (words : List ℕ) (values : List Value) (i j : ℕ) (link : Rejoined) : Type 0 where
  pub posted : slice_index words (posted_word n i j) ≡ link.sent
  pub taken : slice_index words (taken_word n i j) ≡ link.sent
  pub received : link.received ≡ link.sent
  pub waiting : link.waiting.items ≡ []
  pub enough : i ≢ j → needed family n values i j ≤ link.sent * size

-- n nodes with batches of at most that size have built the family's table: the end was announced, each link is done, and
-- the table is the value table.
pub record IsBuilt (family : Family) (n size : ℕ) (built : Built) : Type 0 where
  pub family_is : built.table.family ≡ family
  pub values : IsValueTable family built.table.values
  pub words : length built.closed.words.items ≡ word_count n
  pub ended : slice_index built.closed.words.items 2 ≡ 1
  pub count : length built.links.items ≡ n * n
  pub links : (i j : ℕ) → i < n → j < n → (link : Rejoined) × (slice_get built.links.items (i * n + j) ≡ Some link)
      × IsLinkDone family n size built.closed.words.items built.table.values i j link
