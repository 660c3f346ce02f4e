-- The masks of the tables are the steps of the kinds: computed for each kind and each two squares.
use Rattle.dob_pieces.proofs.Common.{◌&&◌, ◌<◌, ◌==◌, ◌||◌, ◌≡◌, Bool, List, [], cond, eqb, get_or, ltb, not, refl, slice_index_or, subst, true, ℕ, and_parts}
use Rattle.dob_pieces.proofs.Common.{eqb-true}
use Rattle.dob_pieces.proofs.Common.{ltb-true, bit, bit_at, IsMask, kind_place, leads, with_square, without_square, Kind, Lion}
use Rattle.dob_pieces.specs.declared.steps.TheConstants.{TARGETS, SOURCES}
use Rattle.dob_pieces.proofs.Boards.{all_below, all_below-at}
use Rattle.dob_pieces.proofs.MaskBits.{IsMask-or, IsMask-without, bit-small}

-- the mask has just the squares that pass the test
abbrev pub has_bits : (ℕ → Bool) → ℕ → Bool
has_bits test mask = ltb mask 4096 && all_below (λ square. eqb (bit_at mask square) (cond (test square) 1 0)) 12

pub is_mask : (test : ℕ → Bool) (mask : ℕ) → has_bits test mask ≡ true → IsMask test mask
is_mask test mask h =
    let parts = and_parts (ltb mask 4096) (all_below (λ square. eqb (bit_at mask square) (cond (test square) 1 0)) 12) h in
    record {
      within = ltb-true mask 4096 parts.0;
      bits = λ square lt.
          eqb-true (bit_at mask square) (cond (test square) 1 0)
          (all_below-at (λ square. eqb (bit_at mask square) (cond (test square) 1 0)) 12 square parts.1 lt);
    }

-- the set of one square
abbrev alone_test : ℕ → Bool
alone_test square = has_bits (λ s. s == square) (bit square)

all_alone : all_below alone_test 12 ≡ true
all_alone = refl

pub alone : (square : ℕ) → square < 12 → IsMask (λ s. s == square) (bit square)
alone square lt = is_mask (λ s. s == square) (bit square) (all_below-at alone_test 12 square all_alone lt)

-- a set with a square more, and one without a square
pub IsMask-more : (test : ℕ → Bool) (mask square : ℕ) → square < 12 → IsMask test mask → IsMask (λ s. test s || (s == square)) (with_square mask square)
IsMask-more test mask square lt is = IsMask-or test (λ s. s == square) mask (bit square) is (alone square lt)

pub IsMask-less : (test : ℕ → Bool) (mask square : ℕ) → square < 12 → IsMask test mask → IsMask (λ s. test s && not (s == square)) (without_square mask square)
IsMask-less test mask square lt is = IsMask-without test (λ s. s == square) mask (bit square) is (alone square lt)

-- a kind's row
abbrev row_of : List (List ℕ) → Kind → List ℕ
row_of table kind = slice_index_or table (kind_place kind) []

targets_computed : (kind : Kind) → all_below (λ from. has_bits (leads kind from) (get_or (row_of TARGETS kind) from 0)) 12 ≡ true
unfolding leads
targets_computed Lion = refl
targets_computed _ = refl

sources_computed : (kind : Kind) → all_below (λ to. has_bits (λ from. leads kind from to) (get_or (row_of SOURCES kind) to 0)) 12 ≡ true
unfolding leads
sources_computed Lion = refl
sources_computed _ = refl

-- a mask read from a table
table_mask : (test : ℕ → ℕ → Bool) (table : List ℕ) (square index : ℕ) → all_below (λ k. has_bits (test k) (get_or table k 0)) 12 ≡ true
    → index ≡ square → index < 12 → IsMask (test square) (get_or table index 0)
table_mask test table square index computed at low =
    let mask = is_mask (test index) (get_or table index 0) (all_below-at (λ k. has_bits (test k) (get_or table k 0)) 12 index computed low) in
    subst (λ (i : ℕ). IsMask (test i) (get_or table index 0)) at mask

-- that of targets

pub target_read : (kind : Kind) (row from index : ℕ) → row ≡ kind_place kind → index ≡ from → index < 12
    → IsMask (leads kind from) (slice_index_or (slice_index_or TARGETS row []) index 0)
target_read kind row from index is at low = rw is (table_mask (leads kind) (row_of TARGETS kind) from index (targets_computed kind) at low)

-- and that of sources

pub source_read : (kind : Kind) (row to index : ℕ) → row ≡ kind_place kind → index ≡ to → index < 12
    → IsMask (λ from. leads kind from to) (slice_index_or (slice_index_or SOURCES row []) index 0)
source_read kind row to index is at low = rw is (table_mask (λ k from. leads kind from k) (row_of SOURCES kind) to index (sources_computed kind) at low)

pub ruleset alone_laws = (alone, bit-small)

pub ruleset rows = (target_read, source_read)
