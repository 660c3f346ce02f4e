-- Sets of squares in one word: five of twelve bits each, which no sum carries over.
use Rattle.dob_pieces.proofs.Common.{◌%◌, ◌+◌, ◌-◌, ◌<◌, ◌^◌, ◌∙◌, ◌∷◌, ◌≡◌, ◌≢◌, ◌≤◌, List, None, [], ap, arith, drop, length, refl, slice_index_or}
use Rattle.dob_pieces.proofs.Common.{inl, inr, one_if, suc, sym, zero, ℕ, cases_Bool, AreSquares, Bool, Cell, at, Setup}
use Rattle.std.proofs.lemmas.List.{ext_get_or}
use Rattle.dob_pieces.specs.Changes.{IsWith}
use Rattle.std.proofs.Common.{◌*◌}
use Rattle.std.proofs.Math.Nat.{pow-succ'}
use Rattle.std.proofs.Math.Seq.{drop-cons}
use Rattle.dob_pieces.specs.Boards.{entry, is_any_lion, is_chick, is_elephant, is_foe, is_giraffe_or_hen}
unfoldable use Rattle.dob_pieces.specs.Boards.{planes_of}
use Rattle.dob_pieces.proofs.CellPlanes.{IsRead, are_squares, from_start, mask_of, mask_of-small, plane, word_by, word_by-parts, word_by-small}

-- ---- five sets, each with the squares that pass its test
abbrev word_of : List Cell → ℕ
word_of cells =
    word_by (mask_of is_any_lion cells) (mask_of is_foe cells) (mask_of is_chick cells) (mask_of is_elephant cells) (mask_of is_giraffe_or_hen cells)

-- a cell adds a bit to each set
bit_more : (test : Cell → Bool) (cell : Cell) (cells : List Cell) → mask_of test (cell ∷ cells) ≡ 2 * mask_of test cells + one_if (test cell)
bit_more test cell cells = elim (cases_Bool (test cell)) [
  | inl e ↦ rw e (omega arith)
  | inr e ↦ rw e (omega arith)
]

planes_are : (cells : List Cell) → planes_of cells ≡ word_of cells
unfolding planes_of
planes_are [] = refl
planes_are (cell ∷ cells) =
    omega (
      arith,
      planes_are cells,
      bit_more is_any_lion cell cells,
      bit_more is_foe cell cells,
      bit_more is_chick cell cells,
      bit_more is_elephant cell cells,
      bit_more is_giraffe_or_hen cell cells,
    )

planes_small : (cells : List Cell) → length cells ≤ 12 → planes_of cells < 2 ^ 60
planes_small cells le = rw (planes_are cells) (grind (arith, word_by-small, mask_of-small))

-- each test's squares stand at its unit
pub record HasPlanes (setup : Setup) (word : ℕ) : Type 0 where
  pub lions_are : AreSquares setup is_any_lion (plane word 1)
  pub foes_are : AreSquares setup is_foe (plane word 4096)
  pub chicks_are : AreSquares setup is_chick (plane word 16777216)
  pub elephants_are : AreSquares setup is_elephant (plane word 68719476736)
  pub giraffes_and_hens_are : AreSquares setup is_giraffe_or_hen (plane word 281474976710656)

pub has_planes : (setup : Setup) (word : ℕ) → length setup.board ≡ 12 → word ≡ planes_of setup.board → HasPlanes setup word
has_planes setup word twelve is =
    let le : length setup.board ≤ 12 = omega (arith, twelve) in
    let small = λ (test : Cell → Bool). mask_of-small test setup.board le in
    let a = word_by-parts (mask_of is_any_lion setup.board) (mask_of is_foe setup.board) (mask_of is_chick setup.board)
    (mask_of is_elephant setup.board) (mask_of is_giraffe_or_hen setup.board)
    (small is_any_lion) (small is_foe) (small is_chick) (small is_elephant) (small is_giraffe_or_hen) in
    let unit = λ (unit : ℕ). ap (λ (word : ℕ). plane word unit) (is ∙ planes_are setup.board) in
    record {
      lions_are = are_squares setup is_any_lion (plane word 1) twelve (unit 1 ∙ a.first);
      foes_are = are_squares setup is_foe (plane word 4096) twelve (unit 4096 ∙ a.second);
      chicks_are = are_squares setup is_chick (plane word 16777216) twelve (unit 16777216 ∙ a.third);
      elephants_are = are_squares setup is_elephant (plane word 68719476736) twelve (unit 68719476736 ∙ a.fourth);
      giraffes_and_hens_are = are_squares setup is_giraffe_or_hen (plane word 281474976710656) twelve (unit 281474976710656 ∙ a.fifth);
    }

-- ---- the pass over the board
cell_read : (board : List Cell) (i : ℕ) → i < length board → planes_of (drop i board) ≡ 2 * planes_of (drop (suc i) board) + entry (slice_index_or board i None)
unfolding planes_of
cell_read board i lt = ap planes_of (drop-cons board i None lt)

-- from its last square on
pub word_read : (board : List Cell) (square word read : ℕ) → length board ≡ 12 → 0 < square → square ≤ 12 → word ≡ planes_of (drop square board)
    → read ≡ entry (slice_index_or board (square - 1) None)
    → IsRead word (2 * word + read) (2 ^ 60) (planes_of (drop (square - 1) board))
word_read board square word read twelve some le w r =
    let e : suc (square - 1) ≡ square = omega arith in
    let more = cell_read board (square - 1) (omega arith) in
    let rest = ap (λ (k : ℕ). planes_of (drop k board)) e in
    let next : 2 * word + read ≡ planes_of (drop (square - 1) board) = omega (arith, more, rest, w, r) in
    let before = planes_small (drop square board) (from_start board square twelve) in
    let after = planes_small (drop (square - 1) board) (from_start board (square - 1) twelve) in
    record { small = rw w before; small_next = rw next after; next_is = next }

-- nothing is read of no squares
pub none_read : (board : List Cell) → length board ≡ 12 → 0 ≡ planes_of (drop 12 board)
unfolding planes_of
none_read (a ∷ b ∷ c ∷ d ∷ e ∷ i ∷ j ∷ k ∷ l ∷ m ∷ n ∷ o ∷ []) twelve = refl
none_read board twelve = absurd (omega arith)

-- ---- a piece more
planes_same : (before after : List Cell) → length after ≡ length before
    → ((j : ℕ) → j < length before → slice_index_or after j None ≡ slice_index_or before j None) → planes_of after ≡ planes_of before
planes_same before after long same = ap planes_of (ext_get_or None after before long (λ i lt. same i (rw long at lt)))

-- on an empty square a piece adds what its cell says, as many bits up
planes_grown : (before after : List Cell) (k : ℕ) (cell : Cell) → length after ≡ length before → k < length before
    → slice_index_or before k None ≡ None → slice_index_or after k None ≡ cell
    → ((j : ℕ) → j < length before → j ≢ k → slice_index_or after j None ≡ slice_index_or before j None)
    → planes_of after ≡ planes_of before + entry cell * 2 ^ k
unfolding planes_of
planes_grown [] after k cell long low empty here there = absurd (omega arith)
planes_grown (x ∷ before) [] k cell long low empty here there = absurd (omega arith)
planes_grown (x ∷ before) (y ∷ after) zero cell long low empty here there =
    rw (empty, here, planes_same before after (omega arith) (λ j lt. there (suc j) (omega arith) (omega arith))) (omega arith)
planes_grown (x ∷ before) (y ∷ after) (suc k) cell long low empty here there =
    let rest = planes_grown before after k cell (omega arith) (omega arith) empty here (λ j lt apart. there (suc j) (omega arith) (λ e. apart (omega (arith, e)))) in
    rw (there 0 (omega arith) (omega arith), rest) (doubled (planes_of before) (entry cell) (2 ^ k) (entry x) (2 ^ suc k) (pow-succ' 2 k))
  where
    doubled : (a b c d e : ℕ) → e ≡ 2 * c → 2 * (a + b * c) + d ≡ 2 * a + d + b * e
    doubled a b c d e is = rw is (grind arith)

-- so without a carry
pub piece_comes : (before after : Setup) (square planes : ℕ) (cell : Cell) → length before.board ≡ 12 → length after.board ≡ 12 → square < 12
    → at before square ≡ None → IsWith before after square cell → planes ≡ planes_of before.board
    → (planes + entry cell * 2 ^ square % 2 ^ 64) % 2 ^ 64 ≡ planes_of after.board
piece_comes before after square planes cell long grown lt empty w is =
    let sum = planes_grown before.board after.board square cell (grown ∙ sym long) (omega (arith, long, lt)) empty w.here
    (λ j below apart. w.there j (omega (arith, below, long)) apart) in
    let small = planes_small after.board (omega (arith, grown)) in
    omega (arith, sum, small, is)
