-- Where the numbers of an index stand: first the family's mark, the number of classes and how many numbers there are; then a row for each block; then the
-- entries of each run whose lions both stand on column b, block by block and run by run.
use Rattle.std.specs.Prelude.{ℕ, ◌+◌, ◌*◌, ◌/◌}
use Rattle.dob_pieces.specs.declared.piece_set.PieceSet.{PieceSet}
use Rattle.dob_pieces.specs.declared.profile.Family.{Family}
use Rattle.dob_pieces.specs.Profiles.{profile_number}
use Rattle.dob_rank.specs.Numbers.{product, sum_below, block_bases}
use Rattle.dob_rank.specs.Runs.{run_size, run_kind, lion_pairs}
use Rattle.dob_rank.specs.declared.runs.RunKind.{RunKind}
use Rattle.dob_rank.specs.declared.runs.RunKind.TheVariants.{First, Later, Mixed}

-- the first number: the eight letters "dobuidx1", and which family it is
abbrev pub mark_of : Family → ℕ
mark_of family = 7237111382626564145 + (27 * profile_number family.profile + 9 * family.set.chicks + 3 * family.set.elephants + family.set.giraffes)

-- where the block's row begins: the classes of the block before each of the first hand's runs and before their end, the classes before the
-- block, and where the entries of each of those runs begin
abbrev pub row_at : ℕ → ℕ
row_at block = 3 + 200 * block

-- how many places an entry stands for, and how many entries a run has: one before each so many places
abbrev pub entry_places : ℕ
entry_places = 256

abbrev pub entries_in : PieceSet → ℕ → ℕ
entries_in set block = run_size set block / entry_places + 1

-- how many entries the first hand's runs of those lions have
abbrev pub where_mixed : RunKind → ℕ → ℕ
where_mixed Mixed entries = entries
where_mixed First entries = 0
where_mixed Later entries = 0

abbrev pub run_words : PieceSet → ℕ → ℕ → ℕ
run_words set block lions = where_mixed (run_kind lions) (entries_in set block)

-- where the entries of the runs of a block before one begin
abbrev pub entries_at : PieceSet → ℕ → ℕ → ℕ
entries_at set block lions =
    row_at (product (block_bases set)) + (sum_below (λ b. sum_below (run_words set b) lion_pairs) block + sum_below (run_words set block) lions)

-- how many numbers an index has
abbrev pub words_of : PieceSet → ℕ
words_of set = entries_at set (product (block_bases set)) 0
