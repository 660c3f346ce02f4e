-- What the program owes for an order: of each subcommand the record that stands with its answer.
use Rattle.std.specs.Prelude.{◌≡◌, Bool, false, true, Some}
use Rattle.dob_words.specs.declared.command.orders.LinesOrder.{LinesOrder}
use Rattle.dob_words.specs.declared.command.orders.LinesOrder.TheVariants.{Ask, Build, Certify, Check, Count, Info, Migrate, Puzzles, Reach, Reply, Show, Stats, Value, Verify, Zugzwangs}
use Rattle.dob_words.specs.declared.command.orders.Order.{Order}
use Rattle.dob_words.specs.declared.command.orders.Order.TheVariants.{EachLine, Lines}
use Rattle.dob_words.specs.Readings.{text_given}
use Rattle.dob_shelf.specs.Shelves.{Files, SameFiles, ShelfChange}
use Rattle.dob_files.specs.Endings.{Ending}
use Rattle.dob_files.specs.Owed.{AnswersOwed, ByValueFile, Owed}
use Rattle.dob_query.specs.Program.{value_owed}
use Rattle.dob_query.specs.Sizes.{count_owed}
use Rattle.dob_query.specs.Questions.{question_owed}
use Rattle.dob_query.specs.QuestionsEach.{AnswersEach, AnswersEachRight}
use Rattle.dob_query.specs.Shows.{show_owed}
use Rattle.dob_verdict.specs.Certificates.{certify_owed, most_entries, verify_owed}
use Rattle.dob_verdict.specs.Headers.{info_owed}
use Rattle.dob_verdict.specs.Replying.{reply_owed}
use Rattle.dob_survey.specs.Reaches.{reach_owed}
use Rattle.dob_survey.specs.Stats.{stats_owed}
use Rattle.dob_survey.specs.Checks.{check_owed}
use Rattle.dob_survey.specs.Migrations.{migrate_owed}
use Rattle.dob_survey.specs.Puzzles.{puzzles_owed}
use Rattle.dob_survey.specs.Zugzwangs.{zugzwangs_owed}
use Rattle.dob_build.specs.Builds.{build_owed}

-- what is owed for an order that lines answer
abbrev pub owed_by : LinesOrder → Owed
owed_by (Value profile position) = value_owed profile position.now
owed_by (Count profile set) = count_owed profile set.now
owed_by (Reach search file position) = reach_owed search (text_given file) position.now
owed_by (Build order) = build_owed order.profile order.set.now order.nodes order.file.now
owed_by (Ask file asked position) = question_owed asked file.now position.now
owed_by (Check file is_watched) = check_owed file.now
owed_by (Show file picture position) = show_owed (text_given file) (text_given picture) position.now
owed_by (Stats file form) = stats_owed file.now form
owed_by (Zugzwangs file listed) = zugzwangs_owed file.now listed
owed_by (Puzzles file search) = puzzles_owed file.now search
owed_by (Migrate file out) = migrate_owed file.now out.now
owed_by (Certify order) = certify_owed order.file.now order.out.now order.is_exact (most_entries order.most) order.position.now
owed_by (Verify file is_watched) = verify_owed file.now
owed_by (Reply file position) = reply_owed file.now position.now
owed_by (Info file is_object) = info_owed file.now is_object

-- what the program does with an order
abbrev pub AnswersOrder : ShelfChange → Order → Ending → Type 0
AnswersOrder c (Lines order) = AnswersOwed (owed_by order) c
AnswersOrder c (EachLine file asked) = AnswersEach asked c file.now

-- by the file of a value table it does so rightly
abbrev pub AnswersRight : ShelfChange → Order → Ending → Type 0
AnswersRight c (Lines order) e = (owed_by order).right c e
AnswersRight c (EachLine file asked) e = ByValueFile c file.now (λ profile. AnswersEachRight asked c profile file.now e)

-- ---- the file that an order makes

-- it makes one
abbrev pub makes_file : Order → Bool
makes_file (Lines (Build order)) = true
makes_file (Lines (Certify order)) = true
makes_file (Lines (Migrate file out)) = true
makes_file (Lines (Show file (Some picture) position)) = true
makes_file _ = false

-- that one has the name of the one that is read, where what is read would be lost by that
abbrev pub MakesWhatItReads : Order → Type 0
MakesWhatItReads (Lines (Certify order)) = order.out.now ≡ order.file.now
MakesWhatItReads (Lines (Show (Some file) (Some picture) position)) = picture.now ≡ file.now
MakesWhatItReads _ = ⊥

-- it leaves each file what it had, but for the one that the order names to be made
abbrev pub KeepsFiles : Order → Files → Files → Type 0
KeepsFiles (Lines order) = (owed_by order).keeps
KeepsFiles (EachLine file asked) = SameFiles
