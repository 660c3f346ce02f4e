-- What the program does by its words, said of some of them, and what it does in turn.
use Rattle.std.specs.Prelude.{◌≡◌, ◌⊎◌, IsTrue, List, Option, option_map}
use Rattle.dob_words.specs.Words.{Text, build, meaning_of, number_in, probe, profile_named, value}
use Rattle.dob_files.specs.Endings.{AnswersUsage, Ending}
use Rattle.dob_files.specs.Owed.{AnswersOwed, ByValueFile}
use Rattle.dob_query.specs.Program.{value_owed}
use Rattle.dob_shelf.specs.Shelves.{ShelfChange, ShelfState, shelf_change}
use Rattle.dob_query.specs.Questions.{AnswersQuestionRight, probed, question_owed}
use Rattle.dob_build.specs.Builds.{build_owed}
use Rattle.dob_cli.specs.Runs.{Ran}

-- Words that ask for a value, a build or a probe get just that, by their own texts; or the file of a build is one of the program's streams.
pub record AnswersWords (c : ShelfChange) (words : List Text) (e : Ending) : Type 0 where
  pub value : (rules : Option Text) (position : Text) → meaning_of words ≡ value rules position → AnswersOwed (value_owed (profile_named rules) position) c e
  pub build : (rules : Option Text) (set : Text) (nodes : Option Text) (file : Text) (progress : Option Text)
      → meaning_of words ≡ build rules set nodes file progress
      → AnswersOwed (build_owed (profile_named rules) set (option_map number_in nodes) file) c e ⊎ (¬ IsTrue c.before.tells × AnswersUsage e)
  -- by the file of a value table the value printed is right, by its rules
  pub probe_right : (file position : Text) → meaning_of words ≡ probe file position
      → ByValueFile c file (λ profile. AnswersQuestionRight probed c profile file position e)
  pub probe : (file position : Text) → meaning_of words ≡ probe file position → AnswersOwed (question_owed probed file position) c e

-- the program does so
abbrev pub WordsAreAnswered : ShelfState → ShelfState → Type 0
WordsAreAnswered before after = (words : List Text) (e : Ending) → Ran (shelf_change before after) words e → AnswersWords (shelf_change before after) words e

-- Where the words of a build were done, over a shelf that tells its bytes, words that probe its file give the value that the
-- position has by definition, by the rules of the build.
abbrev pub BuildThenProbe : ShelfState → ShelfState → ShelfState → Type 0
BuildThenProbe before built after =
    (building probing : List Text) (rules : Option Text) (set : Text) (nodes : Option Text) (file position : Text) (progress : Option Text) (first next : Ending)
    → meaning_of building ≡ build rules set nodes file progress → meaning_of probing ≡ probe file position → IsTrue before.tells
    → Ran (shelf_change before built) building first → first.status ≡ 0
    → Ran (shelf_change built after) probing next → AnswersQuestionRight probed (shelf_change built after) (profile_named rules) file position next
