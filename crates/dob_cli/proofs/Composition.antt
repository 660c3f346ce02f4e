-- What the words ask for is done, and what a build leaves, `probe` finds: the value by definition.
use Rattle.dob_cli.proofs.Common.{◌≡◌, List, Option, arith, inl, inr, option_map, refl, subst, sym, true≢false, ℕ, codes, Lines, Some, IsTrue, Profile}
use Rattle.dob_cli.proofs.Common.{bytes_of, Change, Text, IsOrder}
use Rattle.dob_cli.proofs.Common.{IsReadingOf, asks, meaning_of, number_in, profile_named, Reading, Order, ShelfChange, ShelfState, shelf_change, AnswersOver}
use Rattle.dob_cli.proofs.Common.{Ending, TellsOneFault, AnswersOwed, HasValueFile, ProgramFault}
use Rattle.dob_files.specs.declared.fault.ProgramFault.TheVariants.{Memory, Io}
use Rattle.dob_files.specs.Faults.{status_of}
use Rattle.dob_words.specs.declared.command.Reading.TheVariants as reading
use Rattle.dob_cli.specs.Laws.{BuildThenProbe, WordsAreAnswered}
use Rattle.std.proofs.Common.{false}
use Rattle.std.specs.Prelude.{◌⊎◌}
use Rattle.std.specs.Str.{bytes_eq}
use Rattle.dob_words.specs.Readings.{name_of_order}
use Rattle.dob_words.specs.declared.command.orders.LinesOrder.TheVariants.{Build, Certify, Migrate, Show}
use Rattle.dob_files.specs.Endings.{AnswersUsage}
use Rattle.dob_cli.specs.Orders.{AnswersOrder, AnswersRight, MakesWhatItReads, makes_file}
use Rattle.dob_cli.specs.Runs.{Does, LacksMemory, Ran, RefusesOutput}
use Rattle.dob_query.specs.Program.{value_owed}
use Rattle.dob_query.specs.Questions.{AnswersQuestionRight, probed, question_owed}
use Rattle.dob_build.specs.Builds.{build_owed}
use Rattle.dob_cli.proofs.Orders.{differs, done_build, done_probe, done_value}

-- no fault has the status of what is done
not_done : (fault : ProgramFault) → status_of fault ≡ 0 → ⊥
not_done fault e = grind arith

no_fault_told : (fault : ProgramFault) (status : ℕ) (err : Change) → TellsOneFault fault status err → status ≡ 0 → ⊥
no_fault_told fault status err told done = grind (arith, not_done)

-- the file of a build that was done is that of a value table
file_kept : (c : ShelfChange) (profile : Profile) (set : List ℕ) (nodes : Option ℕ) (file : List ℕ) (e : Ending) → IsTrue c.before.tells
    → AnswersOwed (build_owed profile set nodes file) c e → e.status ≡ 0 → HasValueFile (c.after.has file) profile
file_kept c profile set nodes file e tells (inl t) done = record {
  table = t.right.0.table;
  bytes = bytes_of t.right.0.table;
  right = t.right.0.built.right;
  rules = t.right.0.built.rules;
  file = inl refl;
  has = (t.right.0.kept tells (bytes_of t.right.0.table)).1 refl;
}
file_kept c profile set nodes file e tells (inr (inl t)) done = absurd (no_fault_told t.fault e.status e.err t.told done)
file_kept c profile set nodes file e tells (inr (inr t)) done = absurd (no_fault_told Io e.status e.err t.told done)

-- ---- what the words ask for

-- lack of memory is a fault of every order
memory_answered : (c : ShelfChange) (AreLines : List ℕ → Type 0) (Holds : ProgramFault → Type 0) (e : Ending) → Holds Memory → LacksMemory c e
    → AnswersOver c AreLines Holds e
memory_answered c AreLines Holds e holds lacks =
    inr (inl (record { fault = Memory; holds = (holds, lacks.1.1); told = inr lacks.0.0; silent = lacks.0.1 }))

-- the order that the words ask for is done, or no memory was left for them
order_done : (c : ShelfChange) (words : List Text) (e : Ending) (name : Text) (texts : List (Option Text)) (P : Type 0) → meaning_of words ≡ asks name texts
    → ((o : Order) → IsOrder name texts o → AnswersOrder c o e → AnswersRight c o e → P) → ((o : Order) → IsOrder name texts o → RefusesOutput c o e → P)
    → (LacksMemory c e → P) → Ran c words e → P
order_done c words e name texts P asked does refuses lacks ran = elim ran.done [
  | inl done ↦ go done.read (subst (λ m. IsReadingOf m done.read) asked done.meant) done.done
  | inr none ↦ lacks none
]
  where
    go : (r : Reading) → IsReadingOf (asks name texts) r → Does c r e → P
    go (reading.Order o) is (inl done) = does o is done.0.answers done.0.right
    go (reading.Order o) is (inr refused) = refuses o is refused
    go (reading.Help _) is done = absurd is
    go reading.Version is done = absurd is
    go (reading.Usage _) is done = absurd is

-- what asks for a value, or a probe, makes no file
makes_none : (name : Text) → ((o : Order) → IsTrue (makes_file o) → bytes_eq (name_of_order o) name ≡ false) → (texts : List (Option Text)) (o : Order)
    → IsOrder name texts o → IsTrue (makes_file o) → ⊥
makes_none name other texts o is makes = differs (name_of_order o) name (other o makes) is.0

value_makes_none : (o : Order) → IsTrue (makes_file o) → bytes_eq (name_of_order o) (codes "value") ≡ false
value_makes_none (Lines (Build b)) makes = refl
value_makes_none (Lines (Certify b)) makes = refl
value_makes_none (Lines (Migrate f o)) makes = refl
value_makes_none (Lines (Show f (Some p) t)) makes = refl
value_makes_none o makes = absurd (true≢false (sym makes))

probe_makes_none : (o : Order) → IsTrue (makes_file o) → bytes_eq (name_of_order o) (codes "probe") ≡ false
probe_makes_none (Lines (Build b)) makes = refl
probe_makes_none (Lines (Certify b)) makes = refl
probe_makes_none (Lines (Migrate f o)) makes = refl
probe_makes_none (Lines (Show f (Some p) t)) makes = refl
probe_makes_none o makes = absurd (true≢false (sym makes))

-- and a build reads none
build_reads_none : (texts : List (Option Text)) (o : Order) → IsOrder (codes "build") texts o → MakesWhatItReads o → ⊥
build_reads_none texts (Lines (Certify b)) is makes = differs (codes "certify") (codes "build") refl is.0
build_reads_none texts (Lines (Show f p t)) is makes = differs (codes "show") (codes "build") refl is.0
build_reads_none texts o is makes = makes

pub words_answered : (before after : ShelfState) → WordsAreAnswered before after
words_answered before after words e ran =
    let c : ShelfChange = shelf_change before after in record {
      value = λ rules text asked.
          order_done c words e _ _ (AnswersOwed (value_owed (profile_named rules) text) c e) asked (λ o is answers right. done_value c e rules text o is answers)
          (λ o is refused. absurd (makes_none (codes "value") value_makes_none _ o is refused.0))
          (memory_answered c _ _ e tt) ran;
      build = λ rules set nodes file progress asked.
          order_done c words e _ _ (AnswersOwed (build_owed (profile_named rules) set (option_map number_in nodes) file) c e ⊎ (¬ IsTrue c.before.tells × AnswersUsage e))
          asked (λ o is answers right. inl (done_build c e rules set nodes file progress o is answers))
          (λ o is refused. inr (λ tells. build_reads_none _ o is (refused.1 tells), refused.2))
          (λ lacks. inl (memory_answered c _ _ e (tt, lacks.1.0) lacks)) ran;
      probe_right = λ file text asked profile.
          order_done c words e _ _ (HasValueFile (c.before.has file) profile → AnswersQuestionRight probed c profile file text e) asked
          (done_probe c e (λ x t. HasValueFile (c.before.has x) profile → AnswersQuestionRight probed c profile x t e) file text (λ f t answers right. right profile))
          (λ o is refused. absurd (makes_none (codes "probe") probe_makes_none _ o is refused.0)) (λ lacks _. memory_answered c _ _ e tt lacks) ran;
      probe = λ file text asked.
          order_done c words e _ _ (AnswersOwed (question_owed probed file text) c e) asked
          (done_probe c e (λ x t. AnswersOwed (question_owed probed x t) c e) file text (λ f t answers right. answers))
          (λ o is refused. absurd (makes_none (codes "probe") probe_makes_none _ o is refused.0)) (memory_answered c _ _ e tt) ran;
    }

pub build_then_probe : (before built after : ShelfState) → BuildThenProbe before built after
build_then_probe before built after = λ building probing rules set nodes file position progress first next is_build is_probe tells ran done probe_ran.
    (words_answered built after probing next probe_ran).probe_right file position is_probe (profile_named rules)
    (elim ((words_answered before built building first ran).build rules set nodes file progress is_build) [
      | inl answers ↦ file_kept _ (profile_named rules) set _ file first tells answers done
      | inr refused ↦ absurd (refused.0 tells)
    ])
