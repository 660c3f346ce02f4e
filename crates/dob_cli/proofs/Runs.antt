-- From what the program does with what it read to what it owes for the words.
use Rattle.dob_cli.proofs.Common.{◌∙◌, ◌∷◌, ◌≡◌, Bool, List, [], ap, false, inl, inr, refl, subst, sym, ℕ, Err, Change, IsSame, IsUntouched, Says, SinkState}
use Rattle.dob_cli.proofs.Common.{change}
use Rattle.dob_cli.proofs.Common.{Text, IsReadingOf, meaning_of, Reading, Order, EachLine, Lines, unchanged, ShelfChange, ShelfState, shelf_change}
use Rattle.dob_cli.proofs.Common.{AnswersOver, Ending, TellsOneFault, AnswersLines, PutsAll, PutsText, StopsText, TellsOver, ProgramFault}
use Rattle.dob_files.specs.declared.fault.ProgramFault.TheVariants.{Io}
use Rattle.dob_words.specs.declared.command.Reading.TheVariants as reading
use Rattle.dob_files.specs.Endings.{AnswersHelp, AnswersUsage, AnswersVersion, Tells, TellsMemory, version_line}
use Rattle.dob_query.specs.QuestionsEach.{AreEachLines, IsEachFault}
use Rattle.dob_cli.specs.Orders.{owed_by}
use Rattle.dob_cli.specs.Runs.{Does, DoesPlaced, LeavesShelf, Ran, RanAt}
use Rattle.dob_files.specs.Faults.{fault_line, is_io}
use Rattle.std.proofs.Math.Bool.{or-false}
use Rattle.dob_cli.proofs.Orders.{order_right}
use Rattle.std.proofs.Common.{arith, true}

-- ---- the streams are those that they were
untouched_same : (c : Change) → IsUntouched c → IsSame c
untouched_same c same = rw same refl

said_same : (c : Change) (bytes : List ℕ) → Says c bytes → IsSame c
said_same c bytes says = grind arith

fault_same : (fault : ProgramFault) (status : ℕ) (c : Change) → TellsOneFault fault status c → IsSame c
fault_same fault status c told = grind (arith, said_same c)

told_same : (text : List ℕ) (e : Ending) → Tells text e → IsSame e.out × IsSame e.err
told_same text e told = grind (arith, fault_same Io e.status e.err, untouched_same e.err)

memory_same : (e : Ending) → TellsMemory e → IsSame e.out × IsSame e.err
memory_same e told = (untouched_same e.out told.1, said_same e.err _ told.0.1)

-- the pieces of a text went to the one writer
pieces_same : (first last : SinkState) (pieces : List (List ℕ)) → PutsAll first last pieces → last.writer ≡ first.writer
pieces_same first last [] same = ap (λ (s : SinkState). s.writer) same
pieces_same first last (piece ∷ more) all = pieces_same all.0 last more all.2 ∙ all.1.same

put_same : (c : Change) (text : List ℕ) → PutsText c text → IsSame c
put_same c text put = pieces_same c.before c.after put.0 put.1

stopped_same : (c : Change) (text : List ℕ) → StopsText c text → IsSame c
stopped_same c text stopped = stopped.4.1.same ∙ put_same (change c.before stopped.2) stopped.0 stopped.3

lines_same : (c : ShelfChange) (AreLines : List (List ℕ) → Bool → List ℕ → Type 0) (Holds : ProgramFault → Type 0) (e : Ending)
    → AnswersLines c AreLines Holds e
    → IsSame e.out × IsSame e.err
lines_same c AreLines Holds e (inl (r, told, status, silent)) = (put_same e.out told.0.text told.0.told, untouched_same e.err silent)
lines_same c AreLines Holds e (inr (f, told, line)) = (out_same told, fault_same f e.status e.err line)
  where
    out_same : TellsOver c AreLines Holds e.out (Err f) → IsSame e.out
    out_same (inl (holds, inl none)) = untouched_same e.out none.0
    out_same (inl (holds, inr (r, some))) = elim some.told [
      | inl put ↦ put_same e.out some.text put
      | inr stopped ↦ stopped_same e.out some.text stopped
    ]
    out_same (inr (io, (r, some), works)) = stopped_same e.out some.text some.told

over_same : (c : ShelfChange) (AreLines : List ℕ → Type 0) (Holds : ProgramFault → Type 0) (e : Ending) → AnswersOver c AreLines Holds e
    → IsSame e.out × IsSame e.err
over_same c AreLines Holds e answers = grind (arith, untouched_same, fault_same)

-- texts that are told, or that no memory was left for them
help_same : (e : Ending) → AnswersHelp e → IsSame e.out × IsSame e.err
help_same e told = grind (arith, told_same, memory_same e)

version_same : (e : Ending) → AnswersVersion e → IsSame e.out × IsSame e.err
version_same e told = grind (arith, told_same version_line e, memory_same e)

usage_same : (e : Ending) → AnswersUsage e → IsSame e.out × IsSame e.err
usage_same e (inl told) = (untouched_same e.out told.3, said_same e.err told.0 told.2)
usage_same e (inr told) = memory_same e told

-- what was told of what was read
read_same : (c : ShelfChange) (r : Reading) (e : Ending) → Does c r e → IsSame e.out × IsSame e.err
read_same c (reading.Order (Lines o)) e (inl does) = over_same c ((owed_by o).lines c) ((owed_by o).faults c) e does.0.answers
read_same c (reading.Order (EachLine f a)) e (inl does) =
    lines_same c (AreEachLines a.by a.question (c.before.has f.now)) (IsEachFault a.by c f.now) e does.0.answers
read_same c (reading.Order o) e (inr refused) = usage_same e refused.2
read_same c (reading.Help _) e does = help_same e does.0
read_same c reading.Version e does = version_same e does.0
read_same c (reading.Usage _) e does = usage_same e does.0

-- ---- what was done is what the words ask for

module _ (c : ShelfChange) (words : List Text) (e : Ending) where
  pub ran : (r : Reading) → IsReadingOf (meaning_of words) r → Does c r e → Ran c words e
  ran r read does =
      record { done = inl (record { read = r; meant = read; done = does }); same_out = (read_same c r e does).0; same_err = (read_same c r e does).1 }

  pub ran_order : (o : Order) → IsReadingOf (meaning_of words) (reading.Order o) → DoesPlaced c o e → Ran c words e
  ran_order o read (inl (answers, keeps, other)) =
      ran (reading.Order o) read (inl (record { answers = answers; right = order_right c e o answers; files = keeps }, other))
  ran_order o read (inr refused) = ran (reading.Order o) read (inr refused)

  pub ran_memory : TellsMemory e → LeavesShelf c → Ran c words e
  ran_memory told leaves = let same = memory_same e told in record { done = inr (told, leaves); same_out = same.0; same_err = same.1 }

-- these are the words
pub ran_at_on : (is_terminal : Bool) (c : ShelfChange) (given words : List Text) (e : Ending) → given ≡ words → RanAt is_terminal c given e
    → RanAt is_terminal c words e
ran_at_on is_terminal c given words e same done = subst (λ ws. RanAt is_terminal c ws e) same done

-- nothing came below what was told
pub ran_alone : (is_terminal : Bool) (c : ShelfChange) (words : List Text) (e : Ending) → Ran c words e → RanAt is_terminal c words e
ran_alone false c words e ran = ran
ran_alone true c words e ran = (e.err, ran, inl refl)

-- the fault of a device has one line
pub io_line : (fault : ProgramFault) → is_io fault ≡ true → fault_line fault ≡ fault_line Io
io_line fault is = grind arith

-- where nothing is called no call failed, nor is anything else done with the shelf
pub leaves : (shelf : ShelfState) → LeavesShelf (shelf_change shelf shelf)
leaves shelf = (unchanged shelf.has, sym (or-false shelf.has_failed), refl)
