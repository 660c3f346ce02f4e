-- What is held and asked by an index of the file's family is what is held and asked without it.
use Rattle.dobutsu_c.proofs.Common.{◌*◌, ◌+◌, ◌-◌, ◌/◌, ◌^◌, ◌∙◌, ◌≡◌, ◌≤◌, List, None, Option, Some, ap, arith, drop, get_or, inl, inr, length, refl, sym}
use Rattle.dobutsu_c.proofs.Common.{take, ℕ, Family, Profile, Setup, classes_of-below, classes_of, Value, IsIndex, whole, IsNoLonger, NamesFamily}
use Rattle.dobutsu_c.proofs.Common.{count_place, header_len, count_bytes, Format, HasByFault, IsGivenBy, IsIndexFor, IsMarkedBy, IsRight, IsToldBy, number_by}
use Rattle.dobutsu_c.proofs.Common.{fault_number, AreRead, HasProbeFault, IsAsked, IsGiven, IsTextOf, IsTold, ByFault, QuestionFault, Numbering}
use Rattle.dob_rank.proofs.Positions.Sets.{same_numbers}
use Rattle.dob_dbfile.proofs.Places.{same_head}
use Rattle.dobutsu_c.specs.declared.fault.QuestionFault.TheVariants.{Text, File, Member}
use Rattle.dobutsu_c.specs.declared.numbering.Numbering.TheVariants as numbering
use Rattle.dobutsu_c.specs.declared.by_index.ByFault.TheVariants.{Asked, Index}
use Rattle.dob_foreign.specs.Profiles.{profile_number}
use Rattle.dobutsu_c.specs.Counts.{IsFamily}
use Rattle.dobutsu_c.specs.ByIndex.{IsLongFor, IsHeldBy, IsAskedBy, AreNoIndex, HasFileFault, HasHeldFault}
use Rattle.dobutsu_c.proofs.Exact.{no_text_fault, no_file_fault, no_fault, one_fault}

-- ---- one family has those numbers
same_profile : (p q : Profile) → profile_number p ≡ profile_number q → p ≡ q
same_profile p q is = grind arith

pub one_family : (chicks elephants giraffes profile : ℕ) (f g : Family) → IsFamily chicks elephants giraffes profile f
    → IsFamily chicks elephants giraffes profile g
    → f ≡ g
one_family chicks elephants giraffes profile f g is also =
    rw (
      same_numbers f.set g.set (is.chicks_are ∙ sym also.chicks_are) (is.elephants_are ∙ sym also.elephants_are) (is.giraffes_are ∙ sym also.giraffes_are),
      same_profile f.profile g.profile (is.profile_is ∙ sym also.profile_is),
    ) refl

-- ---- what is held

-- a count is right of each family
pub all_counted : (file : List ℕ) → IsIndexFor file numbering.Counted
all_counted file format family named = tt

-- what is right is marked
right_marked : (by : Numbering) (family : Family) → IsRight by family → IsMarkedBy by family
right_marked by family is = grind arith

-- the classes that an index counts are those of its family
pub counted : (family : Family) (index : List ℕ) (classes : ℕ) → (get_or index 1 0 ≤ 2 ^ 42 → classes ≡ get_or index 1 0) → IsIndex family index
    → classes ≡ classes_of family
counted family index classes read is = omega (arith, classes_of-below family, is.count_is, read)

pub held_right : (file : List ℕ) (by : Numbering) (format : Format) (family : Family) (classes : ℕ) → NamesFamily format family file
    → take 8 (drop (count_place format) file) ≡ count_bytes classes → length file ≡ header_len format + 2 * classes + 32 → classes ≡ classes_of family
    → (classes ≡ classes_of family) × IsNoLonger format family (whole file)
held_right file by format family classes named bytes long is =
    (is, (((named, bytes ∙ ap count_bytes is), omega (arith, long, is)), omega (arith, long, is)))

-- a file of a family is as long as its classes need, which half of what is left of its length are
header_bound : (format : Format) → (20 ≤ header_len format) × (header_len format ≤ 21)
header_bound format = grind arith

pub long_classes : (file : List ℕ) (format : Format) (family : Family) → IsNoLonger format family (whole file)
    → (length file - 52) / 2 ≡ classes_of family
long_classes file format family is = omega (arith, (header_bound format).0, (header_bound format).1, is.0.1, is.1)

pub same_classes : (file : List ℕ) (format f : Format) (family g : Family) (classes : ℕ) → IsLongFor file format family classes
    → IsNoLonger f g (whole file) → (family ≡ g) × (classes ≡ classes_of g)
same_classes file format f family g classes is whole =
    let head = same_head format f family g file is.named whole.0.0.0 in
    (head.1, omega (arith, ap header_len head.0, is.long, whole.0.1, whole.1))

-- there is something and nothing
pub both : {X : Type 0} (found : Option X) (x : X) → found ≡ None → found ≡ Some x → ⊥
both found x none some = (let e : (let o : Option _ = None in o) ≡ Some x = sym none ∙ some in cc)

-- ---- what is asked
pub by_file : (file text : List ℕ) (by : Numbering) (setup : Setup) (fault : ByFault) → IsTextOf text setup → HasHeldFault file by fault
    → HasByFault file text by fault
by_file file text by setup Index named is = (is.0, is.1, setup, named, elim is.2 [ inl unmarked ↦ inl unmarked | inr whole ↦ inr (whole.1, inl whole.0) ])
by_file file text by setup fault named is = grind arith

pub by_file_fault : (file : List ℕ) (by : Numbering) (fault : ByFault) → HasFileFault file fault
    → ((format : Format) (family : Family) → IsNoLonger format family (whole file) → IsRight by family → ⊥) → HasHeldFault file by fault
by_file_fault file by Index is wrong = (is.0, is.1, inr (is.2, wrong is.0 is.1 is.2))
by_file_fault file by fault is wrong = grind arith

pub read_by : (file text : List ℕ) (by : Numbering) (format : Format) (family : Family) (classes : ℕ) (setup : Setup) → IsIndexFor file by → IsTextOf text setup
    → IsHeldBy file by format family classes → AreRead file text format family setup
read_by file text by format family classes setup for named held = (named, (held.right (for format family held.named)).1)

pub asked_by : (file text : List ℕ) (by : Numbering) (format : Format) (family : Family) (classes : ℕ) (setup : Setup) → IsIndexFor file by
    → IsAskedBy file text by format family classes setup → IsAsked file text format family setup
asked_by file text by format family classes setup for is = (read_by file text by format family classes setup for is.named is.held, is.member)

pub given_by : (file : List ℕ) (by : Numbering) (format : Format) (family : Family) (classes : ℕ) (setup : Setup) (value : Value) → IsRight by family
    → IsGivenBy file by format family classes setup value → IsGiven file format family setup value
given_by file by format family classes setup value index_is given = (given.class, given.right index_is, given.read)

-- what is told by the index of the family is what is told without one
pub told_by_right : (file text : List ℕ) (by : Numbering) (value : Value) → IsIndexFor file by → IsToldBy file text by value → IsTold file text value
told_by_right file text by value for is = (
  is.0,
  is.1,
  is.3,
  asked_by file text by is.0 is.1 is.2 is.3 for is.4,
  given_by file by is.0 is.1 is.2 is.3 value (for is.0 is.1 is.4.held.named) is.5,
)

-- ---- faults

-- the numbers are no index of the family that the file names
no_index : (file : List ℕ) (by : Numbering) (format : Format) (family : Family) (setup : Setup) → IsIndexFor file by → AreNoIndex file by format family setup
    → ⊥
no_index file by format family setup for (inl unmarked) = unmarked.0 (right_marked by family (for format family unmarked.2.named))
no_index file by format family setup for (inr (none, inl read)) = none (for format family read.0.0.0)
no_index file by format family setup for (inr (none, inr fits)) = none (for format family fits.1.named)

pub some_fault_by : (file text : List ℕ) (by : Numbering) (given : ByFault) → IsIndexFor file by → HasByFault file text by given
    → (fault : QuestionFault) × HasProbeFault file text fault × (number_by given ≡ fault_number fault)
some_fault_by file text by (Asked (Member stranger)) for is =
    (Member stranger, (is.0, is.1, is.3, read_by file text by is.0 is.1 is.2 is.3 for is.4.0 is.4.1, is.5), refl)
some_fault_by file text by Index for is = absurd (no_index file by is.0 is.1 is.2 for is.4)
some_fault_by file text by (Asked fault) for is = (fault, is, refl)

pub no_fault_by : (file text : List ℕ) (by : Numbering) (format : Format) (family : Family) (setup : Setup) (given : ByFault) → IsIndexFor file by
    → IsAsked file text format family setup → HasByFault file text by given → ⊥
no_fault_by file text by format family setup given for asked wrong =
    let some = some_fault_by file text by given for wrong in
    no_fault file text format family setup some.0 asked some.1

pub one_fault_by : (file text : List ℕ) (by : Numbering) (given : ByFault) (fault : QuestionFault) → IsIndexFor file by → HasByFault file text by given
    → HasProbeFault file text fault → number_by given ≡ fault_number fault
one_fault_by file text by given fault for is holds =
    let some = some_fault_by file text by given for is in
    some.2 ∙ ap fault_number (one_fault file text some.0 fault some.1 holds)

-- ---- numbers that aren't marked as an index of the file's family

-- the family that a file names is the one that it is held by
marked_by : (file : List ℕ) (by : Numbering) (format f : Format) (family g : Family) (classes : ℕ) → IsHeldBy file by format family classes
    → NamesFamily f g file
    → (IsMarkedBy by g → ⊥) → ⊥
marked_by file by format f family g classes held names wrong = wrong (rw (same_head format f family g file held.named names).1 at held.marked)

pub not_unmarked : (file text : List ℕ) (by : Numbering) (format f : Format) (family g : Family) (classes : ℕ) (s : Setup)
    → IsHeldBy file by format family classes → AreRead file text f g s → (IsMarkedBy by g → ⊥) → ⊥
not_unmarked file text by format f family g classes s held read wrong = marked_by file by format f family g classes held read.1.0.0.0 wrong

pub unmarked_fault : (file text : List ℕ) (by : Numbering) (format : Format) (family : Family) (setup : Setup) (given : ByFault)
    → AreRead file text format family setup → (IsMarkedBy by family → ⊥) → HasByFault file text by given → number_by given ≡ 29
unmarked_fault file text by format family setup (Asked (Text fault)) read wrong is = absurd (no_text_fault text setup fault read.0 is)
unmarked_fault file text by format family setup (Asked (File fault)) read wrong is = absurd (no_file_fault file format family fault read.1 is.2 is.3)
unmarked_fault file text by format family setup (Asked (Member stranger)) read wrong is =
    absurd (marked_by file by is.0 format is.1 family is.2 is.4.1 read.1.0.0.0 wrong)
unmarked_fault file text by format family setup Index read wrong is = refl
