-- The first fault among the verdicts of all parts of a table, or of all entries, as a search over them finds it.
use Rattle.dob_check.proofs.Common.{◌*◌, ◌+◌, ◌<◌, ◌∙◌, ◌∷◌, ◌≡◌, ◌≤◌, Bool, Err, List, None, Ok, Option, Result, Some, [], ap, arith, false, inl, inr, length}
use Rattle.dob_check.proofs.Common.{subst, suc, sym, true, zero, ℕ, Bor, cases_lt, AllZip, range_with_len, unwrap_or, is_err, slice_get, filter_by_mask, Verdict}
use Rattle.dob_check.proofs.Common.{part_count, part_end}
use Rattle.dob_value.specs.Follows.{ClassTable}
use Rattle.dob_probe.specs.Checks.{AllFollow, ClassFollows}
use Rattle.dob_probe.specs.Faults.{IsVerdict}
use Rattle.dob_probe.specs.declared.fault.Fault.TheVariants.{Inconsistent}
use Rattle.dob_check.proofs.Places.{placed}

-- what holds of each number for which there is something in a list
pub each_has : {Y : Type 0} (P : ℕ → Type 0) (from count : ℕ) (ys : List Y) → AllZip (λ (k : ℕ) (y : Y). P k) (range_with_len from count) ys → (k : ℕ) →
    from ≤ k → k < from + count → P k
each_has P from zero ys are k low high = absurd (omega (arith, low, high))
each_has P from (suc count) [] are k low high = absurd are
each_has P from (suc count) (y ∷ ys) are k low high = elim (cases_lt from k) [
  | inl later ↦ each_has P (from + 1) count ys are.1 k (omega (arith, later)) (omega (arith, high))
  | inr upto ↦ let same : from ≡ k = omega (arith, low, upto) in subst P same are.0
]

-- what a search asks of each verdict
abbrev IsAsked : {E : Type 0} → Result (Unit {0}) E → Bool → Type 0
IsAsked {E = E} v b = (p : Bor (Result (Unit {0}) E)) × (p.now ≡ v) × (b ≡ is_err p.now)

module _ {E : Type 0} (Fits : ℕ → Type 0) (Says : ℕ → Result (Unit {0}) E → Type 0) where
  -- Of so many numbers from one on: each fits, where nothing was found; or what was found is what is said of the first that isn't passed.
  abbrev pub IsFirst : ℕ → ℕ → Option (Result (Unit {0}) E) → Type 0
  IsFirst from count None = (k : ℕ) → from ≤ k → k < from + count → Fits k
  IsFirst from count (Some verdict) = (k : ℕ) × (k < from + count) × Says k verdict × (is_err verdict ≡ true)
      × ((other : ℕ) → from ≤ other → other < k → Fits other)

  module _ (passes : (k : ℕ) (x : Unit {0}) → Says k (Ok x) → Fits k) where
    passed : (k : ℕ) (verdict : Result (Unit {0}) E) → Says k verdict → is_err verdict ≡ false → Fits k
    passed k (Ok x) is not_err = passes k x is
    passed k (Err fault) is not_err = absurd (cc)

    one_more : (from count : ℕ) (found : Option (Result (Unit {0}) E)) → Fits from → IsFirst (from + 1) count found → IsFirst from (suc count) found
    one_more from count None here rest = λ k low high. elim (cases_lt from k) [
      | inl later ↦ rest k (omega arith) (omega arith)
      | inr upto ↦ let same : from ≡ k = omega arith in subst Fits same here
    ]
    one_more from count (Some verdict) here rest =
        let high : rest.0 < from + 1 + count = rest.1 in (
          rest.0,
          omega arith,
          rest.2,
          rest.3,
          λ other low below. elim (cases_lt from other) [
            | inl later ↦ rest.4 other (omega arith) below
            | inr upto ↦ let same : from ≡ other = omega arith in subst Fits same here
          ],
        )

    pub first_found : (from count : ℕ) (verdicts : List (Result (Unit {0}) E)) (answers : List Bool) → AllZip Says (range_with_len from count) verdicts
        → AllZip IsAsked verdicts answers → IsFirst from count (slice_get (filter_by_mask verdicts answers) 0)
    first_found from zero [] [] are told = λ k low high. absurd (omega arith)
    first_found from zero [] (b ∷ answers) are told = absurd told
    first_found from zero (v ∷ verdicts) answers are told = absurd are
    first_found from (suc count) [] answers are told = absurd are
    first_found from (suc count) (v ∷ verdicts) [] are told = absurd told
    first_found from (suc count) (v ∷ verdicts) (true ∷ answers) are told =
        (from, omega arith, are.0, sym (told.0.2 ∙ ap is_err told.0.1), λ other low below. absurd (omega arith))
    first_found from (suc count) (v ∷ verdicts) (false ∷ answers) are told =
        one_more from count (slice_get (filter_by_mask verdicts answers) 0) (passed from v are.0 (sym (told.0.2 ∙ ap is_err told.0.1)))
        (first_found (from + 1) count verdicts answers are.1 told.1)

-- ---- what is answered of a table, by the verdicts of its parts

module _ (table : ClassTable) where
  abbrev pub PartFollows : ℕ → Type 0
  PartFollows place = AllFollow table (place * 65536) (part_end table.values place)

  abbrev pub IsPartVerdict : ℕ → Verdict → Type 0
  IsPartVerdict place verdict = IsVerdict table (place * 65536) (part_end table.values place) verdict

  -- the first fault of its parts
  abbrev pub IsFirstFault : Option Verdict → Type 0
  IsFirstFault found = IsFirst PartFollows IsPartVerdict 0 (part_count table.values) found

  -- where the parts before one follow, the classes before its own do
  before_part : (place : ℕ) → ((other : ℕ) → other < place → PartFollows other) → (class : ℕ) → class < place * 65536 → class < length table.values →
      ClassFollows table class
  before_part place parts class below within =
      let at = placed table.values class within in parts at.0 (omega (arith, below, at.2)) class at.2 at.3

  verdict_of_all : (found : Option Verdict) → IsFirstFault found → IsVerdict table 0 (length table.values) (unwrap_or found (Ok tt))
  verdict_of_all None parts = λ class low within.
      before_part (part_count table.values) (λ place below. parts place (omega arith) (omega (arith, below))) class (omega (arith, within)) within
  verdict_of_all (Some (Ok x)) first = absurd (cc (first.3))
  verdict_of_all (Some (Err (Inconsistent class))) first =
      let place : ℕ = first.0 in
      let broken = first.2 in
      let within : class < length table.values = omega (arith, broken.low, broken.high) in record {
        low = omega arith;
        high = within;
        breaks = broken.breaks;
        before = λ other low below. elim (cases_lt other (place * 65536)) [
          | inl earlier ↦ before_part place (λ k. first.4 k (omega arith)) other earlier (omega arith)
          | inr from ↦ broken.before other from below
        ];
      }
  verdict_of_all (Some (Err _)) first = absurd first.2

  pub table_answered : (found : Option Verdict) (result : Verdict) → result ≡ unwrap_or found (Ok tt) → IsFirstFault found
      → IsVerdict table 0 (length table.values) result
  table_answered found result is first = subst (IsVerdict table 0 (length table.values)) (sym is) (verdict_of_all found first)
