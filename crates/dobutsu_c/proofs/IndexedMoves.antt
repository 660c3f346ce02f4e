-- The moves by the index of the family are the moves by what the file gives, and why they aren't told.
use Rattle.dobutsu_c.proofs.Common.{◌≡◌, List, inl, inr, refl, ℕ, Family, Setup, IsPositionOf, Format, AreValuedMoves, ValuedMove, IsGivenBy, IsRight, AreMovesBy}
use Rattle.dobutsu_c.proofs.Common.{IsGiven, IsMovesFault, ByFault, Numbering}
use Rattle.dob_probe.proofs.ByValue.{said_valued}
use Rattle.dob_probe.specs.Said.{IsGapOfMoves}
use Rattle.dob_probe.specs.declared.gap.LookupFault.{LookupFault}
use Rattle.dob_probe.specs.declared.gap.LookupFault.TheVariants.{NoValue, Inconsistent, Memory}
use Rattle.dobutsu_c.proofs.Exact.{one_given}
use Rattle.dobutsu_c.proofs.Indexed.{given_by}
use Rattle.dobutsu_c.specs.declared.by_index.ByFault.TheVariants as by_fault
use Rattle.dobutsu_c.specs.ByIndex.{IsAskedBy}
use Rattle.dobutsu_c.specs.Moves.{gap_number}

module _ (file : List ℕ) (by : Numbering) (format : Format) (family : Family) (classes : ℕ) (setup : Setup) where
  pub right_moves : IsRight by family → IsPositionOf family setup → (list : List ValuedMove) → AreMovesBy file by format family classes setup list
      → AreValuedMoves family.profile (IsGiven file format family) setup list
  right_moves index_is member list are =
      said_valued family (IsGivenBy file by format family classes) (IsGiven file format family)
      (λ q value given. given_by file by format family classes q value index_is given) (λ q v w inside a b. one_given file format family q v w a b)
      setup member list are

  pub gap_told : (text : List ℕ) (gap : LookupFault ByFault) → IsAskedBy file text by format family classes setup
      → IsGapOfMoves family.profile (λ q fault. (fault ≡ by_fault.Index) × ¬ IsRight by family) setup gap → IsMovesFault file text by (gap_number gap)
  gap_told text (NoValue fault) asked lacks =
      inr (
        by_fault.Index,
        (format, family, setup, asked.named, inr (lacks.2.1, inr (classes, asked.held, asked.member))),
        rw lacks.2.0 refl,
      )
  gap_told text (Inconsistent class) asked none = absurd none
  gap_told text Memory asked memory = inl (refl, format, family, classes, setup, asked)
