-- What is answered of a list of a certificate, by the first refusal of its entries.
use Rattle.dob_check.proofs.Common.{◌+◌, ◌<◌, ◌≡◌, Err, List, None, Ok, Option, Some, arith, length, subst, sym, ℕ, unwrap_or, Result}
use Rattle.dob_certificate.specs.declared.entry.Entry.{Entry}
use Rattle.dob_certificate.specs.declared.refusal.Refusal.{Refusal}
use Rattle.dob_certificate.specs.Ascending.{listed_entry}
use Rattle.dob_certificate.specs.Refusals.{IsEntryVerdict, IsListVerdict}
use Rattle.dob_certificate.proofs.Firsts.{entries_done, first_found}
use Rattle.dob_check.proofs.Found.{IsFirst}

abbrev pub Answer : Type 0
Answer = Result Unit Refusal

module _ (Supported : Entry → Type 0) (entries : List Entry) where
  abbrev pub SupportedAt : ℕ → Type 0
  SupportedAt place = Supported (listed_entry entries place)

  -- what is answered to the entry at a place
  abbrev pub AnswersAt : ℕ → Answer → Type 0
  AnswersAt place answer = IsEntryVerdict Supported (listed_entry entries place) answer

  -- what is answered of the list
  pub list_answered : (found : Option Answer) (result : Answer) → result ≡ unwrap_or found (Ok tt) → IsFirst SupportedAt AnswersAt 0 (length entries) found →
      IsListVerdict Supported entries result
  list_answered None result is first = subst (IsListVerdict Supported entries) (sym is)
      (entries_done Supported entries (length entries) (omega arith) (λ place below. first place (omega arith) (omega (arith, below))))
  list_answered (Some (Ok x)) result is first = absurd (cc (first.3))
  list_answered (Some (Err why)) result is first =
      let within : first.0 < 0 + length entries = first.1 in
      subst (IsListVerdict Supported entries) (sym is)
      (first_found Supported entries first.0 why (omega (arith, within)) (λ place below. first.4 place (omega arith) below) first.2)
