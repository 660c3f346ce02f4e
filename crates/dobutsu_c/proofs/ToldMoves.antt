-- What is told of moves by the index of the family, or by a count, is what the file says of them.
use Rattle.dobutsu_c.proofs.Common.{◌∙◌, ◌≡◌, ◌≢◌, List, inl, inr, length, refl, ℕ, ValuedMove, IsIndexFor, AreAnsweredMoves, AreExactMoves, AreToldMoves}
use Rattle.dobutsu_c.proofs.Common.{AreToldMovesBy, AreWritten, IsMovesFault, Numbering, DobutsuMove}
use Rattle.dobutsu_c.proofs.ByFile.{moves_right}
use Rattle.dobutsu_c.proofs.Exact.{no_fault}
use Rattle.dobutsu_c.proofs.Indexed.{asked_by, not_unmarked, one_fault_by, some_fault_by, unmarked_fault}
use Rattle.dobutsu_c.proofs.IndexedMoves.{right_moves}

module _ (file text : List ℕ) (by : Numbering) (old new : List DobutsuMove) (count : ℕ) where
  -- ---- moves

  moves_told : (list : List ValuedMove) → IsIndexFor file by → AreToldMovesBy file text by list → AreToldMoves file text list
  moves_told list for is = (
    is.0,
    is.1,
    is.3,
    asked_by file text by is.0 is.1 is.2 is.3 for is.4,
    right_moves file by is.0 is.1 is.2 is.3 (for is.0 is.1 is.4.held.named) is.4.member list is.5,
  )

  list_exact : (list : List ValuedMove) → AreToldMoves file text list → AreWritten list old new → count ≡ length list → AreExactMoves file text old new count 0
  list_exact list is written counted = record {
    given = λ none. (list, is, written, counted);
    right = λ table setup file_is right named none. (list, moves_right file text table setup list file_is right named is, written, counted);
    refused = λ some. absurd (some refl);
    first = λ fault holds. absurd (no_fault file text is.0 is.1 is.2 fault is.3 holds);
  }

  pub list_answers : (list : List ValuedMove) → AreToldMovesBy file text by list → AreWritten list old new → count ≡ length list
      → AreAnsweredMoves file by text old new count 0
  list_answers list is written counted = record {
    exact = λ for. list_exact list (moves_told list for is) written counted;
    told_by = λ none. (list, is, written, counted);
    refused_by = λ some. absurd (some refl);
    unmarked = λ format family setup read wrong. absurd (not_unmarked file text by is.0 format is.1 family is.2 setup is.4.held read wrong);
  }

  -- ---- why there are none

  module _ (number : ℕ) (some : number ≢ 0) where
    fault_exact : IsIndexFor file by → IsMovesFault file text by number → AreExactMoves file text old new count number
    fault_exact for is = record {
      given = λ none. absurd (some none);
      right = λ table setup file_is right named none. absurd (some none);
      refused = λ other. elim is [
        | inl memory ↦ inl memory.0
        | inr fault ↦ let found = some_fault_by file text by fault.0 for fault.1 in inr (found.0, found.1, fault.2 ∙ found.2)
      ];
      first = λ fault holds. elim is [
        | inl memory ↦
            absurd (no_fault file text memory.1 memory.2 memory.4 fault (asked_by file text by memory.1 memory.2 memory.3 memory.4 for memory.5) holds)
        | inr by_numbers ↦ by_numbers.2 ∙ one_fault_by file text by by_numbers.0 fault for by_numbers.1 holds
      ];
    }

    pub fault_answers : IsMovesFault file text by number → AreAnsweredMoves file by text old new count number
    fault_answers is = record {
      exact = λ for. fault_exact for is;
      told_by = λ none. absurd (some none);
      refused_by = λ other. elim is [ inl memory ↦ inl memory.0 | inr fault ↦ inr fault ];
      unmarked = λ format family setup read wrong. elim is [
        | inl memory ↦ absurd (not_unmarked file text by memory.1 format memory.2 family memory.3 setup memory.5.held read wrong)
        | inr fault ↦ fault.2 ∙ unmarked_fault file text by format family setup fault.0 read wrong fault.1
      ];
    }
