-- Numbers marked one after the other.
use Rattle.dob_reach.proofs.Common.{◌%◌, ◌*◌, ◌++◌, ◌+◌, ◌/◌, ◌<◌, ◌^◌, ◌∙◌, ◌∷◌, ◌≡◌, ◌≢◌, ◌≤◌, AreMarked, Contains, Contains-append_left, IsMarked}
use Rattle.dob_reach.proofs.Common.{KeepsMarks, List, [], ap, arith, bit_or, cases_eq, get_or, inl, inr, length, mark_of, set, subst, sym, w64, ℕ}
use Rattle.std.proofs.lemmas.List.Elements.{Contains-push, Contains-push_cases}
use Rattle.std.specs.Int.{bit_at}
use Rattle.std.proofs.lemmas.List.{get_or-set_other, get_or-set_same}
use Rattle.std.proofs.lemmas.Nat.Bits.{bit_at_set_other, bit_at_set_same}
use Rattle.dob_reach.proofs.Counts.{apart_more}

-- ---- a bit

module _ (words : List ℕ) (number word : ℕ) (bits : number + 1 ≤ length words * 64) (read : word ≡ get_or words (number / 64) 0) where
  abbrev pub added : List ℕ
  added = set words (number / 64) (bit_or word (1 * 2 ^ (number % 64) % 2 ^ 64))

  place : number / 64 < length words
  place = omega (arith, bits)

  inner : number % 64 < 64
  inner = omega arith

  pub added_marked : IsMarked added number
  added_marked =
      ap (λ w. bit_at w (number % 64)) (get_or-set_same words (number / 64) (bit_or word (1 * 2 ^ (number % 64) % 2 ^ 64)) 0 place)
      ∙ bit_at_set_same w64 word (number % 64) inner

  pub added_others : (other : ℕ) → other ≢ number → mark_of added other ≡ mark_of words other
  added_others other apart = elim (cases_eq (other / 64) (number / 64)) [
    | inl same ↦
        let bit_apart : other % 64 ≢ number % 64 = λ e. apart (omega (arith, same, e)) in
        ap (λ k. bit_at (get_or added k 0) (other % 64)) same
        ∙ (ap (λ w. bit_at w (other % 64)) (get_or-set_same words (number / 64) (bit_or word (1 * 2 ^ (number % 64) % 2 ^ 64)) 0 place)
        ∙ (bit_at_set_other w64 word (number % 64) inner (other % 64) bit_apart
        ∙ (ap (λ w. bit_at w (other % 64)) read ∙ ap (λ k. bit_at (get_or words k 0) (other % 64)) (sym same))))
    | inr elsewhere ↦ ap (λ w. bit_at w (other % 64)) (get_or-set_other words (number / 64) (other / 64) (bit_or word (1 * 2 ^ (number % 64) % 2 ^ 64)) 0 elsewhere)
  ]

-- ---- marks
pub keeps_both : {a b c : List ℕ} → KeepsMarks a b → KeepsMarks b c → KeepsMarks a c
keeps_both first second = record { long = second.long ∙ first.long; kept = λ number is. second.kept number (first.kept number is) }

-- a number was marked before
pub marked_twice : (before words done next : List ℕ) (number : ℕ) → AreMarked before words done next → IsMarked words number
    → AreMarked before words (done ++ number ∷ []) next
marked_twice before words done next number are is = record {
  keeps = are.keeps;
  marked = are.marked;
  fresh = are.fresh;
  listed = λ other there. let had = are.listed other there in (had.0, Contains-append_left done (number ∷ []) other had.1);
  whole = λ other there. elim (Contains-push_cases done number other there) [
    | inl earlier ↦ are.whole other earlier
    | inr same ↦ subst (IsMarked words) same is
  ];
  once = are.once;
}

-- a number is marked now
pub marked_more : (before words done next after : List ℕ) (number : ℕ) → AreMarked before words done next → (¬ IsMarked words number)
    → length after ≡ length words → IsMarked after number → ((other : ℕ) → other ≢ number → mark_of after other ≡ mark_of words other)
    → AreMarked before after (done ++ number ∷ []) (next ++ number ∷ [])
marked_more before words done next after number are not_yet long marked others = record {
  keeps = record { long = long ∙ are.keeps.long; kept = λ other is. stays other (are.keeps.kept other is) };
  marked = λ other is. elim (cases_eq other number) [
    | inl same ↦ inr (subst (Contains (next ++ number ∷ [])) (sym same) (Contains-push next number))
    | inr apart ↦ elim (are.marked other (sym (others other apart) ∙ is)) [
      | inl old ↦ inl old
      | inr there ↦ inr (Contains-append_left next (number ∷ []) other there)
    ]
  ];
  fresh = λ other there old. elim (Contains-push_cases next number other there) [
    | inl earlier ↦ are.fresh other earlier old
    | inr same ↦ not_yet (are.keeps.kept number (subst (IsMarked before) (sym same) old))
  ];
  listed = λ other there. elim (Contains-push_cases next number other there) [
    | inl earlier ↦ let had = are.listed other earlier in (stays other had.0, Contains-append_left done (number ∷ []) other had.1)
    | inr same ↦ (subst (IsMarked after) same marked, subst (Contains (done ++ number ∷ [])) same (Contains-push done number))
  ];
  whole = λ other there. elim (Contains-push_cases done number other there) [
    | inl earlier ↦ stays other (are.whole other earlier)
    | inr same ↦ subst (IsMarked after) same marked
  ];
  once = apart_more next number are.once (λ there. not_yet (are.listed number there).0);
}
  where
    stays : (other : ℕ) → IsMarked words other → IsMarked after other
    stays other is = elim (cases_eq other number) [
      | inl same ↦ subst (IsMarked after) (sym same) marked
      | inr apart ↦ others other apart ∙ is
    ]
