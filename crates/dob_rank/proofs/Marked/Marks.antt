-- Marked places: how many setups there are whose place is marked and below a bound, and the places of first setups.
use Rattle.dob_rank.proofs.Common.{◌++◌, ◌+◌, ◌<◌, ◌∙◌, ◌∷◌, ◌≡◌, ◌≢◌, ◌≤◌, Bool, [], ap, arith, false, inl, inr, refl, subst, suc, true, zero, ℕ, cases_Bool}
use Rattle.dob_rank.proofs.Common.{cases_lt, lt-ltb, length_push, Contains, mirrored, PieceSet, Setup, is_first, marked, marks_below, one_if, nth, rank_of_set}
use Rattle.dob_rank.proofs.Common.{size_of_set, HasCount, IsFirstOfTwo, IsPositionOfSet, nat_tests}
use Rattle.std.proofs.lemmas.Bool.{le-leb, leb-true}
use Rattle.std.proofs.lemmas.List.Elements.{All-nil, All-push, All-weaker, Contains-push, Contains-append_left}
use Rattle.std.proofs.lemmas.List.Quantifiers.{all_pairs_push}
use Rattle.dob_rank.proofs.Positions.Numbering.{nth-block, nth-rank_of_set, rank_of_set-nth, rank_of_set-below}
use Rattle.dob_rank.proofs.Marked.Representatives.{first_by_rank, rank_of_first}

-- the setups that have the property are numbered from 0 without gaps
pub record IsNumbering (P : Setup → Type 0) (n : ℕ) (nth : ℕ → Setup) (index : Setup → ℕ) : Type 0 where
  pub sound : (i : ℕ) → i < n → P (nth i)
  pub below : (setup : Setup) → P setup → index setup < n
  pub back : (setup : Setup) → P setup → nth (index setup) ≡ setup
  pub forth : (i : ℕ) → i < n → index (nth i) ≡ i

-- the same setups are as many
pub HasCount-same : (P Q : Setup → Type 0) (n : ℕ) → ((s : Setup) → P s → Q s) → ((s : Setup) → Q s → P s) → HasCount P n → HasCount Q n
HasCount-same P Q n f g h =
    record { list = h.list; sound = All-weaker P Q f h.list h.sound; whole = λ s q. h.whole s (g s q); once = h.once; counted = h.counted }

-- the setup has the property, its place is marked, and lies below the bound
abbrev pub IsMarkedBelow : (Setup → Type 0) → (ℕ → Bool) → (Setup → ℕ) → ℕ → Setup → Type 0
IsMarkedBelow P mark index n s = P s × (mark (index s) ≡ true) × (index s < n)

wider : (P : Setup → Type 0) (mark : ℕ → Bool) (index : Setup → ℕ) (n : ℕ) (s : Setup) → IsMarkedBelow P mark index n s → IsMarkedBelow P mark index (suc n) s
wider P mark index n s q = grind (arith, q.0)

narrower : (P : Setup → Type 0) (mark : ℕ → Bool) (index : Setup → ℕ) (n : ℕ) (s : Setup) → mark n ≡ false
    → IsMarkedBelow P mark index (suc n) s → IsMarkedBelow P mark index n s
narrower P mark index n s off q = (q.0, q.1, grind (arith, nat_tests, off, q.1, q.2))

none_more : (P : Setup → Type 0) (nth : ℕ → Setup) (index : Setup → ℕ) (mark : ℕ → Bool) (n : ℕ)
    → HasCount (IsMarkedBelow P mark index n) (marks_below mark n) → mark n ≡ false
    → HasCount (IsMarkedBelow P mark index (suc n)) (marks_below mark (suc n))
unfolding marks_below
none_more P nth index mark n h off =
    subst (HasCount (IsMarkedBelow P mark index (suc n)))
    (let zero_more = ap one_if off in let same : marks_below mark n ≡ marks_below mark n + one_if (mark n) = omega arith in same)
    (HasCount-same (IsMarkedBelow P mark index n) (IsMarkedBelow P mark index (suc n)) (marks_below mark n) (wider P mark index n)
    (λ s q. narrower P mark index n s off q) h)

one_more : (P : Setup → Type 0) (size : ℕ) (nth : ℕ → Setup) (index : Setup → ℕ) (mark : ℕ → Bool) → IsNumbering P size nth index
    → (n : ℕ) → suc n ≤ size → HasCount (IsMarkedBelow P mark index n) (marks_below mark n) → index (nth n) ≡ n → mark n ≡ true
    → HasCount (IsMarkedBelow P mark index (suc n)) (marks_below mark (suc n))
unfolding marks_below
one_more P size nth index mark num n le h place on =
    let one : one_if (mark n) ≡ 1 = ap one_if on in
    record {
      list = h.list ++ nth n ∷ [];
      sound = All-push (IsMarkedBelow P mark index (suc n)) h.list (nth n)
          (All-weaker (IsMarkedBelow P mark index n) (IsMarkedBelow P mark index (suc n)) (wider P mark index n) h.list h.sound)
          (num.sound n le, ap mark place ∙ on, omega arith);
      whole = λ s q. elim (cases_lt (index s) n) [
        | inl lt ↦ Contains-append_left h.list (nth n ∷ []) s (h.whole s (q.0, q.1, lt))
        | inr ge ↦ subst (Contains (h.list ++ nth n ∷ [])) (ap nth (omega (arith, ge, q.2)) ∙ num.back s q.0) (Contains-push h.list (nth n))
      ];
      once = all_pairs_push (λ (p q : Setup). p ≢ q) h.list (nth n) h.once (λ k d l e. omega (arith, (h.sound k d l).2, ap index e, place));
      counted = omega (arith, length_push h.list (nth n), h.counted, one);
    }

pub HasCount-marked : (P : Setup → Type 0) (size : ℕ) (nth : ℕ → Setup) (index : Setup → ℕ) (mark : ℕ → Bool) → IsNumbering P size nth index
    → (n : ℕ) → n ≤ size → HasCount (IsMarkedBelow P mark index n) (marks_below mark n)
unfolding marks_below
HasCount-marked P size nth index mark h zero le = record {
  list = [];
  sound = All-nil (IsMarkedBelow P mark index 0);
  whole = λ s q. absurd (omega (arith, q.2));
  once = λ i j d lt l. absurd (omega arith);
  counted = refl;
}
HasCount-marked P size nth index mark h (suc n) le =
    let before = HasCount-marked P size nth index mark h n (omega arith) in
    elim (cases_Bool (mark n)) [
      | inl on ↦ one_more P size nth index mark h n le before (h.forth n (omega arith)) on
      | inr off ↦ none_more P nth index mark n before off
    ]

-- ---- first setups
pub numbering : (set : PieceSet) → IsNumbering (IsPositionOfSet set) (size_of_set set) (nth set) (rank_of_set set)
numbering set = record {
  sound = λ i h. (nth-block set i h).position;
  below = λ s p. rank_of_set-below set s p;
  back = λ s p. nth-rank_of_set set s p;
  forth = λ i h. rank_of_set-nth set i h;
}

-- what just the positions of marked ranks below a bound have is had by as many
pub HasCount-by : (set : PieceSet) (mark : ℕ → Bool) (n : ℕ) (Q : Setup → Type 0) → n ≤ size_of_set set
    → ((s : Setup) → IsMarkedBelow (IsPositionOfSet set) mark (rank_of_set set) n s → Q s)
    → ((s : Setup) → Q s → IsMarkedBelow (IsPositionOfSet set) mark (rank_of_set set) n s) → HasCount Q (marks_below mark n)
HasCount-by set mark n Q upto f g = HasCount-same (IsMarkedBelow (IsPositionOfSet set) mark (rank_of_set set) n) Q (marks_below mark n) f g
    (HasCount-marked (IsPositionOfSet set) (size_of_set set) (nth set) (rank_of_set set) mark (numbering set) n upto)

-- a position's rank is marked just where the position is no later than its mirror image
pub first-marked : (set : PieceSet) (s : Setup) → IsPositionOfSet set s → IsFirstOfTwo s → is_first set (rank_of_set set s) ≡ true
first-marked set s p first = rw (nth-rank_of_set set s p) (le-leb (rank_of_set set s) (rank_of_set set (mirrored s)) (rank_of_first set s p first))

pub marked-first : (set : PieceSet) (s : Setup) → IsPositionOfSet set s → is_first set (rank_of_set set s) ≡ true → IsFirstOfTwo s
marked-first set s p on = first_by_rank set s p (leb-true (rank_of_set set s) (rank_of_set set (mirrored s)) (rw (nth-rank_of_set set s p) at on))

-- ---- the marks of a whole set

-- below the size the marks are those of first setups
pub marked-first_of : (set : PieceSet) (r : ℕ) → r < size_of_set set → marked set r ≡ is_first set r
unfolding marked
marked-first_of set r h = rw (lt-ltb r (size_of_set set) h) refl
