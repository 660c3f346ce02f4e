-- Places in a list in segments: which segment has an item, and where the list ends.
use Rattle.std.proofs.Common.{◌≡◌, ℕ, zero, suc, ◌+◌, ◌-◌, ◌*◌, ◌<◌, ◌≤◌, List, [], ◌∷◌, ◌++◌, length, refl, sym, ap, ◌∙◌, subst, arith}
use Rattle.std.proofs.Common.{length-append, get_or, append_assoc, ◌/◌, ◌%◌, vec_len, replicate}
use Rattle.std.proofs.Math.ListN.{set, length-set}
use Rattle.std.proofs.lemmas.List.{get_or_append_left, get_or-append_right, set-append_left, set-append_right, append-nil}
use Rattle.std.proofs.lemmas.List.{length-replicate, replicate-append-replicate}
use Rattle.std.proofs.lemmas.Nat.{div-add-mod', mod_below}
use Rattle.std.proofs.Math.Nat.{add-mul, mul-div_cancel}
use Rattle.std.specs.declared.vec.Vec.{Vec}
use Rattle.dob_lists.specs.Segmented.{joined, AreSegments}

-- The item at i stands in the segment q at its place r.
pub record IsAt {X Z : Type 0} (n : ℕ) (vs : List (Vec X Z)) (i q r : ℕ) (segment : Vec X Z) : Type 0 where
  pub within : q < length vs
  pub found : (d : Vec X Z) → segment ≡ get_or vs q d
  pub inside : r < length segment.items
  pub read : (e : X) → get_or (joined vs) i e ≡ get_or segment.items r e
  pub write : (x : X) (v : Vec X Z) → v.items ≡ set segment.items r x → joined (set vs q v) ≡ set (joined vs) i x
  pub kept : (v : Vec X Z) → length v.items ≡ length segment.items → AreSegments n (set vs q v)

head_inside : {X Z : Type 0} (n r : ℕ) (v : Vec X Z) (vs : List (Vec X Z)) → AreSegments n (v ∷ vs) → r < n →
    r < length (v.items ++ joined vs) → r < length v.items
head_inside n r v [] whole below inside = omega (arith, length-append v.items [])
head_inside n r v (u ∷ us) whole below inside =
    let full : length v.items ≡ n = whole.1 (omega arith) in omega arith

some_segment : {X Z : Type 0} (vs : List (Vec X Z)) → 0 < length (joined vs) → 0 < length vs
some_segment [] inside = inside
some_segment (v ∷ vs) inside = omega arith

-- the head is a whole segment where more follows
head_full : {X Z : Type 0} (n i : ℕ) (v : Vec X Z) (vs : List (Vec X Z)) → AreSegments n (v ∷ vs) → n ≤ i →
    i < length (v.items ++ joined vs) → length v.items ≡ n
head_full n i v vs whole from inside =
    let most : length v.items ≤ n = whole.0 in
    whole.1 (some_segment vs (omega (arith, length-append v.items (joined vs))))

pub place : {X Z : Type 0} (n i q r : ℕ) → (vs : List (Vec X Z)) → AreSegments n vs → i ≡ q * n + r → r < n →
    i < length (joined vs) → (segment : Vec X Z) × IsAt n vs i q r segment
place n i q r [] whole split below inside = absurd (omega arith)
place n i zero r (v ∷ vs) whole split below inside =
    let same : i ≡ r = omega arith in
    let fits : r < length v.items = head_inside n r v vs whole below (subst (λ (x : ℕ). x < length (v.items ++ joined vs)) same inside) in (
      v,
      record {
        within = omega arith;
        found = λ d. refl;
        inside = fits;
        read = λ e. ap (λ (x : ℕ). get_or (v.items ++ joined vs) x e) same ∙ get_or_append_left v.items (joined vs) e r fits;
        write = λ x w is. ap (λ xs. xs ++ joined vs) is ∙ sym (set-append_left v.items (joined vs) r x fits)
            ∙ ap (λ (k : ℕ). set (v.items ++ joined vs) k x) (sym same);
        kept = λ w same_length. (let most : length v.items ≤ n = whole.0 in omega arith, λ h. same_length ∙ whole.1 h, whole.2);
      },
    )
place n i (suc q) r (v ∷ vs) whole split below inside =
    let from : n ≤ i = omega arith in
    let full : length v.items ≡ n = head_full n i v vs whole from inside in
    let rest : i - n ≡ q * n + r = omega arith in
    let further : i - n < length (joined vs) = omega (arith, length-append v.items (joined vs)) in
    let at = place n (i - n) q r vs whole.2 rest below further in (
      at.0,
      record {
        within = let w = at.1.within in omega arith;
        found = λ d. at.1.found d;
        inside = at.1.inside;
        read = λ e. get_or-append_right v.items (joined vs) n i e full from ∙ at.1.read e;
        write = λ x w is. ap (λ xs. v.items ++ xs) (at.1.write x w is) ∙ sym (set-append_right v.items (joined vs) n i x full from);
        kept = λ w same_length. (whole.0, λ h. full, at.1.kept w same_length);
      },
    )

-- The list ends in the segment q, at its place r, or a new segment is wanted there.
pub record IsEnd {X Z : Type 0} (n : ℕ) (vs : List (Vec X Z)) (q r : ℕ) : Type 0 where
  pub reached : q ≤ length vs
  pub opened : q ≡ length vs → (v : Vec X Z) → length v.items ≤ n →
      (joined (vs ++ v ∷ []) ≡ joined vs ++ v.items) × AreSegments n (vs ++ v ∷ [])
  pub joins : q < length vs → (d v : Vec X Z) (more : List X) → v.items ≡ (get_or vs q d).items ++ more → r + length more ≤ n →
      (joined (set vs q v) ≡ joined vs ++ more) × AreSegments n (set vs q v)

first_full : {X Z : Type 0} (n : ℕ) (v : Vec X Z) (vs : List (Vec X Z)) → AreSegments n (v ∷ vs) →
    n ≤ length (v.items ++ joined vs) → length v.items ≡ n
first_full n v [] whole from = let most : length v.items ≤ n = whole.0 in omega (arith, length-append v.items [])
first_full n v (u ∷ us) whole from = whole.1 (omega arith)

pub place_after : {X Z : Type 0} (n q r : ℕ) → (vs : List (Vec X Z)) → AreSegments n vs → length (joined vs) ≡ q * n + r →
    r < n → IsEnd n vs q r
place_after n zero r [] whole split below = record {
  reached = omega arith;
  opened = λ _ v fits. (append-nil v.items, (fits, λ h. absurd (omega arith), tt));
  joins = λ h. absurd (omega arith);
}
place_after n (suc q) r [] whole split below = absurd (omega arith)
place_after n zero r (v ∷ []) whole split below =
    let long : length v.items ≡ r = omega (arith, length-append v.items [], split) in record {
      reached = omega arith;
      opened = λ h. absurd (omega arith);
      joins = λ _ d w more is fits. (
        ap (λ xs. xs ++ []) is ∙ append-nil (v.items ++ more) ∙ ap (λ xs. xs ++ more) (sym (append-nil v.items)),
        (rw is (omega (arith, length-append v.items more, long, fits)), λ h. absurd (omega arith), tt),
      );
    }
place_after n zero r (v ∷ u ∷ us) whole split below =
    let full : length v.items ≡ n = whole.1 (omega arith) in
    absurd (omega (arith, length-append v.items (joined (u ∷ us))))
place_after n (suc q) r (v ∷ vs) whole split below =
    let full : length v.items ≡ n = first_full n v vs whole (omega arith) in
    let rest : length (joined vs) ≡ q * n + r = omega (arith, length-append v.items (joined vs)) in
    let further = place_after n q r vs whole.2 rest below in record {
      reached = let h = further.reached in omega arith;
      opened = λ h u fits. let more = further.opened (omega arith) u fits in
          (ap (λ xs. v.items ++ xs) more.0 ∙ sym (append_assoc v.items (joined vs) u.items), (whole.0, λ _. full, more.1));
      joins = λ h d w xs is fits. let more = further.joins (omega arith) d w xs is fits in
          (ap (λ ys. v.items ++ ys) more.0 ∙ sym (append_assoc v.items (joined vs) xs), (whole.0, λ _. full, more.1));
    }

-- ---- by the quotient
split_is : (i n : ℕ) → i ≡ (i / n) * n + i % n
split_is i n = sym (div-add-mod' i n)

-- the end of the list
pub end_at : {X Z : Type 0} (n i : ℕ) (vs : List (Vec X Z)) → 0 < n → AreSegments n vs → i ≡ length (joined vs) →
    IsEnd n vs (i / n) (i % n)
end_at n i vs some whole at_end = place_after n (i / n) (i % n) vs whole (sym at_end ∙ split_is i n) (mod_below i n some)

-- an empty segment more changes no item
pub one_empty_more : {X Z : Type 0} (n : ℕ) (vs : List (Vec X Z)) (v : Vec X Z) → 0 < n → AreSegments n vs →
    length (joined vs) / n ≡ length vs → v.items ≡ [] → (joined (vs ++ v ∷ []) ≡ joined vs) × AreSegments n (vs ++ v ∷ [])
one_empty_more n vs v some whole full empty =
    let next = (end_at n (length (joined vs)) vs some whole refl).opened full v (rw empty (omega arith)) in
    (next.0 ∙ ap (λ xs. joined vs ++ xs) empty ∙ append-nil (joined vs), next.1)

-- ---- as the calls meet it: xs is the list in the segments vs, of which v is the one with the item i

module _ {X Z A : Type 0} (n i q r : ℕ) (vs : Vec (Vec X Z) A) (xs : List X) (some : 0 < n) (whole : AreSegments n vs.items)
    (shown : joined vs.items ≡ xs) (inside : i < length xs) (q_is : q ≡ i / n) (r_is : r ≡ i % n) where
  found_at : (segment : Vec X Z) × IsAt n vs.items i q r segment
  found_at = place n i q r vs.items whole (rw (q_is, r_is) (split_is i n)) (rw r_is (mod_below i n some))
      (subst (λ ys. i < length ys) (sym shown) inside)

  pub number_below : q < vec_len vs
  number_below = subst (λ (k : ℕ). q < k) (sym vs.ok.0) found_at.1.within

  pub within_below : (v : Vec X Z) → v ≡ get_or vs.items q v → r < vec_len v
  within_below v is = subst (λ (k : ℕ). r < k) (sym v.ok.0)
      (subst (λ w. r < length w.items) (found_at.1.found v ∙ sym is) found_at.1.inside)

  pub read_is : (v : Vec X Z) (x : X) → v ≡ get_or vs.items q v → x ≡ get_or v.items r x → x ≡ get_or xs i x
  read_is v x is read = read ∙ ap (λ w. get_or w.items r x) (is ∙ sym (found_at.1.found v)) ∙ sym (found_at.1.read x)
      ∙ ap (λ ys. get_or ys i x) shown

  pub written_is : (v w : Vec X Z) (x : X) → v ≡ get_or vs.items q v → w.items ≡ set v.items r x →
      (joined (set vs.items q w) ≡ set xs i x) × AreSegments n (set vs.items q w)
  written_is v w x is written =
      let same : v ≡ found_at.0 = is ∙ sym (found_at.1.found v) in
      let as_found : w.items ≡ set found_at.0.items r x = written ∙ ap (λ u. set u.items r x) same in (
        found_at.1.write x w as_found ∙ ap (λ ys. set ys i x) shown,
        found_at.1.kept w (ap length as_found ∙ length-set found_at.0.items r x),
      )

-- ---- items are appended to the segment v, the last one

module _ {X Z A : Type 0} (n i q : ℕ) (vs : Vec (Vec X Z) A) (xs : List X) (some : 0 < n) (whole : AreSegments n vs.items)
    (shown : joined vs.items ≡ xs) (count : i ≡ length xs) (q_is : q ≡ i / n) (opened : q < vec_len vs) where
  pub joined_is : (v w : Vec X Z) (more : List X) → v ≡ get_or vs.items q v → w.items ≡ v.items ++ more → i % n + length more ≤ n →
      (joined (set vs.items q w) ≡ xs ++ more) × AreSegments n (set vs.items q w)
  joined_is v w more is appended fits =
      let reached : i / n < length vs.items = subst (λ (k : ℕ). k < length vs.items) q_is (subst (λ (k : ℕ). q < k) vs.ok.0 opened) in
      let all = (end_at n i vs.items some whole (count ∙ sym (ap length shown))).joins reached v w more
      (appended ∙ ap (λ u. u.items ++ more) (is ∙ ap (λ (k : ℕ). get_or vs.items k v) q_is)) fits in (
        ap (λ (k : ℕ). joined (set vs.items k w)) q_is ∙ all.0 ∙ ap (λ ys. ys ++ more) shown,
        subst (λ (k : ℕ). AreSegments n (set vs.items k w)) (sym q_is) all.1,
      )

  -- one more
  pub pushed_is : (v w : Vec X Z) (x : X) → v ≡ get_or vs.items q v → w.items ≡ v.items ++ x ∷ [] →
      (joined (set vs.items q w) ≡ xs ++ x ∷ []) × AreSegments n (set vs.items q w)
  pushed_is v w x is appended = joined_is v w (x ∷ []) is appended (let below = mod_below i n some in omega (arith, below))

  -- none
  pub same_is : (v w : Vec X Z) → v ≡ get_or vs.items q v → w.items ≡ v.items →
      (joined (set vs.items q w) ≡ xs) × AreSegments n (set vs.items q w)
  same_is v w is kept =
      let all = joined_is v w [] is (kept ∙ sym (append-nil v.items)) (let below = mod_below i n some in omega (arith, below)) in
      (all.0 ∙ append-nil xs, all.1)

-- ---- whole segments, one after the other

-- so many segments of n copies of x each
abbrev pub AreCopies : {X Z : Type 0} → X → ℕ → ℕ → List (Vec X Z) → Type 0
AreCopies x n count vs = (length vs ≡ count) × (joined vs ≡ replicate (count * n) x) × AreSegments n vs

one_more : {X Z : Type 0} (x : X) (n count : ℕ) (vs : List (Vec X Z)) (v : Vec X Z) → 0 < n → AreCopies x n count vs →
    (more : ℕ) → more ≤ n → v.items ≡ replicate more x →
    (joined (vs ++ v ∷ []) ≡ replicate (count * n + more) x) × AreSegments n (vs ++ v ∷ [])
one_more x n count vs v some are more few is =
    let long : length (joined vs) ≡ count * n = ap length are.1 ∙ length-replicate (count * n) x in
    let at_end : length (joined vs) / n ≡ count = ap (λ (k : ℕ). k / n) long ∙ mul-div_cancel count some in
    let fits : length v.items ≤ n = rw (is, length-replicate more x) few in
    let next = (end_at n (length (joined vs)) vs some are.2 refl).opened (at_end ∙ sym are.0) v fits in (
      next.0 ∙ ap (λ xs. xs ++ v.items) are.1 ∙ ap (λ xs. replicate (count * n) x ++ xs) is
          ∙ replicate-append-replicate (count * n) more x,
      next.1,
    )

pub one_more_whole : {X Z : Type 0} (x : X) (n count : ℕ) (vs : List (Vec X Z)) (v : Vec X Z) → 0 < n → AreCopies x n count vs →
    v.items ≡ replicate n x → AreCopies x n (count + 1) (vs ++ v ∷ [])
one_more_whole x n count vs v some are is =
    let next = one_more x n count vs v some are n (omega arith) is in
    let whole : count * n + n ≡ (count + 1) * n = omega (arith, add-mul count 1 n) in (
      length-append vs (v ∷ []) ∙ ap (λ (k : ℕ). k + 1) are.0,
      next.0 ∙ ap (λ (k : ℕ). replicate k x) whole,
      next.1,
    )

-- and the rest of them behind
pub all_copies : {X Z : Type 0} (x : X) (n count q r : ℕ) (vs : List (Vec X Z)) (v : Vec X Z) → 0 < n → AreCopies x n q vs →
    q ≡ count / n → r ≡ count % n → v.items ≡ replicate r x →
    (joined (vs ++ v ∷ []) ≡ replicate count x) × AreSegments n (vs ++ v ∷ [])
all_copies x n count q r vs v some are q_is r_is is =
    let below : r < n = rw r_is (mod_below count n some) in
    let next = one_more x n q vs v some are r (omega arith) is in
    let whole : q * n + r ≡ count = rw (q_is, r_is) (div-add-mod' count n) in
    (next.0 ∙ ap (λ (k : ℕ). replicate k x) whole, next.1)
