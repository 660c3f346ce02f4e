-- Stretches of marks: what they say of a place, and where the mark of a number is.
use Rattle.dob_classes.proofs.Common.{◌+◌, ◌-◌, ◌<◌, ◌∙◌, ◌≡◌, ◌≤◌, Bool, List, [], ap, arith, cond, false, inl, inr, length, refl, slice_index_or, sym, true}
use Rattle.dob_classes.proofs.Common.{ℕ, cases_lt, marks_below-le, marks_below_none, marks_below, AreStretches, IsStretch}
use Rattle.dob_classes.specs.declared.stretches.Stretch.{Stretch}
use Rattle.dob_rank.proofs.Marked.Words.{marks_below-all, marks_below-unmarked}
use Rattle.dob_classes.proofs.OfFamilies.FamilyNumbers.{below_by_marks}

-- no entries
pub AreStretches-none : (mark : ℕ → Bool) (list : List Stretch) → list ≡ [] → AreStretches mark 0 list
AreStretches-none mark list none = grind arith

-- ---- counting

-- the count of marks after places that are all marked, or all not
pub counted : (mark : ℕ → Bool) (on : Bool) (upto end count : ℕ) → upto ≤ end → count ≡ marks_below mark upto
    → ((k : ℕ) → upto ≤ k → k < end → mark k ≡ on) → count + cond on (end - upto) 0 ≡ marks_below mark end
counted mark true upto end count further is same =
    let there : upto + (end - upto) ≡ end = omega (arith, further) in
    let all = marks_below-all mark upto (end - upto) (λ k below. same (upto + k) (omega arith) (omega (arith, below, further))) in
    omega (arith, is, rw there at all)
counted mark false upto end count further is same =
    let there : upto + (end - upto) ≡ end = omega (arith, further) in
    let none = marks_below-unmarked mark upto (end - upto) (λ k below. same (upto + k) (omega arith) (omega (arith, below, further))) in
    omega (arith, is, rw there at none)

-- ---- the entry of a number

-- a search between two entries, by where they start or by how many marks are before them
pub record IsBetween (key : Stretch → ℕ) (list : List Stretch) (low high number : ℕ) : Type 0 where
  pub some : low < high
  pub within : high ≤ length list
  pub low_is : (other : Stretch) → key (slice_index_or list low other) ≤ number
  pub high_is : (other : Stretch) → high < length list → number < key (slice_index_or list high other)

-- the stretch of the entry has the number
pub record IsIn (mark : ℕ → Bool) (at : ℕ → ℕ) (key : Stretch → ℕ) (number : ℕ) (entry : Stretch) : Type 0 where
  pub end : ℕ
  pub is : IsStretch mark end entry
  pub low : key entry ≤ number
  pub high : number < at end

found : (mark : ℕ → Bool) (at : ℕ → ℕ) (key : Stretch → ℕ) (upto low high number : ℕ) (list : List Stretch) (entry : Stretch) → AreStretches mark upto list
    → ((k : ℕ) (other : Stretch) → k < length list → key (slice_index_or list k other) ≡ at (slice_index_or list k other).start) → number < at upto
    → IsBetween key list low high number → high - low ≤ 1 → entry ≡ slice_index_or list low entry → IsIn mark at key number entry
found mark at key upto low high number list entry are keys below between near read =
    let some = between.some in
    let within = between.within in
    let next : low + 1 ≡ high = omega (arith, some, near) in
    rw read (elim (cases_lt high (length list)) [
      | inl inside ↦ record {
        end = (slice_index_or list (low + 1) entry).start;
        is = are.each low entry (omega (arith, next, inside));
        low = between.low_is entry;
        high = rw next (omega (arith, between.high_is entry inside, keys high entry inside));
      }
      | inr outside ↦ record { end = upto; is = are.last low entry (omega (arith, next, outside, within)); low = between.low_is entry; high = below }
    ])

-- ---- by a place

-- what the entry found says of the place
pub record IsRead (mark : ℕ → Bool) (place : ℕ) (entry : Stretch) : Type 0 where
  pub mark_is : entry.is_marked ≡ mark place
  pub marked_before : entry.is_marked ≡ true → entry.before + (place - entry.start) ≡ marks_below mark place
  pub unmarked_before : entry.is_marked ≡ false → entry.before ≡ marks_below mark place

pub read_found : (mark : ℕ → Bool) (upto low high place : ℕ) (list : List Stretch) (entry : Stretch) → AreStretches mark upto list → place < upto
    → IsBetween (λ (s : Stretch). s.start) list low high place → high - low ≤ 1 → entry ≡ slice_index_or list low entry → IsRead mark place entry
read_found mark upto low high place list entry are below between near read =
    let at = found mark (λ n. n) (λ (s : Stretch). s.start) upto low high place list entry are (λ k other inside. refl) below between near read in
    let end = at.high in
    let count : (on : Bool) → entry.is_marked ≡ on → entry.before + cond on (place - entry.start) 0 ≡ marks_below mark place
    = λ on e. counted mark on entry.start place entry.before at.low at.is.before_is (λ k from upto. at.is.same k from (omega (arith, upto, end)) ∙ e) in
    record {
      mark_is = sym (at.is.same place at.low at.high);
      marked_before = count true;
      unmarked_before = λ off. (let none = count false off in omega (arith, none));
    }

-- ---- by how many marks are before

-- how many marks are before an entry
before_entry : (mark : ℕ → Bool) (upto : ℕ) (list : List Stretch) → AreStretches mark upto list → (k : ℕ) (other : Stretch) → k < length list
    → (slice_index_or list k other).before ≡ marks_below mark (slice_index_or list k other).start
before_entry mark upto list are k other inside = grind arith

-- the whole list
pub among_all : (mark : ℕ → Bool) (upto high number : ℕ) (list : List Stretch) → AreStretches mark upto list → number < marks_below mark upto
    → high ≡ length list → IsBetween (λ (s : Stretch). s.before) list 0 high number
among_all mark upto high number list are below whole =
    let some = are.some (omega (arith, marks_below-le mark upto, below)) in
    record {
      some = omega (arith, some, whole);
      within = omega (arith, whole);
      low_is = λ other.
          (let none = before_entry mark upto list are 0 other some ∙ ap (marks_below mark) (are.first_is other some) ∙ marks_below_none mark in
          omega (arith, none));
      high_is = λ other inside. absurd (omega (arith, inside, whole));
    }

-- a marked place, and how many marks are before it
pub record IsMarkedPlace (mark : ℕ → Bool) (upto number place : ℕ) : Type 0 where
  pub below : place < upto
  pub mark_is : mark place ≡ true
  pub number_is : marks_below mark place ≡ number

-- the place of the entry found
pub place_found : (mark : ℕ → Bool) (upto low high number : ℕ) (list : List Stretch) (entry : Stretch) → AreStretches mark upto list
    → number < marks_below mark upto → IsBetween (λ (s : Stretch). s.before) list low high number → high - low ≤ 1
    → entry ≡ slice_index_or list low entry → IsMarkedPlace mark upto number (entry.start + (number - entry.before))
place_found mark upto low high number list entry are below between near read = by_mark entry.is_marked refl
  where
    at : IsIn mark (marks_below mark) (λ (s : Stretch). s.before) number entry
    at = found mark (marks_below mark) (λ (s : Stretch). s.before) upto low high number list entry are (before_entry mark upto list are) below between near read

    count : (on : Bool) (end : ℕ) → entry.is_marked ≡ on → entry.start ≤ end → end ≤ at.end
        → entry.before + cond on (end - entry.start) 0 ≡ marks_below mark end
    count on end e from inside =
        counted mark on entry.start end entry.before from at.is.before_is (λ k low high. at.is.same k low (omega (arith, high, inside)) ∙ e)

    by_mark : (on : Bool) → entry.is_marked ≡ on → IsMarkedPlace mark upto number (entry.start + (number - entry.before))
    by_mark false off = absurd (omega (arith, count false at.end off at.is.upto (omega arith), at.low, at.high))
    by_mark true on =
        let from = at.low in
        let inside : entry.start + (number - entry.before) < at.end
        = omega (arith, count true at.end on at.is.upto (omega arith), from, at.high, at.is.upto) in
        let here = count true (entry.start + (number - entry.before)) on (omega arith) (omega (arith, inside)) in
        let number_is : marks_below mark (entry.start + (number - entry.before)) ≡ number = omega (arith, here, from) in
        record {
          below = below_by_marks mark (entry.start + (number - entry.before)) upto (omega (arith, number_is, below));
          mark_is = at.is.same (entry.start + (number - entry.before)) (omega arith) inside ∙ on;
          number_is = number_is;
        }
