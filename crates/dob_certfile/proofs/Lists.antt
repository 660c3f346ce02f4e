-- Entries that are read, one after the other, are those that were written, and what was written is read again.
use Rattle.dob_certfile.proofs.Common.{◌++◌, ◌+◌, ◌-◌, ◌<◌, ◌∙◌, ◌∷◌, ◌≡◌, ◌≤◌, All, Err, List, Ok, Result, [], ap, append_assoc, arith, drop, get_or, rules}
use Rattle.dob_certfile.proofs.Common.{leb, length, ltb, refl, slice_index_or, subst, suc, sym, zero, ℕ, le-leb, leb-true, lt-ltb, ltb-true, append-nil}
use Rattle.dob_certfile.proofs.Common.{drop_more, AreAscending, class_at, Entry, FitEntries, FitEntry, FitsPlies, entry_bytes, plies_byte, entries_bytes, ◌>>=◌}
use Rattle.dob_certfile.proofs.Common.{ListKind, Lost, Held, byte_at, plies_at, wants, entries_at, entry_at, number_at, Defect, EntryClass, EntryOrder}
use Rattle.dob_certfile.specs.Numbers.{number_bytes}
use Rattle.dob_certfile.proofs.Fields.{IsBytes, bind_ok, wants_ok, ok_is, Takes, Takes-then, byte_takes, number_takes, number_again}

-- ---- plies
plies_fit : (kind : ListKind) (byte plies : ℕ) → plies_at kind byte ≡ Ok plies → FitsPlies kind plies
plies_fit Lost byte plies read = grind arith
plies_fit Held byte plies read = grind arith

plies_back : (kind : ListKind) (byte plies : ℕ) → byte < 256 → plies_at kind byte ≡ Ok plies → plies_byte plies ≡ byte
plies_back Lost byte plies fits read = grind arith
plies_back Held byte plies fits read = grind arith

plies_again : (kind : ListKind) (plies : ℕ) → FitsPlies kind plies → plies_at kind (plies_byte plies) ≡ Ok plies
plies_again Lost plies fits = grind arith
plies_again Held plies fits = grind arith

-- ---- one entry
abbrev made : ℕ → ℕ → ℕ → List ℕ → Entry × List ℕ
made least number plies rest = (record { class = least + number - 1; plies = plies }, rest)

-- its class is the least or above and one of the classes, and its plies fit
pub record IsEntryFrom (kind : ListKind) (classes least : ℕ) (entry : Entry) : Type 0 where
  pub from : least ≤ entry.class
  pub fits : FitEntry kind classes entry

pub entry_takes : (kind : ListKind) (classes least : ℕ) (bytes : List ℕ) (x : Entry × List ℕ) → IsBytes bytes → entry_at kind classes least bytes ≡ Ok x
    → Takes bytes (entry_bytes least x.0) x.1 × IsEntryFrom kind classes least x.0
unfolding entry_at
entry_takes kind classes least bytes x fits e =
    let a = bind_ok (number_at 4 bytes) (λ number. wants (ltb 0 number.0) EntryOrder >>= λ above. wants (leb (least + number.0) classes) EntryClass >>= λ known. byte_at number.1 >>= λ byte. plies_at kind byte.0 >>= λ plies. Ok (made least number.0 plies byte.1)) x e in
    let number = a.0.0 in
    let b = wants_ok (ltb 0 number) EntryOrder (wants (leb (least + number) classes) EntryClass >>= λ known. byte_at a.0.1 >>= λ byte. plies_at kind byte.0 >>= λ plies. Ok (made least number plies byte.1)) x a.2 in
    let c = wants_ok (leb (least + number) classes) EntryClass (byte_at a.0.1 >>= λ byte. plies_at kind byte.0 >>= λ plies. Ok (made least number plies byte.1)) x b.1 in
    let d = bind_ok (byte_at a.0.1) (λ byte. plies_at kind byte.0 >>= λ plies. Ok (made least number plies byte.1)) x c.1 in
    let f = bind_ok (plies_at kind d.0.0) (λ plies. Ok (made least number plies d.0.1)) x d.2 in
    let first = number_takes 4 bytes a.0 fits a.1 in
    let second = byte_takes a.0.1 d.0 first.0.rest_fits d.1 in
    let some : 0 < number = ltb-true 0 number b.0 in
    let known : least + number ≤ classes = leb-true (least + number) classes c.0 in
    let class_is : least + number - 1 + 1 - least ≡ number = omega (arith, some) in
    let both : Takes bytes (number_bytes number ++ d.0.0 ∷ []) d.0.1 = Takes-then bytes (number_bytes number) a.0.1 (d.0.0 ∷ []) d.0.1 first.0 second.0 in
    let text : number_bytes (least + number - 1 + 1 - least) ++ plies_byte f.0 ∷ [] ≡ number_bytes number ++ d.0.0 ∷ [] =
    ap (λ (n : ℕ). number_bytes n ++ plies_byte f.0 ∷ []) class_is ∙ ap (λ (p : ℕ). number_bytes number ++ p ∷ []) (plies_back kind d.0.0 f.0 second.1 f.1) in
    subst (λ (y : Entry × List ℕ). Takes bytes (entry_bytes least y.0) y.1 × IsEntryFrom kind classes least y.0) (ok_is (made least number f.0 d.0.1) x f.2)
    (subst (λ (t : List ℕ). Takes bytes t d.0.1) (sym text) both, record { from = omega (arith, some); fits = record { class = omega (arith, some, known); plies = plies_fit kind d.0.0 f.0 f.1 } })

pub entry_again : (kind : ListKind) (classes least : ℕ) (entry : Entry) (rest : List ℕ) → classes < 2147483648 → IsEntryFrom kind classes least entry
    → entry_at kind classes least (entry_bytes least entry ++ rest) ≡ Ok (entry, rest)
unfolding entry_at
entry_again kind classes least entry rest few is =
    let number : ℕ = entry.class + 1 - least in
    let from = is.from in
    let below = is.fits.class in
    let regrouped : entry_bytes least entry ++ rest ≡ number_bytes number ++ (plies_byte entry.plies ∷ rest) = append_assoc (number_bytes number) (plies_byte entry.plies ∷ []) rest in
    let read : number_at 4 (number_bytes number ++ (plies_byte entry.plies ∷ rest)) ≡ Ok (number, plies_byte entry.plies ∷ rest) = number_again 4 number (plies_byte entry.plies ∷ rest) (omega (arith, few, below)) in
    let above = lt-ltb 0 number (omega (arith, from)) in
    let known = le-leb (least + number) classes (omega (arith, from, below)) in
    let class : least + number - 1 ≡ entry.class = omega (arith, from) in
    ap (entry_at kind classes least) regrouped ∙ rw (read, above, known, class, plies_again kind entry.plies is.fits.plies) refl

-- ---- entries in their order

-- each entry is from above the one before
abbrev pub Rise : ListKind → ℕ → ℕ → List Entry → Type 0
Rise kind classes least [] = Unit {0}
Rise kind classes least (entry ∷ entries) = IsEntryFrom kind classes least entry × Rise kind classes (entry.class + 1) entries

pub entries_take : (kind : ListKind) (classes least count : ℕ) (bytes : List ℕ) (x : List Entry × List ℕ) → IsBytes bytes → entries_at kind classes least count bytes ≡ Ok x
    → Takes bytes (entries_bytes least x.0) x.1 × (length x.0 ≡ count) × Rise kind classes least x.0
unfolding entries_at entries_bytes
entries_take kind classes least zero bytes x fits e =
    subst (λ (y : List Entry × List ℕ). Takes bytes (entries_bytes least y.0) y.1 × (length y.0 ≡ 0) × Rise kind classes least y.0) (ok_is ([], bytes) x e)
    (record { parts = refl; rest_fits = fits }, refl, tt)
entries_take kind classes least (suc count) bytes x fits e =
    let a = bind_ok (entry_at kind classes least bytes) (λ first. entries_at kind classes (first.0.class + 1) count first.1 >>= λ others. Ok (first.0 ∷ others.0, others.1)) x e in
    let b = bind_ok (entries_at kind classes (a.0.0.class + 1) count a.0.1) (λ others. Ok (a.0.0 ∷ others.0, others.1)) x a.2 in
    let first = entry_takes kind classes least bytes a.0 fits a.1 in
    let others = entries_take kind classes (a.0.0.class + 1) count a.0.1 b.0 first.0.rest_fits b.1 in
    let both = Takes-then bytes (entry_bytes least a.0.0) a.0.1 (entries_bytes (a.0.0.class + 1) b.0.0) b.0.1 first.0 others.0 in
    let all : List Entry × List ℕ = (a.0.0 ∷ b.0.0, b.0.1) in
    subst (λ (y : List Entry × List ℕ). Takes bytes (entries_bytes least y.0) y.1 × (length y.0 ≡ suc count) × Rise kind classes least y.0) (ok_is all x b.2)
    (both, ap suc others.1, (first.1, others.2))

pub entries_again : (kind : ListKind) (classes least : ℕ) (entries : List Entry) (rest : List ℕ) → classes < 2147483648 → Rise kind classes least entries
    → entries_at kind classes least (length entries) (entries_bytes least entries ++ rest) ≡ Ok (entries, rest)
unfolding entries_at entries_bytes
entries_again kind classes least [] rest few rises = refl
entries_again kind classes least (entry ∷ entries) rest few rises =
    ap (entries_at kind classes least (suc (length entries))) (append_assoc (entry_bytes least entry) (entries_bytes (entry.class + 1) entries) rest)
    ∙ rw (entry_again kind classes least entry (entries_bytes (entry.class + 1) entries ++ rest) few rises.0, entries_again kind classes (entry.class + 1) entries rest few rises.1) refl

-- ---- the order by places, and how many there are

-- what holds of the first and of each other holds of all
all_at : {X : Type 0} (P : X → Type 0) (x : X) (xs : List X) → P x → All P xs → (k : ℕ) (d : X) → k < length (x ∷ xs) → P (slice_index_or (x ∷ xs) k d)
all_at P x xs first others zero d lt = first
all_at P x xs first others (suc k) d lt = others k d (omega (arith, lt))

pub rise_fit : (kind : ListKind) (classes least : ℕ) (entries : List Entry) → Rise kind classes least entries → All (FitEntry kind classes) entries
rise_fit kind classes least [] rises = λ k d lt. absurd (omega (arith, lt))
rise_fit kind classes least (entry ∷ entries) rises = all_at (FitEntry kind classes) entry entries rises.0.fits (rise_fit kind classes (entry.class + 1) entries rises.1)

pub rise_count : (kind : ListKind) (classes least : ℕ) (entries : List Entry) → Rise kind classes least entries → least ≤ classes → length entries + least ≤ classes
rise_count kind classes least [] rises from = omega (arith, from)
rise_count kind classes least (entry ∷ entries) rises from = grind (arith, (rise_count kind classes (entry.class + 1) entries rises.1))

ascends_at : (entry next : Entry) (entries : List Entry) → entry.class < next.class → AreAscending (next ∷ entries)
    → (place : ℕ) → place + 1 < length (entry ∷ next ∷ entries) → class_at (entry ∷ next ∷ entries) place < class_at (entry ∷ next ∷ entries) (place + 1)
ascends_at entry next entries first others zero lt = first
ascends_at entry next entries first others (suc place) lt = grind arith

pub rise_ascends : (kind : ListKind) (classes least : ℕ) (entries : List Entry) → Rise kind classes least entries → AreAscending entries
rise_ascends kind classes least [] rises = λ place lt. absurd (omega (arith, lt))
rise_ascends kind classes least (entry ∷ []) rises = λ place lt. absurd (omega (arith, lt))
rise_ascends kind classes least (entry ∷ next ∷ entries) rises =
    ascends_at entry next entries (omega (arith, rises.1.0.from)) (rise_ascends kind classes (entry.class + 1) (next ∷ entries) rises.1)

-- the first is from the least
abbrev pub StartsFrom : ℕ → List Entry → Type 0
StartsFrom least [] = Unit {0}
StartsFrom least (entry ∷ entries) = least ≤ entry.class

pub tail_ascends : (entry : Entry) (entries : List Entry) → AreAscending (entry ∷ entries) → AreAscending entries
tail_ascends entry entries ascending = λ place lt.
    let moved : suc place + 1 ≡ suc (place + 1) = omega arith in
    subst (λ (n : ℕ). class_at entries place < class_at (entry ∷ entries) n) moved (ascending (suc place) (omega (arith, lt)))

pub tail_starts : (entry : Entry) (entries : List Entry) → AreAscending (entry ∷ entries) → StartsFrom (entry.class + 1) entries
tail_starts entry [] ascending = tt
tail_starts entry (next ∷ entries) ascending = omega (arith, ascending 0 (omega arith))

pub fit_rises : (kind : ListKind) (classes least : ℕ) (entries : List Entry) → FitEntries kind classes entries → StartsFrom least entries → Rise kind classes least entries
fit_rises kind classes least [] fits starts = tt
fit_rises kind classes least (entry ∷ entries) fits starts = (
  record { from = starts; fits = fits.1 0 entry (omega arith) },
  fit_rises kind classes (entry.class + 1) entries (tail_ascends entry entries fits.0, λ k d lt. fits.1 (suc k) d (omega (arith, lt))) (tail_starts entry entries fits.0),
)

pub starts_anywhere : (entries : List Entry) → StartsFrom 0 entries
starts_anywhere [] = tt
starts_anywhere (entry ∷ entries) = omega arith

-- ---- as a loop reads them

-- what was read before, and what is still read
abbrev pub with_front : List Entry → Result (List Entry × List ℕ) Defect → Result (List Entry × List ℕ) Defect
with_front front read = read >>= λ x. Ok (front ++ x.0, x.1)

regroup : (front : List Entry) (n : Entry) (read : Result (List Entry × List ℕ) Defect) → with_front front (read >>= λ x. Ok (n ∷ x.0, x.1)) ≡ with_front (front ++ n ∷ []) read
regroup front n (Ok x) = ap (λ (ns : List Entry). Ok (ns, x.1)) (simp append_assoc)
regroup front n (Err f) = refl

pub goes_on : (kind : ListKind) (classes least : ℕ) (front : List Entry) (count i : ℕ) (bytes : List ℕ) (n : Entry) (after : List ℕ) (total : Result (List Entry × List ℕ) Defect) → i < count
    → entry_at kind classes least bytes ≡ Ok (n, after) → with_front front (entries_at kind classes least (count - i) bytes) ≡ total
    → with_front (front ++ n ∷ []) (entries_at kind classes (n.class + 1) (count - (i + 1)) after) ≡ total
unfolding entries_at
goes_on kind classes least front count i bytes n after total lt h so_far =
    let k : count - i ≡ suc (count - (i + 1)) = omega arith in
    sym (rw (k, h) (regroup front n (entries_at kind classes (n.class + 1) (count - (i + 1)) after))) ∙ so_far

pub ends : (kind : ListKind) (classes least : ℕ) (e : Defect) (front : List Entry) (count i : ℕ) (bytes : List ℕ) (total : Result (List Entry × List ℕ) Defect) → i < count
    → entry_at kind classes least bytes ≡ Err e → with_front front (entries_at kind classes least (count - i) bytes) ≡ total → total ≡ Err e
unfolding entries_at
ends kind classes least e front count i bytes total lt h so_far = search rules

pub is_done : (kind : ListKind) (classes least : ℕ) (front : List Entry) (count i : ℕ) (bytes : List ℕ) (total : Result (List Entry × List ℕ) Defect) → count ≤ i
    → with_front front (entries_at kind classes least (count - i) bytes) ≡ total → total ≡ Ok (front, bytes)
unfolding entries_at
is_done kind classes least front count i bytes total le so_far = search rules

-- ---- as a loop writes them
starts_after : (entries : List Entry) (i : ℕ) (d : Entry) → AreAscending entries → i < length entries → StartsFrom ((get_or entries i d).class + 1) (drop (suc i) entries)
starts_after [] i d ascending lt = absurd (omega (arith, lt))
starts_after (entry ∷ entries) zero d ascending lt = tail_starts entry entries ascending
starts_after (entry ∷ entries) (suc i) d ascending lt = starts_after entries i d (tail_ascends entry entries ascending) (omega (arith, lt))

-- what was written and what is left are the whole, and the next class is the least or above
pub record AreWritten (entries : List Entry) (i least : ℕ) (now total : List ℕ) : Type 0 where
  pub parts : now ++ entries_bytes least (drop i entries) ≡ total
  pub starts : StartsFrom least (drop i entries)

pub written_more : (entries : List Entry) (i least : ℕ) (d : Entry) (now next total : List ℕ) → i < length entries → AreAscending entries
    → next ≡ now ++ entry_bytes least (get_or entries i d) → AreWritten entries i least now total → AreWritten entries (i + 1) ((get_or entries i d).class + 1) next total
unfolding entries_bytes
written_more entries i least d now next total lt ascending more written =
    let x : Entry = get_or entries i d in
    let one : suc i ≡ i + 1 = omega arith in
    let left : entries_bytes least (drop i entries) ≡ entry_bytes least x ++ entries_bytes (x.class + 1) (drop (i + 1) entries) = ap (entries_bytes least) (drop_more entries i d lt) in
    record {
      parts = ap (λ (t : List ℕ). t ++ entries_bytes (x.class + 1) (drop (i + 1) entries)) more
          ∙ append_assoc now (entry_bytes least x) (entries_bytes (x.class + 1) (drop (i + 1) entries))
          ∙ ap (λ (t : List ℕ). now ++ t) (sym left)
          ∙ written.parts;
      starts = subst (λ (n : ℕ). StartsFrom (x.class + 1) (drop n entries)) one (starts_after entries i d ascending lt);
    }

pub written_all : (entries : List Entry) (i least : ℕ) (now total : List ℕ) → length entries ≤ i → AreWritten entries i least now total → now ≡ total
unfolding entries_bytes
written_all entries i least now total le written =
    sym (append-nil now) ∙ ap (λ (left : List Entry). now ++ entries_bytes least left) (sym (none_left entries i le)) ∙ written.parts
  where
    none_left : (entries : List Entry) (i : ℕ) → length entries ≤ i → drop i entries ≡ []
    none_left [] zero le = refl
    none_left [] (suc i) le = refl
    none_left (entry ∷ entries) zero le = absurd (omega (arith, le))
    none_left (entry ∷ entries) (suc i) le = none_left entries i (omega (arith, le))
