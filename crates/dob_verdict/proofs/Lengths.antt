-- Of a file that is longer than its front can say the first bytes have the fault that all have, since what reads them ends within these.
use Rattle.std.specs.Prelude.{◌≡◌, ◌+◌, ◌*◌, ◌≤◌, ◌++◌, ◌∷◌, [], ℕ, zero, suc, Bool, false, true, Err, List, Ok, Result, drop, length, take}
use Rattle.std.proofs.Common.{◌-◌, ◌<◌, ◌∙◌, ◌⊎◌, ap, arith, cond, eqb, inl, inr, leb, ltb, refl, sym}
use Rattle.std.proofs.lemmas.Bool.{le-leb, leb-true}
use Rattle.std.proofs.lemmas.Bool.Decides.{nat_tests}
use Rattle.std.proofs.lemmas.List.{drop_at, length-append, length-take-le, take-append-drop, take_all, take_at}
use Rattle.dob_certificate.specs.declared.entry.Entry.{Entry}
use Rattle.dob_certificate.specs.declared.list_kind.ListKind.{ListKind}
use Rattle.dob_certificate.specs.declared.list_kind.ListKind.TheVariants.{Held, Lost}
use Rattle.dob_rank.specs.Families.{classes_of}
use Rattle.dob_certfile.specs.Format.{Content}
use Rattle.dob_certfile.specs.declared.defect.Defect.{Defect}
use Rattle.dob_certfile.specs.declared.defect.Defect.TheVariants.{EntryClass, EntryNumber, EntryOrder, Trailing, Truncated}
use Rattle.dob_certfile.specs.Reading.{◌>>=◌, FrontContent, byte_at, entries_at, entry_at, family_at, file_at, front_at, number_at, plies_at, seal_at, wants}
use Rattle.dob_verdict.specs.Certificates.{ReadsAs}
use Rattle.dob_verdict.proofs.Prefixes.{few, front_same}

-- ---- what bytes give, more bytes give too

-- the fault is the same; or what was read, with more bytes left, of those at least so many
abbrev Ahead : {A : Type 0} → List ℕ → ℕ → Result (A × List ℕ) Defect → Result (A × List ℕ) Defect → Type 0
Ahead more least (Ok x) long = (long ≡ Ok (x.0, x.1 ++ more)) × (least ≤ length x.1)
Ahead more least (Err d) long = long ≡ Err d

then_ahead : {A B : Type 0} (more : List ℕ) (least last : ℕ) (short long : Result (A × List ℕ) Defect) (f : A × List ℕ → Result (B × List ℕ) Defect)
    → Ahead more least short long → ((x : A) (rest : List ℕ) → least ≤ length rest → Ahead more last (f (x, rest)) (f (x, rest ++ more)))
    → Ahead more last (short >>= f) (long >>= f)
then_ahead more least last (Ok x) long f is each = rw is.0 (each x.0 x.1 is.1)
then_ahead more least last (Err d) long f is each = rw is refl

-- a step that reads no byte
same_ahead : {A B : Type 0} (more : List ℕ) (least : ℕ) (r : Result A Defect) (f g : A → Result (B × List ℕ) Defect) → ((x : A) → Ahead more least (f x) (g x))
    → Ahead more least (r >>= f) (r >>= g)
same_ahead more least (Ok x) f g each = each x
same_ahead more least (Err d) f g each = refl

either_ahead : {A : Type 0} (more : List ℕ) (least : ℕ) (b : Bool) (short other long more_of_other : Result (A × List ℕ) Defect) → Ahead more least short long
    → Ahead more least other more_of_other → Ahead more least (cond b short other) (cond b long more_of_other)
either_ahead more least true short other long more_of_other is also = is
either_ahead more least false short other long more_of_other is also = also

byte_ahead : (more bytes : List ℕ) (least : ℕ) → least + 1 ≤ length bytes → Ahead more least (byte_at bytes) (byte_at (bytes ++ more))
byte_ahead more [] least few = absurd (omega (arith, few))
byte_ahead more (b ∷ bytes) least few = (refl, omega (arith, few))

number_ahead : (k least : ℕ) (more bytes : List ℕ) → least + (k + 1) ≤ length bytes → Ahead more least (number_at k bytes) (number_at k (bytes ++ more))
unfolding number_at
number_ahead zero least more bytes few =
    then_ahead more least least (byte_at bytes) (byte_at (bytes ++ more)) (λ low. cond (ltb low.0 128) (Ok low) (Err EntryNumber)) (byte_ahead more bytes least (omega (arith, few)))
    (λ low rest enough. either_ahead more least (ltb low 128) (Ok (low, rest)) (Err EntryNumber) (Ok (low, rest ++ more)) (Err EntryNumber) (refl, enough) refl)
number_ahead (suc k) least more bytes few =
    then_ahead more (least + (k + 1)) least (byte_at bytes) (byte_at (bytes ++ more))
    (λ low. cond (ltb low.0 128) (Ok low) (number_at k low.1 >>= λ high. cond (eqb high.0 0) (Err EntryNumber) (Ok (low.0 - 128 + 128 * high.0, high.1))))
    (byte_ahead more bytes (least + (k + 1)) (omega (arith, few)))
    (λ low rest enough. either_ahead more least (ltb low 128) (Ok (low, rest)) (number_at k rest >>= λ high. cond (eqb high.0 0) (Err EntryNumber) (Ok (low - 128 + 128 * high.0, high.1)))
    (Ok (low, rest ++ more)) (number_at k (rest ++ more) >>= λ high. cond (eqb high.0 0) (Err EntryNumber) (Ok (low - 128 + 128 * high.0, high.1)))
    (refl, omega (arith, enough))
    (then_ahead more least least (number_at k rest) (number_at k (rest ++ more)) (λ high. cond (eqb high.0 0) (Err EntryNumber) (Ok (low - 128 + 128 * high.0, high.1)))
    (number_ahead k least more rest enough)
    (λ high left also. either_ahead more least (eqb high 0) (Err EntryNumber) (Ok (low - 128 + 128 * high, left)) (Err EntryNumber) (Ok (low - 128 + 128 * high, left ++ more))
    refl (refl, also))))

abbrev made : ℕ → ℕ → ℕ → List ℕ → Entry × List ℕ
made from number plies rest = (record { class = from + number - 1; plies = plies }, rest)

abbrev plies_behind : ListKind → ℕ → ℕ → List ℕ → Result (Entry × List ℕ) Defect
plies_behind kind from number rest = byte_at rest >>= λ byte. plies_at kind byte.0 >>= λ plies. Ok (made from number plies byte.1)

entry_ahead : (kind : ListKind) (classes from least : ℕ) (more bytes : List ℕ) → least + 6 ≤ length bytes
    → Ahead more least (entry_at kind classes from bytes) (entry_at kind classes from (bytes ++ more))
unfolding entry_at
entry_ahead kind classes from least more bytes few =
    then_ahead more (least + 1) least (number_at 4 bytes) (number_at 4 (bytes ++ more))
    (λ number. wants (ltb 0 number.0) EntryOrder >>= λ above. wants (leb (from + number.0) classes) EntryClass >>= λ known. plies_behind kind from number.0 number.1)
    (number_ahead 4 (least + 1) more bytes (omega (arith, few)))
    (λ number rest enough. same_ahead more least (wants (ltb 0 number) EntryOrder)
    (λ above. wants (leb (from + number) classes) EntryClass >>= λ known. plies_behind kind from number rest)
    (λ above. wants (leb (from + number) classes) EntryClass >>= λ known. plies_behind kind from number (rest ++ more))
    (λ above. same_ahead more least (wants (leb (from + number) classes) EntryClass) (λ known. plies_behind kind from number rest)
    (λ known. plies_behind kind from number (rest ++ more))
    (λ known. then_ahead more least least (byte_at rest) (byte_at (rest ++ more)) (λ byte. plies_at kind byte.0 >>= λ plies. Ok (made from number plies byte.1))
    (byte_ahead more rest least enough)
    (λ byte left also. same_ahead more least (plies_at kind byte) (λ plies. Ok (made from number plies left)) (λ plies. Ok (made from number plies (left ++ more)))
    (λ plies. (refl, also))))))

entries_ahead : (kind : ListKind) (classes from count least : ℕ) (more bytes : List ℕ) → least + 6 * count ≤ length bytes
    → Ahead more least (entries_at kind classes from count bytes) (entries_at kind classes from count (bytes ++ more))
unfolding entries_at
entries_ahead kind classes from zero least more bytes few = (refl, omega (arith, few))
entries_ahead kind classes from (suc count) least more bytes few =
    then_ahead more (least + 6 * count) least (entry_at kind classes from bytes) (entry_at kind classes from (bytes ++ more))
    (λ first. entries_at kind classes (first.0.class + 1) count first.1 >>= λ others. Ok (first.0 ∷ others.0, others.1))
    (entry_ahead kind classes from (least + 6 * count) more bytes (omega (arith, few)))
    (λ first rest enough. then_ahead more least least (entries_at kind classes (first.class + 1) count rest) (entries_at kind classes (first.class + 1) count (rest ++ more))
    (λ others. Ok (first ∷ others.0, others.1)) (entries_ahead kind classes (first.class + 1) count least more rest enough) (λ others left also. (refl, also)))

-- ---- a file that goes on too long

-- both have that fault
abbrev pub HaveOneFault : Result Content Defect → Result Content Defect → Type 0
HaveOneFault short long = (defect : Defect) × (short ≡ Err defect) × (long ≡ Err defect)

then_ends : {A : Type 0} (more : List ℕ) (least : ℕ) (short long : Result (A × List ℕ) Defect) (f g : A × List ℕ → Result Content Defect) → Ahead more least short long
    → ((x : A) (rest : List ℕ) → least ≤ length rest → HaveOneFault (f (x, rest)) (g (x, rest ++ more))) → HaveOneFault (short >>= f) (long >>= g)
then_ends more least (Ok x) long f g is each = rw is.0 (each x.0 x.1 is.1)
then_ends more least (Err d) long f g is each = (d, refl, rw is refl)

over : (n : ℕ) → 33 ≤ n → leb n 32 ≡ false
over n large = grind (arith, nat_tests)

seal_wrong : (bytes rest : List ℕ) → 33 ≤ length rest → seal_at bytes rest ≡ Err Trailing
unfolding seal_at
seal_wrong bytes rest large = rw (le-leb 32 (length rest) (omega (arith, large)), over (length rest) large) refl

more_left : (rest more : List ℕ) → 33 ≤ length rest → 33 ≤ length (rest ++ more)
more_left rest more large = omega (arith, length-append rest more, large)

abbrev sealed : FrontContent → List ℕ → List Entry → List Entry → List ℕ → Result Content Defect
sealed front bytes lost held rest = seal_at bytes rest >>= λ done. Ok (record { family = front.family; root = front.root; claim = front.claim; lost = lost; held = held })

abbrev behind : FrontContent → List ℕ → List ℕ → Result Content Defect
behind front bytes rest = entries_at Lost (classes_of front.family) 0 front.lost_count rest >>= λ lost.
    entries_at Held (classes_of front.family) 0 front.held_count lost.1 >>= λ held. sealed front bytes lost.0 held.0 held.1

behind_ends : (front : FrontContent) (bytes whole rest more : List ℕ) → (33 + 6 * front.held_count) + 6 * front.lost_count ≤ length rest
    → HaveOneFault (behind front bytes rest) (behind front whole (rest ++ more))
behind_ends front bytes whole rest more long =
    let classes = classes_of front.family in
    then_ends more (33 + 6 * front.held_count) (entries_at Lost classes 0 front.lost_count rest) (entries_at Lost classes 0 front.lost_count (rest ++ more))
    (λ lost. entries_at Held classes 0 front.held_count lost.1 >>= λ held. sealed front bytes lost.0 held.0 held.1)
    (λ lost. entries_at Held classes 0 front.held_count lost.1 >>= λ held. sealed front whole lost.0 held.0 held.1)
    (entries_ahead Lost classes 0 front.lost_count (33 + 6 * front.held_count) more rest long)
    (λ lost left enough. then_ends more 33 (entries_at Held classes 0 front.held_count left) (entries_at Held classes 0 front.held_count (left ++ more))
    (λ held. sealed front bytes lost held.0 held.1) (λ held. sealed front whole lost held.0 held.1) (entries_ahead Held classes 0 front.held_count 33 more left enough)
    (λ held last also. (Trailing, rw (seal_wrong bytes last also) refl, rw (seal_wrong whole (last ++ more) (more_left last more also)) refl)))

file_is : (bytes : List ℕ) (front : FrontContent) → front_at bytes ≡ Ok front → file_at bytes ≡ behind front bytes (drop 28 bytes)
unfolding file_at
file_is bytes front e = rw e refl

long_wrong : (front : FrontContent) (head rest more : List ℕ) → front_at (head ++ rest) ≡ Ok front → front_at (head ++ (rest ++ more)) ≡ Ok front → length head ≡ 28
    → (33 + 6 * front.held_count) + 6 * front.lost_count ≤ length rest → HaveOneFault (file_at (head ++ rest)) (file_at (head ++ (rest ++ more)))
long_wrong front head rest more short long is enough = rw (file_is (head ++ rest) front short, file_is (head ++ (rest ++ more)) front long)
    (rw (drop_at head rest 28 is, drop_at head (rest ++ more) 28 is) (behind_ends front (head ++ rest) (head ++ (rest ++ more)) rest more enough))

-- ---- the bytes that were read
short_wrong : (bytes : List ℕ) → leb 28 (length bytes) ≡ false → front_at bytes ≡ Err Truncated
unfolding front_at family_at
short_wrong bytes e = rw e refl

front_long : (bytes : List ℕ) (front : FrontContent) → front_at bytes ≡ Ok front → 28 ≤ length bytes
front_long bytes front e = go (leb 28 (length bytes)) refl
  where
    go : (b : Bool) → leb 28 (length bytes) ≡ b → 28 ≤ length bytes
    go true long = leb-true 28 (length bytes) long
    go false short = absurd (other (sym (short_wrong bytes short) ∙ e))
      where
        other : Err Truncated ≡ Ok front → ⊥
        other same = cc

front_with : (front : FrontContent) (head rest : List ℕ) → length head ≡ 28 → front_at head ≡ Ok front → front_at (head ++ rest) ≡ Ok front
front_with front head rest is e = sym (front_same (head ++ rest)) ∙ (ap front_at (take_at head rest 28 is) ∙ e)

whole_head : (head bytes : List ℕ) → head ≡ take 28 bytes → 28 ≤ length head → length head ≡ 28
whole_head head bytes is long = go (leb 28 (length bytes)) refl
  where
    same : length head ≡ length (take 28 bytes)
    same = ap (λ (l : List ℕ). length l) is

    go : (b : Bool) → leb 28 (length bytes) ≡ b → length head ≡ 28
    go true e = same ∙ length-take-le 28 bytes (leb-true 28 (length bytes) e)
    go false e = omega (arith, same, ap (λ (l : List ℕ). length l) (take_all 28 bytes (few (length bytes) e)), few (length bytes) e, long)

-- what stands before the entries, and behind it all bytes, or more than can be
pub read_as : (front : FrontContent) (bytes head rest : List ℕ) (count most : ℕ) → head ≡ take count bytes → head ≡ take 28 bytes → front_at head ≡ Ok front
    → most ≡ 6 * front.held_count + 6 * front.lost_count + 32
    → (rest ≡ drop count bytes) ⊎ ((most < length rest) × (rest ≡ take (length rest) (drop count bytes))) → ReadsAs (head ++ rest) bytes
read_as front bytes head rest count most first is e long (inl all) = inl (rw (first, all) (take-append-drop count bytes))
read_as front bytes head rest count most first is e long (inr (more_than, some)) =
    let more : List ℕ = drop (length rest) (drop count bytes) in
    let all_rest : rest ++ more ≡ drop count bytes = ap (λ (l : List ℕ). l ++ more) some ∙ take-append-drop (length rest) (drop count bytes) in
    let all : head ++ (rest ++ more) ≡ bytes = ap (λ (l : List ℕ). head ++ l) all_rest ∙ (ap (λ (l : List ℕ). l ++ drop count bytes) first ∙ take-append-drop count bytes) in
    let held = whole_head head bytes is (front_long head front e) in
    let wrong = long_wrong front head rest more (front_with front head rest held e) (front_with front head (rest ++ more) held e) held (omega (arith, more_than, long)) in
    inr (wrong.0, wrong.1, ap file_at (sym all) ∙ wrong.2)
