-- What a step of reading takes from the front, bytes that are the same, and numbers that are read and written.
use Rattle.dob_certfile.proofs.Common.{◌%◌, ◌*◌, ◌++◌, ◌+◌, ◌-◌, ◌/◌, ◌<◌, ◌∙◌, ◌∷◌, ◌≡◌, ◌≤◌, Bool, Err, List, Ok, Result, [], ap, append_assoc, arith}
use Rattle.dob_certfile.proofs.Common.{rules, cond, drop, eqb, false, get_or, inl, inr, ltb, refl, subst, suc, sym, true, zero, ℕ, cases_Bool, le-ltb}
use Rattle.dob_certfile.proofs.Common.{lt-ltb, ltb-true, OnOk, ◌>>=◌, byte_at, wants, number_at, Defect, EntryNumber}
use Rattle.std.specs.Prelude.{bytes_eq}
use Rattle.std.proofs.lemmas.Slice.Eq.{bytes_eq-Decides}
use Rattle.std.proofs.lemmas.Bool.{ltb-false}
use Rattle.dob_certfile.specs.Numbers.{leb128, leb128_limit}

-- ---- bytes that are the same
pub same_is : (xs ys : List ℕ) → bytes_eq xs ys ≡ true → xs ≡ ys
same_is xs ys = (bytes_eq-Decides xs ys).0

pub is_same : (xs ys : List ℕ) → xs ≡ ys → bytes_eq xs ys ≡ true
is_same xs ys = (bytes_eq-Decides xs ys).1

pub not_same : (xs ys : List ℕ) → (xs ≡ ys → ⊥) → bytes_eq xs ys ≡ false
not_same xs ys other = search (rules, same_is)

-- ---- steps of reading
abbrev pub IsBytes : List ℕ → Type 0
IsBytes bytes = (i : ℕ) → get_or bytes i 0 < 256

pub rest_fits : (b : ℕ) (bytes : List ℕ) → IsBytes (b ∷ bytes) → IsBytes bytes
rest_fits b bytes fits i = fits (suc i)

pub IsBytes-drop : (n : ℕ) (bytes : List ℕ) → IsBytes bytes → IsBytes (drop n bytes)
IsBytes-drop zero bytes fits = fits
IsBytes-drop (suc n) [] fits = fits
IsBytes-drop (suc n) (b ∷ bytes) fits = IsBytes-drop n bytes (rest_fits b bytes fits)

-- the value of a step that did not fail
pub bind_ok : {A B : Type 0} (r : Result A Defect) (f : A → Result B Defect) (y : B) → (r >>= f) ≡ Ok y → (x : A) × (r ≡ Ok x) × (f x ≡ Ok y)
bind_ok (Ok x) f y e = (x, refl, e)
bind_ok (Err d) f y e = absurd cc

-- a test that did not fail
pub wants_ok : {B : Type 0} (b : Bool) (d : Defect) (r : Result B Defect) (y : B) → (wants b d >>= λ ok. r) ≡ Ok y → (b ≡ true) × (r ≡ Ok y)
wants_ok true d r y e = (refl, e)
wants_ok false d r y e = absurd cc

abbrev done : {A : Type 0} → A → Result A Defect
done x = Ok x

pub ok_is : {A : Type 0} (x y : A) → done x ≡ done y → x ≡ y
ok_is x y e = cc

-- what a reader took from the front
pub record Takes (bytes text rest : List ℕ) : Type 0 where
  pub parts : bytes ≡ text ++ rest
  pub rest_fits : IsBytes rest

pub Takes-then : (a x b y c : List ℕ) → Takes a x b → Takes b y c → Takes a (x ++ y) c
Takes-then a x b y c p q = record { parts = p.parts ∙ ap (λ (t : List ℕ). x ++ t) q.parts ∙ sym (append_assoc x y c); rest_fits = q.rest_fits }

pub byte_takes : (bytes : List ℕ) (x : ℕ × List ℕ) → IsBytes bytes → byte_at bytes ≡ Ok x → Takes bytes (x.0 ∷ []) x.1 × (x.0 < 256)
byte_takes [] x fits e = absurd cc
byte_takes (b ∷ bytes) x fits e =
    subst (λ (y : ℕ × List ℕ). Takes (b ∷ bytes) (y.0 ∷ []) y.1 × (y.0 < 256)) (ok_is (b, bytes) x e)
    (record { parts = refl; rest_fits = rest_fits b bytes fits }, fits 0)

-- ---- numbers in the fewest bytes
abbrev step : ℕ → ℕ × List ℕ → Result (ℕ × List ℕ) Defect
step low high = cond (eqb high.0 0) (Err EntryNumber) (Ok (low - 128 + 128 * high.0, high.1))

step_ok : (low : ℕ) (high x : ℕ × List ℕ) → step low high ≡ Ok x → (0 < high.0) × (x ≡ (low - 128 + 128 * high.0, high.1))
step_ok low high x e = grind arith

limit_some : (more : ℕ) → 0 < leb128_limit more
limit_some zero = omega arith
limit_some (suc more) = omega (arith, limit_some more)

pub number_takes : (more : ℕ) (bytes : List ℕ) (x : ℕ × List ℕ) → IsBytes bytes → number_at more bytes ≡ Ok x → Takes bytes (leb128 more x.0) x.1 × (x.0 < leb128_limit more)
unfolding number_at leb128
number_takes zero bytes x fits e =
    let a = bind_ok (byte_at bytes) (λ low. cond (ltb low.0 128) (Ok low) (Err EntryNumber)) x e in
    let t = byte_takes bytes a.0 fits a.1 in
    elim (cases_Bool (ltb a.0.0 128)) [
      | inl is ↦ subst (λ (y : ℕ × List ℕ). Takes bytes (y.0 ∷ []) y.1 × (y.0 < 128)) (ok_is a.0 x (rw is at a.2)) (t.0, ltb-true a.0.0 128 is)
      | inr not_so ↦ let never = rw not_so at a.2 in absurd (cc)
    ]
number_takes (suc more) bytes x fits e =
    let a = bind_ok (byte_at bytes) (λ low. cond (ltb low.0 128) (Ok low) (number_at more low.1 >>= λ high. step low.0 high)) x e in
    let t = byte_takes bytes a.0 fits a.1 in
    elim (cases_Bool (ltb a.0.0 128)) [
      | inl is ↦
          let low : a.0.0 < 128 = ltb-true a.0.0 128 is in
          let one : leb128 (suc more) a.0.0 ≡ a.0.0 ∷ [] = rw is refl in
          let room : a.0.0 < 128 * leb128_limit more = omega (arith, low, limit_some more) in
          subst (λ (y : ℕ × List ℕ). Takes bytes (leb128 (suc more) y.0) y.1 × (y.0 < leb128_limit (suc more))) (ok_is a.0 x (rw is at a.2))
          (subst (λ (text : List ℕ). Takes bytes text a.0.1) (sym one) t.0, room)
      | inr not_so ↦
          let b = bind_ok (number_at more a.0.1) (λ high. step a.0.0 high) x (rw not_so at a.2) in
          let u = number_takes more a.0.1 b.0 t.0.rest_fits b.1 in
          let s = step_ok a.0.0 b.0 x b.2 in
          let low : 128 ≤ a.0.0 = ltb-false a.0.0 128 not_so in
          let number : ℕ = a.0.0 - 128 + 128 * b.0.0 in
          let big : ltb number 128 ≡ false = le-ltb number 128 (omega (arith, s.0, low)) in
          let first : 128 + number % 128 ≡ a.0.0 = omega (arith, low, t.1) in
          let rest : number / 128 ≡ b.0.0 = omega (arith, low, t.1) in
          let text : leb128 (suc more) number ≡ a.0.0 ∷ leb128 more b.0.0 = rw (big, first, rest) refl in
          let both : Takes bytes (a.0.0 ∷ leb128 more b.0.0) b.0.1 = Takes-then bytes (a.0.0 ∷ []) a.0.1 (leb128 more b.0.0) b.0.1 t.0 u.0 in
          let room : number < 128 * leb128_limit more = omega (arith, low, t.1, u.1) in
          subst (λ (y : ℕ × List ℕ). Takes bytes (leb128 (suc more) y.0) y.1 × (y.0 < leb128_limit (suc more))) (sym s.1)
          (subst (λ (text : List ℕ). Takes bytes text b.0.1) (sym text) both, room)
    ]

pub number_again : (more number : ℕ) (rest : List ℕ) → number < leb128_limit more → number_at more (leb128 more number ++ rest) ≡ Ok (number, rest)
unfolding number_at leb128
number_again zero number rest fits = let is : ltb number 128 ≡ true = lt-ltb number 128 fits in rw is refl
number_again (suc more) number rest fits = grind (arith, (number_again more (number / 128) rest (omega (arith, fits))))

-- ---- one byte more of a number that is read
pub number_err : (more : ℕ) (bytes : List ℕ) (d : Defect) → byte_at bytes ≡ Err d → number_at more bytes ≡ Err d
unfolding number_at
number_err zero bytes d e = rw e refl
number_err (suc more) bytes d e = rw e refl

pub number_low : (more : ℕ) (bytes : List ℕ) (low : ℕ) (rest : List ℕ) → byte_at bytes ≡ Ok (low, rest) → low < 128 → number_at more bytes ≡ Ok (low, rest)
unfolding number_at
number_low zero bytes low rest e small = rw (e, lt-ltb low 128 small) refl
number_low (suc more) bytes low rest e small = rw (e, lt-ltb low 128 small) refl

pub number_last : (more : ℕ) (bytes : List ℕ) (low : ℕ) (rest : List ℕ) → byte_at bytes ≡ Ok (low, rest) → 128 ≤ low → more ≡ 0 → number_at more bytes ≡ Err EntryNumber
unfolding number_at
number_last more bytes low rest e large none = grind arith

-- the bytes after a byte that isn't the last
module _ (more : ℕ) (bytes : List ℕ) (low : ℕ) (rest : List ℕ) (e : byte_at bytes ≡ Ok (low, rest)) (large : 128 ≤ low) (some : 0 < more) where
  pub number_more_err : (d : Defect) → number_at (more - 1) rest ≡ Err d → number_at more bytes ≡ Err d
  unfolding number_at
  number_more_err d h = search rules

  pub number_zero : (high : ℕ) (after : List ℕ) → number_at (more - 1) rest ≡ Ok (high, after) → high ≡ 0 → number_at more bytes ≡ Err EntryNumber
  unfolding number_at
  number_zero high after h none = grind arith

  pub number_more : (high : ℕ) (after : List ℕ) → number_at (more - 1) rest ≡ Ok (high, after) → (high ≡ 0 → ⊥) → number_at more bytes ≡ Ok (low - 128 + 128 * high, after)
  unfolding number_at
  number_more high after h above = grind arith

-- ---- how large they are
pub low_room : (more number : ℕ) → number < 128 → number < leb128_limit more
low_room zero number small = small
low_room (suc more) number small = omega (arith, low_room more number small)

pub high_room : (more low high : ℕ) → 0 < more → low < 256 → high < leb128_limit (more - 1) → low - 128 + 128 * high < leb128_limit more
high_room zero low high some small fits = absurd (omega (arith, some))
high_room (suc more) low high some small fits = grind arith

pub limit_small : (more : ℕ) → more ≤ 4 → leb128_limit more ≤ 34359738368
limit_small (suc (suc (suc (suc (suc more))))) few = absurd (omega (arith, few))
limit_small _ few = omega arith

-- ---- one byte more of a number that is written
pub leb_low : (more number : ℕ) → number < 128 → leb128 more number ≡ number ∷ []
unfolding leb128
leb_low zero number small = refl
leb_low (suc more) number small = rw (lt-ltb number 128 small) refl

-- a byte was appended, and then the rest
pub leb_more : (more number : ℕ) (old now new : List ℕ) → 128 ≤ number → number < leb128_limit more → now ≡ old ++ (128 + number % 128) ∷ []
    → ((fewer : ℕ) → number / 128 < leb128_limit fewer → new ≡ now ++ leb128 fewer (number / 128)) → new ≡ old ++ leb128 more number
unfolding leb128
leb_more zero number old now new large fits first rest = absurd (omega (arith, large, fits))
leb_more (suc more) number old now new large fits first rest =
    let text : leb128 (suc more) number ≡ (128 + number % 128) ∷ leb128 more (number / 128) = rw (le-ltb number 128 large) refl in
    rest more (omega (arith, fits))
    ∙ ap (λ (x : List ℕ). x ++ leb128 more (number / 128)) first
    ∙ append_assoc old ((128 + number % 128) ∷ []) (leb128 more (number / 128))
    ∙ ap (λ (x : List ℕ). old ++ x) (sym text)

pub push_more : {X E : Type 0} (r : Result X E) (more number : ℕ) (old now new : List ℕ) → 128 ≤ number → number < leb128_limit more → now ≡ old ++ (128 + number % 128) ∷ []
    → ((fewer : ℕ) → number / 128 < leb128_limit fewer → OnOk r (new ≡ now ++ leb128 fewer (number / 128))) → OnOk r (new ≡ old ++ leb128 more number)
push_more (Ok x) more number old now new large fits first rest = leb_more more number old now new large fits first rest
push_more (Err e) more number old now new large fits first rest = tt
