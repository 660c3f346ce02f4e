-- What `clap`'s lexer makes of a word, by the word's first bytes.
use Rattle.dob_words.proofs.Common.{◌+◌, ◌∷◌, ◌≡◌, Bool, None, Option, Some, [], ap, arith, codes, false, refl, suc, take, true, ℕ, or-false}
use Rattle.dob_words.proofs.Common.{bytes_eq-Decides, before_first, option_map_or, is_some, not, slice_get, bytes_eq, chars, has_byte, long_of, Text, flag_of}
use Rattle.dob_words.proofs.Common.{is_help_flag, is_text}
use Rattle.std.proofs.Common.{◌==◌, inl, inr}
use Rattle.std.proofs.lemmas.Bool.Decides.{nat_tests}
use Rattle.std.proofs.lemmas.Bool.{cases_eq}

-- the first bytes of a word
pub data View : Text → Type 0 where
  empty : View []
  letter : (x : ℕ) (rest : Text) → (x == 45) ≡ false → View (x ∷ rest)
  hyphen : View (45 ∷ [])
  dashes : View (45 ∷ 45 ∷ [])
  long : (c : ℕ) (cs : Text) → View (45 ∷ 45 ∷ c ∷ cs)
  short : (y : ℕ) (ys : Text) → (y == 45) ≡ false → View (45 ∷ y ∷ ys)

second : (y : ℕ) (ys : Text) → View (45 ∷ y ∷ ys)
second y ys = elim (cases_eq y 45) [
  | inl is ↦ rw is (two ys)
  | inr other ↦ short y ys (grind (arith, nat_tests))
]
  where
    two : (zs : Text) → View (45 ∷ 45 ∷ zs)
    two [] = dashes
    two (c ∷ cs) = long c cs

first : (x : ℕ) (rest : Text) → View (x ∷ rest)
first x rest = elim (cases_eq x 45) [
  | inl is ↦ rw is (one rest)
  | inr other ↦ letter x rest (grind (arith, nat_tests))
]
  where
    one : (zs : Text) → View (45 ∷ zs)
    one [] = hyphen
    one (y ∷ ys) = second y ys

-- each word has one
pub view : (w : Text) → View w
view [] = empty
view (x ∷ rest) = first x rest

-- the first character of a text that begins with a hyphen is a hyphen
pub hyphen_first : (ys : Text) → slice_get (chars (45 ∷ ys)) 0 ≡ Some 45
unfolding chars
hyphen_first [] = refl
hyphen_first (y ∷ ys) = refl

pub no_first : slice_get (chars []) 0 ≡ None
unfolding chars
no_first = refl

pub take_one : (n x : ℕ) (xs : Text) → take (1 + n) (x ∷ xs) ≡ x ∷ take n xs
take_one n x xs = let e : 1 + n ≡ suc n = omega arith in rw e refl

-- a text without `=` (61) is all that stands before one
pub before_none : (t : Text) → has_byte 61 t ≡ false → before_first (λ x. x == 61) t ≡ t
before_none [] e = refl
before_none (x ∷ xs) e = grind (arith, before_none xs, take_one)

-- ---- which words ask for help
pub flip : (x y : ℕ) (b : Bool) → (x == y) ≡ b → (y == x) ≡ b
flip x y b e = grind (arith, nat_tests)

pub help_dashes : is_help_flag (45 ∷ 45 ∷ []) ≡ false
help_dashes = rw hyphen_first refl

pub help_long : (a : ℕ) (cs : Text) → is_help_flag (45 ∷ 45 ∷ a ∷ cs) ≡ bytes_eq (codes "help") (a ∷ cs)
help_long a cs = rw (hyphen_first (a ∷ cs)) (or-false (bytes_eq (codes "help") (a ∷ cs)))

pub help_short : (y : ℕ) (ys : Text) → (y == 45) ≡ false
    → is_help_flag (45 ∷ y ∷ ys) ≡ option_map_or (λ x. 104 == x) (slice_get (chars (y ∷ ys)) 0) false
help_short y ys t = rw (flip y 45 false t) refl

-- ---- which words are `--`
pub flip_bytes : (v w : Text) (b : Bool) → bytes_eq v w ≡ b → bytes_eq w v ≡ b
flip_bytes v w b e = grind (arith, bytes_eq-Decides v w, bytes_eq-Decides w v)

-- what `--` does not pass is no test of `--`
differs_by : (test : Text → Bool) (w : Text) → test (codes "--") ≡ false → test w ≡ true → bytes_eq w (codes "--") ≡ false
differs_by test w fails passes = grind (arith, bytes_eq-Decides w (codes "--"))

pub text_differs : (w : Text) → is_text w ≡ true → bytes_eq w (codes "--") ≡ false
text_differs w e = differs_by is_text w (ap (λ (o : Option ℕ). not (is_some o)) (hyphen_first [])) e

pub help_differs : (w : Text) → is_help_flag w ≡ true → bytes_eq w (codes "--") ≡ false
help_differs w e = differs_by is_help_flag w help_dashes e

none_of : (o : Option ℕ) → not (is_some o) ≡ true → o ≡ None
none_of o e = grind arith

pub text_flag : (w : Text) → is_text w ≡ true → flag_of w ≡ None
text_flag w e = none_of (flag_of w) e

-- ---- options

-- the name in a word `--name` or `--name=value`
abbrev pub long_name : Text → Text
long_name w = option_map_or (λ p. p.0) (long_of w) []
