-- The parts of the key against the digits: squares against choices, forms against forms numbers.
use Rattle.dob_rank.proofs.Common.{◌*◌, ◌<◌, ◌^◌, ◌∙◌, ◌∷◌, ◌≡◌, List, [], ap, arith, eqb, inl, inr, length, map, refl, replicate, subst, suc, sym, zero, ℕ}
use Rattle.dob_rank.proofs.Common.{pow-succ', pow-zero, cases_eq, eq-eqb, ne_eqb, filter, Cell, HasDigits, base_of, choice, count, forms_number, layer}
use Rattle.dob_rank.proofs.Common.{number_of, product, Precedes, form, nat_tests}
use Rattle.dob_rank.proofs.Arithmetic.MixedRadix.{number_of-rises}
use Rattle.dob_rank.proofs.Boards.Choices.{Alike, layer_squares, count_other, count_from-alike, count_at}
use Rattle.dob_rank.proofs.Boards.FormDigits.{form-below, forms_number_same, forms_number_other}

-- ---- squares
pub length-layer_squares : (t from : ℕ) (ls : List ℕ) → length (layer_squares t from ls) ≡ count t ls
length-layer_squares t from [] = refl
length-layer_squares t from (l ∷ ls) = grind (arith, nat_tests, length-layer_squares t (suc from) ls)

-- boards of the same length are alike below layer 0
pub Alike-start : (xs ys : List ℕ) → length xs ≡ length ys → Alike 0 xs ys
Alike-start [] [] e = tt
Alike-start (x ∷ xs) (y ∷ ys) e = (inr (omega arith, omega arith), Alike-start xs ys (omega arith))
Alike-start xs ys e = absurd (omega arith)

pub count-alike : (t : ℕ) (xs ys : List ℕ) → Alike (suc t) xs ys → count t xs ≡ count t ys
count-alike t [] [] h = refl
count-alike t (x ∷ xs) (y ∷ ys) h = grind (arith, nat_tests, count-alike t xs ys h.1)
count-alike t xs ys h = absurd h

pub count_from-alike-next : (t : ℕ) (xs ys : List ℕ) → Alike (suc t) xs ys → Alike t xs ys
count_from-alike-next t [] [] h = tt
count_from-alike-next t (x ∷ xs) (y ∷ ys) h = (grind arith, count_from-alike-next t xs ys h.1)
count_from-alike-next t xs ys h = absurd h

-- layers that are alike up to t make the same choice
pub choice-alike : (t : ℕ) (xs ys : List ℕ) → Alike (suc t) xs ys → choice t xs ≡ choice t ys
choice-alike t [] [] h = refl
choice-alike t (x ∷ xs) (y ∷ ys) h =
    grind (arith, nat_tests, choice-alike t xs ys h.1, count-alike t xs ys h.1, count_from-alike t xs ys (count_from-alike-next t xs ys h.1))
choice-alike t xs ys h = absurd h

-- ---- forms

-- the forms of a layer's cells
abbrev pub layer_forms : ℕ → List Cell → List ℕ
layer_forms t cells = map form (filter (λ (cell : Cell). eqb (layer cell) t) cells)

pub layer_forms_same : (t : ℕ) (cell : Cell) (cells : List Cell) → layer cell ≡ t → layer_forms t (cell ∷ cells) ≡ form cell ∷ layer_forms t cells
layer_forms_same t cell cells h = rw (eq-eqb (layer cell) t h) refl

pub layer_forms_other : (t : ℕ) (cell : Cell) (cells : List Cell) → (layer cell ≡ t → ⊥) → layer_forms t (cell ∷ cells) ≡ layer_forms t cells
layer_forms_other t cell cells h = rw (ne_eqb (layer cell) t h) refl

pub length-layer_forms : (t : ℕ) (cells : List Cell) → length (layer_forms t cells) ≡ count t (map layer cells)
length-layer_forms t [] = refl
length-layer_forms t (cell ∷ cells) = grind (arith, nat_tests, length-layer_forms t cells)

pub product-replicate : (b n : ℕ) → product (replicate n b) ≡ b ^ n
product-replicate b zero = sym (pow-zero b)
product-replicate b (suc n) = ap (λ (x : ℕ). b * x) (product-replicate b n) ∙ sym (pow-succ' b n)

-- forms are digits in the layer's base, and the forms number is their number
pub HasDigits-layer_forms : (t : ℕ) (cells : List Cell) → HasDigits (replicate (count t (map layer cells)) (base_of t)) (layer_forms t cells)
HasDigits-layer_forms t [] = tt
HasDigits-layer_forms t (cell ∷ cells) = elim (cases_eq (layer cell) t) [
  | inl e ↦ rw (count_at t (layer cell) (map layer cells) e, layer_forms_same t cell cells e)
      (subst (λ (x : ℕ). form cell < base_of x) e (form-below cell), HasDigits-layer_forms t cells)
  | inr n ↦ rw (count_other t (layer cell) (map layer cells) n, layer_forms_other t cell cells n) (HasDigits-layer_forms t cells)
]

pub forms_number-digits : (t : ℕ) (cells : List Cell)
    → forms_number t cells ≡ number_of (replicate (count t (map layer cells)) (base_of t)) (layer_forms t cells)
forms_number-digits t [] = refl
forms_number-digits t (cell ∷ cells) = elim (cases_eq (layer cell) t) [
  | inl e ↦ rw (
    forms_number_same t cell cells e,
    count_at t (layer cell) (map layer cells) e,
    layer_forms_same t cell cells e,
    product-replicate (base_of t) (count t (map layer cells)),
    forms_number-digits t cells,
  ) refl
  | inr n ↦ rw (
    forms_number_other t cell cells n,
    count_other t (layer cell) (map layer cells) n,
    layer_forms_other t cell cells n,
  ) (forms_number-digits t cells)
]

-- earlier forms have a lower number, and the same forms the same
pub forms_number-rises : (t : ℕ) (xs ys : List Cell) → count t (map layer xs) ≡ count t (map layer ys)
    → Precedes (layer_forms t xs) (layer_forms t ys) → forms_number t xs < forms_number t ys
forms_number-rises t xs ys c p =
    rw (
      forms_number-digits t xs,
      forms_number-digits t ys,
      c,
    ) (number_of-rises (replicate (count t (map layer ys)) (base_of t)) (layer_forms t xs) (layer_forms t ys)
    (rw c at (HasDigits-layer_forms t xs)) (HasDigits-layer_forms t ys) p)

pub forms_number-alike : (t : ℕ) (xs ys : List Cell) → count t (map layer xs) ≡ count t (map layer ys)
    → layer_forms t xs ≡ layer_forms t ys → forms_number t xs ≡ forms_number t ys
forms_number-alike t xs ys c e = rw (forms_number-digits t xs, forms_number-digits t ys, c, e)
