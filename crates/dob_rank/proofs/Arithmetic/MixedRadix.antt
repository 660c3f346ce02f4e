-- Mixed radix numbers: the number of the digits and the digits of the number, in order.
use Rattle.dob_rank.proofs.Common.{◌%◌, ◌*◌, ◌++◌, ◌+◌, ◌/◌, ◌<◌, ◌∙◌, ◌∷◌, ◌≡◌, ◌≤◌, List, [], ap, arith, get_or, inl, inr, length, refl, suc, sym, zero, ℕ}
use Rattle.dob_rank.proofs.Common.{add-mul, mul_assoc, mul_comm, div-add-mod', div-mul-add, div_below, mod-mul-add, mod_below, mul-add-lt, HasDigits, digits_of}
use Rattle.dob_rank.proofs.Common.{number_of, product, Precedes, append-nil, mul-le}
use Rattle.dob_rank.proofs.Arithmetic.Order.{Upto, Upto-split}

-- a digit below its base, and less than a whole step after it
pub digit_below : (d b p n : ℕ) → d < b → n < p → d * p + n < b * p
digit_below d b p n h k = omega (arith, mul-add-lt d p n b h k, mul_comm b p)

-- a product above something has no factor 0
pub factor_positive : (n b p : ℕ) → n < b * p → 0 < p
factor_positive n b zero h = absurd (omega arith)
factor_positive n b (suc p) h = omega arith

-- a number is below the product of its bases
pub number_of-below : (bases digits : List ℕ) → HasDigits bases digits → number_of bases digits < product bases
number_of-below [] [] h = omega arith
number_of-below (b ∷ bs) (d ∷ ds) h = digit_below d b (product bs) (number_of bs ds) h.0 (number_of-below bs ds h.1)
number_of-below bs ds h = absurd h

-- an earlier list of digits has a lower number
pub number_of-rises : (bases xs ys : List ℕ) → HasDigits bases xs → HasDigits bases ys → Precedes xs ys → number_of bases xs < number_of bases ys
number_of-rises (b ∷ bs) (x ∷ xs) (y ∷ ys) h k p =
    let low = digit_below x y (product bs) (number_of bs xs) in
    grind (arith, low, number_of-below bs xs h.1, number_of-rises bs xs ys h.1 k.1)
number_of-rises bs xs ys h k p = grind arith

pub number_of-upto : (bases xs ys : List ℕ) → length xs ≡ length ys → HasDigits bases xs → HasDigits bases ys → Upto xs ys → number_of bases xs ≤ number_of
    bases ys
number_of-upto bases xs ys e h k p = elim (Upto-split xs ys [] [] e (rw (append-nil xs, append-nil ys) p)) [
  | inl lt ↦ (let less = number_of-rises bases xs ys h k lt in omega arith)
  | inr q ↦ rw q.0 (omega arith)
]

-- the digits of a number below the product are below their bases
pub HasDigits-digits_of : (bases : List ℕ) (n : ℕ) → n < product bases → HasDigits bases (digits_of bases n)
HasDigits-digits_of [] n h = tt
HasDigits-digits_of (b ∷ bs) n h =
    let positive = factor_positive n b (product bs) h in
    (div_below n (product bs) b positive h, HasDigits-digits_of bs (n % product bs) (mod_below n (product bs) positive))

-- the number of a number's digits is that number
pub number_of-digits_of : (bases : List ℕ) (n : ℕ) → n < product bases → number_of bases (digits_of bases n) ≡ n
number_of-digits_of [] n h = omega arith
number_of-digits_of (b ∷ bs) n h =
    omega (arith, number_of-digits_of bs (n % product bs) (mod_below n (product bs) (factor_positive n b (product bs) h)), div-add-mod' n (product bs))

-- the digits of the number that digits write are those digits
pub digits_of-number_of : (bases digits : List ℕ) → HasDigits bases digits → digits_of bases (number_of bases digits) ≡ digits
digits_of-number_of [] [] h = refl
digits_of-number_of (b ∷ bs) (d ∷ ds) h =
    let low = number_of-below bs ds h.1 in
    rw (div-mul-add d (product bs) (number_of bs ds) low, mod-mul-add d (product bs) (number_of bs ds) low, digits_of-number_of bs ds h.1)
digits_of-number_of bs ds h = absurd h

-- ---- in two parts
pub product-append : (bs cs : List ℕ) → product (bs ++ cs) ≡ product bs * product cs
product-append [] cs = omega arith
product-append (b ∷ bs) cs = ap (λ n. b * n) (product-append bs cs) ∙ sym (mul_assoc b (product bs) (product cs))

pub number_of-append : (bs cs xs ys : List ℕ) → length bs ≡ length xs →
    number_of (bs ++ cs) (xs ++ ys) ≡ number_of bs xs * product cs + number_of cs ys
number_of-append [] cs [] ys e = omega arith
number_of-append (b ∷ bs) cs (x ∷ xs) ys e =
    rw (
      product-append bs cs,
      number_of-append bs cs xs ys (omega arith),
      add-mul (x * product bs) (number_of bs xs) (product cs),
      mul_assoc x (product bs) (product cs),
    ) (omega arith)
number_of-append bs cs xs ys e = absurd (omega arith)

length-digits_of : (bs : List ℕ) (n : ℕ) → length bs ≡ length (digits_of bs n)
length-digits_of [] n = refl
length-digits_of (b ∷ bs) n = ap suc (length-digits_of bs (n % product bs))

HasDigits-append : (bs cs xs ys : List ℕ) → HasDigits bs xs → HasDigits cs ys → HasDigits (bs ++ cs) (xs ++ ys)
HasDigits-append [] cs [] ys h k = k
HasDigits-append (b ∷ bs) cs (x ∷ xs) ys h k = (h.0, HasDigits-append bs cs xs ys h.1 k)
HasDigits-append bs cs xs ys h k = absurd h

-- the digits of a number are those of its two parts
pub digits_of-append : (bs cs : List ℕ) (n : ℕ) → n < product (bs ++ cs) →
    digits_of (bs ++ cs) n ≡ digits_of bs (n / product cs) ++ digits_of cs (n % product cs)
digits_of-append bs cs n h =
    let below : n < product bs * product cs = rw (product-append bs cs) at h in
    let some = factor_positive n (product bs) (product cs) below in
    let high = div_below n (product cs) (product bs) some below in
    let low = mod_below n (product cs) some in
    let back = digits_of-number_of (bs ++ cs) (digits_of bs (n / product cs) ++ digits_of cs (n % product cs))
    (HasDigits-append bs cs (digits_of bs (n / product cs)) (digits_of cs (n % product cs))
    (HasDigits-digits_of bs (n / product cs) high) (HasDigits-digits_of cs (n % product cs) low)) in
    rw (
      number_of-append bs cs (digits_of bs (n / product cs)) (digits_of cs (n % product cs)) (length-digits_of bs (n / product cs)),
      number_of-digits_of bs (n / product cs) high,
      number_of-digits_of cs (n % product cs) low,
      div-add-mod' n (product cs),
    ) at back

-- the number that two parts make is below the product of both, and its digits are theirs
pub parts-below : (bs cs : List ℕ) (high low : ℕ) → high < product bs → low < product cs → high * product cs + low < product (bs ++ cs)
parts-below bs cs high low h l = rw (product-append bs cs) (digit_below high (product bs) (product cs) low h l)

pub digits_of-parts : (bs cs : List ℕ) (high low : ℕ) → high < product bs → low < product cs →
    digits_of (bs ++ cs) (high * product cs + low) ≡ digits_of bs high ++ digits_of cs low
digits_of-parts bs cs high low h l =
    rw (
      digits_of-append bs cs (high * product cs + low) (parts-below bs cs high low h l),
      div-mul-add high (product cs) low l,
      mod-mul-add high (product cs) low l,
    )

once : (n : ℕ) → n * 1 ≡ n
once n = omega arith

-- three digits make their number by two steps
pub number_of-three : (a b c x y z : ℕ) → (x * b + y) * c + z ≡ number_of (a ∷ b ∷ c ∷ []) (x ∷ y ∷ z ∷ [])
number_of-three a b c x y z = simp (add-mul, mul_assoc) (omega arith)

-- the same of lists of three, and that nothing on the way is too large
pub record IsNumberOfThree (bs ds : List ℕ) : Type 0 where
  pub first_low : get_or ds 0 0 * get_or bs 1 0 < product bs
  pub second_low : get_or ds 0 0 * get_or bs 1 0 + get_or ds 1 0 < product bs
  pub third_low : (get_or ds 0 0 * get_or bs 1 0 + get_or ds 1 0) * get_or bs 2 0 < product bs
  pub number_is : (get_or ds 0 0 * get_or bs 1 0 + get_or ds 1 0) * get_or bs 2 0 + get_or ds 2 0 ≡ number_of bs ds
  pub number_low : number_of bs ds < product bs

pub number_by_three : (bs ds : List ℕ) → length bs ≡ 3 → length ds ≡ 3 → HasDigits bs ds → IsNumberOfThree bs ds
number_by_three (a ∷ b ∷ c ∷ []) (x ∷ y ∷ z ∷ []) e f h =
    let low = number_of-below (a ∷ b ∷ c ∷ []) (x ∷ y ∷ z ∷ []) h in
    let is = number_of-three a b c x y z in
    let more : 1 * (x * b + y) ≤ c * (x * b + y) = mul-le 1 (x * b + y) c (x * b + y) (let some : z < c = h.1.1.0 in omega arith) (omega arith) in
    let turned = mul_comm c (x * b + y) in
    record {
      first_low = omega (arith, low, is, more, turned);
      second_low = omega (arith, low, is, more, turned);
      third_low = omega (arith, low, is);
      number_is = is;
      number_low = low;
    }
number_by_three bs ds e f h = absurd (omega arith)

whole : (n : ℕ) → n / 1 ≡ n
whole n = omega arith

pub digits_of-two : (b c n : ℕ) → digits_of (b ∷ c ∷ []) n ≡ n / c ∷ n % c ∷ []
digits_of-two b c n = rw (once c, whole (n % c)) refl

-- the digits of three bases, the last first
pub digits_of-three : (a b c n : ℕ) → n < a * (b * (c * 1)) → digits_of (a ∷ b ∷ c ∷ []) n ≡ n / c / b ∷ n / c % b ∷ n % c ∷ []
digits_of-three a b c n h = rw (digits_of-append (a ∷ b ∷ []) (c ∷ []) n h, once c, once b, whole (n / c % b), whole (n % c)) refl

-- the same of a list of three bases, none of which is 0
pub record AreThree (bs : List ℕ) (n : ℕ) : Type 0 where
  pub third_some : 0 < get_or bs 2 0
  pub second_some : 0 < get_or bs 1 0
  pub digits_are : n / get_or bs 2 0 / get_or bs 1 0 ∷ n / get_or bs 2 0 % get_or bs 1 0 ∷ n % get_or bs 2 0 ∷ [] ≡ digits_of bs n

pub three : (bs : List ℕ) (n : ℕ) → length bs ≡ 3 → n < product bs → AreThree bs n
three (a ∷ b ∷ c ∷ []) n e h =
    let two = factor_positive n a (b * (c * 1)) h in
    let one : 0 < c * 1 = factor_positive 0 b (c * 1) two in
    record {
      third_some = omega arith;
      second_some = factor_positive 0 (c * 1) b (omega (
        arith,
        two,
        mul_comm b (c * 1),
      ));
      digits_are = sym (digits_of-three a b c n h);
    }
three bs n e h = absurd (omega arith)
