-- The steps of the loops, over plain lists and numbers.
use Rattle.dob_rank.proofs.Common.{◌*◌, ◌+◌, ◌-◌, ◌/◌, ◌<◌, ◌^◌, ◌∙◌, ◌∷◌, ◌≡◌, ◌≤◌, List, [], ap, arith, drop, get_or, length, refl, suc, sym, zero, ℕ}
use Rattle.dob_rank.proofs.Common.{mul_comm, pow-succ', pow-zero, drop_more, mul-le, All, HasDigits, choose, product}
use Rattle.dob_rank.proofs.Arithmetic.MixedRadix.{digit_below}
use Rattle.dob_rank.proofs.Boards.EmptySquares.{choose_one}

-- ---- the rest of a list, one element further back
pub drop_back : {X : Type 0} (xs : List X) (i : ℕ) (d : X) → 0 < i → i ≤ length xs → drop (i - 1) xs ≡ get_or xs (i - 1) d ∷ drop i xs
drop_back xs i d h k = drop_more xs (i - 1) d (omega arith) ∙ ap (λ (n : ℕ). get_or xs (i - 1) d ∷ drop n xs) (let e : i - 1 + 1 ≡ i = omega arith in e)

-- ---- products
pub product-positive : (bs : List ℕ) → All (λ (b : ℕ). 0 < b) bs → 0 < product bs
product-positive [] h = omega arith
product-positive (b ∷ bs) h =
    (let here : 0 < b = h 0 0 (omega arith) in
    let rest : 0 < product bs = product-positive bs (λ k d l. h (suc k) d (omega arith)) in
    omega (arith, digit_below 0 b (product bs) 0 here rest))

pub product-rest : (b : ℕ) (bs : List ℕ) → 0 < b → product bs ≤ b * product bs
product-rest b bs h = omega (arith, mul-le 1 (product bs) b (product bs) h (let e : product bs ≤ product bs = omega arith in e))

pub product-drop : (bs : List ℕ) (i : ℕ) → All (λ (b : ℕ). 0 < b) bs → product (drop i bs) ≤ product bs
product-drop bs zero h = omega arith
product-drop [] (suc i) h = omega arith
product-drop (b ∷ bs) (suc i) h =
    (let rest : product (drop i bs) ≤ product bs = product-drop bs i (λ k d l. h (suc k) d (omega arith)) in
    let more : product bs ≤ b * product bs = product-rest b bs (h 0 0 (omega arith)) in
    omega arith)

pub product_fits : (bs : List ℕ) (i w limit : ℕ) → All (λ (b : ℕ). 0 < b) bs → product bs < limit → 0 < i → i ≤ length bs → w ≡ product (drop i bs)
    → w * get_or bs (i - 1) 0 < limit
product_fits bs i w limit h low p q e =
    let here : product (drop (i - 1) bs) ≡ get_or bs (i - 1) 0 * product (drop i bs) = ap product (drop_back bs i 0 p q) in
    let turned : w * get_or bs (i - 1) 0 ≡ get_or bs (i - 1) 0 * product (drop i bs) = ap (λ (x : ℕ). x * get_or bs (i - 1) 0) e
    ∙ mul_comm (product (drop i bs)) (get_or bs (i - 1) 0) in
    omega (arith, product-drop bs (i - 1) h)

-- ---- numbers
pub HasDigits-length : (bs ds : List ℕ) → HasDigits bs ds → length ds ≡ length bs
HasDigits-length [] [] h = refl
HasDigits-length (b ∷ bs) (x ∷ ds) h = ap suc (HasDigits-length bs ds h.1)
HasDigits-length bs ds h = absurd h

pub HasDigits-drop : (bs ds : List ℕ) (i : ℕ) → HasDigits bs ds → HasDigits (drop i bs) (drop i ds)
HasDigits-drop bs ds zero h = h
HasDigits-drop [] [] (suc i) h = tt
HasDigits-drop (b ∷ bs) (x ∷ ds) (suc i) h = HasDigits-drop bs ds i h.1
HasDigits-drop bs ds (suc i) h = absurd h

pub digit-at : (bs ds : List ℕ) (k : ℕ) → HasDigits bs ds → k < length bs → get_or ds k 0 < get_or bs k 0
digit-at [] ds k h l = absurd (omega arith)
digit-at (b ∷ bs) [] k h l = absurd h
digit-at (b ∷ bs) (x ∷ ds) zero h l = h.0
digit-at (b ∷ bs) (x ∷ ds) (suc k) h l = digit-at bs ds k h.1 (omega arith)

-- ---- small choices
pub choose_two_twice : (m : ℕ) → 2 * choose m 2 + m ≡ m * m
choose_two_twice zero = omega arith
choose_two_twice (suc m) = (let rest : 2 * choose m 2 + m ≡ m * m = choose_two_twice m in let one : choose m 1 ≡ m = choose_one m in omega arith)

half_of : (m c : ℕ) → 2 * c + m ≡ m * m → m * (m - 1) / 2 ≡ c
half_of zero c h = omega arith
half_of (suc m) c h =
    let one : suc m - 1 ≡ m = omega arith in
    let e : suc m * m ≡ 2 * c = omega arith in
    ap (λ (x : ℕ). suc m * x / 2) one ∙ ap (λ (x : ℕ). x / 2) e ∙ (let z : 2 * c / 2 ≡ c = omega arith in z)

pub choose_at_one : (m p : ℕ) → p ≡ 1 → m ≡ choose m p
choose_at_one m p e = sym (ap (choose m) e ∙ choose_one m)

pub choose_at_two : (m p : ℕ) → p ≡ 2 → m * (m - 1) / 2 ≡ choose m p
choose_at_two m p e = half_of m (choose m 2) (choose_two_twice m) ∙ sym (ap (choose m) e)

pub power_at_one : (b e : ℕ) → e ≡ 1 → b ≡ b ^ e
power_at_one b e h = sym (ap (λ (x : ℕ). b ^ x) h ∙ pow-succ' b 0 ∙ ap (λ (x : ℕ). b * x) (pow-zero b) ∙ (let z : b * 1 ≡ b = omega arith in z))
