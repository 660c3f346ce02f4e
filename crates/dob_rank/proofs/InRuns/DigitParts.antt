-- The digits of a place in a block, part by part: the hands, the lions, the squares and the forms. The code keeps those that a run's positions have in common.
use Rattle.dob_rank.proofs.Common.{◌%◌, ◌*◌, ◌++◌, ◌+◌, ◌/◌, ◌<◌, ◌^◌, ◌∙◌, ◌∷◌, ◌≡◌, ◌≤◌, Bool, List, [], ap, arith, get_or, length, nat_eq, refl, slice_index}
use Rattle.dob_rank.proofs.Common.{subst, sym, true, ℕ, div-add-mod', div_below, mod_below, mul-le, one_shl, all_below, all_below-at, PieceSet, HasDigits}
use Rattle.dob_rank.proofs.Common.{bases_by, block_bases, digits_of, enemy_squares, number_of, own_squares, product, AreFewOnBoard, form_bases, lion_pairs}
use Rattle.dob_rank.proofs.Common.{local_bases, local_number, run_bases, run_number, square_bases, run_digits}
use Rattle.dob_rank.proofs.Arithmetic.MixedRadix.{factor_positive, product-append, number_of-below, number_of-append, number_by_three, digits_of-append}
use Rattle.dob_rank.proofs.Arithmetic.MixedRadix.{digits_of-parts, digits_of-two, digits_of-three, HasDigits-digits_of}
use Rattle.dob_rank.proofs.Positions.Loops.{digit-at}
pub use Rattle.dob_rank.proofs.Positions.Blocks.{AreFewOnBoard-digits}
use Rattle.dob_rank.proofs.Positions.Blocks.{four_small, two_small, most_choices, product-at_most, hand_bases, most_hands, most_squares, most_forms}
use Rattle.dob_rank.proofs.Positions.Blocks.{hands_at_most, squares_at_most, forms_at_most}
use Rattle.dob_rank.proofs.Positions.BlockStarts.{same_number}
use Rattle.dob_rank.specs.declared.runs.RunDigits.{RunDigits}

-- the numbers of a spot's parts, below the products of their bases, and the digits of the whole
pub record AreParts (set : PieceSet) (ob : List ℕ) (run local forms : ℕ) : Type 0 where
  pub hands_low : run / lion_pairs < product (hand_bases set ob)
  pub squares_low : local / forms < product (square_bases ob)
  pub forms_low : local % forms < product (form_bases ob)
  pub digits_are : digits_of (bases_by set ob) (run * product (local_bases ob) + local)
      ≡ (digits_of (hand_bases set ob) (run / lion_pairs) ++ (run % lion_pairs / enemy_squares ∷ run % lion_pairs % enemy_squares ∷ []))
      ++ (digits_of (square_bases ob) (local / forms) ++ digits_of (form_bases ob) (local % forms))

pub parts_are : (set : PieceSet) (ob : List ℕ) (run local forms : ℕ) → run < product (run_bases set ob) → local < product (local_bases ob) →
    forms ≡ product (form_bases ob) → AreParts set ob run local forms
parts_are set ob run local forms h l f =
    let run_parts : run < product (hand_bases set ob) * lion_pairs = omega (arith, h, product-append (hand_bases set ob) (own_squares ∷ enemy_squares ∷ [])) in
    let local_parts : local < product (square_bases ob) * product (form_bases ob) = omega (arith, l, product-append (square_bases ob) (form_bases ob)) in
    let form_some = factor_positive local (product (square_bases ob)) (product (form_bases ob)) local_parts in
    rw f (record {
      hands_low = div_below run lion_pairs (product (hand_bases set ob)) (omega arith) run_parts;
      squares_low = div_below local (product (form_bases ob)) (product (square_bases ob)) form_some local_parts;
      forms_low = mod_below local (product (form_bases ob)) form_some;
      digits_are = digits_of-parts (run_bases set ob) (local_bases ob) run local h l
          ∙ cc (
            digits_of-append (hand_bases set ob) (own_squares ∷ enemy_squares ∷ []) run h,
            digits_of-two own_squares enemy_squares (run % lion_pairs),
            digits_of-append (square_bases ob) (form_bases ob) local l,
          );
    })

-- ---- the forms' bases are powers of 2
abbrev shifted : ℕ → ℕ → ℕ → Bool
shifted i j k = nat_eq (1 * 2 ^ (2 * i + j + k) % 2 ^ 64) (4 ^ i * (2 ^ j * (2 ^ k * 1)))

computed : all_below (λ i. all_below (λ j. all_below (shifted i j) 3) 3) 3 ≡ true
computed = refl

pub forms_shifted : (i j k : ℕ) → i ≤ 2 → j ≤ 2 → k ≤ 2 → 1 * 2 ^ (2 * i + j + k) % 2 ^ 64 ≡ 4 ^ i * (2 ^ j * (2 ^ k * 1))
forms_shifted i j k a b c =
    let first = all_below-at (λ i. all_below (λ j. all_below (shifted i j) 3) 3) 3 i computed (omega arith) in
    let second = all_below-at (λ j. all_below (shifted i j) 3) 3 j first (omega arith) in
    same_number _ _ (all_below-at (shifted i j) 3 k second (omega arith))

pub form_bits_are : (i j k : ℕ) → i ≤ 2 → j ≤ 2 → k ≤ 2 → 2 ^ (2 * i + j + k) ≡ 4 ^ i * (2 ^ j * (2 ^ k * 1))
form_bits_are i j k a b c = sym (one_shl (2 * i + j + k) 64 (omega arith)) ∙ forms_shifted i j k a b c

pub form_digits_are : (ob : List ℕ) (n rest giraffes chicks elephants : ℕ) → n < product (form_bases ob) →
    rest ≡ n / 2 ^ slice_index ob 2 → giraffes ≡ n % 2 ^ slice_index ob 2 →
    chicks ≡ rest / 2 ^ slice_index ob 1 → elephants ≡ rest % 2 ^ slice_index ob 1 →
    chicks ∷ elephants ∷ giraffes ∷ [] ≡ digits_of (form_bases ob) n
form_digits_are ob n rest giraffes chicks elephants h r g c e = grind (arith, digits_of-three)

-- ---- the parts as the code finds them

-- the bases as the code finds them
pub record AreBasesFound (set : PieceSet) (ob bs : List ℕ) : Type 0 where
  pub hands_are : get_or bs 0 0 ∷ get_or bs 1 0 ∷ get_or bs 2 0 ∷ [] ≡ hand_bases set ob
  pub squares_are : get_or bs 5 0 ∷ get_or bs 6 0 ∷ get_or bs 7 0 ∷ [] ≡ square_bases ob

pub bases_found : (set : PieceSet) (ob bs : List ℕ) → bs ≡ bases_by set ob → AreBasesFound set ob bs
bases_found set ob bs e = rw e (record { hands_are = refl; squares_are = refl })

-- how many positions a run has, from the last factor on
pub record AreFewInRun (ob cs : List ℕ) (forms : ℕ) : Type 0 where
  pub one_fits : get_or cs 2 0 * forms ≤ most_choices * 256
  pub two_fits : get_or cs 1 0 * (get_or cs 2 0 * forms) ≤ most_choices * (most_choices * 256)
  pub three_fits : get_or cs 0 0 * (get_or cs 1 0 * (get_or cs 2 0 * forms)) ≤ most_choices * (most_choices * (most_choices * 256))
  pub size_is : get_or cs 0 0 * (get_or cs 1 0 * (get_or cs 2 0 * forms)) ≡ product (local_bases ob)

pub few_in_run : (ob cs : List ℕ) (forms : ℕ) → AreFewOnBoard ob → cs ≡ square_bases ob → forms ≡ product (form_bases ob) → AreFewInRun ob cs forms
few_in_run ob cs forms few chosen f =
    let most = product-at_most (form_bases ob) most_forms (forms_at_most ob few) in
    let squares = squares_at_most ob few in
    let one_low = mul-le _ (product (form_bases ob)) most_choices 256 squares.1.1.0 most in
    let two_low = mul-le _ _ most_choices (most_choices * 256) squares.1.0 one_low in
    rw (f, chosen) (record {
      one_fits = one_low;
      two_fits = two_low;
      three_fits = mul-le _ _ most_choices (most_choices * (most_choices * 256)) squares.0
          two_low;
      size_is = refl;
    })

-- a part of a place that a shift or a mask finds
pub quotient_is : (local bits forms found : ℕ) → found ≡ local / 2 ^ bits → 2 ^ bits ≡ forms → found ≡ local / forms
quotient_is local bits forms found e b = e ∙ ap (λ (n : ℕ). local / n) b

pub rest_is : (local bits forms found : ℕ) → found ≡ local % 2 ^ bits → 2 ^ bits ≡ forms → found ≡ local % forms
rest_is local bits forms found e b = e ∙ ap (λ (n : ℕ). local % n) b

pub below_same : (n : ℕ) (xs ys : List ℕ) → xs ≡ ys → n < product ys → n < product xs
below_same n xs ys e h = subst (λ (zs : List ℕ). n < product zs) (sym e) h

pub digits_below : (xs ys ds : List ℕ) → xs ≡ ys → HasDigits ys ds → HasDigits xs ds
digits_below xs ys ds e h = subst (λ (zs : List ℕ). HasDigits zs ds) (sym e) h

pub digits_same : (n : ℕ) (xs ys : List ℕ) → xs ≡ ys → digits_of xs n ≡ digits_of ys n
digits_same n xs ys e = ap (λ (zs : List ℕ). digits_of zs n) e

-- ---- the spot that digits write

-- what digits below their bases are, part by part
pub record AreSpotDigits (set : PieceSet) (ob ds : List ℕ) : Type 0 where
  pub hands_have : HasDigits (hand_bases set ob) (get_or ds 0 0 ∷ get_or ds 1 0 ∷ get_or ds 2 0 ∷ [])
  pub own_low : get_or ds 3 0 < own_squares
  pub enemy_low : get_or ds 4 0 < enemy_squares
  pub squares_have : HasDigits (square_bases ob) (get_or ds 5 0 ∷ get_or ds 6 0 ∷ get_or ds 7 0 ∷ [])
  pub forms_have : HasDigits (form_bases ob) (get_or ds 8 0 ∷ get_or ds 9 0 ∷ get_or ds 10 0 ∷ [])
  pub hands_small : product (hand_bases set ob) ≤ 27
  pub squares_small : product (square_bases ob) ≤ 2 ^ 17
  pub run_is : number_of (hand_bases set ob) (get_or ds 0 0 ∷ get_or ds 1 0 ∷ get_or ds 2 0 ∷ []) * lion_pairs + (get_or ds 3 0 * enemy_squares + get_or ds 4 0)
      ≡ run_number set ob ds
  pub local_is : number_of (square_bases ob) (get_or ds 5 0 ∷ get_or ds 6 0 ∷ get_or ds 7 0 ∷ []) * product (form_bases ob)
      + number_of (form_bases ob) (get_or ds 8 0 ∷ get_or ds 9 0 ∷ get_or ds 10 0 ∷ []) ≡ local_number ob ds

pub spot_digits : (set : PieceSet) (ob ds : List ℕ) → length ds ≡ 11 → HasDigits (block_bases set) ob → HasDigits (bases_by set ob) ds → AreSpotDigits set ob ds
spot_digits set ob (a ∷ b ∷ c ∷ d ∷ e ∷ f ∷ g ∷ h ∷ i ∷ j ∷ k ∷ []) long on has =
    let hands = product-at_most (hand_bases set ob) most_hands (hands_at_most set ob) in
    let squares = product-at_most (square_bases ob) most_squares (squares_at_most ob (AreFewOnBoard-digits set ob on)) in
    let run = number_of-append (hand_bases set ob) (own_squares ∷ enemy_squares ∷ []) (a ∷ b ∷ c ∷ []) (d ∷ e ∷ []) refl in
    let local = number_of-append (square_bases ob) (form_bases ob) (f ∷ g ∷ h ∷ []) (i ∷ j ∷ k ∷ []) refl in
    grind (arith, hands, squares, run, local)
spot_digits set ob ds long on has = absurd (omega arith)

-- the number of a run and that of a place in it, as the code finds them
pub record IsRunFound (set : PieceSet) (ob ds : List ℕ) (hands : ℕ) : Type 0 where
  pub hands_low : hands < product (hand_bases set ob)
  pub run_is : hands * lion_pairs + (get_or ds 3 0 * enemy_squares + get_or ds 4 0) ≡ run_number set ob ds

pub run_found : (set : PieceSet) (ob ds bs : List ℕ) (hands : ℕ) → AreBasesFound set ob bs → AreSpotDigits set ob ds →
    hands ≡ number_of (get_or bs 0 0 ∷ get_or bs 1 0 ∷ get_or bs 2 0 ∷ []) (get_or ds 0 0 ∷ get_or ds 1 0 ∷ get_or ds 2 0 ∷ []) →
    IsRunFound set ob ds hands
run_found set ob ds bs hands found are e =
    let same : hands ≡ number_of (hand_bases set ob) (get_or ds 0 0 ∷ get_or ds 1 0 ∷ get_or ds 2 0 ∷ []) =
    e ∙ ap (λ (xs : List ℕ). number_of xs (get_or ds 0 0 ∷ get_or ds 1 0 ∷ get_or ds 2 0 ∷ [])) found.hands_are in
    subst (IsRunFound set ob ds) (sym same) (record {
      hands_low = number_of-below (hand_bases set ob) (get_or ds 0 0 ∷ get_or ds 1 0 ∷ get_or ds 2 0 ∷ []) are.hands_have;
      run_is = are.run_is;
    })

pub record IsLocalFound (ob ds : List ℕ) (squares : ℕ) : Type 0 where
  pub squares_low : squares < product (square_bases ob)
  pub local_is : (bits forms : ℕ) → 2 ^ bits ≡ product (form_bases ob)
      → forms ≡ number_of (form_bases ob) (get_or ds 8 0 ∷ get_or ds 9 0 ∷ get_or ds 10 0 ∷ [])
      → squares * 2 ^ bits + forms ≡ local_number ob ds

pub local_found : (set : PieceSet) (ob ds bs : List ℕ) (squares : ℕ) → AreBasesFound set ob bs → AreSpotDigits set ob ds →
    squares ≡ number_of (get_or bs 5 0 ∷ get_or bs 6 0 ∷ get_or bs 7 0 ∷ []) (get_or ds 5 0 ∷ get_or ds 6 0 ∷ get_or ds 7 0 ∷ []) →
    IsLocalFound ob ds squares
local_found set ob ds bs squares found are e =
    let same : squares ≡ number_of (square_bases ob) (get_or ds 5 0 ∷ get_or ds 6 0 ∷ get_or ds 7 0 ∷ []) =
    e ∙ ap (λ (xs : List ℕ). number_of xs (get_or ds 5 0 ∷ get_or ds 6 0 ∷ get_or ds 7 0 ∷ [])) found.squares_are in
    subst (IsLocalFound ob ds) (sym same) (record {
      squares_low = number_of-below (square_bases ob) (get_or ds 5 0 ∷ get_or ds 6 0 ∷ get_or ds 7 0 ∷ []) are.squares_have;
      local_is = λ bits forms b f. rw (b, f) are.local_is;
    })

-- forms joined by shifts
pub record AreFormsJoined (ob fs : List ℕ) (elephants : ℕ) : Type 0 where
  pub few_elephants : slice_index ob 1 ≤ 31
  pub few_giraffes : slice_index ob 2 ≤ 31
  pub first_low : get_or fs 0 0 < 2 ^ 31
  pub second_low : get_or fs 1 0 < 2 ^ 32
  pub third_low : get_or fs 2 0 < 2 ^ 32
  pub joined_low : elephants < 2 ^ 31
  pub number_is : elephants * 2 ^ slice_index ob 2 + get_or fs 2 0 ≡ number_of (form_bases ob) fs
  pub number_low : number_of (form_bases ob) fs < 256

pub forms_joined : (ob fs : List ℕ) (elephants : ℕ) → length fs ≡ 3 → AreFewOnBoard ob → HasDigits (form_bases ob) fs →
    elephants ≡ get_or fs 0 0 * 2 ^ slice_index ob 1 + get_or fs 1 0 → AreFormsJoined ob fs elephants
forms_joined ob fs elephants long few has e =
    let by = number_by_three (form_bases ob) fs refl long has in
    let most = product-at_most (form_bases ob) most_forms (forms_at_most ob few) in
    let digit = λ (k : ℕ). digit-at (form_bases ob) fs k has in
    grind (arith, by, most, digit 0, digit 1, digit 2, four_small, two_small)

-- ---- the spot of a place
pub record IsSplit (set : PieceSet) (ob : List ℕ) (place size : ℕ) : Type 0 where
  pub some : 0 < size
  pub run_low : place / size < product (run_bases set ob)
  pub local_low : place % size < product (local_bases ob)
  pub whole : place / size * product (local_bases ob) + place % size ≡ place

pub split_place : (set : PieceSet) (ob : List ℕ) (place size : ℕ) → place < product (bases_by set ob) → size ≡ product (local_bases ob) →
    IsSplit set ob place size
split_place set ob place size below is =
    let both : place < product (run_bases set ob) * product (local_bases ob) = omega (arith, below, product-append (run_bases set ob) (local_bases ob)) in
    let some = factor_positive place (product (run_bases set ob)) (product (local_bases ob)) both in
    rw is (record {
      some = some;
      run_low = div_below place (product (local_bases ob)) (product (run_bases set ob)) some both;
      local_low = mod_below place (product (local_bases ob)) some;
      whole = div-add-mod' place (product (local_bases ob));
    })

-- ---- the digits that the positions of a run have in common, as the code keeps them

-- what the code finds of a run: the hands' number and digits, which are small, and the digits of all
pub record AreRunParts (set : PieceSet) (ob : List ℕ) (run : ℕ) (hands : List ℕ) : Type 0 where
  pub chicks_small : get_or hands 0 0 < 256
  pub elephants_small : get_or hands 1 0 < 256
  pub giraffes_small : get_or hands 2 0 < 256
  pub digits_are : get_or hands 0 0 ∷ get_or hands 1 0 ∷ get_or hands 2 0 ∷ run % lion_pairs / enemy_squares ∷ run % lion_pairs % enemy_squares ∷ []
      ≡ digits_of (run_bases set ob) run

hand_below : (set : PieceSet) (ob : List ℕ) (run : ℕ) → run < product (run_bases set ob) → run / lion_pairs < product (hand_bases set ob)
hand_below set ob run below = div_below run lion_pairs (product (hand_bases set ob)) (omega arith)
    (subst (λ (n : ℕ). run < n) (product-append (hand_bases set ob) (own_squares ∷ enemy_squares ∷ [])) below)

pub hands_below : (set : PieceSet) (ob bases : List ℕ) (run : ℕ) → AreBasesFound set ob bases → run < product (run_bases set ob)
    → run / lion_pairs < product (get_or bases 0 0 ∷ get_or bases 1 0 ∷ get_or bases 2 0 ∷ [])
hands_below set ob bases run found below =
    subst (λ (xs : List ℕ). run / lion_pairs < product xs) (sym found.hands_are)
    (hand_below set ob run below)

pub run_parts : (set : PieceSet) (ob bases hands : List ℕ) (run : ℕ) → AreBasesFound set ob bases → run < product (run_bases set ob)
    → hands ≡ digits_of (get_or bases 0 0 ∷ get_or bases 1 0 ∷ get_or bases 2 0 ∷ []) (run / lion_pairs) → AreRunParts set ob run hands
run_parts set ob bases hands run found below is =
    let has = HasDigits-digits_of (hand_bases set ob) (run / lion_pairs) (hand_below set ob run below) in
    subst (AreRunParts set ob run) (sym (is ∙ digits_same _ _ _ found.hands_are)) (record {
      chicks_small = omega (arith, set.few_chicks, has.0);
      elephants_small = omega (arith, set.few_elephants, has.1.0);
      giraffes_small = omega (arith, set.few_giraffes, has.1.1.0);
      digits_are = sym (digits_of-append (hand_bases set ob) (own_squares ∷ enemy_squares ∷ []) run below
          ∙ ap (λ (xs : List ℕ). digits_of (hand_bases set ob) (run / lion_pairs) ++ xs) (digits_of-two own_squares enemy_squares (run % lion_pairs)));
    })

-- ---- the digits of a spot
eleven_same : (a b c d e f g h i j k a' b' c' d' e' : ℕ) → a ≡ a' → b ≡ b' → c ≡ c' → d ≡ d' → e ≡ e' →
    a ∷ b ∷ c ∷ d ∷ e ∷ f ∷ g ∷ h ∷ i ∷ j ∷ k ∷ [] ≡ a' ∷ b' ∷ c' ∷ d' ∷ e' ∷ f ∷ g ∷ h ∷ i ∷ j ∷ k ∷ []
eleven_same a b c d e f g h i j k a' b' c' d' e' p q r s t = cc

abbrev eleven_by : RunDigits → List ℕ → List ℕ → List ℕ
eleven_by run squares kinds =
    run_digits run ++ (get_or squares 0 0 ∷ get_or squares 1 0 ∷ get_or squares 2 0 ∷ get_or kinds 0 0 ∷ get_or kinds 1 0 ∷ get_or kinds 2 0 ∷ [])

pub digits_joined : (set : PieceSet) (ob : List ℕ) (digits : RunDigits) (run local forms : ℕ) (squares kinds : List ℕ) (a b c d e : ℕ)
    → run < product (run_bases set ob) → local < product (local_bases ob) → forms ≡ product (form_bases ob)
    → run_digits digits ≡ digits_of (run_bases set ob) run → squares ≡ digits_of (square_bases ob) (local / forms)
    → kinds ≡ digits_of (form_bases ob) (local % forms)
    → a ≡ digits.hand.chicks → b ≡ digits.hand.elephants → c ≡ digits.hand.giraffes → d ≡ digits.own → e ≡ digits.enemy
    → a ∷ b ∷ c ∷ d ∷ e ∷ get_or squares 0 0 ∷ get_or squares 1 0 ∷ get_or squares 2 0 ∷ get_or kinds 0 0 ∷ get_or kinds 1 0 ∷ get_or kinds 2 0 ∷ []
    ≡ digits_of (bases_by set ob) (run * product (local_bases ob) + local)
digits_joined set ob digits run local forms squares kinds a b c d e run_low local_low forms_are run_is squares_are kinds_are p q r s t =
    let all = digits_of-parts (run_bases set ob) (local_bases ob) run local run_low local_low in
    let parts = digits_of-append (square_bases ob) (form_bases ob) local local_low in
    rw (
      p,
      q,
      r,
      s,
      t,
      squares_are,
      kinds_are,
      forms_are,
    ) (ap (λ (xs : List ℕ). xs ++ (digits_of (square_bases ob) (local / product (form_bases ob)) ++ digits_of (form_bases ob)
    (local % product (form_bases ob)))) run_is
    ∙ ap (λ (xs : List ℕ). digits_of (run_bases set ob) run ++ xs) (sym parts) ∙ sym all)
