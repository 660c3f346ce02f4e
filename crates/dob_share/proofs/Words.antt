-- Words of statuses: how many bits of a word are set before a place; the number of a cell, which is how many classes are open before its place; and the
-- status of a place.
use Rattle.dob_share.proofs.Common.{◌%◌, ◌*◌, ◌++◌, ◌+◌, ◌-◌, ◌/◌, ◌<◌, ◌^◌, ◌∙◌, ◌∷◌, ◌≡◌, ◌≤◌, AreCounted, IsStatusOf, List, Open, Opening, Some, Status}
use Rattle.dob_share.proofs.Common.{StatusWord, Stuck, [], add-mul-div_right, ap, arith, bit, bit_or, bits_below, cases_eq, cases_lt, catches, class_of_place}
use Rattle.dob_share.proofs.Common.{cond_below, div-mul-add, get_or, get_or_append_left, inl, inr, length, length_push, mod-eq_of_lt, mod-lt, mod-pow-add}
use Rattle.dob_share.proofs.Common.{one_shl, ones, ones_cat, open_at, opening_of, opens, opens_below, pow-add, pow_pos, refl, slice_get, status_in}
use Rattle.dob_share.proofs.Common.{status_listed, subst, suc, sym, tries, word_of, zero, ℕ}
use Rattle.std.proofs.lemmas.Grind.{common_steps}
use Rattle.std.specs.Int.Bits.{or_shifted_r}
use Rattle.std.proofs.lemmas.Option.{slice_get_within, get_or_from_slice_get}
use Rattle.std.proofs.Math.Seq.{get_or-append_seam}
use Rattle.dob_share.specs.Statuses.{status_of_bits, no_word}

-- ---- bits
ones_small : (b : ℕ) → b < 2 → ones b ≡ b
unfolding ones
ones_small zero low = refl
ones_small (suc zero) low = refl
ones_small (suc (suc b)) low = absurd (omega arith)

pub ones_below : (word place : ℕ) → ones (word % 2 ^ place) ≡ bits_below word place
ones_below word zero = (let e : word % 2 ^ 0 ≡ 0 = omega arith in ap ones e ∙ ones_small 0 (omega arith))
ones_below word (suc place) =
    let split : word % 2 ^ suc place ≡ bit word place * 2 ^ place + word % 2 ^ place
    = ap (λ (k : ℕ). word % 2 ^ k) (let e : suc place ≡ 1 + place = omega arith in e) ∙ mod-pow-add word 1 place in
    let digit : ones (bit word place) ≡ bit word place = ones_small (bit word place) (omega arith) in
    let rest : ones (word % 2 ^ place) ≡ bits_below word place = ones_below word place in
    let joined : ones (bit word place * 2 ^ place + word % 2 ^ place) ≡ ones (bit word place) + ones (word % 2 ^ place)
    = ones_cat place (bit word place) (word % 2 ^ place) (mod-lt word (pow_pos place)) in
    let all : ones (word % 2 ^ suc place) ≡ ones (bit word place) + ones (word % 2 ^ place) = ap ones split ∙ joined in
    omega arith

-- ---- a digit written above a word
one_place : (place : ℕ) → 1 * 2 ^ place ≡ 2 ^ place
one_place place = omega arith

pub digit_is : (word place digit : ℕ) → place < 64 → digit < 2 → word < 2 ^ place → bit_or word (digit * 2 ^ place % 2 ^ 64) ≡ digit * 2 ^ place + word
digit_is word place digit few small low = ap (λ (m : ℕ). bit_or word m) (shifted digit small) ∙ or_shifted_r digit place word low
  where
    shifted : (d : ℕ) → d < 2 → d * 2 ^ place % 2 ^ 64 ≡ d * 2 ^ place
    shifted zero two = let none : 0 * 2 ^ place ≡ 0 = omega arith in ap (λ (m : ℕ). m % 2 ^ 64) none ∙ (let e : 0 % 2 ^ 64 ≡ 0 * 2 ^ place = omega (arith, none) in e)
    shifted (suc zero) two = one_shl place 64 few ∙ sym (one_place place)
    shifted (suc (suc d)) two = absurd (omega arith)

pub digit_there : (word place digit : ℕ) → digit < 2 → word < 2 ^ place → bit (digit * 2 ^ place + word) place ≡ digit
digit_there word place digit small low = ap (λ (m : ℕ). m % 2) (div-mul-add digit (2 ^ place) word low) ∙ (let e : digit % 2 ≡ digit = omega arith in e)

one_before : (word place other : ℕ) → other < place → bit (1 * 2 ^ place + word) other ≡ bit word other
one_before word place other below =
    let gap : ℕ = place - other - 1 in
    let power : 2 ^ place ≡ 2 ^ gap * 2 * 2 ^ other
    = ap (λ (k : ℕ). 2 ^ k) (let e : place ≡ (gap + 1) + other = omega arith in e) ∙ pow-add 2 (gap + 1) other
    ∙ ap (λ (m : ℕ). m * 2 ^ other) (pow-add 2 gap 1) in
    let sum : 1 * 2 ^ place + word ≡ word + 2 ^ gap * 2 * 2 ^ other = omega (arith, power) in
    let split : (word + 2 ^ gap * 2 * 2 ^ other) / 2 ^ other ≡ word / 2 ^ other + 2 ^ gap * 2 = add-mul-div_right word (2 ^ gap * 2) (pow_pos other) in
    ap (λ (m : ℕ). m / 2 ^ other % 2) sum ∙ ap (λ (m : ℕ). m % 2) split ∙ (let e : (word / 2 ^ other + 2 ^ gap * 2) % 2 ≡ word / 2 ^ other % 2 = omega arith in e)

pub digit_before : (word place digit other : ℕ) → digit < 2 → other < place → bit (digit * 2 ^ place + word) other ≡ bit word other
digit_before word place zero other small below = ap (λ (m : ℕ). bit m other) (let e : 0 * 2 ^ place + word ≡ word = omega arith in e)
digit_before word place (suc zero) other small below = one_before word place other below
digit_before word place (suc (suc digit)) other small below = absurd (omega arith)

pub digit_low : (word place digit : ℕ) → digit < 2 → word < 2 ^ place → digit * 2 ^ place + word < 2 ^ (place + 1)
digit_low word place digit small low = grind (arith, common_steps)

-- ---- the status by three bits
pub by_bits : (a b c x y z : ℕ) → a ≡ x → b ≡ y → c ≡ z → status_of_bits a b c ≡ status_of_bits x y z
by_bits a b c x y z p q r = rw (p, q, r) refl

bits_back : (status : Status) → status_of_bits (opens status) (catches status) (tries status) ≡ status
bits_back status = grind arith

-- what a word says of a class
pub status_told : (word : StatusWord) (place : ℕ) (status : Status) → IsStatusOf word place status →
    status_of_bits (bit word.opens place) (bit word.caught place) (bit word.tried place) ≡ status
status_told word place status is =
    by_bits (bit word.opens place) (bit word.caught place) (bit word.tried place) (opens status) (catches status) (tries status) is.opens_is is.caught_is is.tried_is
    ∙ bits_back status

pub open_at_open : (words : List StatusWord) (place : ℕ) → status_in words place ≡ Open → open_at words place ≡ 1
open_at_open words place is = let low : open_at words place < 2 = omega arith in grind arith

-- ---- how many are open before a place

-- within a word
in_word : (words : List StatusWord) (w k : ℕ) → k ≤ 64 →
    opens_below words (w * 64 + k) ≡ opens_below words (w * 64) + bits_below (get_or words w no_word).opens k
in_word words w zero few = ap (opens_below words) (let e : w * 64 + 0 ≡ w * 64 = omega arith in e) ∙ (omega arith)
in_word words w (suc k) few =
    let next : w * 64 + suc k ≡ suc (w * 64 + k) = omega arith in
    let number : (w * 64 + k) / 64 ≡ w = omega arith in
    let place : (w * 64 + k) % 64 ≡ k = omega arith in
    grind (arith, in_word words w k (omega arith))

-- what a word says, and how many bits are set in it before the place
rank_is : (words : List StatusWord) (place before : ℕ) → AreCounted words → place / 64 < length words →
    before ≡ bits_below (get_or words (place / 64) no_word).opens (place % 64) →
    (get_or words (place / 64) no_word).before + before ≡ opens_below words place
rank_is words place before counted within is =
    let whole : place / 64 * 64 + place % 64 ≡ place = omega arith in
    grind (arith, in_word words (place / 64) (place % 64) (omega arith), counted (place / 64) within)

-- the same of a word read at the place
pub rank_read : (words : List StatusWord) (place before : ℕ) (word : StatusWord) → AreCounted words → slice_get words (place / 64) ≡ Some word →
    before ≡ bits_below word.opens (place % 64) → word.before + before ≡ opens_below words place
rank_read words place before word counted there is =
    let read : get_or words (place / 64) no_word ≡ word = get_or_from_slice_get words (place / 64) word no_word there in
    rw read at (rank_is words place before counted (slice_get_within words (place / 64) word there) (rw read is))

pub opens_few : (words : List StatusWord) (k : ℕ) → opens_below words k ≤ k
opens_few words zero = omega arith
opens_few words (suc k) = grind (arith, opens_few words k)

-- later places have later cells
pub rank_less : (words : List StatusWord) (a b : ℕ) → a < b → open_at words a ≡ 1 → opens_below words a < opens_below words b
rank_less words a zero less set = absurd (omega arith)
rank_less words a (suc b) less set = grind (arith, rank_less words a b)

-- no two open classes have one cell
pub rank_same : (words : List StatusWord) (a b : ℕ) → open_at words a ≡ 1 → open_at words b ≡ 1 → opens_below words a ≡ opens_below words b → a ≡ b
rank_same words a b one other same = grind (arith, rank_less words a b, rank_less words b a)

-- ---- one word more

module _ (status : ℕ → Status) (number count : ℕ) (last : StatusWord) (words : List StatusWord) (whole : length words ≡ number)
    (counted : AreCounted words) (is : count ≡ opens_below words (number * 64)) (told : last.before ≡ count) where
  abbrev longer : List StatusWord
  longer = words ++ last ∷ []

  word_before : (place : ℕ) → place < number * 64 → word_of longer place ≡ word_of words place
  word_before place low = get_or_append_left words (last ∷ []) no_word (place / 64) (omega arith)

  same_below : (k : ℕ) → k ≤ number * 64 → opens_below longer k ≡ opens_below words k
  same_below zero low = refl
  same_below (suc k) low = grind (arith, same_below k (omega arith), word_before k (omega arith))

  last_is : get_or longer number no_word ≡ last
  last_is = ap (λ (k : ℕ). get_or longer k no_word) (sym whole) ∙ get_or-append_seam words last [] no_word

  counted_more : AreCounted longer
  counted_more w low = elim (cases_lt w number) [
    | inl before ↦ ap (λ (x : StatusWord). x.before) (get_or_append_left words (last ∷ []) no_word w (omega arith)) ∙ counted w (omega arith)
        ∙ sym (same_below (w * 64) (omega arith))
    | inr after ↦
        let same : number ≡ w = omega (arith, length_push words last) in
        rw (← same, last_is) (told ∙ is ∙ sym (same_below (number * 64) (omega arith)))
  ]

  count_more : last.opens < 2 ^ 64 → count + ones last.opens ≡ opens_below longer ((number + 1) * 64)
  count_more fits =
      let end : number * 64 + 64 ≡ (number + 1) * 64 = omega arith in
      let set : ones last.opens ≡ bits_below last.opens 64 = ap ones (sym (mod-eq_of_lt fits)) ∙ ones_below last.opens 64 in
      grind (arith, in_word longer number 64 (omega arith), same_below (number * 64) (omega arith), last_is)

  each_more : ((k : ℕ) → k < 64 → IsStatusOf last k (status (number * 64 + k))) →
      ((place : ℕ) → place < number * 64 → IsStatusOf (word_of words place) (place % 64) (status place)) →
      (place : ℕ) → place < (number + 1) * 64 → IsStatusOf (word_of longer place) (place % 64) (status place)
  each_more new old place low = elim (cases_lt place (number * 64)) [
    | inl before ↦ rw (word_before place before) (old place before)
    | inr after ↦
        let there : place / 64 ≡ number = omega arith in
        let back : number * 64 + place % 64 ≡ place = omega arith in
        rw (there, last_is) (subst (λ (k : ℕ). IsStatusOf last (place % 64) (status k)) back (new (place % 64) (omega arith)))
  ]

-- all that a word more makes
pub record AreMore (status : ℕ → Status) (number count : ℕ) (new : List StatusWord) : Type 0 where
  pub sum : count ≡ opens_below new ((number + 1) * 64)
  pub few : count ≤ (number + 1) * 64
  pub counted : AreCounted new
  pub each : (place : ℕ) → place < (number + 1) * 64 → IsStatusOf (word_of new place) (place % 64) (status place)

pub words_more : (status : ℕ → Status) (number count set : ℕ) (word : StatusWord) (words new : List StatusWord) → length words ≡ number →
    AreCounted words → count ≡ opens_below words (number * 64) → word.before ≡ count → word.opens < 2 ^ 64 → set ≡ ones word.opens →
    new ≡ words ++ word ∷ [] →
    ((k : ℕ) → k < 64 → IsStatusOf word k (status (number * 64 + k))) →
    ((place : ℕ) → place < number * 64 → IsStatusOf (word_of words place) (place % 64) (status place)) →
    AreMore status number (count + set) new
words_more status number count set word words new whole counted is told fits set_is new_is fresh old =
    subst (λ (xs : List StatusWord). AreMore status number (count + set) xs) (sym new_is)
    (let longer : List StatusWord = words ++ word ∷ [] in
    let all : count + set ≡ opens_below longer ((number + 1) * 64)
    = ap (λ (m : ℕ). count + m) set_is ∙ count_more status number count word words whole counted is told fits in
    let few : opens_below longer ((number + 1) * 64) ≤ (number + 1) * 64 = opens_few longer ((number + 1) * 64) in
    record {
      sum = all;
      few = omega (arith, all, few);
      counted = counted_more status number count word words whole counted is told;
      each = each_more status number count word words whole counted is told fresh old;
    })

-- ---- a word, bit by bit

-- the digits so far are the bits of the statuses so far
pub record AreDigits (digit : Status → ℕ) (status : ℕ → Status) (upto word : ℕ) : Type 0 where
  pub low : word < 2 ^ upto
  pub each : (k : ℕ) → k < upto → bit word k ≡ digit (status k)

pub digits_none : {digit : Status → ℕ} {status : ℕ → Status} → AreDigits digit status 0 0
digits_none = record { low = omega arith; each = λ k low. absurd (omega arith) }

pub digits_more : {digit : Status → ℕ} {status : ℕ → Status} {k word new : ℕ} → AreDigits digit status k word → bit new k ≡ digit (status k) →
    ((other : ℕ) → other < k → bit new other ≡ bit word other) → new < 2 ^ (k + 1) → AreDigits digit status (k + 1) new
digits_more {k = k} old here before low = record {
  low = low;
  each = λ j less. elim (cases_eq j k) [ inl same ↦ rw same here | inr other ↦ before j (omega arith) ∙ old.each j (omega arith) ];
}

-- what is listed of the owner's classes
pub listed_status : (openings : List Opening) (places n id place : ℕ) → place < places →
    status_listed openings places n id place ≡ (opening_of openings (class_of_place n id place)).status
listed_status openings places n id place low = sym (cond_below place places (opening_of openings (class_of_place n id place)).status Stuck low)
