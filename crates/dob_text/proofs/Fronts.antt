-- The letters of a hand: three runs, one after another.
use Rattle.dob_text.proofs.Common.{◌++◌, ◌+◌, ◌<◌, ◌==◌, ◌∙◌, ◌∷◌, ◌≡◌, ◌≢◌, ◌≤◌, ◌⊎◌, List, [], ap, append_assoc, arith, drop, get_or, inl, inr, length}
use Rattle.dob_text.proofs.Common.{length-append, refl, replicate, sym, take, true, ℕ, append-nil, take-append-drop, prefix_len, Hand, Side, cased}
use Rattle.dob_text.proofs.Common.{hand_letters, hand_text, or_dash}
use Rattle.std.proofs.lemmas.List.{drop_at, get_or-take, get_or-replicate, length-replicate, length-take-le, get_or-append_right, ext_get_or, take_all}
use Rattle.std.proofs.lemmas.List.Sums.{prefix_len_is, prefix_len_passes, prefix_len-le-length}
use Rattle.std.proofs.lemmas.Bool.Decides.{nat_tests}
use Rattle.std.proofs.lemmas.Grind.{common_steps}

-- how many times a list begins with a letter
abbrev pub front : ℕ → List ℕ → ℕ
front letter xs = prefix_len (λ byte. byte == letter) xs

is_letter : (byte letter : ℕ) → (byte == letter) ≡ true → byte ≡ letter
is_letter byte letter h = grind (arith, nat_tests)

-- that front is a run of the letter
front_is : (letter : ℕ) (xs : List ℕ) → take (front letter xs) xs ≡ replicate (front letter xs) letter
front_is letter xs =
    let n : ℕ = front letter xs in
    let size : length (take n xs) ≡ n = length-take-le n xs (prefix_len-le-length (λ byte. byte == letter) xs) in
    ext_get_or 0 (take n xs) (replicate n letter) (size ∙ sym (length-replicate n letter))
    (λ i h.
    let lt : i < n = omega arith in
    rw (get_or-take n xs i 0 lt, is_letter _ letter (prefix_len_passes (λ byte. byte == letter) xs i 0 lt), get_or-replicate n i letter 0 lt) refl)

-- a run, and then no more of its letter
run_front : (letter n : ℕ) (rest : List ℕ) → (0 < length rest → get_or rest 0 0 ≢ letter) → front letter (replicate n letter ++ rest) ≡ n
run_front letter n rest ends =
    prefix_len_is (λ byte. byte == letter) (replicate n letter ++ rest) n 0 (omega (arith, length-append (replicate n letter) rest, length-replicate n letter))
    (λ k h. grind (arith, nat_tests, common_steps, get_or-replicate n k letter 0))
    (λ h. grind (arith, nat_tests, common_steps, get_or-append_right (replicate n letter) rest n n 0))

-- two runs begin with neither's letter
begins : (letter b d y z : ℕ) → b ≢ letter → d ≢ letter → 0 < length (replicate y b ++ replicate z d) → get_or (replicate y b ++ replicate z d) 0 0 ≢ letter
begins letter b d y z not_b not_d some = grind arith

begins_one : (letter d z : ℕ) → d ≢ letter → 0 < length (replicate z d) → get_or (replicate z d) 0 0 ≢ letter
begins_one letter d z not_d some = grind arith

-- three letters that differ
pub record Differ (a b d : ℕ) : Type 0 where
  pub first : b ≢ a
  pub third : d ≢ a
  pub second : d ≢ b

-- what three runs are read as
pub record Runs (a b d x y z : ℕ) (word : List ℕ) : Type 0 where
  pub first : front a word ≡ x
  pub second : front b (drop x word) ≡ y
  pub third : front d (drop y (drop x word)) ≡ z
  pub last : length (drop y (drop x word)) ≡ z

pub runs : (a b d x y z : ℕ) → Differ a b d → Runs a b d x y z (replicate x a ++ replicate y b ++ replicate z d)
runs a b d x y z differ =
    let grouped = append_assoc (replicate x a) (replicate y b) (replicate z d) in
    let rest = ap (drop x) grouped ∙ drop_at (replicate x a) _ x (length-replicate x a) in
    let end = ap (drop y) rest ∙ drop_at (replicate y b) (replicate z d) y (length-replicate y b) in
    record {
      first = rw grouped (run_front a x _ (begins a b d y z differ.first differ.third));
      second = rw rest (run_front b y _ (begins_one b d z differ.second));
      third = rw (end, ← append-nil (replicate z d)) (run_front d z [] (λ some. absurd (omega arith)));
      last = rw end (length-replicate z d);
    }

pub letters_differ : (side : Side) → Differ (cased side 67) (cased side 69) (cased side 71)
letters_differ side = grind arith

-- what the letters of a hand are read as
hand_runs : (side : Side) (hand : Hand) → Runs (cased side 67) (cased side 69) (cased side 71) hand.chicks hand.elephants hand.giraffes (hand_letters side hand)
hand_runs side hand = runs _ _ _ hand.chicks hand.elephants hand.giraffes (letters_differ side)

-- the hand of a word, where nothing else is in the word
abbrev hand_in : Side → List ℕ → Hand
hand_in side word = record {
  chicks = front (cased side 67) word;
  elephants = front (cased side 69) (drop (front (cased side 67) word) word);
  giraffes = front (cased side 71) (drop (front (cased side 69) (drop (front (cased side 67) word) word)) (drop (front (cased side 67) word) word));
}

pub same_hand : (h k : Hand) → h.chicks ≡ k.chicks → h.elephants ≡ k.elephants → h.giraffes ≡ k.giraffes → h ≡ k
same_hand h k chicks elephants giraffes = λ i. record { chicks = chicks i; elephants = elephants i; giraffes = giraffes i }

runs_hand : (side : Side) (hand : Hand) (word : List ℕ)
    → Runs (cased side 67) (cased side 69) (cased side 71) hand.chicks hand.elephants hand.giraffes word → hand_in side word ≡ hand
runs_hand side hand word r = rw (r.first, r.second, r.third) refl

dash_hand : (side : Side) → (hand_in side (45 ∷ [])) ≡ record { chicks = 0; elephants = 0; giraffes = 0 }
dash_hand side = grind arith

hand_size : (side : Side) (hand : Hand) → length (hand_letters side hand) ≡ hand.chicks + hand.elephants + hand.giraffes
hand_size side hand = simp (length-append, length-replicate)

back_from : (side : Side) (hand : Hand) (letters : List ℕ) → letters ≡ hand_letters side hand → hand_in side (or_dash letters) ≡ hand
back_from side hand [] e =
    let none : 0 ≡ hand.chicks + hand.elephants + hand.giraffes = ap length e ∙ hand_size side hand in
    dash_hand side ∙ same_hand _ hand (omega arith) (omega arith) (omega arith)
back_from side hand (letter ∷ letters) e = ap (hand_in side) e ∙ runs_hand side hand (hand_letters side hand) (hand_runs side hand)

-- two hands of one text are one hand
pub same_hand_text : (side : Side) (h k : Hand) → hand_text side h ≡ hand_text side k → h ≡ k
same_hand_text side h k same = sym (back_from side h (hand_letters side h) refl) ∙ ap (hand_in side) same ∙ back_from side k (hand_letters side k) refl

no_dash : (letters : List ℕ) → 0 < length letters → or_dash letters ≡ letters
no_dash letters some = grind arith

dash_cases : (letters : List ℕ) → (or_dash letters ≡ letters) ⊎ (or_dash letters ≡ 45 ∷ [])
dash_cases letters = grind arith

-- a word that is three runs is the text of their counts
pub hand_spelled : (side : Side) (word : List ℕ) (c e g : ℕ) → 0 < length word → c ≡ front (cased side 67) word
    → e ≡ front (cased side 69) (drop c word) → g ≡ front (cased side 71) (drop e (drop c word)) → length (drop e (drop c word)) ≤ g
    → word ≡ hand_text side (record { chicks = c; elephants = e; giraffes = g })
hand_spelled side word c e g some is_c is_e is_g whole =
    let a : ℕ = cased side 67 in
    let b : ℕ = cased side 69 in
    let d : ℕ = cased side 71 in
    let chicks : take c word ≡ replicate c a = rw is_c (front_is a word) in
    let elephants : take e (drop c word) ≡ replicate e b = rw is_e (front_is b (drop c word)) in
    let giraffes : take g (drop e (drop c word)) ≡ replicate g d = rw is_g (front_is d (drop e (drop c word))) in
    let last : drop e (drop c word) ≡ replicate g d = sym (take_all g (drop e (drop c word)) whole) ∙ giraffes in
    let middle : drop c word ≡ replicate e b ++ replicate g d = rw (elephants, last) at (sym (take-append-drop e (drop c word))) in
    let all : word ≡ replicate c a ++ (replicate e b ++ replicate g d) = rw (chicks, middle) at (sym (take-append-drop c word)) in
    let grouped = all ∙ sym (append_assoc (replicate c a) (replicate e b) (replicate g d)) in
    grouped ∙ sym (no_dash (replicate c a ++ replicate e b ++ replicate g d) (rw grouped at some))

-- a word that is neither a dash nor three runs is no hand's
pub hand_fault : (side : Side) (word : List ℕ) (c e g : ℕ) → word ≢ 45 ∷ [] → c ≡ front (cased side 67) word → e ≡ front (cased side 69) (drop c word)
    → g ≡ front (cased side 71) (drop e (drop c word)) → g < length (drop e (drop c word)) → (hand : Hand) → word ≢ hand_text side hand
hand_fault side word c e g other is_c is_e is_g more hand is = elim (dash_cases (hand_letters side hand)) [
  | inl plain ↦
      let r : Runs (cased side 67) (cased side 69) (cased side 71) hand.chicks hand.elephants hand.giraffes word = rw (is ∙ plain) (hand_runs side hand) in
      let same_c : c ≡ hand.chicks = is_c ∙ r.first in
      let same_e : e ≡ hand.elephants = is_e ∙ (rw same_c r.second) in
      let same_g : g ≡ hand.giraffes = is_g ∙ (rw (same_e, same_c) r.third) in
      let size : length (drop e (drop c word)) ≡ hand.giraffes = rw (same_e, same_c) r.last in
      absurd (omega arith)
  | inr dash ↦ absurd (other (is ∙ dash))
]

pub one_byte : (xs : List ℕ) (byte : ℕ) → length xs ≡ 1 → get_or xs 0 0 ≡ byte → xs ≡ byte ∷ []
one_byte (x ∷ []) byte size is = ap (λ n. n ∷ []) is
one_byte xs byte size is = absurd (omega arith)

-- a front that ends where the letter does
pub front_stops : (letter : ℕ) (xs : List ℕ) (n : ℕ) → n ≤ length xs → ((k : ℕ) → k < n → get_or xs k 0 ≡ letter)
    → (n < length xs → get_or xs n 0 ≢ letter) → n ≡ front letter xs
front_stops letter xs n size each ends =
    sym (prefix_len_is (λ byte. byte == letter) xs n 0 size (λ k h. grind (arith, nat_tests, each k h)) (λ h. grind (arith, nat_tests, ends h)))

-- the three counts of a word, each of what the one before left
pub record Counts (side : Side) (word : List ℕ) (c e g : ℕ) : Type 0 where
  pub chicks : c ≡ front (cased side 67) word
  pub elephants : e ≡ front (cased side 69) (drop c word)
  pub giraffes : g ≡ front (cased side 71) (drop e (drop c word))

pub counts : (side : Side) (word rest last : List ℕ) (a b d c e g : ℕ) → a ≡ cased side 67 → b ≡ cased side 69 → d ≡ cased side 71
    → rest ≡ drop c word → last ≡ drop e rest → c ≡ front a word → e ≡ front b rest → g ≡ front d last → Counts side word c e g
counts side word rest last a b d c e g is_a is_b is_d is_rest is_last is_c is_e is_g = record { chicks = cc; elephants = cc; giraffes = cc }
