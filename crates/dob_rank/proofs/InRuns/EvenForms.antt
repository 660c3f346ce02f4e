-- Placements that are their own mirror image: an even choice of squares leaves an even board, on which pieces of column b keep their forms and two pieces of one
-- row change them. So it is counted how many placements of a kind, squares and forms, are their own image.
use Rattle.dob_rank.proofs.Common.{◌%◌, ◌&&◌, ◌*◌, ◌+◌, ◌-◌, ◌/◌, ◌<◌, ◌^◌, ◌∙◌, ◌∷◌, ◌≡◌, ◌≤◌, ◌⊎◌, Bool, List, None, [], ap, arith, cond, eqb, false, inl}
use Rattle.dob_rank.proofs.Common.{inr, length, map, refl, slice_index_or, subst, suc, sym, true, zero, ℕ, and_parts, cases_Bool, cases_eq, eq-eqb, eqb-true}
use Rattle.dob_rank.proofs.Common.{le-ltb, lt-ltb, ne_eqb, not, sum_same, one_if, all_below, Cell, board_by, base_of, board_of, cell_of, choice, choose}
use Rattle.dob_rank.proofs.Common.{count, forms_number, layer, settle, sum_below, nat_tests, length-map}
use Rattle.std.proofs.Common.{rules}
use Rattle.dob_pieces.specs.Squares.{mirrored_square}
use Rattle.dob_rank.proofs.Boards.Choices.{count_other}
use Rattle.dob_rank.proofs.Boards.FormDigits.{forms_number_other, forms_number_same, layer-cell_of}
use Rattle.dob_rank.proofs.Boards.LayerCounts.{length-settle}
use Rattle.dob_rank.proofs.Boards.Settled.{AreLayers, AreShown, hide, hidden, settle-choice, settle-settles}
use Rattle.dob_rank.proofs.InRuns.Lions.{mirror_layers, hide-mirror}
use Rattle.dob_rank.proofs.InRuns.EvenChoices.{IsEvenBoard, even_choices, is_even, is_open, middles, pairs}
use Rattle.dob_rank.specs.EvenWays.{even_pairs, giraffes_after, others_after}

-- ---- an even choice leaves an even board
pub layers_shown : (t : ℕ) (ls : List ℕ) → t < 6 → AreShown t ls → AreLayers ls
layers_shown t [] low shown = tt
layers_shown t (l ∷ ls) low shown = (grind (arith, shown.0), layers_shown t ls low shown.1)

hidden_shown : (t l : ℕ) → t < 6 → (l < t) ⊎ (l ≡ 5) → hidden t l ≡ l
hidden_shown t l low (inl lt) = rw (lt-ltb l t lt) refl
hidden_shown t l low (inr is) = rw is (rw (le-ltb 5 t (omega (arith, low))) refl)

pub hide_shown : (t : ℕ) (ls : List ℕ) → t < 6 → AreShown t ls → hide t ls ≡ ls
hide_shown t [] low shown = refl
hide_shown t (l ∷ ls) low shown = join (hidden t l) l (hide t ls) ls (hidden_shown t l low shown.0) (hide_shown t ls low shown.1)
  where
    join : (x y : ℕ) (xs ys : List ℕ) → x ≡ y → xs ≡ ys → x ∷ xs ≡ y ∷ ys
    join x y xs ys e f = cc

pub count_mirror : (t : ℕ) (ls : List ℕ) → length ls ≡ 12 → count t (mirror_layers ls) ≡ count t ls
count_mirror t (a ∷ b ∷ c ∷ d ∷ e ∷ i ∷ j ∷ k ∷ l ∷ m ∷ n ∷ o ∷ []) eq = omega arith
count_mirror t ls eq = absurd (omega arith)

shown_mirror : (t : ℕ) (ls : List ℕ) → length ls ≡ 12 → AreShown t ls → AreShown t (mirror_layers ls)
shown_mirror t (a ∷ b ∷ c ∷ d ∷ e ∷ i ∷ j ∷ k ∷ l ∷ m ∷ n ∷ o ∷ []) eq (sa, (sb, (sc, (sd, (se, (si, (sj, (sk, (sl, (sm, (sn, (so, _)))))))))))) =
    (sc, (sb, (sa, (si, (se, (sd, (sl, (sk, (sj, (so, (sn, (sm, tt))))))))))))
shown_mirror t ls eq shown = absurd (omega arith)

pub even_board : (t p c : ℕ) (ls : List ℕ) → t < 5 → c < choose (count 5 ls) p → IsEvenBoard t ls → is_even t (settle t p c ls) ≡ true
    → IsEvenBoard (suc t) (settle t p c ls)
even_board t p c ls low below is on =
    let rs = settle t p c ls in
    let settled = settle-settles t p c ls low is.shown below in
    let long : length rs ≡ 12 = length-settle t p c ls ∙ is.long in
    let turned = shown_mirror (suc t) rs long settled.shown in
    let same : choice t rs ≡ choice t (mirror_layers rs) = eqb-true _ _ on in
    let under : hide t (mirror_layers rs) ≡ hide t rs
    = hide-mirror t rs long ∙ ap mirror_layers settled.hide_is ∙ is.even ∙ sym settled.hide_is in
    let image : settle t (count t (mirror_layers rs)) (choice t (mirror_layers rs)) (hide t (mirror_layers rs)) ≡ hide (suc t) (mirror_layers rs)
    = settle-choice t (mirror_layers rs) low (layers_shown (suc t) (mirror_layers rs) (omega (arith, low)) turned) in
    let own : settle t (count t rs) (choice t rs) (hide t rs) ≡ hide (suc t) rs
    = settle-choice t rs low (layers_shown (suc t) rs (omega (arith, low)) settled.shown) in
    record {
      long = long;
      shown = settled.shown;
      even =
          sym (hide_shown (suc t) (mirror_layers rs) (omega (arith, low)) turned)
          ∙ sym image
          ∙ ap (λ (n : ℕ). settle t n (choice t (mirror_layers rs)) (hide t (mirror_layers rs))) (count_mirror t rs long)
          ∙ ap (λ (n : ℕ). settle t (count t rs) n (hide t (mirror_layers rs))) (sym same)
          ∙ ap (settle t (count t rs) (choice t rs)) under
          ∙ own
          ∙ hide_shown (suc t) rs (omega (arith, low)) settled.shown;
    }

-- ---- forms
abbrev pub mirror_cells : List Cell → List Cell
mirror_cells cells = board_by (λ k. slice_index_or cells (mirrored_square k) None)

-- the number of the forms of the mirror image, where those of a layer have that number
abbrev pub image_form : ℕ → List ℕ → ℕ → ℕ
image_form t rs f = forms_number t (mirror_cells (board_of (λ (l : ℕ). f) rs))

-- only the layer's pieces matter
abbrev pub alone : ℕ → ℕ → ℕ
alone t l = cond (eqb l t) t 5

abbrev alone_if : ℕ → Bool → ℕ
alone_if t on = cond on t 5

-- two pieces of one row stand on the squares
abbrev is_row : Bool → Bool → Bool → Bool → Bool
is_row a c e j = cond a true (cond c true (cond e true j))

-- their forms change places
abbrev pub swapped : ℕ → ℕ → ℕ
swapped base f = f % base * base + f / base

abbrev row_layers : ℕ → Bool → Bool → Bool → Bool → Bool → Bool → Bool → Bool → List ℕ
row_layers t a b c d e i j k = map (alone_if t) (a ∷ b ∷ a ∷ c ∷ d ∷ c ∷ e ∷ i ∷ e ∷ j ∷ k ∷ j ∷ [])

abbrev has_image : ℕ → List ℕ → Bool → ℕ → Bool
has_image t rs row f = eqb (image_form t rs f) (cond row (swapped (base_of t) f) f)

-- the forms of so many pieces each, of those that are their own image
abbrev pub own_forms : ℕ → ℕ → List ℕ → ℕ
own_forms t bound rs = sum_below (λ f. one_if (eqb f (image_form t rs f))) bound

abbrev told_for : ℕ → ℕ → List ℕ → Bool → Bool → ℕ → Bool
told_for t p rs row here bound =
    all_below (has_image t rs row) bound && eqb (own_forms t bound rs) (cond here (cond row (base_of t) (base_of t ^ p)) 0)

abbrev forms_told : ℕ → ℕ → Bool → Bool → Bool → Bool → Bool → Bool → Bool → Bool → Bool
forms_told t p a b c d e i j k =
    told_for t p (row_layers t a b c d e i j k) (is_row a c e j) (eqb (count t (row_layers t a b c d e i j k)) p)
    (cond (eqb (count t (row_layers t a b c d e i j k)) p) (base_of t ^ p) 0)

abbrev both : (Bool → Bool) → Bool
both f = f true && f false

both_at : (f : Bool → Bool) (b : Bool) → both f ≡ true → f b ≡ true
both_at f true all = (and_parts (f true) (f false) all).0
both_at f false all = (and_parts (f true) (f false) all).1

abbrev forms_all : ℕ → ℕ → Bool
forms_all t p = both (λ a. both (λ b. both (λ c. both (λ d. both (λ e. both (λ i. both (λ j. both (λ k. forms_told t p a b c d e i j k))))))))

forms_at : (t p : ℕ) (a b c d e i j k : Bool) → forms_all t p ≡ true → forms_told t p a b c d e i j k ≡ true
forms_at t p a b c d e i j k all =
    both_at (λ z. forms_told t p a b c d e i j z) k
    (both_at (λ y. both (λ z. forms_told t p a b c d e i y z)) j
    (both_at (λ x. both (λ y. both (λ z. forms_told t p a b c d e x y z))) i
    (both_at (λ w. both (λ x. both (λ y. both (λ z. forms_told t p a b c d w x y z)))) e
    (both_at (λ v. both (λ w. both (λ x. both (λ y. both (λ z. forms_told t p a b c v w x y z))))) d
    (both_at (λ u. both (λ v. both (λ w. both (λ x. both (λ y. both (λ z. forms_told t p a b u v w x y z)))))) c
    (both_at (λ s. both (λ u. both (λ v. both (λ w. both (λ x. both (λ y. both (λ z. forms_told t p a s u v w x y z))))))) b
    (both_at (λ r. both (λ s. both (λ u. both (λ v. both (λ w. both (λ x. both (λ y. both (λ z. forms_told t p r s u v w x y z)))))))) a all)))))))

chicks_0 : forms_all 2 0 ≡ true
chicks_0 = refl

chicks_1 : forms_all 2 1 ≡ true
chicks_1 = refl

chicks_2 : forms_all 2 2 ≡ true
chicks_2 = refl

elephants_0 : forms_all 3 0 ≡ true
elephants_0 = refl

elephants_1 : forms_all 3 1 ≡ true
elephants_1 = refl

elephants_2 : forms_all 3 2 ≡ true
elephants_2 = refl

giraffes_0 : forms_all 4 0 ≡ true
giraffes_0 = refl

giraffes_1 : forms_all 4 1 ≡ true
giraffes_1 = refl

giraffes_2 : forms_all 4 2 ≡ true
giraffes_2 = refl

forms_of_all : (t p : ℕ) → 2 ≤ t → t < 5 → p ≤ 2 → forms_all t p ≡ true
forms_of_all (suc (suc zero)) zero low high few = chicks_0
forms_of_all (suc (suc zero)) (suc zero) low high few = chicks_1
forms_of_all (suc (suc zero)) (suc (suc zero)) low high few = chicks_2
forms_of_all (suc (suc (suc zero))) zero low high few = elephants_0
forms_of_all (suc (suc (suc zero))) (suc zero) low high few = elephants_1
forms_of_all (suc (suc (suc zero))) (suc (suc zero)) low high few = elephants_2
forms_of_all (suc (suc (suc (suc zero)))) zero low high few = giraffes_0
forms_of_all (suc (suc (suc (suc zero)))) (suc zero) low high few = giraffes_1
forms_of_all (suc (suc (suc (suc zero)))) (suc (suc zero)) low high few = giraffes_2
forms_of_all t p low high few = absurd (omega (arith, low, high, few))

-- ---- the same on any board

-- a cell if it is of that layer
abbrev shown : ℕ → Cell → Cell
shown t cell = cond (eqb (layer cell) t) cell None

shown_same : (t : ℕ) (cell : Cell) → layer cell ≡ t → shown t cell ≡ cell
shown_same t cell is = rw (eq-eqb (layer cell) t is) refl

shown_other : (t : ℕ) (cell : Cell) → (layer cell ≡ t → ⊥) → shown t cell ≡ None
shown_other t cell other = rw (ne_eqb (layer cell) t other) refl

count_shown : (t : ℕ) (cells : List Cell) → t < 5 → count t (map layer (map (shown t) cells)) ≡ count t (map layer cells)
count_shown t [] low = refl
count_shown t (cell ∷ cells) low = grind (arith, shown_same, shown_other, count_other, (count_shown t cells low))

forms_shown : (t : ℕ) (cells : List Cell) → t < 5 → forms_number t (map (shown t) cells) ≡ forms_number t cells
forms_shown t [] low = refl
forms_shown t (cell ∷ cells) low = search (rules, shown_same, forms_number_same, count_shown, shown_other, forms_number_other, (forms_shown t cells low))

shown_image : (t : ℕ) (cells : List Cell) → length cells ≡ 12 → map (shown t) (mirror_cells cells) ≡ mirror_cells (map (shown t) cells)
shown_image t (a ∷ b ∷ c ∷ d ∷ e ∷ i ∷ j ∷ k ∷ l ∷ m ∷ n ∷ o ∷ []) eq = refl
shown_image t cells eq = absurd (omega arith)

count_alone : (t : ℕ) (ls : List ℕ) → t < 5 → count t (map (alone t) ls) ≡ count t ls
count_alone t [] low = refl
count_alone t (l ∷ ls) low = grind (arith, nat_tests, count_alone t ls low)

-- the cell of a layer alone
shown_cell : (t l f : ℕ) → l ≤ 5 → (l ≡ t → ⊥) → shown t (cell_of l f) ≡ None
shown_cell t l f few apart = shown_other t (cell_of l f) (λ e. apart (sym (layer-cell_of l f few) ∙ e))

shown_alone : (t f : ℕ) (ls : List ℕ) → t < 5 → AreLayers ls
    → map (shown t) (board_of (λ (l : ℕ). f) ls) ≡ map (shown t) (board_of (λ (l : ℕ). f) (map (alone t) ls))
shown_alone t f [] low are = refl
shown_alone t f (l ∷ ls) low are = join _ _ _ _ first (shown_alone t f ls low are.1)
  where
    join : (x y : Cell) (xs ys : List Cell) → x ≡ y → xs ≡ ys → x ∷ xs ≡ y ∷ ys
    join x y xs ys e f = cc

    first : shown t (cell_of l (f / base_of l ^ count l ls % base_of l))
        ≡ shown t (cell_of (alone t l) (f / base_of (alone t l) ^ count (alone t l) (map (alone t) ls) % base_of (alone t l)))
    first = elim (cases_eq l t) [
      | inl is ↦ rw (is, eq-eqb t t refl)
          (ap (λ (n : ℕ). shown t (cell_of t (f / base_of t ^ n % base_of t))) (sym (count_alone t ls low)))
      | inr apart ↦
          shown_cell t l (f / base_of l ^ count l ls % base_of l) are.0 apart
          ∙ sym (shown_other t None (λ e. omega (arith, e, low)))
          ∙ ap (λ (x : ℕ). shown t (cell_of x (f / base_of x ^ count x (map (alone t) ls) % base_of x)))
          (let out : 5 ≡ alone t l = rw (ne_eqb l t apart) refl in out)
    ]

length_board : (numbers : ℕ → ℕ) (ls : List ℕ) → length (board_of numbers ls) ≡ length ls
length_board numbers [] = refl
length_board numbers (l ∷ ls) = omega (arith, length_board numbers ls)

pub image_alone : (t f : ℕ) (rs : List ℕ) → t < 5 → length rs ≡ 12 → AreLayers rs → image_form t rs f ≡ image_form t (map (alone t) rs) f
image_alone t f rs low long are =
    let here = board_of (λ (l : ℕ). f) rs in
    let there = board_of (λ (l : ℕ). f) (map (alone t) rs) in
    sym (forms_shown t (mirror_cells here) low)
    ∙ ap (forms_number t) (shown_image t here (length_board (λ (l : ℕ). f) rs ∙ long))
    ∙ ap (λ (cells : List Cell). forms_number t (mirror_cells cells)) (shown_alone t f rs low are)
    ∙ ap (forms_number t) (sym (shown_image t there (length_board (λ (l : ℕ). f) (map (alone t) rs) ∙ length-map rs (alone t) ∙ long)))
    ∙ forms_shown t (mirror_cells there) low

-- a row of which both squares of columns a and c have pieces of the layer
abbrev pub has_row : ℕ → List ℕ → Bool
has_row t rs =
    is_row (eqb (slice_index_or rs 0 0) t) (eqb (slice_index_or rs 3 0) t) (eqb (slice_index_or rs 6 0) t) (eqb (slice_index_or rs 9 0) t)

alone_told : (t p : ℕ) (rs : List ℕ) → 2 ≤ t → t < 5 → p ≤ 2 → IsEvenBoard (suc t) rs → count t rs ≡ p
    → told_for t p (map (alone t) rs) (has_row t rs) true (base_of t ^ p) ≡ true
alone_told t p (a ∷ b ∷ c ∷ d ∷ e ∷ i ∷ j ∷ k ∷ l ∷ m ∷ n ∷ o ∷ []) low high few is pieces =
    let even = is.even in
    let bits : row_layers t (eqb a t) (eqb b t) (eqb d t) (eqb e t) (eqb j t) (eqb k t) (eqb m t) (eqb n t)
    ≡ map (alone t) (a ∷ b ∷ c ∷ d ∷ e ∷ i ∷ j ∷ k ∷ l ∷ m ∷ n ∷ o ∷ []) = cc in
    let number : count t (row_layers t (eqb a t) (eqb b t) (eqb d t) (eqb e t) (eqb j t) (eqb k t) (eqb m t) (eqb n t)) ≡ p
    = ap (count t) bits ∙ count_alone t (a ∷ b ∷ c ∷ d ∷ e ∷ i ∷ j ∷ k ∷ l ∷ m ∷ n ∷ o ∷ []) high ∙ pieces in
    let here : eqb (count t (row_layers t (eqb a t) (eqb b t) (eqb d t) (eqb e t) (eqb j t) (eqb k t) (eqb m t) (eqb n t))) p ≡ true
    = eq-eqb _ p number in
    let row = is_row (eqb a t) (eqb d t) (eqb j t) (eqb m t) in
    let told = forms_at t p (eqb a t) (eqb b t) (eqb d t) (eqb e t) (eqb j t) (eqb k t) (eqb m t) (eqb n t) (forms_of_all t p low high few) in
    subst (λ (xs : List ℕ). told_for t p xs row true (base_of t ^ p) ≡ true) bits
    (subst (λ (on : Bool). told_for t p (row_layers t (eqb a t) (eqb b t) (eqb d t) (eqb e t) (eqb j t) (eqb k t) (eqb m t) (eqb n t)) row on
    (cond on (base_of t ^ p) 0) ≡ true) here told)
alone_told t p rs low high few is pieces = absurd (let long = is.long in omega arith)

own_forms_alone : (t p : ℕ) (rs : List ℕ) → 2 ≤ t → t < 5 → p ≤ 2 → IsEvenBoard (suc t) rs → count t rs ≡ p
    → own_forms t (base_of t ^ p) rs ≡ cond (has_row t rs) (base_of t) (base_of t ^ p)
own_forms_alone t p rs low high few is pieces =
    let told = and_parts _ _ (alone_told t p rs low high few is pieces) in
    sum_same (λ f. one_if (eqb f (image_form t rs f))) (λ f. one_if (eqb f (image_form t (map (alone t) rs) f))) (base_of t ^ p)
    (λ f below. ap (λ (n : ℕ). one_if (eqb f n)) (image_alone t f rs high is.long (layers_shown (suc t) rs (omega (arith, high)) is.shown)))
    ∙ eqb-true _ _ told.1

-- ---- placements

-- a row is taken just where a pair less is open than before
taken_or_open : (t l : ℕ) → t < 5 → (l < suc t) ⊎ (l ≡ 5) → one_if (eqb l t) + one_if (is_open l) ≡ one_if (is_open (hidden t l))
taken_or_open t l low shown = grind (arith, nat_tests, shown)

row_or_none : (a b c d : Bool) (x y : ℕ) → x ≡ one_if a + one_if b + one_if c + one_if d + y → is_row a b c d ≡ not (eqb y x)
row_or_none true b c d x y e = rw (ne_eqb y x (λ same. omega (arith, e, same))) refl
row_or_none false true c d x y e = rw (ne_eqb y x (λ same. omega (arith, e, same))) refl
row_or_none false false true d x y e = rw (ne_eqb y x (λ same. omega (arith, e, same))) refl
row_or_none false false false true x y e = rw (ne_eqb y x (λ same. omega (arith, e, same))) refl
row_or_none false false false false x y e = rw (eq-eqb y x (omega (arith, e))) refl

pub row_told : (t : ℕ) (rs : List ℕ) → t < 5 → length rs ≡ 12 → AreShown (suc t) rs → has_row t rs ≡ not (eqb (pairs rs) (pairs (hide t rs)))
row_told t (a ∷ b ∷ c ∷ d ∷ e ∷ i ∷ j ∷ k ∷ l ∷ m ∷ n ∷ o ∷ []) low long shown =
    row_or_none (eqb a t) (eqb d t) (eqb j t) (eqb m t)
    (pairs (hide t (a ∷ b ∷ c ∷ d ∷ e ∷ i ∷ j ∷ k ∷ l ∷ m ∷ n ∷ o ∷ []))) (pairs (a ∷ b ∷ c ∷ d ∷ e ∷ i ∷ j ∷ k ∷ l ∷ m ∷ n ∷ o ∷ []))
    (omega (
      arith,
      taken_or_open t a low shown.0,
      taken_or_open t d low shown.1.1.1.0,
      taken_or_open t j low shown.1.1.1.1.1.1.0,
      taken_or_open t m low shown.1.1.1.1.1.1.1.1.1.0,
    ))
row_told t rs low long shown = absurd (omega arith)

-- the factor of an even choice: what it leaves tells it
abbrev form_factor : ℕ → ℕ → ℕ → ℕ → ℕ → ℕ
form_factor t p k x y = cond (eqb y k) (base_of t ^ p) (base_of t)

not_cond : (on : Bool) (x y : ℕ) → cond (not on) x y ≡ cond on y x
not_cond true x y = refl
not_cond false x y = refl

-- the forms of an even choice that are their own image
pub own_forms_even : (t p c : ℕ) (ls : List ℕ) → 2 ≤ t → t < 5 → p ≤ 2 → IsEvenBoard t ls → c < choose (count 5 ls) p → is_even t (settle t p c ls) ≡ true
    → own_forms t (base_of t ^ p) (settle t p c ls) ≡ form_factor t p (pairs ls) (middles (settle t p c ls)) (pairs (settle t p c ls))
own_forms_even t p c ls low high few is below on =
    let rs = settle t p c ls in
    let settled = settle-settles t p c ls high is.shown below in
    let board = even_board t p c ls high below is on in
    own_forms_alone t p rs low high few board settled.count_is
    ∙ ap (λ (b : Bool). cond b (base_of t) (base_of t ^ p))
    (row_told t rs high board.long settled.shown ∙ ap (λ (xs : List ℕ). not (eqb (pairs rs) (pairs xs))) settled.hide_is)
    ∙ not_cond (eqb (pairs rs) (pairs ls)) (base_of t) (base_of t ^ p)

-- the sum over the placements of so many pieces of a layer that are their own mirror image, squares and forms, of what may follow them
pub even_sum : (G : ℕ → ℕ → ℕ) (t p : ℕ) (ls : List ℕ) → 2 ≤ t → t < 5 → p ≤ 2 → IsEvenBoard t ls
    → sum_below (λ c. one_if (is_even t (settle t p c ls))
    * (own_forms t (base_of t ^ p) (settle t p c ls) * G (middles (settle t p c ls)) (pairs (settle t p c ls)))) (choose (count 5 ls) p)
    ≡ choose (middles ls) p * (base_of t ^ p * G (middles ls - p) (pairs ls)) + even_pairs p (pairs ls) * (base_of t * G (middles ls) (pairs ls - 1))
even_sum G t p ls low high few is =
    let k = pairs ls in
    sum_same _ (λ c. one_if (is_even t (settle t p c ls)) * H (middles (settle t p c ls)) (pairs (settle t p c ls))) (choose (count 5 ls) p) each
    ∙ even_choices H t p ls high few is
    ∙ ap (λ (n : ℕ). choose (middles ls) p * (n * G (middles ls - p) k) + even_pairs p k * H (middles ls) (k - 1))
    (let own : form_factor t p k (middles ls - p) k ≡ base_of t ^ p = rw (eq-eqb k k refl) refl in own)
    ∙ ap (λ (n : ℕ). choose (middles ls) p * (base_of t ^ p * G (middles ls - p) k) + n) (last p k few)
  where
    H : ℕ → ℕ → ℕ
    H x y = form_factor t p (pairs ls) x y * G x y

    last : (q k : ℕ) → q ≤ 2 → even_pairs q k * (form_factor t p k (middles ls) (k - 1) * G (middles ls) (k - 1))
        ≡ even_pairs q k * (base_of t * G (middles ls) (k - 1))
    last zero k few = omega arith
    last (suc zero) k few = omega arith
    last (suc (suc q)) zero few = omega arith
    last (suc (suc q)) (suc k) few = rw (ne_eqb (suc k - 1) (suc k) (λ e. omega (arith, e))) refl

    each : (c : ℕ) → c < choose (count 5 ls) p
        → one_if (is_even t (settle t p c ls))
        * (own_forms t (base_of t ^ p) (settle t p c ls) * G (middles (settle t p c ls)) (pairs (settle t p c ls)))
        ≡ one_if (is_even t (settle t p c ls)) * H (middles (settle t p c ls)) (pairs (settle t p c ls))
    each c below =
        let rs = settle t p c ls in
        elim (cases_Bool (is_even t rs)) [
          | inl on ↦ ap (λ (n : ℕ). one_if (is_even t rs) * (n * G (middles rs) (pairs rs))) (own_forms_even t p c ls low high few is below on)
          | inr off ↦ rw off (let none : 0 * (own_forms t (base_of t ^ p) rs * G (middles rs) (pairs rs))
              ≡ 0 * H (middles rs) (pairs rs) = omega arith in none)
        ]

-- ---- elephants and giraffes

-- the sum over the giraffes' choices, and over those of both kinds
abbrev pub giraffes_sum : ℕ → List ℕ → ℕ
giraffes_sum k ls =
    sum_below (λ c. one_if (is_even 4 (settle 4 k c ls)) * (own_forms 4 (base_of 4 ^ k) (settle 4 k c ls) * 1)) (choose (count 5 ls) k)

abbrev pub others_sum : ℕ → ℕ → List ℕ → ℕ
others_sum j k ls =
    sum_below (λ c. one_if (is_even 3 (settle 3 j c ls)) * (own_forms 3 (base_of 3 ^ j) (settle 3 j c ls) * giraffes_sum k (settle 3 j c ls)))
    (choose (count 5 ls) j)

pub giraffes_even : (k : ℕ) (ls : List ℕ) → k ≤ 2 → IsEvenBoard 4 ls → giraffes_sum k ls ≡ giraffes_after k (middles ls) (pairs ls)
giraffes_even k ls few is = even_sum (λ (x y : ℕ). 1) 4 k ls (omega arith) (omega arith) few is

pub others_even : (j k : ℕ) (ls : List ℕ) → j ≤ 2 → k ≤ 2 → IsEvenBoard 3 ls → others_sum j k ls ≡ others_after j k (middles ls) (pairs ls)
others_even j k ls few few_k is =
    sum_same _ (λ c. one_if (is_even 3 (settle 3 j c ls))
    * (own_forms 3 (base_of 3 ^ j) (settle 3 j c ls) * giraffes_after k (middles (settle 3 j c ls)) (pairs (settle 3 j c ls)))) (choose (count 5 ls) j) each
    ∙ even_sum (giraffes_after k) 3 j ls (omega arith) (omega arith) few is
  where
    each : (c : ℕ) → c < choose (count 5 ls) j
        → one_if (is_even 3 (settle 3 j c ls)) * (own_forms 3 (base_of 3 ^ j) (settle 3 j c ls) * giraffes_sum k (settle 3 j c ls))
        ≡ one_if (is_even 3 (settle 3 j c ls))
        * (own_forms 3 (base_of 3 ^ j) (settle 3 j c ls) * giraffes_after k (middles (settle 3 j c ls)) (pairs (settle 3 j c ls)))
    each c below =
        let rs = settle 3 j c ls in
        elim (cases_Bool (is_even 3 rs)) [
          | inl on ↦ ap (λ (n : ℕ). one_if (is_even 3 rs) * (own_forms 3 (base_of 3 ^ j) rs * n))
              (giraffes_even k rs few_k (even_board 3 j c ls (omega arith) below is on))
          | inr off ↦ rw off (let none : 0 * (own_forms 3 (base_of 3 ^ j) rs * giraffes_sum k rs)
              ≡ 0 * (own_forms 3 (base_of 3 ^ j) rs * giraffes_after k (middles rs) (pairs rs)) = omega arith in none)
        ]

-- ---- later layers don't matter
alone_hidden : (t u : ℕ) (ls : List ℕ) → t < u → u < 6 → map (alone t) (hide u ls) ≡ map (alone t) ls
alone_hidden t u [] low high = refl
alone_hidden t u (l ∷ ls) low high = join _ _ _ _ (ap (λ (b : Bool). cond b t 5) (same t u l low high)) (alone_hidden t u ls low high)
  where
    join : (x y : ℕ) (xs ys : List ℕ) → x ≡ y → xs ≡ ys → x ∷ xs ≡ y ∷ ys
    join x y xs ys e f = cc

    same : (t u l : ℕ) → t < u → u < 6 → eqb (hidden u l) t ≡ eqb l t
    same t u l low high = grind (arith, nat_tests)

-- the form of the image is that on the board up to the layer
pub image_form_under : (t u f : ℕ) (ls : List ℕ) → t < u → u < 6 → length ls ≡ 12 → length (hide u ls) ≡ 12 → AreLayers ls → AreLayers (hide u ls)
    → image_form t ls f ≡ image_form t (hide u ls) f
image_form_under t u f ls low high long shorter are under =
    image_alone t f ls (omega (arith, low, high)) long are
    ∙ ap (λ (xs : List ℕ). image_form t xs f) (sym (alone_hidden t u ls low high))
    ∙ sym (image_alone t f (hide u ls) (omega (arith, low, high)) shorter under)
