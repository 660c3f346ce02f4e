-- In a run whose lions stand on column b: the first digit that differs from its mirror image's decides for all places that
-- have the same digits up to there.
use Rattle.dob_classes.proofs.Common.{◌%◌, ◌*◌, ◌++◌, ◌+◌, ◌/◌, ◌<◌, ◌^◌, ◌∙◌, ◌∷◌, ◌≡◌, ◌≤◌, Bool, List, None, [], ap, arith, cond, drop, eqb, false, get_or}
use Rattle.dob_classes.proofs.Common.{inl, inr, leb, length, map, min, refl, rules, slice_index_or, subst, suc, sym, take, true, zero, ℕ, cases_eq, cases_lt}
use Rattle.dob_classes.proofs.Common.{eq-eqb, le-leb, lt-leb, ne_eqb, length-map, length-take, take-append-drop, div-mul-add, div_below, le-div, mod_below}
use Rattle.dob_classes.proofs.Common.{same_from_place, All, Cell, board_by, mirrored, mirrored_square, PieceSet, Setup, count_other, local_digits, AreBases-by}
use Rattle.dob_classes.proofs.Common.{few_in_block, HasDigits-digits, HasParts-from_position, hide_all, IsPositionOfSet-mirrored, HasDigits-drop}
use Rattle.dob_classes.proofs.Common.{HasDigits-length, HasBlock-setup_in, on_board-block, marked, HasBlock, HasDigits, base_of, bases_by, block_bases, cell_of}
use Rattle.dob_classes.proofs.Common.{choice, count, digits_of, forms_number, layer, number_of, on_board, order, place_of, product, setup_in, IsPositionOfSet}
use Rattle.dob_classes.proofs.Common.{form, IsInRun, lion_pairs, lions_of, local_bases, run_kind, run_of, run_start, local_of, run_size, Chicks, Empty, Mixed}
use Rattle.dob_classes.proofs.Common.{IsWidth, local_marks}
use Rattle.dob_rank.proofs.Arithmetic.MixedRadix.{number_of-below, number_of-append, digits_of-number_of, product-append}
use Rattle.dob_rank.proofs.InRuns.Lions.{image_lions, lions_of-below, mixed_lions, mirror_layers, layers-mirrored, hide-mirror, lions_layers, lions_layers-of}
use Rattle.dob_rank.proofs.InRuns.Lions.{HasPair-from_position}
use Rattle.dob_rank.proofs.InRuns.RunPlaces.{local_size, local_size-block, local_of-below, place_of-run, run_of-lions, hand_of, on_board-mirrored, place-parts}
use Rattle.dob_rank.proofs.InRuns.RunPlaces.{image-parts, remainder, place_in_run, marked_by_place, unmarked_by_place, mark_of_spot, positive_locals}
use Rattle.std.proofs.lemmas.List.{get_or-take}
use Rattle.dob_rank.proofs.Boards.Settled.{hide, settle-choice, choice_hide_next}
use Rattle.dob_rank.proofs.Boards.FormDigits.{AreLayers-map, cell_of-cell, forms_number_same, forms_number_other, forms_number-below}

-- ---- squares

-- the layers up to one give the choice that it makes on the mirror image
pub image_choice : (t : ℕ) (s : Setup) → t < order Empty → length s.board ≡ 12 →
    choice t (map layer (mirrored s).board) ≡ choice t (mirror_layers (hide (suc t) (map layer s.board)))
image_choice t s low twelve =
    ap (choice t) (layers-mirrored s twelve)
    ∙ sym (choice_hide_next t (mirror_layers (map layer s.board)) low)
    ∙ ap (choice t) (hide-mirror (suc t) (map layer s.board) (length-map s.board layer ∙ twelve))

same_image_choice : (t : ℕ) (p q : Setup) → t < order Empty → length p.board ≡ 12 → length q.board ≡ 12 →
    hide (suc t) (map layer p.board) ≡ hide (suc t) (map layer q.board) →
    choice t (map layer (mirrored p).board) ≡ choice t (map layer (mirrored q).board)
same_image_choice t p q low hp hq same =
    image_choice t p low hp ∙ ap (λ ls. choice t (mirror_layers ls)) same ∙ sym (image_choice t q low hq)

-- one more choice gives one more layer
hide_more : (t : ℕ) (p q : Setup) → t < order Empty → hide t (map layer p.board) ≡ hide t (map layer q.board) →
    count t (map layer p.board) ≡ count t (map layer q.board) → choice t (map layer p.board) ≡ choice t (map layer q.board) →
    hide (suc t) (map layer p.board) ≡ hide (suc t) (map layer q.board)
hide_more t p q low same number chosen =
    rw (← settle-choice t (map layer p.board) low (AreLayers-map p.board), number, chosen, same)
    (settle-choice t (map layer q.board) low (AreLayers-map q.board))

-- the same lions
lions_hidden : (set : PieceSet) (p q : Setup) → IsPositionOfSet set p → IsPositionOfSet set q → lions_of p ≡ lions_of q →
    hide (order Chicks) (map layer p.board) ≡ hide (order Chicks) (map layer q.board)
lions_hidden set p q hp hq same =
    sym (lions_layers-of (map layer p.board) (HasPair-from_position set p hp))
    ∙ ap lions_layers same ∙ lions_layers-of (map layer q.board) (HasPair-from_position set q hq)

-- ---- forms

-- a cell if it is of that layer
abbrev pub shown : ℕ → Cell → Cell
shown t cell = cond (eqb (layer cell) t) cell None

shown_same : (t : ℕ) (cell : Cell) → layer cell ≡ t → shown t cell ≡ cell
shown_same t cell is = rw (eq-eqb (layer cell) t is) refl

shown_other : (t : ℕ) (cell : Cell) → (layer cell ≡ t → ⊥) → shown t cell ≡ None
shown_other t cell other = rw (ne_eqb (layer cell) t other) refl

count_shown : (t : ℕ) (cells : List Cell) → t < order Empty → count t (map layer (map (shown t) cells)) ≡ count t (map layer cells)
count_shown t [] low = refl
count_shown t (cell ∷ cells) low = grind (arith, shown_same, shown_other, count_other, (count_shown t cells low))

pub forms_shown : (t : ℕ) (cells : List Cell) → t < order Empty → forms_number t (map (shown t) cells) ≡ forms_number t cells
forms_shown t [] low = refl
forms_shown t (cell ∷ cells) low = search (rules, shown_same, forms_number_same, count_shown, shown_other, forms_number_other, (forms_shown t cells low))

-- the forms number of a layer gives its cells, where the layers are known
pub same_shown : (t : ℕ) (xs ys : List Cell) → map layer xs ≡ map layer ys → forms_number t xs ≡ forms_number t ys → map (shown t) xs ≡ map (shown t) ys
same_shown t [] [] layers forms = refl
same_shown t [] (y ∷ ys) layers forms = absurd cc
same_shown t (x ∷ xs) [] layers forms = absurd cc
same_shown t (x ∷ xs) (y ∷ ys) layers forms =
    let head : layer x ≡ layer y = cc in
    let tail : map layer xs ≡ map layer ys = cc in
    elim (cases_eq (layer x) t) [
      | inl is ↦
          let is_y : layer y ≡ t = sym head ∙ is in
          let w = base_of t ^ count t (map layer ys) in
          let low : forms_number t xs < w = subst (λ ls. forms_number t xs < base_of t ^ count t ls) tail (forms_number-below t xs) in
          let both : form x * w + forms_number t xs ≡ form y * w + forms_number t ys =
          ap (λ ls. form x * base_of t ^ count t ls + forms_number t xs) (sym tail)
          ∙ sym (forms_number_same t x xs is) ∙ forms ∙ forms_number_same t y ys is_y in
          let parts = same_from_place (form x) (forms_number t xs) (form y) (forms_number t ys) w low (forms_number-below t ys) both in
          let one : x ≡ y =
          sym (cell_of-cell x) ∙ ap (λ l. cell_of l (form x)) head ∙ ap (cell_of (layer y)) parts.0 ∙ cell_of-cell y in
          join (shown t x) (shown t y) (map (shown t) xs) (map (shown t) ys) (ap (shown t) one) (same_shown t xs ys tail parts.1)
      | inr other ↦
          let other_y : layer y ≡ t → ⊥ = λ e. other (head ∙ e) in
          join (shown t x) (shown t y) (map (shown t) xs) (map (shown t) ys)
          (shown_other t x other ∙ sym (shown_other t y other_y))
          (same_shown t xs ys tail (sym (forms_number_other t x xs other) ∙ forms ∙ forms_number_other t y ys other_y))
    ]
  where
    join : (x y : Cell) (xs ys : List Cell) → x ≡ y → xs ≡ ys → x ∷ xs ≡ y ∷ ys
    join x y xs ys e f = cc

abbrev pub mirror_cells : List Cell → List Cell
mirror_cells cells = board_by (λ k. slice_index_or cells (mirrored_square k) None)

pub shown_mirror : (t : ℕ) (cells : List Cell) → length cells ≡ 12 → map (shown t) (mirror_cells cells) ≡ mirror_cells (map (shown t) cells)
shown_mirror t (a ∷ b ∷ c ∷ d ∷ e ∷ i ∷ j ∷ k ∷ l ∷ m ∷ n ∷ o ∷ []) eq = refl
shown_mirror t cells eq = absurd (omega arith)

mirrored_cells : (s : Setup) → (mirrored s).board ≡ mirror_cells s.board
unfolding mirrored
mirrored_cells s = refl

pub image_forms : (t : ℕ) (s : Setup) → t < order Empty → length s.board ≡ 12 →
    forms_number t (mirrored s).board ≡ forms_number t (mirror_cells (map (shown t) s.board))
image_forms t s low twelve =
    sym (forms_shown t (mirrored s).board low)
    ∙ ap (λ cells. forms_number t (map (shown t) cells)) (mirrored_cells s)
    ∙ ap (forms_number t) (shown_mirror t s.board twelve)

same_image_forms : (t : ℕ) (p q : Setup) → t < order Empty → length p.board ≡ 12 → length q.board ≡ 12 →
    map layer p.board ≡ map layer q.board → forms_number t p.board ≡ forms_number t q.board →
    forms_number t (mirrored p).board ≡ forms_number t (mirrored q).board
same_image_forms t p q low hp hq layers forms =
    image_forms t p low hp ∙ ap (λ cells. forms_number t (mirror_cells cells)) (same_shown t p.board q.board layers forms)
    ∙ sym (image_forms t q low hq)

-- ---- digit by digit

-- two positions with the same numbers on the board and the same lions
record ArePair (set : PieceSet) (p q : Setup) : Type 0 where
  first : IsPositionOfSet set p
  second : IsPositionOfSet set q
  on_board_is : on_board p ≡ on_board q
  lions_are : lions_of p ≡ lions_of q

module _ (set : PieceSet) (p q : Setup) (two : ArePair set p q) (n : ℕ)
    (same : (k : ℕ) → k < n → get_or (local_digits p) k 0 ≡ get_or (local_digits q) k 0) where
  hide_chicks : 0 < n → hide 3 (map layer p.board) ≡ hide 3 (map layer q.board)
  hide_chicks low = (let on = two.on_board_is in
      hide_more 2 p q (omega arith) (lions_hidden set p q two.first two.second two.lions_are) (cc) (same 0 low))

  hide_elephants : 1 < n → hide 4 (map layer p.board) ≡ hide 4 (map layer q.board)
  hide_elephants low = (let on = two.on_board_is in hide_more 3 p q (omega arith) (hide_chicks (omega (arith, low))) (cc) (same 1 low))

  hide_giraffes : 2 < n → hide 5 (map layer p.board) ≡ hide 5 (map layer q.board)
  hide_giraffes low = (let on = two.on_board_is in hide_more 4 p q (omega arith) (hide_elephants (omega (arith, low))) (cc) (same 2 low))

  same_layers : 2 < n → map layer p.board ≡ map layer q.board
  same_layers low = sym (hide_all (map layer p.board) (AreLayers-map p.board)) ∙ hide_giraffes low ∙ hide_all (map layer q.board) (AreLayers-map q.board)

  -- digits that agree up to one of them have images that agree in it
  image_digit : (k : ℕ) → k < n → get_or (local_digits (mirrored p)) k 0 ≡ get_or (local_digits (mirrored q)) k 0
  image_digit zero low = same_image_choice 2 p q (omega arith) two.first.legal.squares two.second.legal.squares (hide_chicks low)
  image_digit (suc zero) low = same_image_choice 3 p q (omega arith) two.first.legal.squares two.second.legal.squares (hide_elephants low)
  image_digit (suc (suc zero)) low = same_image_choice 4 p q (omega arith) two.first.legal.squares two.second.legal.squares (hide_giraffes low)
  image_digit (suc (suc (suc zero))) low =
      same_image_forms 2 p q (omega arith) two.first.legal.squares two.second.legal.squares (same_layers (omega (arith, low))) (same 3 low)
  image_digit (suc (suc (suc (suc zero)))) low =
      same_image_forms 3 p q (omega arith) two.first.legal.squares two.second.legal.squares (same_layers (omega (arith, low))) (same 4 low)
  image_digit (suc (suc (suc (suc (suc zero))))) low =
      same_image_forms 4 p q (omega arith) two.first.legal.squares two.second.legal.squares (same_layers (omega (arith, low))) (same 5 low)
  image_digit (suc (suc (suc (suc (suc (suc k)))))) low = refl

take_alike : (xs ys : List ℕ) (n : ℕ) → length xs ≡ length ys → ((k : ℕ) → k < n → get_or xs k 0 ≡ get_or ys k 0) → take n xs ≡ take n ys
take_alike xs ys zero long same = refl
take_alike [] [] (suc n) long same = refl
take_alike [] (y ∷ ys) (suc n) long same = absurd (omega arith)
take_alike (x ∷ xs) [] (suc n) long same = absurd (omega arith)
take_alike (x ∷ xs) (y ∷ ys) (suc n) long same =
    let head : x ≡ y = same 0 (omega arith) in
    let rest = take_alike xs ys n (omega arith) (λ k low. same (suc k) (omega (arith, low))) in
    cc

image_digits : (set : PieceSet) (p q : Setup) → ArePair set p q → (n : ℕ) → take n (local_digits p) ≡ take n (local_digits q)
    → take n (local_digits (mirrored p)) ≡ take n (local_digits (mirrored q))
image_digits set p q two n same = take_alike (local_digits (mirrored p)) (local_digits (mirrored q)) n refl (image_digit set p q two n
    (λ k low. sym (get_or-take n (local_digits p) k 0 low) ∙ ap (λ (xs : List ℕ). get_or xs k 0) same ∙ get_or-take n (local_digits q) k 0 low))

-- ---- the first digits of a number
HasDigits-take : (bs ds : List ℕ) (n : ℕ) → HasDigits bs ds → HasDigits (take n bs) (take n ds)
HasDigits-take bs ds zero h = tt
HasDigits-take [] [] (suc n) h = tt
HasDigits-take [] (d ∷ ds) (suc n) h = absurd h
HasDigits-take (b ∷ bs) [] (suc n) h = absurd h
HasDigits-take (b ∷ bs) (d ∷ ds) (suc n) h = (h.0, HasDigits-take bs ds n h.1)

first_digits : (bs ds : List ℕ) (n : ℕ) → HasDigits bs ds → number_of bs ds / product (drop n bs) ≡ number_of (take n bs) (take n ds)
first_digits bs ds n h =
    let long : length ds ≡ length bs = HasDigits-length bs ds h in
    let even : length (take n bs) ≡ length (take n ds) = length-take n bs ∙ ap (min n) (sym long) ∙ sym (length-take n ds) in
    let whole : number_of bs ds ≡ number_of (take n bs) (take n ds) * product (drop n bs) + number_of (drop n bs) (drop n ds) =
    ap (λ (xs : List ℕ). number_of xs ds) (sym (take-append-drop n bs))
    ∙ ap (number_of (take n bs ++ drop n bs)) (sym (take-append-drop n ds))
    ∙ number_of-append (take n bs) (drop n bs) (take n ds) (drop n ds) even in
    ap (λ (x : ℕ). x / product (drop n bs)) whole
    ∙ div-mul-add (number_of (take n bs) (take n ds)) (product (drop n bs)) (number_of (drop n bs) (drop n ds))
    (number_of-below (drop n bs) (drop n ds) (HasDigits-drop bs ds n h))

pub same_digits : (bs xs ys : List ℕ) → HasDigits bs xs → HasDigits bs ys → number_of bs xs ≡ number_of bs ys → xs ≡ ys
same_digits bs xs ys h k e = sym (digits_of-number_of bs xs h) ∙ ap (digits_of bs) e ∙ digits_of-number_of bs ys k

-- ---- the parts of a place in a run

-- how many places of a run have the same first n digits
abbrev pub weight : List ℕ → ℕ → ℕ
weight ob n = product (drop n (local_bases ob))

pub HasDigits-local : (set : PieceSet) (s : Setup) (ob : List ℕ) → IsPositionOfSet set s → on_board s ≡ ob → HasDigits (local_bases ob) (local_digits s)
HasDigits-local set s ob p is =
    subst (λ (xs : List ℕ). HasDigits (local_bases xs) (local_digits s)) is (HasDigits-digits set s (HasParts-from_position set s p)).1.1.1.1.1

pub local_of-digits : (s : Setup) → local_of s ≡ number_of (local_bases (on_board s)) (local_digits s)
unfolding local_of
local_of-digits s = refl

first_part : (set : PieceSet) (s : Setup) (ob : List ℕ) (n : ℕ) → IsPositionOfSet set s → on_board s ≡ ob →
    local_of s / weight ob n ≡ number_of (take n (local_bases ob)) (take n (local_digits s))
first_part set s ob n p is =
    ap (λ (x : ℕ). x / weight ob n) (local_of-digits s ∙ ap (λ (xs : List ℕ). number_of (local_bases xs) (local_digits s)) is)
    ∙ first_digits (local_bases ob) (local_digits s) n (HasDigits-local set s ob p is)

-- Places that have the same first digits have images with the same first digits.
image_part : (set : PieceSet) (p q : Setup) (ob : List ℕ) (n : ℕ) → ArePair set p q → on_board p ≡ ob →
    local_of p / weight ob n ≡ local_of q / weight ob n → local_of (mirrored p) / weight ob n ≡ local_of (mirrored q) / weight ob n
image_part set p q ob n two is same =
    let is_q : on_board q ≡ ob = sym two.on_board_is ∙ is in
    let taken : take n (local_digits p) ≡ take n (local_digits q) =
    same_digits (take n (local_bases ob)) (take n (local_digits p)) (take n (local_digits q))
    (HasDigits-take (local_bases ob) (local_digits p) n (HasDigits-local set p ob two.first is))
    (HasDigits-take (local_bases ob) (local_digits q) n (HasDigits-local set q ob two.second is_q))
    (sym (first_part set p ob n two.first is) ∙ same ∙ first_part set q ob n two.second is_q) in
    first_part set (mirrored p) ob n (IsPositionOfSet-mirrored set p two.first) (on_board-mirrored p two.first.legal.squares ∙ is)
    ∙ ap (number_of (take n (local_bases ob))) (image_digits set p q two n taken)
    ∙ sym (first_part set (mirrored q) ob n (IsPositionOfSet-mirrored set q two.second) (on_board-mirrored q two.second.legal.squares ∙ is_q))

-- ---- the position at a spot
pub record IsAtSpot (set : PieceSet) (block run local : ℕ) (s : Setup) : Type 0 where
  pub position : IsPositionOfSet set s
  pub on_board_is : on_board s ≡ digits_of (block_bases set) block
  pub local_is : local_of s ≡ local
  pub lions_are : lions_of s ≡ run % lion_pairs

pub at_spot : (set : PieceSet) (block run local : ℕ) (s : Setup) → local < run_size set block →
    HasBlock set block (run * run_size set block + local) s → IsAtSpot set block run local s
at_spot set block run local s below there =
    let size : local_size s ≡ run_size set block = local_size-block set block s there.position there.block_is in
    let parts = rw size at (sym (place_of-run set s) ∙ there.place_is) in
    let low = rw size at (local_of-below set s there.position) in
    let both = same_from_place (run_of set s) (local_of s) run local (run_size set block) low below parts in
    record {
      position = there.position;
      on_board_is = sym (on_board-block set s there.position) ∙ ap (digits_of (block_bases set)) there.block_is;
      local_is = both.1;
      lions_are = remainder (hand_of set s) (lions_of s) (run_of set s) run both.0 (run_of-lions set s) (lions_of-below set s there.position);
    }

-- its image stands in the same run, where that is mixed
pub image_place : (set : PieceSet) (block run local : ℕ) (s : Setup) → local < run_size set block →
    HasBlock set block (run * run_size set block + local) s → run_kind (run % lion_pairs) ≡ Mixed →
    place_of set (mirrored s) ≡ run * run_size set block + local_of (mirrored s)
image_place set block run local s below there kind =
    let at = at_spot set block run local s below there in
    let lions : lions_of s ≡ image_lions (lions_of s) =
    mixed_lions (lions_of s) (lions_of-below set s at.position) (ap run_kind at.lions_are ∙ kind) in
    let own : place_of set s ≡ (hand_of set s * lion_pairs + lions_of s) * local_size s + local_of s =
    place-parts set s (local_size s) (lions_of s) refl refl in
    let image : place_of set (mirrored s) ≡ (hand_of set s * lion_pairs + lions_of s) * local_size s + local_of (mirrored s) =
    image-parts set s at.position
    ∙ ap (λ n. (hand_of set s * lion_pairs + n) * local_size s + local_of (mirrored s)) (sym lions) in
    moved ((hand_of set s * lion_pairs + lions_of s) * local_size s) (run * run_size set block) (place_of set s) (place_of set (mirrored s)) (local_of s) local
    (local_of (mirrored s)) own image there.place_is at.local_is
  where
    moved : (a b own image x y z : ℕ) → own ≡ a + x → image ≡ a + z → own ≡ b + y → x ≡ y → image ≡ b + z
    moved a b own image x y z p q r e = omega arith

-- a place of a mixed run is marked just where its image isn't before it
pub mixed_mark : (set : PieceSet) (block run local : ℕ) (s : Setup) → local < run_size set block →
    HasBlock set block (run * run_size set block + local) s → run_kind (run % lion_pairs) ≡ Mixed →
    marked set (run_start set block run + local) ≡ leb local (local_of (mirrored s))
mixed_mark set block run local s below there kind =
    let place = run * run_size set block + local in
    let image = image_place set block run local s below there kind in
    elim (cases_lt (local_of (mirrored s)) local) [
      | inl lt ↦ mark_of_spot set block run local false
          (unmarked_by_place set block place (run * run_size set block + local_of (mirrored s)) s (mirrored s) there refl (sym image) (omega arith))
          ∙ sym (lt-leb local (local_of (mirrored s)) lt)
      | inr ge ↦ mark_of_spot set block run local true
          (marked_by_place set block place (run * run_size set block + local_of (mirrored s)) s (mirrored s) there refl (sym image) (omega arith))
          ∙ sym (le-leb local (local_of (mirrored s)) ge)
    ]

-- ---- what one place says of others
quotient-rises : (a b w : ℕ) → a ≤ b → a / w ≤ b / w
quotient-rises a b zero le = omega arith
quotient-rises a b (suc w) le = grind (arith, le-div)

-- numbers whose quotients differ stand as those
pub decided : (x mx y my w : ℕ) → (x / w ≡ mx / w → ⊥) → y / w ≡ x / w → my / w ≡ mx / w → leb y my ≡ leb x mx
decided x mx y my w apart e f = grind (arith, quotient-rises)

-- where the image of a place differs from it in the first n digits, all places with these digits have its mark
pub same_mark : (set : PieceSet) (block run local other : ℕ) (s t : Setup) (n : ℕ) → IsInRun set block run local → run_kind (run % lion_pairs) ≡ Mixed →
    HasBlock set block (run * run_size set block + local) s → t ≡ mirrored s → other ≡ local_of t →
    (local / weight (digits_of (block_bases set) block) n ≡ other / weight (digits_of (block_bases set) block) n → ⊥) →
    (k : ℕ) → k < run_size set block → k / weight (digits_of (block_bases set) block) n ≡ local / weight (digits_of (block_bases set) block) n →
    marked set (run_start set block run + k) ≡ leb local other
same_mark set block run local other s t n in_run kind there image other_is apart k below same =
    let ob = digits_of (block_bases set) block in
    let w = weight ob n in
    let here : IsInRun set block run k = record { block_below = in_run.block_below; run_below = in_run.run_below; local_below = below } in
    let q = setup_in set block (run * run_size set block + k) in
    let there_q : HasBlock set block (run * run_size set block + k) q =
    HasBlock-setup_in set block (run * run_size set block + k)
    (record { block_below = in_run.block_below; place_below = place_in_run set block run k here }) in
    let at = at_spot set block run local s in_run.local_below there in
    let at_q = at_spot set block run k q below there_q in
    let two : ArePair set s q = record {
      first = at.position;
      second = at_q.position;
      on_board_is = at.on_board_is ∙ sym at_q.on_board_is;
      lions_are = at.lions_are ∙ sym at_q.lions_are;
    } in
    let parts : local_of (mirrored s) / w ≡ local_of (mirrored q) / w =
    image_part set s q ob n two at.on_board_is
    (ap (λ x. x / w) at.local_is ∙ sym same ∙ ap (λ x. x / w) (sym at_q.local_is)) in
    let found : other ≡ local_of (mirrored s) = other_is ∙ ap local_of image in
    mixed_mark set block run k q below there_q kind
    ∙ decided local other k (local_of (mirrored q)) w apart same (sym parts ∙ ap (λ x. x / w) (sym found))

-- ---- a stretch of places

-- what the image of one place says of the places from there on
pub record IsStretchFrom (set : PieceSet) (block run local end : ℕ) (on : Bool) : Type 0 where
  pub some : local < end
  pub within : end ≤ run_size set block
  pub marks : (k : ℕ) → local ≤ k → k < end → local_marks set block run k ≡ on

pub run_size-bases : (set : PieceSet) (block : ℕ) → run_size set block ≡ product (local_bases (digits_of (block_bases set) block))
unfolding run_size
run_size-bases set block = refl

end_after : (local w : ℕ) → 0 < w → local < (local / w + 1) * w
end_after local w some = grind (arith, mod_below)

end_within : (local w p : ℕ) → 0 < w → local < p * w → (local / w + 1) * w ≤ p * w
end_within local w p some below = grind (arith, div_below)

same_quotient : (local w k : ℕ) → 0 < w → local ≤ k → k < (local / w + 1) * w → k / w ≡ local / w
same_quotient local w k some from below = grind (arith, div-mul-add)

pub stretch_told : (set : PieceSet) (block run local other width : ℕ) (bs : List ℕ) (s t : Setup) → IsInRun set block run local →
    run_kind (run % lion_pairs) ≡ Mixed → HasBlock set block (run * run_size set block + local) s → t ≡ mirrored s → other ≡ local_of t →
    bs ≡ local_bases (digits_of (block_bases set) block) → IsWidth bs local other width →
    IsStretchFrom set block run local ((local / width + 1) * width) (leb local other)
stretch_told set block run local other width bs s t in_run kind there image other_is bases_are is =
    let ob = digits_of (block_bases set) block in
    let n = is.digits in
    let width_is : width ≡ weight ob n = is.width_is ∙ ap (λ (xs : List ℕ). product (drop n xs)) bases_are in
    let whole : run_size set block ≡ product (take n (local_bases ob)) * width =
    run_size-bases set block ∙ ap product (sym (take-append-drop n (local_bases ob)))
    ∙ product-append (take n (local_bases ob)) (drop n (local_bases ob))
    ∙ ap (λ w. product (take n (local_bases ob)) * w) (sym width_is) in
    let below : local < product (take n (local_bases ob)) * width = subst (λ m. local < m) whole in_run.local_below in
    let within : (local / width + 1) * width ≤ run_size set block =
    subst (λ m. (local / width + 1) * width ≤ m) (sym whole) (end_within local width (product (take n (local_bases ob))) is.some below) in
    record {
      some = end_after local width is.some;
      within = within;
      marks = λ k from upto. elim is.apart [
        | inl same ↦
            let only : k ≡ local = alone local k width (is.alone same) from upto in
            ap (local_marks set block run) only ∙ mixed_mark set block run local s in_run.local_below there kind
            ∙ ap (leb local) (sym (other_is ∙ ap local_of image))
        | inr apart ↦
            same_mark set block run local other s t n in_run kind there image other_is
            (subst (λ w. local / w ≡ other / w → ⊥) width_is apart) k (omega (arith, upto, within))
            (subst (λ w. k / w ≡ local / w) width_is (same_quotient local width k is.some from upto))
      ];
    }
  where
    alone : (local k width : ℕ) → width ≡ 1 → local ≤ k → k < (local / width + 1) * width → k ≡ local
    alone local k width one from upto =
        let upto' : k < (local / 1 + 1) * 1 = subst (λ w. k < (local / w + 1) * w) one upto in
        omega (arith, from, upto')

-- ---- the hands don't matter

-- runs of the same lions have the same marks
pub marks_by_lions : (set : PieceSet) (block run other local : ℕ) → IsInRun set block run local → IsInRun set block other local →
    run % lion_pairs ≡ other % lion_pairs → run_kind (run % lion_pairs) ≡ Mixed → local_marks set block run local ≡ local_marks set block other local
marks_by_lions set block run other local here there lions kind =
    let p = setup_in set block (run * run_size set block + local) in
    let q = setup_in set block (other * run_size set block + local) in
    let at_p : HasBlock set block (run * run_size set block + local) p =
    HasBlock-setup_in set block (run * run_size set block + local)
    (record { block_below = here.block_below; place_below = place_in_run set block run local here }) in
    let at_q : HasBlock set block (other * run_size set block + local) q =
    HasBlock-setup_in set block (other * run_size set block + local)
    (record { block_below = there.block_below; place_below = place_in_run set block other local there }) in
    let spot_p = at_spot set block run local p here.local_below at_p in
    let spot_q = at_spot set block other local q there.local_below at_q in
    let ob = digits_of (block_bases set) block in
    let two : ArePair set p q = record {
      first = spot_p.position;
      second = spot_q.position;
      on_board_is = spot_p.on_board_is ∙ sym spot_q.on_board_is;
      lions_are = spot_p.lions_are ∙ lions ∙ sym spot_q.lions_are;
    } in
    let parts : local_of (mirrored p) / 1 ≡ local_of (mirrored q) / 1 =
    image_part set p q ob 6 two spot_p.on_board_is (ap (λ n. n / 1) (spot_p.local_is ∙ sym spot_q.local_is)) in
    mixed_mark set block run local p here.local_below at_p kind
    ∙ ap (leb local) (once (local_of (mirrored p)) (local_of (mirrored q)) parts)
    ∙ sym (mixed_mark set block other local q there.local_below at_q (ap run_kind (sym lions) ∙ kind))
  where
    once : (a b : ℕ) → a / 1 ≡ b / 1 → a ≡ b
    once a b e = omega (arith, e)

pub local_bases-positive : (set : PieceSet) (block : ℕ) → block < product (block_bases set) →
    All (λ (b : ℕ). 0 < b) (local_bases (digits_of (block_bases set) block))
local_bases-positive set block within =
    let ob = digits_of (block_bases set) block in
    positive_locals set ob (AreBases-by set ob (bases_by set ob) (few_in_block set block within) refl).positive
