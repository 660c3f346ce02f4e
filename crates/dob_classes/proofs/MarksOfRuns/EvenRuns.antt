-- In a run whose lions stand on column b the positions that are their own mirror image are counted digit by digit; the representatives are half of these and of all.
use Rattle.dob_classes.proofs.Common.{◌%◌, ◌&&◌, ◌*◌, ◌+◌, ◌-◌, ◌<◌, ◌^◌, ◌∙◌, ◌∷◌, ◌≡◌, ◌≤◌, Bool, List, [], ap, arith, eqb, false, inl, inr}
use Rattle.dob_classes.proofs.Common.{length, map, refl, slice_index, subst, suc, sym, true, ℕ, cases_eq, eq-eqb, ne_eqb, length-map}
use Rattle.dob_classes.proofs.Common.{same_from_place, one_if, Family, Profile, PieceSet, Setup, IsAllowed-mirrored, mirrored-mirrored, mirrored}
use Rattle.dob_classes.proofs.Common.{HasParts-from_position, hide_all, IsPositionOfSet-mirrored, HasBlock-setup_in, HasBlock, HasDigits, block_bases}
use Rattle.dob_classes.proofs.Common.{board_of, choice, choose, count, digits_of, forms_number, free_squares, layer, nth}
use Rattle.dob_classes.proofs.Common.{number_of, on_board, product, rank_of_set, settle, setup_in, sum_below, IsPositionOfSet, IsInRun, lion_pairs}
use Rattle.dob_classes.proofs.Common.{lions_of, local_bases, run_kind, run_start, runs_in, local_of, run_size, are_allowed, may_have, Mixed, is_there, local_marks}
use Rattle.dob_classes.proofs.Common.{local_digits, rank_of_set-same, Cell, AreFewOnBoard-digits, HasDigits-numbers}
use Rattle.dob_classes.proofs.Common.{run_size_in}
use Rattle.dob_rank.specs.Marks.{marks_below}
use Rattle.dob_rank.specs.Families.{is_present}
use Rattle.std.proofs.Math.Nat.{mul_assoc, mul_comm, mod-eq_of_lt}
use Rattle.dob_pieces.proofs.Boards.{length-mirrored}
use Rattle.dob_pieces.specs.Profiles.{is_allowed}
use Rattle.dob_lists.proofs.Images.{HasImages, how_many, is_first_of, is_own_image, half, sum_none}
use Rattle.dob_lists.proofs.Sums.{sum_blocks, sum_same, sum_times}
use Rattle.dob_rank.proofs.Arithmetic.MixedRadix.{number_of-below}
use Rattle.dob_rank.proofs.Boards.FormDigits.{AreLayers-map, forms_number-below, forms_number-board_of, layers-board_of}
use Rattle.dob_rank.proofs.Boards.LayerCounts.{IsStage, next_stage}
use Rattle.dob_rank.proofs.Boards.Settled.{AreLayers, hide, hide-hide, settle-choice, choice_hide_next}
use Rattle.dob_rank.proofs.Positions.Digits.{lions_back}
use Rattle.dob_rank.proofs.Positions.Numbering.{nth-rank_of_set, rank_of_set-block}
use Rattle.dob_rank.proofs.OfFamilies.RunPresent.{allowed_by_digits}
use Rattle.dob_rank.proofs.ProfileB.LionBoards.{lion_board}
use Rattle.dob_rank.proofs.InRuns.Lions.{lions_layers, lions_layers-of, HasPair-from_position, mirror_layers}
use Rattle.dob_rank.proofs.InRuns.RunPlaces.{place_in_run, run_start-is, local_of-below, local_size-mirrored, local_size-block, block_of-mirrored}
use Rattle.dob_rank.proofs.InRuns.RunPlaces.{on_board-mirrored}
use Rattle.dob_rank.proofs.InRuns.EvenChoices.{is_even, middles, pairs}
use Rattle.dob_rank.proofs.InRuns.EvenForms.{even_board, giraffes_sum, image_form, image_form_under, layers_shown, others_even, others_sum, own_forms}
use Rattle.dob_rank.proofs.InRuns.EvenChicks.{chick_choices, chick_forms, lion_layers_told}
use Rattle.dob_rank.specs.EvenWays.{even_ways, others_after}
use Rattle.dob_classes.proofs.MarksOfRuns.FamilyMarks.{marks_of_some, run_marks}
use Rattle.dob_classes.proofs.MarksOfRuns.MixedRuns.{at_spot, forms_shown, HasDigits-local, image_choice, image_forms, image_place, IsAtSpot, local_of-digits}
use Rattle.dob_classes.proofs.MarksOfRuns.MixedRuns.{mirror_cells, mixed_mark, run_size-bases, same_digits, same_shown, shown_mirror}

-- ---- sums over numbers in mixed radix, digit by digit
abbrev nested : (List ℕ → ℕ) → List ℕ → ℕ
nested h [] = h []
nested h (b ∷ bs) = sum_below (λ d. nested (λ ds. h (d ∷ ds)) bs) b

nested_same : (h g : List ℕ → ℕ) (bs : List ℕ) → ((ds : List ℕ) → HasDigits bs ds → h ds ≡ g ds) → nested h bs ≡ nested g bs
nested_same h g [] same = same [] tt
nested_same h g (b ∷ bs) same =
    sum_same (λ d. nested (λ ds. h (d ∷ ds)) bs) (λ d. nested (λ ds. g (d ∷ ds)) bs) b
    (λ d low. nested_same (λ ds. h (d ∷ ds)) (λ ds. g (d ∷ ds)) bs (λ ds has. same (d ∷ ds) (low, has)))

sum_digits : (f : ℕ → ℕ) (bs : List ℕ) → sum_below f (product bs) ≡ nested (λ ds. f (number_of bs ds)) bs
sum_digits f [] = (let one : 0 + f 0 ≡ f 0 = omega arith in one)
sum_digits f (b ∷ bs) =
    ap (sum_below f) (let end : b * product bs ≡ b * product bs + 0 = omega arith in end)
    ∙ sum_blocks f (product bs) b 0
    ∙ (let last : sum_below (λ q. sum_below (λ r. f (q * product bs + r)) (product bs)) b + 0
    ≡ sum_below (λ q. sum_below (λ r. f (q * product bs + r)) (product bs)) b = omega arith in last)
    ∙ sum_same (λ q. sum_below (λ r. f (q * product bs + r)) (product bs)) (λ q. nested (λ ds. f (q * product bs + number_of bs ds)) bs) b
    (λ q low. sum_digits (λ r. f (q * product bs + r)) bs)

-- ---- numbers are the same if their digits are
abbrev same_each : List ℕ → List ℕ → Bool
same_each [] [] = true
same_each [] (y ∷ ys) = false
same_each (x ∷ xs) [] = false
same_each (x ∷ xs) (y ∷ ys) = eqb x y && same_each xs ys

two_alike : (n m : ℕ) (x : ℕ) → eqb (x + n) (x + m) ≡ eqb n m
two_alike n m x = elim (cases_eq n m) [
  | inl same ↦ rw (eq-eqb n m same, eq-eqb (x + n) (x + m) (omega (arith, same))) refl
  | inr apart ↦ rw (ne_eqb n m apart, ne_eqb (x + n) (x + m) (λ e. apart (omega (arith, e)))) refl
]

same_place : (x n y m w : ℕ) → n < w → m < w → eqb (x * w + n) (y * w + m) ≡ (eqb x y && eqb n m)
same_place x n y m w low high = elim (cases_eq x y) [
  | inl same ↦ rw (same, eq-eqb y y refl) (two_alike n m (y * w))
  | inr apart ↦ rw (ne_eqb x y apart) (ne_eqb (x * w + n) (y * w + m) (λ e. apart (same_from_place x n y m w low high e).0))
]

same_numbers : (bs xs ys : List ℕ) → HasDigits bs xs → HasDigits bs ys → eqb (number_of bs xs) (number_of bs ys) ≡ same_each xs ys
same_numbers [] [] [] h k = refl
same_numbers (b ∷ bs) (x ∷ xs) (y ∷ ys) h k =
    same_place x (number_of bs xs) y (number_of bs ys) (product bs) (number_of-below bs xs h.1) (number_of-below bs ys k.1)
    ∙ ap (λ (on : Bool). eqb x y && on) (same_numbers bs xs ys h.1 k.1)
same_numbers [] [] (y ∷ ys) h k = absurd k
same_numbers (b ∷ bs) (x ∷ xs) [] h k = absurd k
same_numbers bs xs ys h k = absurd h

-- ---- the layers of a position by its digits
two_few : 2 < 5
two_few = omega arith

three_few : 3 < 5
three_few = omega arith

four_few : 4 < 5
four_few = omega arith

pick : (on : Bool) (x y : ℕ) → (on ≡ true → x ≡ y) → one_if on * x ≡ one_if on * y
pick true x y same = ap (λ (n : ℕ). 1 * n) (same refl)
pick false x y same = omega arith

next_layers : (t : ℕ) (ls rs : List ℕ) (p c : ℕ) → t < 5 → AreLayers ls → count t ls ≡ p → choice t ls ≡ c → hide t ls ≡ rs
    → hide (suc t) ls ≡ settle t p c rs
next_layers t ls rs p c low are pieces chosen same =
    sym (settle-choice t ls low are)
    ∙ ap (λ (n : ℕ). settle t n (choice t ls) (hide t ls)) pieces
    ∙ ap (λ (n : ℕ). settle t p n (hide t ls)) chosen
    ∙ ap (settle t p c) same

even_digit : (t c : ℕ) (s : Setup) (rs : List ℕ) → t < 5 → length s.board ≡ 12 → choice t (map layer s.board) ≡ c → hide (suc t) (map layer s.board) ≡ rs
    → eqb c (choice t (map layer (mirrored s).board)) ≡ is_even t rs
even_digit t c s rs low twelve chosen same =
    ap (λ (n : ℕ). eqb n (choice t (map layer (mirrored s).board)))
    (sym chosen ∙ sym (choice_hide_next t (map layer s.board) low) ∙ ap (choice t) same)
    ∙ ap (eqb (choice t rs)) (image_choice t s low twelve ∙ ap (λ (xs : List ℕ). choice t (mirror_layers xs)) same)

form_digit : (t f : ℕ) (s : Setup) (rs : List ℕ) → t < 5 → length s.board ≡ 12 → forms_number t s.board ≡ f → map layer s.board ≡ rs
    → forms_number t (mirrored s).board ≡ image_form t rs f
form_digit t f s rs low twelve form same =
    image_forms t s low twelve
    ∙ ap (λ (cells : List Cell). forms_number t (mirror_cells cells)) (same_shown t s.board made (sym layers_are) forms_are)
    ∙ sym (ap (forms_number t) (shown_mirror t made long))
    ∙ forms_shown t (mirror_cells made) low
    ∙ ap (λ (n : ℕ). forms_number t (mirror_cells (board_of (λ (l : ℕ). n) (map layer s.board)))) form
    ∙ ap (λ (xs : List ℕ). image_form t xs f) same
  where
    made : List Cell
    made = board_of (λ (l : ℕ). forms_number t s.board) (map layer s.board)

    layers_are : map layer made ≡ map layer s.board
    layers_are = layers-board_of (λ (l : ℕ). forms_number t s.board) (map layer s.board) (AreLayers-map s.board)

    forms_are : forms_number t s.board ≡ forms_number t made
    forms_are = sym (forms_number-board_of (λ (l : ℕ). forms_number t s.board) t (map layer s.board) low (AreLayers-map s.board)
        ∙ mod-eq_of_lt (forms_number-below t s.board))

    long : length made ≡ 12
    long = sym (length-map made layer) ∙ ap length layers_are ∙ length-map s.board layer ∙ twelve

-- ---- what stands at a place of a run, and its mirror image
abbrev pub at_local : PieceSet → ℕ → ℕ → ℕ → Setup
at_local set block run local = setup_in set block (run * run_size set block + local)

abbrev pub image_local : PieceSet → ℕ → ℕ → ℕ → ℕ
image_local set block run local = local_of (mirrored (at_local set block run local))

-- how many positions of the family in the run are their own mirror image
abbrev pub own_images : Family → ℕ → ℕ → ℕ
own_images family block run =
    how_many (is_own_image (image_local family.set block run) (is_there family block run)) (run_size family.set block)

both_ways : (a b : Bool) → (a ≡ true → b ≡ true) → (b ≡ true → a ≡ true) → a ≡ b
both_ways true b there back = sym (there refl)
both_ways false true there back = back refl
both_ways false false there back = refl

allowed_image : (profile : Profile) (s : Setup) → length s.board ≡ 12 → is_allowed profile (mirrored s) ≡ is_allowed profile s
allowed_image profile s twelve =
    both_ways (is_allowed profile (mirrored s)) (is_allowed profile s)
    (λ on. subst (λ (x : Setup). is_allowed profile x ≡ true) (mirrored-mirrored s twelve)
    (IsAllowed-mirrored profile (mirrored s) (length-mirrored s) on))
    (λ on. IsAllowed-mirrored profile s twelve on)

-- what is counted of a place, by its digits
abbrev term_of : Profile → List ℕ → List ℕ → List ℕ → ℕ → ℕ → ℕ → ℕ
term_of profile rs0 rs1 rs2 f0 f1 f2 =
    one_if (are_allowed (may_have profile) 4 2 f0 0 rs0 && (is_even 2 rs0 && (is_even 3 rs1 && (is_even 4 rs2
    && (eqb f0 (image_form 2 rs2 f0) && (eqb f1 (image_form 3 rs2 f1) && (eqb f2 (image_form 4 rs2 f2) && true)))))))

abbrev term : Profile → List ℕ → List ℕ → List ℕ → ℕ
term profile ls ob (c0 ∷ c1 ∷ c2 ∷ f0 ∷ f1 ∷ f2 ∷ []) =
    let rs0 = settle 2 (slice_index ob 0) c0 ls in
    let rs1 = settle 3 (slice_index ob 1) c1 rs0 in
    term_of profile rs0 rs1 (settle 4 (slice_index ob 2) c2 rs1) f0 f1 f2
term profile ls ob ds = 0

joined : (a b c d e f g p q r s t u v : Bool) → a ≡ p → b ≡ q → c ≡ r → d ≡ s → e ≡ t → f ≡ u → g ≡ v
    → one_if (a && (b && (c && (d && (e && (f && (g && true))))))) ≡ one_if (p && (q && (r && (s && (t && (u && (v && true)))))))
joined a b c d e f g p q r s t u v h0 h1 h2 h3 h4 h5 h6 = cc

-- the six digits of a place
record AreDigits (s : Setup) (c0 c1 c2 f0 f1 f2 : ℕ) : Type 0 where
  chicks : choice 2 (map layer s.board) ≡ c0
  elephants : choice 3 (map layer s.board) ≡ c1
  giraffes : choice 4 (map layer s.board) ≡ c2
  chick_forms_are : forms_number 2 s.board ≡ f0
  elephant_forms_are : forms_number 3 s.board ≡ f1
  giraffe_forms_are : forms_number 4 s.board ≡ f2

six_digits : (s : Setup) (c0 c1 c2 f0 f1 f2 : ℕ) → local_digits s ≡ c0 ∷ c1 ∷ c2 ∷ f0 ∷ f1 ∷ f2 ∷ [] → AreDigits s c0 c1 c2 f0 f1 f2
six_digits s c0 c1 c2 f0 f1 f2 are = record {
  chicks = ap (λ (xs : List ℕ). slice_index xs 0) are;
  elephants = ap (λ (xs : List ℕ). slice_index xs 1) are;
  giraffes = ap (λ (xs : List ℕ). slice_index xs 2) are;
  chick_forms_are = ap (λ (xs : List ℕ). slice_index xs 3) are;
  elephant_forms_are = ap (λ (xs : List ℕ). slice_index xs 4) are;
  giraffe_forms_are = ap (λ (xs : List ℕ). slice_index xs 5) are;
}

-- the layers of a position by its digits
record AreLayersBy (s : Setup) (i j k c0 c1 c2 : ℕ) (ls : List ℕ) : Type 0 where
  first : hide 3 (map layer s.board) ≡ settle 2 i c0 ls
  second : hide 4 (map layer s.board) ≡ settle 3 j c1 (settle 2 i c0 ls)
  whole : map layer s.board ≡ settle 4 k c2 (settle 3 j c1 (settle 2 i c0 ls))

layers_by_digits : (s : Setup) (i j k c0 c1 c2 : ℕ) (ls : List ℕ) → hide 2 (map layer s.board) ≡ ls
    → count 2 (map layer s.board) ≡ i → count 3 (map layer s.board) ≡ j → count 4 (map layer s.board) ≡ k
    → choice 2 (map layer s.board) ≡ c0 → choice 3 (map layer s.board) ≡ c1 → choice 4 (map layer s.board) ≡ c2 → AreLayersBy s i j k c0 c1 c2 ls
layers_by_digits s i j k c0 c1 c2 ls under n0 n1 n2 d0 d1 d2 =
    let are = AreLayers-map s.board in
    let one : hide 3 (map layer s.board) ≡ settle 2 i c0 ls = next_layers 2 (map layer s.board) ls i c0 two_few are n0 d0 under in
    let two : hide 4 (map layer s.board) ≡ settle 3 j c1 (settle 2 i c0 ls)
    = next_layers 3 (map layer s.board) (settle 2 i c0 ls) j c1 three_few are n1 d1 one in
    record {
      first = one;
      second = two;
      whole = sym (hide_all (map layer s.board) are)
          ∙ next_layers 4 (map layer s.board) (settle 3 j c1 (settle 2 i c0 ls)) k c2 four_few are n2 d2 two;
    }

-- what a profile allows, by the chicks' digits
allowed_by_chicks : (profile : Profile) (set : PieceSet) (s : Setup) (f0 : ℕ) (rs : List ℕ) → IsPositionOfSet set s
    → forms_number 2 s.board ≡ f0 → hide 3 (map layer s.board) ≡ rs → is_allowed profile s ≡ are_allowed (may_have profile) 4 2 f0 0 rs
allowed_by_chicks profile set s f0 rs p form same =
    let ls = map layer s.board in
    let are = AreLayers-map s.board in
    let parts = HasParts-from_position set s p in
    allowed_by_digits profile set s p
    ∙ ap (λ (xs : List ℕ). are_allowed (may_have profile) 4 2 (forms_number 2 s.board) 0 (settle 2 (count 2 ls) (choice 2 ls) xs))
    (lions_back ls parts.squares are parts.own_lion parts.other_lion)
    ∙ ap (are_allowed (may_have profile) 4 2 (forms_number 2 s.board) 0) (settle-choice 2 ls two_few are ∙ same)
    ∙ ap (λ (f : ℕ). are_allowed (may_have profile) 4 2 f 0 rs) form

own_by_digits : (profile : Profile) (set : PieceSet) (s : Setup) (i j k c0 c1 c2 f0 f1 f2 : ℕ) (ls : List ℕ) → IsPositionOfSet set s
    → AreDigits s c0 c1 c2 f0 f1 f2 → AreLayersBy s i j k c0 c1 c2 ls
    → one_if (is_allowed profile s && same_each (c0 ∷ c1 ∷ c2 ∷ f0 ∷ f1 ∷ f2 ∷ []) (local_digits (mirrored s)))
    ≡ term_of profile (settle 2 i c0 ls) (settle 3 j c1 (settle 2 i c0 ls)) (settle 4 k c2 (settle 3 j c1 (settle 2 i c0 ls))) f0 f1 f2
own_by_digits profile set s i j k c0 c1 c2 f0 f1 f2 ls p has layers =
    let twelve = p.legal.squares in
    let rs2 = settle 4 k c2 (settle 3 j c1 (settle 2 i c0 ls)) in
    let are = AreLayers-map s.board in
    joined _ _ _ _ _ _ _ _ _ _ _ _ _ _
    (allowed_by_chicks profile set s f0 (settle 2 i c0 ls) p has.chick_forms_are layers.first)
    (even_digit 2 c0 s (settle 2 i c0 ls) two_few twelve has.chicks layers.first)
    (even_digit 3 c1 s (settle 3 j c1 (settle 2 i c0 ls)) three_few twelve has.elephants layers.second)
    (even_digit 4 c2 s rs2 four_few twelve has.giraffes (hide_all (map layer s.board) are ∙ layers.whole))
    (ap (eqb f0) (form_digit 2 f0 s rs2 two_few twelve has.chick_forms_are layers.whole))
    (ap (eqb f1) (form_digit 3 f1 s rs2 three_few twelve has.elephant_forms_are layers.whole))
    (ap (eqb f2) (form_digit 4 f2 s rs2 four_few twelve has.giraffe_forms_are layers.whole))

-- the numbers on the board
record AreCounts (s : Setup) (ob : List ℕ) : Type 0 where
  chicks : count 2 (map layer s.board) ≡ slice_index ob 0
  elephants : count 3 (map layer s.board) ≡ slice_index ob 1
  giraffes : count 4 (map layer s.board) ≡ slice_index ob 2

three_counts : (s : Setup) (ob : List ℕ) → on_board s ≡ ob → AreCounts s ob
three_counts s ob are = record {
  chicks = ap (λ (xs : List ℕ). slice_index xs 0) are;
  elephants = ap (λ (xs : List ℕ). slice_index xs 1) are;
  giraffes = ap (λ (xs : List ℕ). slice_index xs 2) are;
}

own_of_position : (profile : Profile) (set : PieceSet) (s : Setup) (lions : ℕ) (ob : List ℕ) (c0 c1 c2 f0 f1 f2 : ℕ) → IsPositionOfSet set s
    → on_board s ≡ ob → lions_of s ≡ lions → local_digits s ≡ c0 ∷ c1 ∷ c2 ∷ f0 ∷ f1 ∷ f2 ∷ []
    → one_if (is_allowed profile s && same_each (c0 ∷ c1 ∷ c2 ∷ f0 ∷ f1 ∷ f2 ∷ []) (local_digits (mirrored s)))
    ≡ term profile (lions_layers lions) ob (c0 ∷ c1 ∷ c2 ∷ f0 ∷ f1 ∷ f2 ∷ [])
own_of_position profile set s lions ob c0 c1 c2 f0 f1 f2 p on_board_is lions_are digits_are =
    let has = six_digits s c0 c1 c2 f0 f1 f2 digits_are in
    let counts = three_counts s ob on_board_is in
    let under : hide 2 (map layer s.board) ≡ lions_layers lions
    = sym (lions_layers-of (map layer s.board) (HasPair-from_position set s p)) ∙ ap lions_layers lions_are in
    own_by_digits profile set s (slice_index ob 0) (slice_index ob 1) (slice_index ob 2) c0 c1 c2 f0 f1 f2 (lions_layers lions) p has
    (layers_by_digits s (slice_index ob 0) (slice_index ob 1) (slice_index ob 2) c0 c1 c2 (lions_layers lions) under counts.chicks counts.elephants
    counts.giraffes has.chicks has.elephants has.giraffes)

number_of_digits : (s : Setup) (ob : List ℕ) → on_board s ≡ ob → local_of s ≡ number_of (local_bases ob) (local_digits s)
number_of_digits s ob is = local_of-digits s ∙ ap (λ (xs : List ℕ). number_of (local_bases xs) (local_digits s)) is

module _ (family : Family) (block run : ℕ) (within : block < product (block_bases family.set)) (below : run < runs_in family.set block)
    (kind : run_kind (run % lion_pairs) ≡ Mixed) where
  in_run : (local : ℕ) → local < run_size family.set block → IsInRun family.set block run local
  in_run local low = record { block_below = within; run_below = below; local_below = low }

  stands : (local : ℕ) → local < run_size family.set block
      → HasBlock family.set block (run * run_size family.set block + local) (at_local family.set block run local)
  stands local low = HasBlock-setup_in family.set block (run * run_size family.set block + local)
      (record { block_below = within; place_below = place_in_run family.set block run local (in_run local low) })

  spot : (local : ℕ) → local < run_size family.set block → IsAtSpot family.set block run local (at_local family.set block run local)
  spot local low = at_spot family.set block run local (at_local family.set block run local) low (stands local low)

  image_low : (local : ℕ) → local < run_size family.set block → image_local family.set block run local < run_size family.set block
  image_low local low =
      let s = at_local family.set block run local in
      let p = (spot local low).position in
      subst (λ (n : ℕ). local_of (mirrored s) < n)
      (local_size-mirrored s p.legal.squares ∙ local_size-block family.set block s p (stands local low).block_is)
      (local_of-below family.set (mirrored s) (IsPositionOfSet-mirrored family.set s p))

  image_stands : (local : ℕ) → local < run_size family.set block
      → at_local family.set block run (image_local family.set block run local) ≡ mirrored (at_local family.set block run local)
  image_stands local low =
      let s = at_local family.set block run local in
      let p = (spot local low).position in
      let there = stands (image_local family.set block run local) (image_low local low) in
      let image : HasBlock family.set block (run * run_size family.set block + image_local family.set block run local) (mirrored s) = record {
        position = IsPositionOfSet-mirrored family.set s p;
        block_is = block_of-mirrored family.set s p ∙ (stands local low).block_is;
        place_is = image_place family.set block run local s low (stands local low) kind;
      } in
      rank_of_set-same family.set (at_local family.set block run (image_local family.set block run local)) (mirrored s) there.position image.position
      (rank_of_set-block family.set block (run * run_size family.set block + image_local family.set block run local) _ there
      ∙ sym (rank_of_set-block family.set block (run * run_size family.set block + image_local family.set block run local) _ image))

  -- a place is one of the family's where the profile allows what stands there
  allowed_there : (local : ℕ) → local < run_size family.set block
      → is_there family block run local ≡ is_allowed family.profile (at_local family.set block run local)
  unfolding is_present
  allowed_there local low =
      let s = at_local family.set block run local in
      let at = rank_of_set-block family.set block (run * run_size family.set block + local) s (stands local low) in
      let start = run_start-is family.set block run in
      let rank : rank_of_set family.set s ≡ run_start family.set block run + local = omega (arith, at, start) in
      ap (is_allowed family.profile) (ap (nth family.set) (sym rank) ∙ nth-rank_of_set family.set s (spot local low).position)

  images : HasImages (image_local family.set block run) (is_there family block run) (run_size family.set block)
  images = record {
    turns = record { within = image_low; back = back };
    keeps = keeps;
  }
    where
      back : (local : ℕ) → local < run_size family.set block
          → image_local family.set block run (image_local family.set block run local) ≡ local
      back local low =
          ap (λ (s : Setup). local_of (mirrored s)) (image_stands local low)
          ∙ ap local_of (mirrored-mirrored (at_local family.set block run local) (spot local low).position.legal.squares)
          ∙ (spot local low).local_is

      keeps : (local : ℕ) → local < run_size family.set block
          → is_there family block run (image_local family.set block run local) ≡ is_there family block run local
      keeps local low =
          allowed_there (image_local family.set block run local) (image_low local low)
          ∙ ap (is_allowed family.profile) (image_stands local low)
          ∙ allowed_image family.profile (at_local family.set block run local) (spot local low).position.legal.squares
          ∙ sym (allowed_there local low)

  -- the representatives of the run are half of its positions and of those that are their own mirror image
  pub marks_half : 2 * run_marks family block run ≡ run_size_in family block run + own_images family block run
  unfolding marks_below
  marks_half =
      ap (λ (n : ℕ). 2 * n)
      (sym (marks_of_some (is_there family block run) (local_marks family.set block run) (run_size family.set block) (run_size family.set block) (omega arith))
      ∙ sum_same (λ k. one_if (is_there family block run k && local_marks family.set block run k))
      (λ k. one_if (is_first_of (image_local family.set block run) (is_there family block run) k)) (run_size family.set block)
      (λ k low. ap (λ (on : Bool). one_if (is_there family block run k && on))
      (mixed_mark family.set block run k (at_local family.set block run k) low (stands k low) kind)))
      ∙ half (image_local family.set block run) (is_there family block run) (run_size family.set block) images

  -- ---- digit by digit

  low_in : (ob ds : List ℕ) → ob ≡ digits_of (block_bases family.set) block → HasDigits (local_bases ob) ds
      → number_of (local_bases ob) ds < run_size family.set block
  low_in ob ds ob_is has =
      subst (λ (n : ℕ). number_of (local_bases ob) ds < n)
      (ap (λ (xs : List ℕ). product (local_bases xs)) ob_is ∙ sym (run_size-bases family.set block)) (number_of-below (local_bases ob) ds has)

  own_at : (local : ℕ) (ob : List ℕ) (c0 c1 c2 f0 f1 f2 : ℕ) → local < run_size family.set block → ob ≡ digits_of (block_bases family.set) block
      → HasDigits (local_bases ob) (c0 ∷ c1 ∷ c2 ∷ f0 ∷ f1 ∷ f2 ∷ []) → local ≡ number_of (local_bases ob) (c0 ∷ c1 ∷ c2 ∷ f0 ∷ f1 ∷ f2 ∷ [])
      → one_if (is_own_image (image_local family.set block run) (is_there family block run) local)
      ≡ term family.profile (lions_layers (run % lion_pairs)) ob (c0 ∷ c1 ∷ c2 ∷ f0 ∷ f1 ∷ f2 ∷ [])
  own_at local ob c0 c1 c2 f0 f1 f2 low ob_is has number_is =
      let s = at_local family.set block run local in
      let here = spot local low in
      let on_board_is : on_board s ≡ ob = here.on_board_is ∙ sym ob_is in
      let image_on_board : on_board (mirrored s) ≡ ob = on_board-mirrored s here.position.legal.squares ∙ on_board_is in
      let digits_are : local_digits s ≡ c0 ∷ c1 ∷ c2 ∷ f0 ∷ f1 ∷ f2 ∷ []
      = same_digits (local_bases ob) (local_digits s) (c0 ∷ c1 ∷ c2 ∷ f0 ∷ f1 ∷ f2 ∷ [])
      (HasDigits-local family.set s ob here.position on_board_is) has (sym (number_of_digits s ob on_board_is) ∙ here.local_is ∙ number_is) in
      let own : eqb local (image_local family.set block run local) ≡ same_each (c0 ∷ c1 ∷ c2 ∷ f0 ∷ f1 ∷ f2 ∷ []) (local_digits (mirrored s))
      = ap (λ (n : ℕ). eqb n (image_local family.set block run local)) number_is
      ∙ ap (eqb (number_of (local_bases ob) (c0 ∷ c1 ∷ c2 ∷ f0 ∷ f1 ∷ f2 ∷ []))) (number_of_digits (mirrored s) ob image_on_board)
      ∙ same_numbers (local_bases ob) (c0 ∷ c1 ∷ c2 ∷ f0 ∷ f1 ∷ f2 ∷ []) (local_digits (mirrored s)) has
      (HasDigits-local family.set (mirrored s) ob (IsPositionOfSet-mirrored family.set s here.position) image_on_board) in
      ap (λ (on : Bool). one_if (on && eqb local (image_local family.set block run local))) (allowed_there local low)
      ∙ ap (λ (on : Bool). one_if (is_allowed family.profile s && on)) own
      ∙ own_of_position family.profile family.set s (run % lion_pairs) ob c0 c1 c2 f0 f1 f2 here.position on_board_is here.lions_are digits_are

  own_term : (ob ds : List ℕ) → ob ≡ digits_of (block_bases family.set) block → HasDigits (local_bases ob) ds
      → one_if (is_own_image (image_local family.set block run) (is_there family block run) (number_of (local_bases ob) ds))
      ≡ term family.profile (lions_layers (run % lion_pairs)) ob ds
  own_term ob (c0 ∷ c1 ∷ c2 ∷ f0 ∷ f1 ∷ f2 ∷ []) ob_is has =
      own_at (number_of (local_bases ob) (c0 ∷ c1 ∷ c2 ∷ f0 ∷ f1 ∷ f2 ∷ [])) ob c0 c1 c2 f0 f1 f2 (low_in ob (c0 ∷ c1 ∷ c2 ∷ f0 ∷ f1 ∷ f2 ∷ []) ob_is has)
      ob_is has refl
  own_term ob [] ob_is has = absurd has
  own_term ob (c0 ∷ []) ob_is has = absurd has.1
  own_term ob (c0 ∷ c1 ∷ []) ob_is has = absurd has.1.1
  own_term ob (c0 ∷ c1 ∷ c2 ∷ []) ob_is has = absurd has.1.1.1
  own_term ob (c0 ∷ c1 ∷ c2 ∷ f0 ∷ []) ob_is has = absurd has.1.1.1.1
  own_term ob (c0 ∷ c1 ∷ c2 ∷ f0 ∷ f1 ∷ []) ob_is has = absurd has.1.1.1.1.1
  own_term ob (c0 ∷ c1 ∷ c2 ∷ f0 ∷ f1 ∷ f2 ∷ d ∷ ds) ob_is has = absurd has.1.1.1.1.1.1

  own_digits : (ob : List ℕ) → ob ≡ digits_of (block_bases family.set) block
      → own_images family block run ≡ nested (term family.profile (lions_layers (run % lion_pairs)) ob) (local_bases ob)
  own_digits ob ob_is =
      ap (how_many (is_own_image (image_local family.set block run) (is_there family block run)))
      (run_size-bases family.set block ∙ ap (λ (xs : List ℕ). product (local_bases xs)) (sym ob_is))
      ∙ sum_digits (λ k. one_if (is_own_image (image_local family.set block run) (is_there family block run) k)) (local_bases ob)
      ∙ nested_same (λ ds. one_if (is_own_image (image_local family.set block run) (is_there family block run) (number_of (local_bases ob) ds)))
      (term family.profile (lions_layers (run % lion_pairs)) ob) (local_bases ob) (λ ds has. own_term ob ds ob_is has)

-- ---- the sum over the forms
products : (a b c d e f : ℕ) → a ≡ d → b ≡ e → c ≡ f → a * (b * c) ≡ 1 * (d * (1 * (e * (1 * (f * 1)))))
products a b c d e f p q r = rw (p, q, r) (omega arith)

one_of_more : (a x y z : Bool) → one_if (a && (x && (y && (z && true)))) ≡ one_if (a && x) * (one_if y * one_if z)
one_of_more true true true true = refl
one_of_more true true true false = refl
one_of_more true true false true = refl
one_of_more true true false false = refl
one_of_more true false true true = refl
one_of_more true false true false = refl
one_of_more true false false true = refl
one_of_more true false false false = refl
one_of_more false true true true = refl
one_of_more false true true false = refl
one_of_more false true false true = refl
one_of_more false true false false = refl
one_of_more false false true true = refl
one_of_more false false true false = refl
one_of_more false false false true = refl
one_of_more false false false false = refl

-- forms whose tests don't depend on one another
forms_apart : (a x y z : ℕ → Bool) (n m o : ℕ)
    → sum_below (λ f. sum_below (λ g. sum_below (λ h. one_if (a f && (x f && (y g && (z h && true))))) o) m) n
    ≡ how_many (λ f. a f && x f) n * (how_many y m * how_many z o)
forms_apart a x y z n m o =
    sum_same (λ f. sum_below (λ g. sum_below (λ h. one_if (a f && (x f && (y g && (z h && true))))) o) m)
    (λ f. how_many y m * how_many z o * one_if (a f && x f)) n
    (λ f lf. sum_same (λ g. sum_below (λ h. one_if (a f && (x f && (y g && (z h && true))))) o)
    (λ g. one_if (a f && x f) * how_many z o * one_if (y g)) m
    (λ g lg. sum_same (λ h. one_if (a f && (x f && (y g && (z h && true))))) (λ h. one_if (a f && x f) * one_if (y g) * one_if (z h)) o
    (λ h lh. one_of_more (a f) (x f) (y g) (z h) ∙ sym (mul_assoc (one_if (a f && x f)) (one_if (y g)) (one_if (z h))))
    ∙ sum_times (one_if (a f && x f) * one_if (y g)) (λ h. one_if (z h)) o
    ∙ turned (one_if (a f && x f)) (one_if (y g)) (how_many z o))
    ∙ sum_times (one_if (a f && x f) * how_many z o) (λ g. one_if (y g)) m
    ∙ around (one_if (a f && x f)) (how_many z o) (how_many y m))
    ∙ sum_times (how_many y m * how_many z o) (λ f. one_if (a f && x f)) n
    ∙ mul_comm (how_many y m * how_many z o) (how_many (λ f. a f && x f) n)
  where
    turned : (x y z : ℕ) → x * y * z ≡ x * z * y
    turned x y z = mul_assoc x y z ∙ ap (λ (n : ℕ). x * n) (mul_comm y z) ∙ sym (mul_assoc x z y)

    around : (x y z : ℕ) → x * y * z ≡ z * y * x
    around x y z = mul_comm (x * y) z ∙ ap (λ (n : ℕ). z * n) (mul_comm x y) ∙ sym (mul_assoc z y x)

and_false : (on : Bool) → (on && false) ≡ false
and_false true = refl
and_false false = refl

nothing : (h : ℕ → ℕ → ℕ → ℕ) (n m o : ℕ) → ((f g k : ℕ) → h f g k ≡ 0) → sum_below (λ f. sum_below (λ g. sum_below (h f g) o) m) n ≡ 0
nothing h n m o none =
    sum_none (λ f. sum_below (λ g. sum_below (h f g) o) m) n (λ f lf. sum_none (λ g. sum_below (h f g) o) m
    (λ g lg. sum_none (h f g) o (λ k lk. none f g k)))

forms_gated : (a x y z : ℕ → Bool) (n m o s0 s1 s2 : ℕ) (on0 on1 on2 : Bool) → how_many (λ f. a f && x f) n ≡ s0 → how_many y m ≡ s1 → how_many z o ≡ s2
    → sum_below (λ f. sum_below (λ g. sum_below (λ h. one_if (a f && (on0 && (on1 && (on2 && (x f && (y g && (z h && true)))))))) o) m) n
    ≡ one_if on0 * (s0 * (one_if on1 * (s1 * (one_if on2 * (s2 * 1)))))
forms_gated a x y z n m o s0 s1 s2 true true true e0 e1 e2 = forms_apart a x y z n m o ∙ products _ _ _ s0 s1 s2 e0 e1 e2
forms_gated a x y z n m o s0 s1 s2 false on1 on2 e0 e1 e2 =
    nothing (λ f g h. one_if (a f && false)) n m o (λ f g h. ap one_if (and_false (a f)))
    ∙ (let none : 0 ≡ 0 * (s0 * (one_if on1 * (s1 * (one_if on2 * (s2 * 1))))) = omega arith in none)
forms_gated a x y z n m o s0 s1 s2 true false on2 e0 e1 e2 =
    nothing (λ f g h. one_if (a f && false)) n m o (λ f g h. ap one_if (and_false (a f)))
    ∙ (let none : 0 ≡ 1 * (s0 * (0 * (s1 * (one_if on2 * (s2 * 1))))) = omega arith in none)
forms_gated a x y z n m o s0 s1 s2 true true false e0 e1 e2 =
    nothing (λ f g h. one_if (a f && false)) n m o (λ f g h. ap one_if (and_false (a f)))
    ∙ (let none : 0 ≡ 1 * (s0 * (1 * (s1 * (0 * (s2 * 1))))) = omega arith in none)

-- ---- the sum over the squares

-- the boards of three kinds, one after another
record AreBoards (m i j k c0 c1 c2 : ℕ) (ls : List ℕ) : Type 0 where
  stage1 : IsStage 3 (m - i) (settle 2 i c0 ls)
  stage2 : IsStage 4 (m - i - j) (settle 3 j c1 (settle 2 i c0 ls))
  stage3 : IsStage 5 (m - i - j - k) (settle 4 k c2 (settle 3 j c1 (settle 2 i c0 ls)))
  hide1 : hide 3 (settle 3 j c1 (settle 2 i c0 ls)) ≡ settle 2 i c0 ls
  hide2 : hide 4 (settle 4 k c2 (settle 3 j c1 (settle 2 i c0 ls))) ≡ settle 3 j c1 (settle 2 i c0 ls)
  hide3 : hide 3 (settle 4 k c2 (settle 3 j c1 (settle 2 i c0 ls))) ≡ settle 2 i c0 ls

boards : (m i j k c0 c1 c2 : ℕ) (ls : List ℕ) → IsStage 2 m ls → c0 < choose m i → c1 < choose (m - i) j → c2 < choose (m - i - j) k
    → AreBoards m i j k c0 c1 c2 ls
boards m i j k c0 c1 c2 ls first low0 low1 low2 =
    let one = next_stage 2 i c0 m ls (omega arith) low0 first in
    let two = next_stage 3 j c1 (m - i) (settle 2 i c0 ls) (omega arith) low1 one.stage in
    let three = next_stage 4 k c2 (m - i - j) (settle 3 j c1 (settle 2 i c0 ls)) (omega arith) low2 two.stage in
    record {
      stage1 = one.stage;
      stage2 = two.stage;
      stage3 = three.stage;
      hide1 = two.settled.hide_is;
      hide2 = three.settled.hide_is;
      hide3 = sym (hide-hide 3 4 (settle 4 k c2 (settle 3 j c1 (settle 2 i c0 ls))) (omega arith) (omega arith))
          ∙ ap (hide 3) three.settled.hide_is ∙ two.settled.hide_is;
    }

under_is : (t u f m n : ℕ) (xs ys : List ℕ) → t < u → u < 6 → hide u xs ≡ ys → IsStage 5 m xs → IsStage u n ys → image_form t xs f ≡ image_form t ys f
under_is t u f m n xs ys low high same upper lower =
    let long : length (hide u xs) ≡ 12 = ap length same ∙ lower.long in
    let are : AreLayers (hide u xs) = subst AreLayers (sym same) (layers_shown u ys high lower.shown) in
    image_form_under t u f xs low high upper.long long (layers_shown 5 xs (omega arith) upper.shown) are
    ∙ ap (λ (zs : List ℕ). image_form t zs f) same

-- the forms of one choice of all squares
forms_sum : (profile : Profile) (m i j k c0 c1 c2 : ℕ) (ls : List ℕ) → AreBoards m i j k c0 c1 c2 ls
    → (let rs0 = settle 2 i c0 ls in
    let rs1 = settle 3 j c1 rs0 in
    let rs2 = settle 4 k c2 rs1 in
    sum_below (λ f0. sum_below (λ f1. sum_below (λ f2. term_of profile rs0 rs1 rs2 f0 f1 f2) (2 ^ k)) (2 ^ j)) (4 ^ i)
    ≡ one_if (is_even 2 rs0) * (chick_forms profile rs0 (4 ^ i) * (one_if (is_even 3 rs1) * (own_forms 3 (2 ^ j) rs1
    * (one_if (is_even 4 rs2) * (own_forms 4 (2 ^ k) rs2 * 1))))))
forms_sum profile m i j k c0 c1 c2 ls at =
    let rs0 = settle 2 i c0 ls in
    let rs1 = settle 3 j c1 rs0 in
    let rs2 = settle 4 k c2 rs1 in
    forms_gated (λ f. are_allowed (may_have profile) 4 2 f 0 rs0) (λ f. eqb f (image_form 2 rs2 f)) (λ f. eqb f (image_form 3 rs2 f))
    (λ f. eqb f (image_form 4 rs2 f)) (4 ^ i) (2 ^ j) (2 ^ k) (chick_forms profile rs0 (4 ^ i)) (own_forms 3 (2 ^ j) rs1) (own_forms 4 (2 ^ k) rs2)
    (is_even 2 rs0) (is_even 3 rs1) (is_even 4 rs2)
    (sum_same (λ f. one_if (are_allowed (may_have profile) 4 2 f 0 rs0 && eqb f (image_form 2 rs2 f)))
    (λ f. one_if (are_allowed (may_have profile) 4 2 f 0 rs0 && eqb f (image_form 2 rs0 f))) (4 ^ i)
    (λ f low. ap (λ (n : ℕ). one_if (are_allowed (may_have profile) 4 2 f 0 rs0 && eqb f n))
    (under_is 2 3 f (m - i - j - k) (m - i) rs2 rs0 (omega arith) (omega arith) at.hide3 at.stage3 at.stage1)))
    (sum_same (λ f. one_if (eqb f (image_form 3 rs2 f))) (λ f. one_if (eqb f (image_form 3 rs1 f))) (2 ^ j)
    (λ f low. ap (λ (n : ℕ). one_if (eqb f n))
    (under_is 3 4 f (m - i - j - k) (m - i - j) rs2 rs1 (omega arith) (omega arith) at.hide2 at.stage3 at.stage2)))
    refl

-- a factor that stands before each term
out : (x y : ℕ) (f g : ℕ → ℕ) (n total : ℕ) → ((c : ℕ) → c < n → f c ≡ x * (y * g c)) → sum_below g n ≡ total → sum_below f n ≡ x * (y * total)
out x y f g n total each is =
    sum_same f (λ c. x * y * g c) n (λ c low. each c low ∙ sym (mul_assoc x y (g c))) ∙ sum_times (x * y) g n
    ∙ ap (λ (z : ℕ). x * y * z) is ∙ mul_assoc x y total

-- the sum over all digits
all_sum : (profile : Profile) (i j k : ℕ) (ls : List ℕ) → IsStage 2 free_squares ls
    → nested (term profile ls (i ∷ j ∷ k ∷ [])) (local_bases (i ∷ j ∷ k ∷ []))
    ≡ sum_below (λ c. one_if (is_even 2 (settle 2 i c ls)) * (chick_forms profile (settle 2 i c ls) (4 ^ i) * others_sum j k (settle 2 i c ls)))
    (choose free_squares i)
all_sum profile i j k ls first =
    sum_same (λ c0. sum_below (λ c1. sum_below (λ c2. forms_of c0 c1 c2) (choose (free_squares - i - j) k)) (choose (free_squares - i) j))
    (λ c. one_if (is_even 2 (settle 2 i c ls)) * (chick_forms profile (settle 2 i c ls) (4 ^ i) * others_sum j k (settle 2 i c ls)))
    (choose free_squares i) squares_0
  where
    forms_of : ℕ → ℕ → ℕ → ℕ
    forms_of c0 c1 c2 =
        sum_below (λ f0. sum_below (λ f1. sum_below (λ f2. term_of profile (settle 2 i c0 ls) (settle 3 j c1 (settle 2 i c0 ls))
        (settle 4 k c2 (settle 3 j c1 (settle 2 i c0 ls))) f0 f1 f2) (2 ^ k)) (2 ^ j)) (4 ^ i)

    after : ℕ → ℕ → ℕ → ℕ
    after c0 c1 c2 =
        one_if (is_even 4 (settle 4 k c2 (settle 3 j c1 (settle 2 i c0 ls))))
        * (own_forms 4 (2 ^ k) (settle 4 k c2 (settle 3 j c1 (settle 2 i c0 ls))) * 1)

    -- the squares of the giraffes, of the elephants and of the chicks
    squares_2 : (c0 c1 : ℕ) → c0 < choose free_squares i → c1 < choose (free_squares - i) j
        → sum_below (λ c2. after c0 c1 c2) (choose (free_squares - i - j) k) ≡ giraffes_sum k (settle 3 j c1 (settle 2 i c0 ls))
    squares_2 c0 c1 low0 low1 =
        let one = next_stage 2 i c0 free_squares ls (omega arith) low0 first in
        let two = next_stage 3 j c1 (free_squares - i) (settle 2 i c0 ls) (omega arith) low1 one.stage in
        ap (λ (n : ℕ). sum_below (λ c2. after c0 c1 c2) (choose n k)) (sym two.stage.empty_is)

    squares_1 : (c0 : ℕ) → c0 < choose free_squares i
        → sum_below (λ c1. one_if (is_even 3 (settle 3 j c1 (settle 2 i c0 ls)))
        * (own_forms 3 (2 ^ j) (settle 3 j c1 (settle 2 i c0 ls)) * giraffes_sum k (settle 3 j c1 (settle 2 i c0 ls)))) (choose (free_squares - i) j)
        ≡ others_sum j k (settle 2 i c0 ls)
    squares_1 c0 low0 =
        let one = next_stage 2 i c0 free_squares ls (omega arith) low0 first in
        ap (λ (n : ℕ). sum_below (λ c1. one_if (is_even 3 (settle 3 j c1 (settle 2 i c0 ls)))
        * (own_forms 3 (2 ^ j) (settle 3 j c1 (settle 2 i c0 ls)) * giraffes_sum k (settle 3 j c1 (settle 2 i c0 ls)))) (choose n j)) (sym one.stage.empty_is)

    squares_0 : (c0 : ℕ) → c0 < choose free_squares i
        → sum_below (λ c1. sum_below (λ c2. forms_of c0 c1 c2) (choose (free_squares - i - j) k)) (choose (free_squares - i) j)
        ≡ one_if (is_even 2 (settle 2 i c0 ls)) * (chick_forms profile (settle 2 i c0 ls) (4 ^ i) * others_sum j k (settle 2 i c0 ls))
    squares_0 c0 low0 =
        out (one_if (is_even 2 (settle 2 i c0 ls))) (chick_forms profile (settle 2 i c0 ls) (4 ^ i))
        (λ c1. sum_below (λ c2. forms_of c0 c1 c2) (choose (free_squares - i - j) k))
        (λ c1. one_if (is_even 3 (settle 3 j c1 (settle 2 i c0 ls)))
        * (own_forms 3 (2 ^ j) (settle 3 j c1 (settle 2 i c0 ls)) * giraffes_sum k (settle 3 j c1 (settle 2 i c0 ls))))
        (choose (free_squares - i) j) (others_sum j k (settle 2 i c0 ls))
        (λ c1 low1.
        out (one_if (is_even 2 (settle 2 i c0 ls))) (chick_forms profile (settle 2 i c0 ls) (4 ^ i))
        (λ c2. forms_of c0 c1 c2)
        (λ c2. one_if (is_even 3 (settle 3 j c1 (settle 2 i c0 ls))) * (own_forms 3 (2 ^ j) (settle 3 j c1 (settle 2 i c0 ls)) * after c0 c1 c2))
        (choose (free_squares - i - j) k)
        (one_if (is_even 3 (settle 3 j c1 (settle 2 i c0 ls)))
        * (own_forms 3 (2 ^ j) (settle 3 j c1 (settle 2 i c0 ls)) * giraffes_sum k (settle 3 j c1 (settle 2 i c0 ls))))
        (λ c2 low2. forms_sum profile free_squares i j k c0 c1 c2 ls (boards free_squares i j k c0 c1 c2 ls first low0 low1 low2))
        (out (one_if (is_even 3 (settle 3 j c1 (settle 2 i c0 ls)))) (own_forms 3 (2 ^ j) (settle 3 j c1 (settle 2 i c0 ls)))
        (λ c2. one_if (is_even 3 (settle 3 j c1 (settle 2 i c0 ls))) * (own_forms 3 (2 ^ j) (settle 3 j c1 (settle 2 i c0 ls)) * after c0 c1 c2))
        (λ c2. after c0 c1 c2) (choose (free_squares - i - j) k) (giraffes_sum k (settle 3 j c1 (settle 2 i c0 ls)))
        (λ c2 low2. refl) (squares_2 c0 c1 low0 low1)))
        (squares_1 c0 low0)

even_sums : (profile : Profile) (i j k lions : ℕ) → i ≤ 2 → j ≤ 2 → k ≤ 2 → lions < lion_pairs → run_kind lions ≡ Mixed
    → IsStage 2 free_squares (lions_layers lions)
    → sum_below (λ c. one_if (is_even 2 (settle 2 i c (lions_layers lions)))
    * (chick_forms profile (settle 2 i c (lions_layers lions)) (4 ^ i) * others_sum j k (settle 2 i c (lions_layers lions)))) (choose free_squares i)
    ≡ even_ways profile i j k lions
even_sums profile i j k lions few0 few1 few2 below kind first =
    sum_same _ (λ c. one_if (is_even 2 (settle 2 i c (lions_layers lions)))
    * (chick_forms profile (settle 2 i c (lions_layers lions)) (4 ^ i)
    * others_after j k (middles (settle 2 i c (lions_layers lions))) (pairs (settle 2 i c (lions_layers lions))))) (choose free_squares i) each
    ∙ chick_choices (others_after j k) profile i lions few0 below kind
  where
    each : (c : ℕ) → c < choose free_squares i
        → one_if (is_even 2 (settle 2 i c (lions_layers lions)))
        * (chick_forms profile (settle 2 i c (lions_layers lions)) (4 ^ i) * others_sum j k (settle 2 i c (lions_layers lions)))
        ≡ one_if (is_even 2 (settle 2 i c (lions_layers lions)))
        * (chick_forms profile (settle 2 i c (lions_layers lions)) (4 ^ i)
        * others_after j k (middles (settle 2 i c (lions_layers lions))) (pairs (settle 2 i c (lions_layers lions))))
    each c low =
        let rs = settle 2 i c (lions_layers lions) in
        pick (is_even 2 rs) (chick_forms profile rs (4 ^ i) * others_sum j k rs)
        (chick_forms profile rs (4 ^ i) * others_after j k (middles rs) (pairs rs))
        (λ on. ap (λ (n : ℕ). chick_forms profile rs (4 ^ i) * n)
        (others_even j k rs few1 few2
        (even_board 2 i c (lions_layers lions) two_few (subst (λ (m : ℕ). c < choose m i) (sym first.empty_is) low)
        (lion_layers_told lions below kind).even on)))

pub own_images_are : (family : Family) (block run : ℕ) (ob : List ℕ) → block < product (block_bases family.set) → run < runs_in family.set block
    → run_kind (run % lion_pairs) ≡ Mixed → ob ≡ digits_of (block_bases family.set) block
    → own_images family block run ≡ even_ways family.profile (slice_index ob 0) (slice_index ob 1) (slice_index ob 2) (run % lion_pairs)
own_images_are family block run ob within below kind ob_is =
    let few = AreFewOnBoard-digits family.set ob (HasDigits-numbers family.set block ob within ob_is) in
    let i = slice_index ob 0 in
    let j = slice_index ob 1 in
    let k = slice_index ob 2 in
    let lions : run % lion_pairs < lion_pairs = omega arith in
    let first : IsStage 2 free_squares (lions_layers (run % lion_pairs)) = lion_board run in
    own_digits family block run within below kind ob ob_is
    ∙ all_sum family.profile i j k (lions_layers (run % lion_pairs)) first
    ∙ even_sums family.profile i j k (run % lion_pairs) few.chicks few.elephants few.giraffes lions kind first
