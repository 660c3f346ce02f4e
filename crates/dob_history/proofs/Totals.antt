-- How many copies a class's moves have in all: one each. Before anything is settled they know nothing.
use Rattle.dob_history.proofs.Common.{◌&&◌, ◌+◌, ◌<◌, ◌∙◌, ◌∷◌, ◌≡◌, All, All-contains_itself, All-head, All-tail, AreMoves-moves_of, Contains}
use Rattle.dob_history.proofs.Common.{Contains-append_right, Draw, Family, HasClasses-classes_of, HasStatus, Item, List, Loss, Move, None, Open, RepresentsClass}
use Rattle.dob_history.proofs.Common.{Settlement, Setup, SumsUp, Value, [], all_known, and_right, ap, arith, class_number, class_setup, class_setup_is}
use Rattle.dob_history.proofs.Common.{classes_of, cond, copies, count_by, counted, each_below, eqb, false, false≢true, head_in, is_draw, is_win_in, items_to}
use Rattle.dob_history.proofs.Common.{known, last_now, le-ltb, length, length-append, lt-ltb, ltb, moves_keep_the_family, moves_of, nat_tests, not_draw_loss}
use Rattle.dob_history.proofs.Common.{owner_of, predecessors, refl, suc, sym, times-predecessors, zero, ℕ}
use Rattle.std.proofs.lemmas.List.Sums.{sum_by-cons}
use Rattle.dob_pieces.specs.Setups.{turned}
use Rattle.dob_pieces.proofs.Lists.{length-each}
use Rattle.dob_moves.specs.Outcomes.{moved}
use Rattle.dob_moves.proofs.ProfileMoves.{Goes-moved}
use Rattle.dob_rank.specs.Numbers.{sum_below}
use Rattle.dob_lists.proofs.Sums.{sum_same}
use Rattle.dob_classes.proofs.OfFamilies.FamilyNumbers.{class_number-below}
use Rattle.dob_unmove.specs.Edges.{edges}
use Rattle.dob_history.proofs.Copies.{known_by}

-- ---- each move leads into one class
sum_below-none : (n : ℕ) → sum_below (λ _. 0) n ≡ 0
sum_below-none zero = refl
sum_below-none (suc n) = let before = sum_below-none n in omega arith

sum_below-both : (f g : ℕ → ℕ) (n : ℕ) → sum_below (λ k. f k + g k) n ≡ sum_below f n + sum_below g n
sum_below-both f g zero = refl
sum_below-both f g (suc n) = grind (arith, sum_below-both f g n)

place_below : (k n : ℕ) → sum_below (λ j. cond (eqb k j) 1 0) n ≡ cond (ltb k n) 1 0
place_below k zero = grind (arith, nat_tests)
place_below k (suc n) = grind (arith, nat_tests, place_below k n)

in_all_places : {X : Type 0} (f : X → ℕ) (n : ℕ) (xs : List X) → All (λ x. f x < n) xs →
    sum_below (λ k. count_by (λ x. eqb (f x) k) xs) n ≡ length xs
in_all_places f n [] below = sum_below-none n
in_all_places f n (x ∷ xs) below =
    let here : sum_below (λ k. cond (eqb (f x) k) 1 0) n ≡ 1 =
    place_below (f x) n ∙ ap (λ b. cond b 1 0) (lt-ltb (f x) n (All-head (λ y. f y < n) x xs below)) in
    let rest = in_all_places f n xs (All-tail (λ y. f y < n) x xs below) in
    let parts = sum_same (λ k. count_by (λ y. eqb (f y) k) (x ∷ xs)) (λ k. cond (eqb (f x) k) 1 0 + count_by (λ y. eqb (f y) k) xs) n
    (λ k low. sum_by-cons (λ y. cond (eqb (f y) k) 1 0) x xs) in
    let sums = sum_below-both (λ k. cond (eqb (f x) k) 1 0) (λ k. count_by (λ y. eqb (f y) k) xs) n in
    omega arith

length-row : (f : ℕ → Value) (n : ℕ) → length (each_below (λ (k : ℕ). f k ∷ []) n) ≡ n
length-row f zero = refl
length-row f (suc n) = omega (arith, length-row f n, length-append (each_below (λ (k : ℕ). f k ∷ []) n) (f n ∷ []))

module _ (family : Family) (p : ℕ) (low : p < classes_of family) where
  abbrev setup : Setup
  setup = class_setup family p

  represents : RepresentsClass family setup p
  represents = class_setup_is family p (classes_of family) (HasClasses-classes_of family) low

  lead_within : All (λ (m : Move). class_number family (turned (moved setup m)) < classes_of family) (moves_of family.profile setup)
  lead_within = λ k d below.
      let are = AreMoves-moves_of family.profile setup represents.0.0.of_set.legal.squares in
      let is = are.sound _ (All-contains_itself (moves_of family.profile setup) k d below) in
      class_number-below family _ (moves_keep_the_family family setup _ _ represents.0.0 is.0 (Goes-moved family.profile setup _ is.1))

  edges-all : sum_below (λ q. edges family p q) (classes_of family) ≡ length (moves_of family.profile setup)
  unfolding edges
  edges-all = in_all_places (λ (m : Move). class_number family (turned (moved setup m))) (classes_of family) (moves_of family.profile setup) lead_within

  copies-edges : (q : ℕ) → q < classes_of family → copies (predecessors family) p q ≡ edges family p q
  copies-edges q below =
      times-predecessors family (class_setup family q) q (class_setup_is family q (classes_of family) (HasClasses-classes_of family) below) p low

  -- there is a copy for each move
  pub length-all_known : (n : ℕ) (histories : ℕ → List Settlement) (applied : ℕ → List Item) →
      length (all_known (predecessors family) (classes_of family) n histories applied p) ≡ length (moves_of family.profile setup)
  unfolding all_known
  length-all_known n histories applied =
      let row : ℕ → List Value =
      λ q. each_below (λ (copy : ℕ). known (histories (owner_of n q)) (applied (owner_of n q)) p q copy ∷ []) (copies (predecessors family) p q) in
      length-each row (classes_of family)
      ∙ sum_same (λ q. length (row q)) (λ q. edges family p q) (classes_of family)
      (λ q below. length-row (λ copy. known (histories (owner_of n q)) (applied (owner_of n q)) p q copy) (copies (predecessors family) p q)
      ∙ copies-edges q below)
      ∙ edges-all

  -- an open class has a copy at least
  pub some_known : (n : ℕ) (histories : ℕ → List Settlement) (applied : ℕ → List Item) → HasStatus family.profile setup Open →
      0 < length (all_known (predecessors family) (classes_of family) n histories applied p)
  some_known n histories applied is_open =
      let are = AreMoves-moves_of family.profile setup represents.0.0.of_set.legal.squares in
      let there = are.whole is_open.2.0 is_open is_open.2.1 in
      let below : there.0 < length (moves_of family.profile setup) = there.1 in
      let whole = length-all_known n histories applied in
      omega arith

-- ---- before anything is applied
knows_nothing : (p q copy : ℕ) (ss : List Settlement) → known ss [] p q copy ≡ Draw
knows_nothing p q copy [] = refl
knows_nothing p q copy (s ∷ ss) =
    ap (λ b. last_now (λ r. eqb r.class q && ltb copy (items_to [] r.number p)) (cond b s.now Draw) ss)
    (and_right (eqb s.class q) (ltb copy 0) (le-ltb copy 0 (omega arith)))
    ∙ knows_nothing p q copy ss

all_draws : (targets : ℕ → List ℕ) (classes n : ℕ) (histories : ℕ → List Settlement) (applied : ℕ → List Item) (p : ℕ) →
    ((i : ℕ) → applied i ≡ []) → (v : Value) → Contains (all_known targets classes n histories applied p) v → v ≡ Draw
all_draws targets classes n histories applied p none v there =
    let at = known_by targets classes n histories applied p v there in
    sym at.4 ∙ ap (λ items. known (histories (owner_of n at.0)) items p at.0 at.2) (none (owner_of n at.0))
    ∙ knows_nothing p at.0 at.2 (histories (owner_of n at.0))

count_draws : (xs : List Value) → ((v : Value) → Contains xs v → v ≡ Draw) → count_by is_draw xs ≡ length xs
count_draws [] draws = refl
count_draws (x ∷ xs) draws =
    let rest = count_draws xs (λ v there. draws v (Contains-append_right (x ∷ []) xs v there)) in
    rw (draws x (head_in x xs)) (grind (arith, sum_by-cons (λ v. cond {A = ℕ} (is_draw v) 1 0) Draw xs, rest))

no_wins : (xs : List Value) (plies count : ℕ) → ((v : Value) → Contains xs v → v ≡ Draw) → count ≡ count_by (λ v. is_win_in plies v) xs → 0 ≡ count
no_wins xs plies zero draws is = refl
no_wins xs plies (suc count) draws is =
    let found = counted (λ v. is_win_in plies v) xs (omega arith) in
    let drawn : false ≡ is_win_in plies found.0 = ap (is_win_in plies) (sym (draws found.0 found.1)) in
    absurd (false≢true (drawn ∙ found.2))

-- a cell with all moves left sums up what is known before anything is applied
pub start_sums : (family : Family) (p : ℕ) → p < classes_of family → (n : ℕ) (histories : ℕ → List Settlement) (applied : ℕ → List Item) →
    ((i : ℕ) → applied i ≡ []) →
    SumsUp (all_known (predecessors family) (classes_of family) n histories applied p)
    (record { left = length (moves_of family.profile (class_setup family p)); wins = λ _. 0; least = None })
start_sums family p low n histories applied none =
    let known_list = all_known (predecessors family) (classes_of family) n histories applied p in
    let draws = all_draws (predecessors family) (classes_of family) n histories applied p none in
    record {
      left = sym (count_draws known_list draws ∙ length-all_known family p low n histories applied);
      wins = λ plies. no_wins known_list plies (count_by (λ v. is_win_in plies v) known_list) draws refl;
      least = λ plies there. not_draw_loss plies (sym (draws (Loss plies) there));
    }
