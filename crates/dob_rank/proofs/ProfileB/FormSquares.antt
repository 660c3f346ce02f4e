-- Which forms the chicks of a choice may have, by the squares that it takes.
use Rattle.dob_rank.proofs.Common.{◌%◌, ◌&&◌, ◌+◌, ◌/◌, ◌<◌, ◌^◌, ◌∙◌, ◌∷◌, ◌≡◌, ◌≤◌, Bool, List, [], ap, arith, false, length, refl, subst, suc, sym, true}
use Rattle.dob_rank.proofs.Common.{zero, ℕ, pow-succ', pow-zero, B, choose, count, enemy_squares, free_squares, order, settle, first_place, higher_of, lower_of}
use Rattle.dob_rank.proofs.Common.{past, second_place, lion_pairs, are_allowed, forms_stand, lions_in, may_have, Chicks, Empty, nat_tests, EnemyLion, OwnLion}
use Rattle.dob_rank.proofs.Common.{empty_layers}
use Rattle.std.proofs.Math.ListN.{set}
use Rattle.dob_rank.proofs.Boards.EmptySquares.{empty_place, empty_place-below, settle_none, settle_one, settle_two, choose_one}
use Rattle.dob_rank.proofs.Boards.Placed.{choice_of, lions_stand}
use Rattle.dob_rank.proofs.ProfileB.LionBoards.{lion_board, no_chicks}

-- ---- pieces of a layer on written-out squares
pub allowed_none : (ok : ℕ → ℕ → Bool) (base t n s : ℕ) (ls : List ℕ) → count t ls ≡ 0 → are_allowed ok base t n s ls ≡ true
allowed_none ok base t n s [] none = refl
allowed_none ok base t n s (l ∷ ls) none = grind (arith, nat_tests, allowed_none ok base t n (suc s) ls)

one_set : (t k : ℕ) (ls : List ℕ) → count t ls ≡ 0 → k < length ls → count t (set ls k t) ≡ 1
one_set t k [] none low = absurd (omega (arith, low))
one_set t zero (l ∷ ls) none low = grind (arith, nat_tests)
one_set t (suc k) (l ∷ ls) none low = grind (arith, nat_tests, one_set t k ls)

pub next_square : (s k : ℕ) → suc s + k ≡ s + suc k
next_square s k = omega arith

pub at_start : (s : ℕ) → s + 0 ≡ s
at_start s = omega arith

pub zero_more : (x : ℕ) → 0 + x ≡ x
zero_more x = omega arith

always : (b : Bool) → b && true ≡ b
always true = refl
always false = refl

lowest_digit : (base n c : ℕ) → c ≡ 0 → n / base ^ c % base ≡ n % base
lowest_digit base n c e = grind (arith, pow-zero base)

next_digit : (base n c : ℕ) → c ≡ 1 → n / base ^ c % base ≡ n / base % base
next_digit base n c e = grind (arith, pow-zero base, pow-succ' base 0)

pub allowed_one : (ok : ℕ → ℕ → Bool) (base t n s k : ℕ) (ls : List ℕ) → count t ls ≡ 0 → k < length ls
    → are_allowed ok base t n s (set ls k t) ≡ ok (s + k) (n % base)
allowed_one ok base t n s k [] none low = absurd (omega (arith, low))
allowed_one ok base t n s zero (l ∷ ls) none low =
    grind (arith, nat_tests, lowest_digit base n (count t ls), allowed_none ok base t n (suc s) ls, at_start s, always (ok s (n % base)))
allowed_one ok base t n s (suc k) (l ∷ ls) none low = grind (arith, nat_tests, allowed_one ok base t n (suc s) k ls, next_square s k)

pub allowed_two : (ok : ℕ → ℕ → Bool) (base t n s a b : ℕ) (ls : List ℕ) → count t ls ≡ 0 → a < b → b < length ls
    → are_allowed ok base t n s (set (set ls b t) a t) ≡ ok (s + a) (n / base % base) && ok (s + b) (n % base)
allowed_two ok base t n s a b [] none less low = absurd (omega (arith, low))
allowed_two ok base t n s a zero (l ∷ ls) none less low = absurd (omega (arith, less))
allowed_two ok base t n s zero (suc b) (l ∷ ls) none less low =
    grind (arith, nat_tests, next_digit base n (count t (set ls b t)), one_set t b ls, allowed_one ok base t n (suc s) b ls, next_square s b, at_start s)
allowed_two ok base t n s (suc a) (suc b) (l ∷ ls) none less low =
    grind (arith, nat_tests, allowed_two ok base t n (suc s) a b ls, next_square s a, next_square s b)

-- ---- the squares of a choice where two lions stand

-- the squares that lions of a number leave
abbrev pub left_by : ℕ → ℕ → ℕ
left_by lions k = past (lions / enemy_squares) (past (lions % enemy_squares) k)

digits_for : ℕ → ℕ → List ℕ
digits_for lions c = 0 ∷ 0 ∷ 0 ∷ (lions / enemy_squares) ∷ (lions % enemy_squares) ∷ c ∷ 0 ∷ 0 ∷ 0 ∷ 0 ∷ 0 ∷ []

-- where the squares stand that they leave
record IsLeft (lions : ℕ) (ls : List ℕ) : Type 0 where
  long : length ls ≡ 12
  place_is : (n : ℕ) → n < free_squares → empty_place ls n ≡ left_by lions n

lions_left : (lions chicks c : ℕ) → lions < lion_pairs → chicks ≤ 2 → c < choose free_squares chicks → IsLeft lions (lions_in lions)
unfolding digits_for
lions_left lions chicks c low few below =
    let same : lions % lion_pairs ≡ lions = omega (arith, low) in
    let stand = lions_stand (chicks ∷ 0 ∷ 0 ∷ []) (digits_for lions c) (record {
      chicks = few;
      elephants = omega arith;
      giraffes = omega arith;
      own_lion = omega (arith, low);
      other_lion = omega arith;
      chick_squares = below;
      elephant_squares = omega arith;
      giraffe_squares = omega arith;
    }) in
    subst (IsLeft lions) (sym (ap (λ (m : ℕ). settle (order EnemyLion) 1 (m % enemy_squares) (settle (order OwnLion) 1 (m / enemy_squares) empty_layers)) same))
    (record { long = stand.stage.long; place_is = stand.place_is })

empty_rises : (a b : ℕ) (ls : List ℕ) → a < b → b < count (order Empty) ls → empty_place ls a < empty_place ls b
empty_rises a b [] less low = absurd (omega (arith, low))
empty_rises a zero (l ∷ ls) less low = absurd (omega (arith, less))
empty_rises zero (suc b) (l ∷ ls) less low = grind (arith, nat_tests, empty_rises 0 (suc b) ls)
empty_rises (suc a) (suc b) (l ∷ ls) less low = grind (arith, nat_tests, empty_rises (suc a) (suc b) ls, empty_rises a b ls)

-- the forms that chicks on the squares of a choice may have
pub chick_squares_are : (lions chicks c first second : ℕ) → lions < lion_pairs → chicks ≤ 2 → c < choose free_squares chicks
    → first ≡ past (lions / enemy_squares) (past (lions % enemy_squares) (first_place free_squares chicks c))
    → second ≡ past (lions / enemy_squares) (past (lions % enemy_squares) (second_place free_squares chicks c))
    → (n : ℕ) → are_allowed (may_have B) 4 (order Chicks) n 0 (settle (order Chicks) chicks c (lions_in lions)) ≡ forms_stand chicks first second n
chick_squares_are lions zero c first second low few below a b n =
    ap (are_allowed (may_have B) 4 (order Chicks) n 0) (settle_none (order Chicks) c (lions_in lions))
    ∙ allowed_none (may_have B) 4 (order Chicks) n 0 (lions_in lions) (no_chicks lions)
chick_squares_are lions (suc zero) c first second low few below a b n =
    let left = lions_left lions 1 c low few below in
    let room : c < free_squares = subst (λ (x : ℕ). c < x) (choose_one free_squares) below in
    let here : c < count (order Empty) (lions_in lions) = subst (λ (x : ℕ). c < x) (sym (lion_board lions).empty_is) room in
    let is : empty_place (lions_in lions) c ≡ first = left.place_is c room ∙ sym a in
    let inside : first < length (lions_in lions) = subst (λ (x : ℕ). x < length (lions_in lions)) is (empty_place-below (lions_in lions) c here) in
    ap (are_allowed (may_have B) 4 (order Chicks) n 0)
    (settle_one (order Chicks) c (lions_in lions) here ∙ ap (λ (x : ℕ). set (lions_in lions) x (order Chicks)) is)
    ∙ allowed_one (may_have B) 4 (order Chicks) n 0 first (lions_in lions) (no_chicks lions) inside
    ∙ ap (λ (x : ℕ). may_have B x (n % 4)) (zero_more first)
chick_squares_are lions (suc (suc zero)) c first second low few below a b n =
    let left = lions_left lions 2 c low few below in
    let empty = (lion_board lions).empty_is in
    let two = choice_of free_squares c below in
    let lower_room : lower_of free_squares c < free_squares = between (lower_of free_squares c) (higher_of free_squares c) free_squares two.rising two.below in
    let lower_is : empty_place (lions_in lions) (lower_of free_squares c) ≡ first = left.place_is (lower_of free_squares c) lower_room ∙ sym a in
    let higher_is : empty_place (lions_in lions) (higher_of free_squares c) ≡ second = left.place_is (higher_of free_squares c) two.below ∙ sym b in
    let here : higher_of free_squares c < count (order Empty) (lions_in lions) = subst (λ (x : ℕ). higher_of free_squares c < x) (sym empty) two.below in
    let inside : second < length (lions_in lions) = subst (λ (x : ℕ). x < length (lions_in lions)) higher_is (empty_place-below (lions_in lions) (higher_of free_squares c) here) in
    let rising : empty_place (lions_in lions) (lower_of free_squares c) < empty_place (lions_in lions) (higher_of free_squares c)
    = empty_rises (lower_of free_squares c) (higher_of free_squares c) (lions_in lions) two.rising here in
    let less : first < second = subst (λ (x : ℕ). x < second) lower_is (subst (λ (x : ℕ). empty_place (lions_in lions) (lower_of free_squares c) < x) higher_is rising) in
    let settled : settle (order Chicks) 2 c (lions_in lions) ≡ set (set (lions_in lions) second (order Chicks)) first (order Chicks)
    = settle_two (order Chicks) c (lions_in lions) (subst (λ (x : ℕ). c < choose x 2) (sym empty) below)
    ∙ ap (λ (m : ℕ). set (set (lions_in lions) (empty_place (lions_in lions) (higher_of m c)) (order Chicks)) (empty_place (lions_in lions) (lower_of m c)) (order Chicks)) empty
    ∙ ap (λ (x : ℕ). set (set (lions_in lions) x (order Chicks)) (empty_place (lions_in lions) (lower_of free_squares c)) (order Chicks)) higher_is
    ∙ ap (λ (x : ℕ). set (set (lions_in lions) second (order Chicks)) x (order Chicks)) lower_is in
    ap (are_allowed (may_have B) 4 (order Chicks) n 0) settled
    ∙ allowed_two (may_have B) 4 (order Chicks) n 0 first second (lions_in lions) (no_chicks lions) less inside
    ∙ ap (λ (x : ℕ). may_have B x (n / 4 % 4) && may_have B (0 + second) (n % 4)) (zero_more first)
    ∙ ap (λ (x : ℕ). may_have B first (n / 4 % 4) && may_have B x (n % 4)) (zero_more second)
  where
    between : (x y z : ℕ) → x < y → y < z → x < z
    between x y z h k = omega (arith, h, k)
chick_squares_are lions (suc (suc (suc p))) c first second low few below a b n = absurd (too_many p few)
  where
    too_many : (p : ℕ) → suc (suc (suc p)) ≤ 2 → ⊥
    too_many p h = omega (arith, h)
