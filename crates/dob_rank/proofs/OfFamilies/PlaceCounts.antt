-- How many positions a run has before each of its places: by the choice of the chicks' squares, the others' squares, the chicks' forms and those of the others.
use Rattle.dob_rank.proofs.Common.{◌%◌, ◌*◌, ◌+◌, ◌/◌, ◌<◌, ◌^◌, ◌∙◌, ◌≡◌, ◌≤◌, Bool, List, ap, arith, refl, slice_index, sym, ℕ, div-add-mod', div-mul-add}
use Rattle.dob_rank.proofs.Common.{mod-mul-add, mod_below, mul_comm, sum_same, sum_times, Family, Profile, is_present, marks_below, one_if}
use Rattle.dob_rank.proofs.Common.{block_bases, choose, digits_of, free_squares, order, product, settle, sum_below, IsInRun, run_size, run_start, runs_in}
use Rattle.dob_rank.proofs.Common.{are_allowed, choice_weight, forms_before, forms_in, lions_in, may_have, others_forms, others_squares, Chicks, lion_pairs, drop}
use Rattle.dob_rank.proofs.Common.{form_bases, square_bases}
use Rattle.dob_rank.specs.Weights.{allowed_place, stands}
use Rattle.dob_rank.proofs.Arithmetic.MixedRadix.{digit_below}
use Rattle.dob_rank.proofs.Boards.FormDigits.{power_positive}
use Rattle.dob_rank.proofs.Positions.Blocks.{positive_product, forms_positive}
use Rattle.dob_rank.proofs.Marked.Words.{marks_below_none}
use Rattle.dob_rank.proofs.InRuns.Lions.{lions_layers}
use Rattle.dob_rank.proofs.InRuns.RunMarks.{marks_agree, marks_from}
use Rattle.dob_rank.proofs.ProfileB.LionBoards.{chicks_settled}
use Rattle.dob_rank.proofs.ProfileB.RunWeights.{low_alike, middle_alike}
use Rattle.dob_rank.proofs.ProfileB.Weights.{forms_weigh}
use Rattle.dob_rank.proofs.OfFamilies.RunPresent.{allowed_in_run}

pub others_forms-some : (ob : List ℕ) → 0 < others_forms ob
others_forms-some ob = positive_product (drop 1 (form_bases ob)) (forms_positive ob).1

pub four_some : (chicks : ℕ) → 0 < 4 ^ chicks
four_some chicks = power_positive 4 chicks (omega arith)

-- the place of those parts
abbrev pub place_by : List ℕ → ℕ → ℕ → ℕ → ℕ → ℕ
place_by ob c q g f = ((c * others_squares ob + q) * 4 ^ slice_index ob 0 + g) * others_forms ob + f

-- the chicks' choice and forms at a place of all parts but the last one
abbrev at_rest : Profile → List ℕ → ℕ → ℕ → Bool
at_rest profile ob lions rest = stands profile lions (slice_index ob 0) (rest / 4 ^ slice_index ob 0 / others_squares ob) (rest % 4 ^ slice_index ob 0)

by_parts : (profile : Profile) (ob : List ℕ) (lions d t x : ℕ) → t < others_squares ob → x < 4 ^ slice_index ob 0
    → at_rest profile ob lions ((d * others_squares ob + t) * 4 ^ slice_index ob 0 + x) ≡ stands profile lions (slice_index ob 0) d x
by_parts profile ob lions d t x lt lx =
    let i = slice_index ob 0 in
    let n = others_squares ob in
    ap (λ (y : ℕ). stands profile lions i (y / n) (((d * n + t) * 4 ^ i + x) % 4 ^ i)) (div-mul-add (d * n + t) (4 ^ i) x lx)
    ∙ ap (λ (y : ℕ). stands profile lions i ((d * n + t) / n) y) (mod-mul-add (d * n + t) (4 ^ i) x lx)
    ∙ ap (λ (y : ℕ). stands profile lions i y x) (div-mul-add d n t lt)

counted : (profile : Profile) (ob : List ℕ) (lions c q g f : ℕ) → q < others_squares ob → g < 4 ^ slice_index ob 0 → f < others_forms ob
    → marks_below (allowed_place profile ob lions) (place_by ob c q g f)
    ≡ (sum_below (λ d. others_squares ob * marks_below (stands profile lions (slice_index ob 0) d) (4 ^ slice_index ob 0)) c
    + q * marks_below (stands profile lions (slice_index ob 0) c) (4 ^ slice_index ob 0) + marks_below (stands profile lions (slice_index ob 0) c) g) * others_forms ob
    + f * one_if (stands profile lions (slice_index ob 0) c g)
counted profile ob lions c q g f lq lg lf =
    let i = slice_index ob 0 in
    let n = others_squares ob in
    let r = others_forms ob in
    let rest = (c * n + q) * 4 ^ i + g in
    low_alike (allowed_place profile ob lions) (at_rest profile ob lions) r rest f
    (λ x y lx ly. ap (at_rest profile ob lions) (div-mul-add x r y ly)) (less f r lf)
    ∙ ap (λ (x : ℕ). x * r + f * one_if (at_rest profile ob lions rest))
    (middle_alike (at_rest profile ob lions) (stands profile lions i) n (4 ^ i) c q g (λ d t x ld lt lx. by_parts profile ob lions d t x lt lx) lq (less g (4 ^ i) lg))
    ∙ ap (λ (b : Bool). (sum_below (λ d. n * marks_below (stands profile lions i d) (4 ^ i)) c + q * marks_below (stands profile lions i c) (4 ^ i)
    + marks_below (stands profile lions i c) g) * r + f * one_if b) (by_parts profile ob lions c q g lq lg)
  where
    less : (x y : ℕ) → x < y → x ≤ y
    less x y h = omega (arith, h)

-- each choice has its forms
pub forms_of_choice : (profile : Profile) (lions chicks c : ℕ) → c < choose free_squares chicks
    → marks_below (stands profile lions chicks c) (4 ^ chicks) ≡ choice_weight profile lions chicks c
forms_of_choice profile lions chicks c below =
    ap (λ (x : ℕ). marks_below (stands profile lions chicks c) (4 ^ x)) (sym (chicks_settled lions chicks c below))
    ∙ forms_weigh (may_have profile) 4 (order Chicks) 0 (settle (order Chicks) chicks c (lions_in lions)) (omega arith)

choices_before : (profile : Profile) (ob : List ℕ) (lions c : ℕ) → c ≤ choose free_squares (slice_index ob 0)
    → sum_below (λ d. others_squares ob * marks_below (stands profile lions (slice_index ob 0) d) (4 ^ slice_index ob 0)) c
    ≡ forms_before profile lions (slice_index ob 0) c * others_squares ob
choices_before profile ob lions c upto =
    let i = slice_index ob 0 in
    sum_times (others_squares ob) (λ d. marks_below (stands profile lions i d) (4 ^ i)) c
    ∙ ap (λ (x : ℕ). others_squares ob * x) (sum_same (λ d. marks_below (stands profile lions i d) (4 ^ i)) (choice_weight profile lions i) c
    (λ d low. forms_of_choice profile lions i d (omega (arith, low, upto))))
    ∙ mul_comm (others_squares ob) (forms_before profile lions i c)

-- before a place
pub before_place : (profile : Profile) (ob : List ℕ) (lions c q g f : ℕ) → c < choose free_squares (slice_index ob 0) → q < others_squares ob
    → g < 4 ^ slice_index ob 0 → f < others_forms ob
    → marks_below (allowed_place profile ob lions) (place_by ob c q g f)
    ≡ (forms_before profile lions (slice_index ob 0) c * others_squares ob + q * choice_weight profile lions (slice_index ob 0) c
    + marks_below (stands profile lions (slice_index ob 0) c) g) * others_forms ob
    + f * one_if (stands profile lions (slice_index ob 0) c g)
before_place profile ob lions c q g f lc lq lg lf =
    let i = slice_index ob 0 in
    counted profile ob lions c q g f lq lg lf
    ∙ ap (λ (x : ℕ). (x + q * marks_below (stands profile lions i c) (4 ^ i) + marks_below (stands profile lions i c) g) * others_forms ob
    + f * one_if (stands profile lions i c g)) (choices_before profile ob lions c (omega (arith, lc)))
    ∙ ap (λ (x : ℕ). (forms_before profile lions i c * others_squares ob + q * x + marks_below (stands profile lions i c) g) * others_forms ob
    + f * one_if (stands profile lions i c g)) (forms_of_choice profile lions i c lc)

-- what stands at a place
pub at_place : (profile : Profile) (ob : List ℕ) (lions c q g f : ℕ) → q < others_squares ob → g < 4 ^ slice_index ob 0 → f < others_forms ob
    → allowed_place profile ob lions (place_by ob c q g f) ≡ stands profile lions (slice_index ob 0) c g
at_place profile ob lions c q g f lq lg lf =
    ap (at_rest profile ob lions) (div-mul-add ((c * others_squares ob + q) * 4 ^ slice_index ob 0 + g) (others_forms ob) f lf)
    ∙ by_parts profile ob lions c q g lq lg

-- all positions of a run
pub run_size-parts : (ob : List ℕ) → product (square_bases ob) * product (form_bases ob)
    ≡ place_by ob (choose free_squares (slice_index ob 0)) 0 0 0
run_size-parts ob = parts (choose free_squares (slice_index ob 0)) (others_squares ob) (4 ^ slice_index ob 0) (others_forms ob)
  where
    parts : (c n a r : ℕ) → c * n * (a * r) ≡ ((c * n + 0) * a + 0) * r + 0
    parts c n a r = grind arith

pub in_whole_run : (profile : Profile) (ob : List ℕ) (lions : ℕ) → 0 < others_squares ob
    → marks_below (allowed_place profile ob lions) (place_by ob (choose free_squares (slice_index ob 0)) 0 0 0)
    ≡ forms_in profile (slice_index ob 0) lions * (others_squares ob * others_forms ob)
in_whole_run profile ob lions some =
    let i = slice_index ob 0 in
    let c = choose free_squares i in
    counted profile ob lions c 0 0 0 some (four_some i) (others_forms-some ob)
    ∙ parts _ (forms_before profile lions i c) (others_squares ob) (others_forms ob) (marks_below (stands profile lions i c) (4 ^ i))
    (marks_below (stands profile lions i c) 0) (one_if (stands profile lions i c 0)) (choices_before profile ob lions c (omega arith))
    (marks_below_none (stands profile lions i c))
  where
    parts : (s b n r x y z : ℕ) → s ≡ b * n → y ≡ 0 → (s + 0 * x + y) * r + 0 * z ≡ b * (n * r)
    parts s b n r x y z e h = rw (e, h) (grind arith)

-- ---- places of a family's runs
split_twice : (l a r : ℕ) → 0 < a → 0 < r → (l / (a * r) ≡ l / r / a) × (l % (a * r) / r ≡ l / r % a)
split_twice l a r some_a some_r =
    let whole : l ≡ l / r / a * (a * r) + (l / r % a * r + l % r) = joined (l / r / a) (l / r % a) (l / r) l a r (l % r) (div-add-mod' (l / r) a) (div-add-mod' l r) in
    let low = digit_below (l / r % a) a r (l % r) (mod_below (l / r) a some_a) (mod_below l r some_r) in (
      ap (λ (n : ℕ). n / (a * r)) whole ∙ div-mul-add (l / r / a) (a * r) (l / r % a * r + l % r) low,
      ap (λ (n : ℕ). n % (a * r) / r) whole ∙ ap (λ (n : ℕ). n / r) (mod-mul-add (l / r / a) (a * r) (l / r % a * r + l % r) low)
          ∙ div-mul-add (l / r % a) r (l % r) (mod_below l r some_r),
    )
  where
    joined : (x g q l a r f : ℕ) → x * a + g ≡ q → q * r + f ≡ l → l ≡ x * (a * r) + (g * r + f)
    joined x g q l a r f e h = sym h ∙ ap (λ (n : ℕ). n * r + f) (sym e) ∙ regroup x a g r f
      where
        regroup : (x a g r f : ℕ) → (x * a + g) * r + f ≡ x * (a * r) + (g * r + f)
        regroup x a g r f = grind arith

pub there : (family : Family) (block run place : ℕ) → IsInRun family.set block run place
    → is_present family (run_start family.set block run + place) ≡ allowed_place family.profile (digits_of (block_bases family.set) block) run place
there family block run place at =
    let ob = digits_of (block_bases family.set) block in
    let i = slice_index ob 0 in
    let two = split_twice place (4 ^ i) (others_forms ob) (four_some i) (others_forms-some ob) in
    allowed_in_run family block run place (4 ^ i * others_forms ob) at refl
    ∙ ap (λ (x : ℕ). stands family.profile run i (place / (4 ^ i * others_forms ob) / others_squares ob) x) two.1
    ∙ ap (λ (x : ℕ). stands family.profile run i (x / others_squares ob) (place / others_forms ob % 4 ^ i)) two.0

-- up to a place
pub present_upto : (family : Family) (block run place : ℕ) → block < product (block_bases family.set) → run < runs_in family.set block
    → place ≤ run_size family.set block
    → marks_below (is_present family) (run_start family.set block run + place)
    ≡ marks_below (is_present family) (run_start family.set block run)
    + marks_below (allowed_place family.profile (digits_of (block_bases family.set) block) run) place
present_upto family block run place within below upto =
    sym (marks_from (is_present family) (run_start family.set block run) place)
    ∙ ap (λ (x : ℕ). marks_below (is_present family) (run_start family.set block run) + x)
    (marks_agree (λ k. is_present family (run_start family.set block run + k)) (allowed_place family.profile (digits_of (block_bases family.set) block) run) place
    (λ k low. there family block run k (record { block_below = within; run_below = below; local_below = omega (arith, low, upto) })))

-- the lions alone count
pub same_lions : (profile : Profile) (ob : List ℕ) (a b place : ℕ) → a % lion_pairs ≡ b % lion_pairs
    → allowed_place profile ob a place ≡ allowed_place profile ob b place
same_lions profile ob a b place e =
    ap (λ (m : ℕ). are_allowed (may_have profile) 4 (order Chicks) (place / others_forms ob % 4 ^ slice_index ob 0) 0
    (settle (order Chicks) (slice_index ob 0) (place / others_forms ob / 4 ^ slice_index ob 0 / others_squares ob) (lions_layers m))) e
