-- Weighted choices of squares: a piece has as many forms on a square as a profile lets it have there.
use Rattle.std.specs.Prelude.{ℕ, zero, suc, ◌-◌, ◌*◌, ◌/◌, ◌%◌, ◌^◌, ◌==◌, ◌&&◌, cond, Bool, true, List, [], ◌∷◌, slice_index}
use Rattle.dob_pieces.specs.declared.profile.Profile.{Profile}
use Rattle.dob_pieces.specs.declared.profile.Profile.TheVariants.{B}
use Rattle.dob_pieces.specs.Profiles.{may_stand}
use Rattle.dob_rank.specs.Order.{form}
use Rattle.dob_rank.specs.Numbers.{product, sum_below, count, order, cell_of, choose, settle, empty_layers, enemy_squares, free_squares}
use Rattle.dob_rank.specs.Marks.{marks_below}
use Rattle.dob_rank.specs.Placing.{past}
use Rattle.dob_rank.specs.Runs.{lion_pairs}
use Rattle.dob_rank.specs.declared.layers.Layer.TheVariants.{OwnLion, EnemyLion, Chicks}

-- in how many ways the pieces of layer t can have forms, where a piece on square s has `w s` of them
abbrev pub weight : (ℕ → ℕ) → ℕ → ℕ → List ℕ → ℕ
weight w t s [] = 1
weight w t s (l ∷ ls) = cond (l == t) (w s) 1 * weight w t (suc s) ls

-- the forms that a number says are all allowed
abbrev pub are_allowed : (ℕ → ℕ → Bool) → ℕ → ℕ → ℕ → ℕ → List ℕ → Bool
are_allowed ok base t number s [] = true
are_allowed ok base t number s (l ∷ ls) =
    cond (l == t) (ok s (number / base ^ count t ls % base)) true && are_allowed ok base t number (suc s) ls

-- a chick or hen of that form may stand on the square
abbrev pub may_have : Profile → ℕ → ℕ → Bool
may_have profile square form = may_stand profile square (cell_of (order Chicks) form)

-- chicks and hens on so many squares, the first two of these, may have the forms that the number says
abbrev pub forms_stand : ℕ → ℕ → ℕ → ℕ → Bool
forms_stand zero first second n = true
forms_stand (suc zero) first second n = may_have B first (n % 4)
forms_stand (suc (suc pieces)) first second n = may_have B first (n / 4 % 4) && may_have B second (n % 4)

-- how many forms a chick or hen may have on a square
abbrev pub forms_on : Profile → ℕ → ℕ
forms_on profile square = marks_below (may_have profile square) 4

-- the layers of a board with the lions of a run alone
abbrev pub lions_in : ℕ → List ℕ
lions_in run =
    settle (order EnemyLion) 1 (run % lion_pairs % enemy_squares) (settle (order OwnLion) 1 (run % lion_pairs / enemy_squares) empty_layers)

-- the weight of a choice of the chicks' squares among those that the lions of a run leave
abbrev pub choice_weight : Profile → ℕ → ℕ → ℕ → ℕ
choice_weight profile run chicks c = weight (forms_on profile) (order Chicks) 0 (settle (order Chicks) chicks c (lions_in run))

-- how many choices of the chicks' squares and of their forms stand before a choice of squares, in a run of those lions; how many there are; and how
-- many in the runs of one hand before that of those lions
abbrev pub forms_before : Profile → ℕ → ℕ → ℕ → ℕ
forms_before profile lions chicks c = sum_below (choice_weight profile lions chicks) c

abbrev pub forms_in : Profile → ℕ → ℕ → ℕ
forms_in profile chicks lions = forms_before profile lions chicks (choose free_squares chicks)

abbrev pub lions_before : Profile → ℕ → ℕ → ℕ
lions_before profile chicks lions = sum_below (forms_in profile chicks) lions

-- chicks of a choice of squares may have the forms that the number says, where those lions stand
abbrev pub stands : Profile → ℕ → ℕ → ℕ → ℕ → Bool
stands profile lions chicks c n = are_allowed (may_have profile) 4 (order Chicks) n 0 (settle (order Chicks) chicks c (lions_in lions))

-- ---- the same by the squares that two lions leave

-- the square of that number of those that they leave, how many forms a chick or hen may have there, and how many on all before
abbrev pub left_square : ℕ → ℕ → ℕ
left_square lions k = past (lions / enemy_squares) (past (lions % enemy_squares) k)

abbrev pub forms_left : ℕ → ℕ → ℕ
forms_left lions k = forms_on B (left_square lions k)

abbrev pub forms_upto : ℕ → ℕ → ℕ
forms_upto lions k = sum_below (forms_left lions) k

-- how many forms two chicks have whose first square is before that one
abbrev pub pairs_before : ℕ → ℕ → ℕ
pairs_before lions k = sum_below (λ first. forms_left lions first * (forms_upto lions free_squares - forms_upto lions (suc first))) k

-- how many choices of the other kinds' squares there are, and how many forms the pieces on them have
abbrev pub others_squares : List ℕ → ℕ
others_squares ob =
    let i = slice_index ob 0 in
    let j = slice_index ob 1 in
    product (choose (free_squares - i) j ∷ choose (free_squares - i - j) (slice_index ob 2) ∷ [])

abbrev pub others_forms : List ℕ → ℕ
others_forms ob = product ((2 ^ slice_index ob 1) ∷ (2 ^ slice_index ob 2) ∷ [])

-- a position may stand at that place of a run of those lions
abbrev pub allowed_place : Profile → List ℕ → ℕ → ℕ → Bool
allowed_place profile ob lions place =
    let i = slice_index ob 0 in
    let rest = place / others_forms ob in
    stands profile lions i (rest / 4 ^ i / others_squares ob) (rest % 4 ^ i)

-- how many choices of the chicks' squares with forms stand in the runs of one hand
unfoldable pub hand_size : Profile → ℕ → ℕ
hand_size profile chicks = lions_before profile chicks lion_pairs
