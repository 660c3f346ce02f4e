-- Which places of a run are of the family.
use Rattle.dob_rank.proofs.Common.{◌%◌, ◌*◌, ◌+◌, ◌-◌, ◌/◌, ◌<◌, ◌^◌, ◌∙◌, ◌∷◌, ◌≡◌, Bool, List, [], ap, arith, map, slice_index, sym, ℕ, is_allowed}
use Rattle.dob_rank.proofs.Common.{may_all_stand, PieceSet, Family, Profile, Setup, is_present, bases_by, block_bases, block_size, choose, digits, digits_of}
use Rattle.dob_rank.proofs.Common.{empty_layers, enemy_squares, free_squares, layer, nth, numbers_by, on_board, order, product, settle, setup_in, sum_below}
use Rattle.dob_rank.proofs.Common.{IsPositionOfSet, IsInRun, form_bases, lion_pairs, local_bases, run_size, run_start, runs_in, are_allowed, may_have, Chicks}
use Rattle.dob_rank.proofs.Common.{Elephants, EnemyLion, Giraffes, OwnLion}
use Rattle.dob_pieces.proofs.Allowed.{is_allowed-stand}
use Rattle.dob_rank.proofs.Boards.FormDigits.{AreLayers-map, board_of-back}
use Rattle.dob_rank.proofs.Positions.Digits.{HasParts-from_position, HasDigits-digits, layers_by-back, numbers-back}
use Rattle.dob_rank.proofs.Arithmetic.MixedRadix.{digits_of-number_of}
use Rattle.dob_rank.proofs.Positions.Numbering.{HasBlock-setup_in, rank_of_set-block, nth-rank_of_set, on_board-block}
use Rattle.dob_rank.proofs.InRuns.RunPlaces.{place_in_run, run_start-is}
use Rattle.dob_rank.proofs.InRuns.DigitParts.{parts_are}
use Rattle.dob_rank.proofs.ProfileB.Weights.{board_allowed}
use Rattle.dob_rank.proofs.ProfileB.RunWeights.{settled_later}

abbrev pub lions_by : List ℕ → List ℕ
lions_by ds = settle (order EnemyLion) 1 (slice_index ds 4) (settle (order OwnLion) 1 (slice_index ds 3) empty_layers)

-- what the numbers on the board and the digits say of the chicks
abbrev pub chicks_allowed : Profile → List ℕ → List ℕ → Bool
chicks_allowed profile ob ds =
    are_allowed (may_have profile) 4 (order Chicks) (slice_index ds 8) 0 (settle (order Chicks) (slice_index ob 0) (slice_index ds 5) (lions_by ds))

-- the allowed forms of a position's chicks are those of its choice, whatever is settled later
pub settled_forms : (profile : Profile) (set : PieceSet) (s : Setup) → IsPositionOfSet set s → (n : ℕ)
    → are_allowed (may_have profile) 4 (order Chicks) n 0 (map layer s.board)
    ≡ are_allowed (may_have profile) 4 (order Chicks) n 0 (settle (order Chicks) (slice_index (on_board s) 0) (slice_index (digits s) 5) (lions_by (digits s)))
settled_forms profile set s p n =
    let chicks = settle (order Chicks) (slice_index (on_board s) 0) (slice_index (digits s) 5) (lions_by (digits s)) in
    let elephants = settle (order Elephants) (slice_index (on_board s) 1) (slice_index (digits s) 6) chicks in
    ap (are_allowed (may_have profile) 4 (order Chicks) n 0) (sym (layers_by-back set s (HasParts-from_position set s p)))
    ∙ (settled_later (may_have profile) 4 (order Chicks) n (order Giraffes) 0 (slice_index (on_board s) 2) (slice_index (digits s) 7) elephants (omega arith)
    (omega arith)).allowed_is
    ∙ (settled_later (may_have profile) 4 (order Chicks) n (order Elephants) 0 (slice_index (on_board s) 1) (slice_index (digits s) 6) chicks (omega arith)
    (omega arith)).allowed_is

-- a position is allowed just where its digits say so
pub allowed_by_digits : (profile : Profile) (set : PieceSet) (s : Setup) → IsPositionOfSet set s → is_allowed profile s ≡ chicks_allowed profile (on_board s)
    (digits s)
allowed_by_digits profile set s p =
    is_allowed-stand profile s
    ∙ ap (may_all_stand profile 0) (sym (board_of-back (numbers_by (digits s)) s.board (numbers-back s)))
    ∙ board_allowed profile (numbers_by (digits s)) 0 (map layer s.board) (AreLayers-map s.board)
    ∙ settled_forms profile set s p (slice_index (digits s) 8)

-- the same of a place in a block
pub allowed_at : (family : Family) (block place : ℕ) → block < product (block_bases family.set) → place < block_size family.set block
    → is_present family (sum_below (block_size family.set) block + place)
    ≡ chicks_allowed family.profile (digits_of (block_bases family.set) block)
    (digits_of (bases_by family.set (digits_of (block_bases family.set) block)) place)
unfolding is_present
allowed_at family block place low below =
    let set = family.set in
    let s = setup_in family.set block place in
    let there = HasBlock-setup_in family.set block place (record { block_below = low; place_below = below }) in
    let it : nth family.set (sum_below (block_size family.set) block + place) ≡ s
    = ap (nth family.set) (sym (rank_of_set-block family.set block place s there)) ∙ nth-rank_of_set family.set s there.position in
    let ob = ap (digits_of (block_bases family.set)) (sym there.block_is) ∙ on_board-block family.set s there.position in
    let ds = ap (digits_of (bases_by family.set (on_board s))) (sym there.place_is)
    ∙ digits_of-number_of (bases_by family.set (on_board s)) (digits s) (HasDigits-digits family.set s (HasParts-from_position family.set s there.position)) in
    ap (is_allowed family.profile) it ∙ allowed_by_digits family.profile family.set s there.position
    ∙ ap (chicks_allowed family.profile (on_board s)) (sym ds) ∙ ap
    (λ (xs : List ℕ). chicks_allowed family.profile xs (digits_of (bases_by family.set xs) place)) (sym ob)

-- and of a place in a run: the lions and the choice of the chicks' squares say which forms of the chicks are allowed
pub allowed_in_run : (family : Family) (block run local forms : ℕ) → IsInRun family.set block run local
    → forms ≡ product (form_bases (digits_of (block_bases family.set) block))
    → (let ob = digits_of (block_bases family.set) block in
    is_present family (run_start family.set block run + local)
    ≡ are_allowed (may_have family.profile) 4 (order Chicks) (local % forms / product ((2 ^ slice_index ob 1) ∷ (2 ^ slice_index ob 2) ∷ [])) 0
    (settle (order Chicks) (slice_index ob 0) (local / forms / product (choose (free_squares - slice_index ob 0) (slice_index ob 1)
    ∷ choose (free_squares - slice_index ob 0 - slice_index ob 1) (slice_index ob 2) ∷ []))
    (settle (order EnemyLion) 1 (run % lion_pairs % enemy_squares) (settle (order OwnLion) 1 (run % lion_pairs / enemy_squares) empty_layers))))
unfolding runs_in run_size
allowed_in_run family block run local forms h f =
    let ob = digits_of (block_bases family.set) block in
    let place = run * product (local_bases ob) + local in
    ap (is_present family) (let start = run_start-is family.set block run in let e : run_start family.set block run + local ≡ sum_below (block_size family.set)
    block + place = omega (arith, start) in e)
    ∙ allowed_at family block place h.block_below (place_in_run family.set block run local h)
    ∙ ap (chicks_allowed family.profile ob) (parts_are family.set ob run local forms h.run_below h.local_below f).digits_are
