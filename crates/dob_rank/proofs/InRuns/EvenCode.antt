-- The table of placements that are their own mirror image is computed for each pair of lions and each set of pieces on the board.
use Rattle.dob_rank.proofs.Common.{◌&&◌, ◌*◌, ◌+◌, ◌<◌, ◌||◌, ◌≡◌, ◌≤◌, Bool, [], arith, eqb, leb, not, refl, slice_index_or, subst, true, ℕ}
use Rattle.dob_rank.proofs.Common.{and_parts, eqb-true, leb-true, all_below, all_below-at, Profile, A, B, lion_pairs, run_kind}
use Rattle.dob_rank.specs.declared.even_ways.TheConstants.{WAYS}
use Rattle.dob_rank.specs.declared.runs.RunKind.{RunKind}
use Rattle.dob_rank.specs.declared.runs.RunKind.TheVariants.{First, Later, Mixed}
use Rattle.dob_rank.specs.EvenWays.{even_ways, shape_of}

abbrev pub entry : ℕ → ℕ → ℕ
entry shape number = slice_index_or (slice_index_or WAYS shape []) number 0

abbrev is_mixed : RunKind → Bool
is_mixed Mixed = true
is_mixed First = not true
is_mixed Later = not true

abbrev is_entry : Profile → ℕ → ℕ → ℕ → ℕ → Bool
is_entry profile lions i j k =
    eqb (entry (shape_of profile lions) (9 * i + 3 * j + k)) (even_ways profile i j k lions)
    && leb (entry (shape_of profile lions) (9 * i + 3 * j + k)) 4096

abbrev is_row : Profile → ℕ → Bool
is_row profile lions =
    not (is_mixed (run_kind lions)) || all_below (λ i. all_below (λ j. all_below (is_entry profile lions i j) 3) 3) 3

rows_a : all_below (is_row A) lion_pairs ≡ true
rows_a = refl

rows_b : all_below (is_row B) lion_pairs ≡ true
rows_b = refl

row_at : (profile : Profile) (lions : ℕ) → lions < lion_pairs → is_row profile lions ≡ true
row_at A lions low = all_below-at (is_row A) lion_pairs lions rows_a low
row_at B lions low = all_below-at (is_row B) lion_pairs lions rows_b low

-- what the code reads
pub record IsEvenEntry (profile : Profile) (i j k lions found : ℕ) : Type 0 where
  pub value_is : found ≡ even_ways profile i j k lions
  pub few : found ≤ 4096

pub entry_told : (profile : Profile) (i j k lions : ℕ) → i ≤ 2 → j ≤ 2 → k ≤ 2 → lions < lion_pairs → run_kind lions ≡ Mixed
    → IsEvenEntry profile i j k lions (entry (shape_of profile lions) (9 * i + 3 * j + k))
entry_told profile i j k lions few_i few_j few_k low kind =
    let row = subst (λ (x : RunKind). (not (is_mixed x) || all_below (λ i. all_below (λ j. all_below (is_entry profile lions i j) 3) 3) 3) ≡ true) kind
    (row_at profile lions low) in
    let here = all_below-at (is_entry profile lions i j) 3 k
    (all_below-at (λ y. all_below (is_entry profile lions i y) 3) 3 j
    (all_below-at (λ x. all_below (λ y. all_below (is_entry profile lions x y) 3) 3) 3 i row (omega (arith, few_i))) (omega (arith, few_j)))
    (omega (arith, few_k)) in
    let parts = and_parts _ _ here in
    record { value_is = eqb-true _ _ parts.0; few = leb-true _ 4096 parts.1 }
