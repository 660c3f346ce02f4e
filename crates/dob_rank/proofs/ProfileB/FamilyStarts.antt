-- The table of the blocks' starts, computed for each set and each block.
use Rattle.dob_rank.proofs.Common.{◌*◌, ◌+◌, ◌-◌, ◌<◌, ◌∙◌, ◌∷◌, ◌≡◌, ◌≤◌, List, [], ap, arith, refl, slice_index, sym, true, ℕ, B, marks_below, sum_same}
use Rattle.dob_rank.proofs.Common.{PieceSet, Profile, A, family_of, is_present, block_bases, digits_of, product, start_of, others_forms, others_squares}
use Rattle.dob_rank.proofs.Positions.Blocks.{few_in_block, AreFewOnBoard-digits}
use Rattle.dob_rank.proofs.Positions.BlockStarts.{bases_of, on_all, agrees, start_at, entry_is, start_is}
use Rattle.dob_rank.proofs.OfFamilies.Present.{all_present}
use Rattle.dob_rank.proofs.OfFamilies.FamilyRuns.{present_size, blocks_present}
use Rattle.dob_rank.proofs.ProfileB.ChickForms.{hand_of, hand_size_is}
use Rattle.dob_rank.proofs.ProfileB.Unranks.{hand_size_is as hand_is_sum}

-- the size of a block by the numbers of the set
abbrev size_on : ℕ → ℕ → ℕ → List ℕ → ℕ
size_on c e g ob =
    product ((c - slice_index ob 0 + 1) ∷ (e - slice_index ob 1 + 1) ∷ (g - slice_index ob 2 + 1) ∷ [])
    * hand_of (slice_index ob 0) * (others_squares ob * others_forms ob)

abbrev size_by : ℕ → ℕ → ℕ → ℕ → ℕ
size_by c e g block = size_on c e g (digits_of (bases_of c e g) block)

computed : on_all (agrees 1 size_by) ≡ true
computed = refl

size_is : (set : PieceSet) (block : ℕ) → block < product (block_bases set) → size_by set.chicks set.elephants set.giraffes block ≡ present_size
    (family_of set B) block
size_is set block within =
    ap (λ (x : ℕ). product ((set.chicks - slice_index (digits_of (block_bases set) block) 0 + 1) ∷
    (set.elephants - slice_index (digits_of (block_bases set) block) 1 + 1)
    ∷ (set.giraffes - slice_index (digits_of (block_bases set) block) 2 + 1) ∷ []) * x
    * (others_squares (digits_of (block_bases set) block) * others_forms (digits_of (block_bases set) block)))
    (sym (hand_size_is (slice_index (digits_of (block_bases set) block) 0)
    (AreFewOnBoard-digits set (digits_of (block_bases set) block) (few_in_block set block within)).chicks)
    ∙ hand_is_sum (slice_index (digits_of (block_bases set) block) 0))

pub start_in_b : (set : PieceSet) (block : ℕ) → block ≤ product (block_bases set)
    → start_at 1 set block ≡ marks_below (is_present (family_of set B)) (start_of set block)
start_in_b set block upto =
    entry_is 1 size_by computed set block upto
    ∙ sum_same (size_by set.chicks set.elephants set.giraffes) (present_size (family_of set B)) block (λ k low. size_is set k (omega (arith, low, upto)))
    ∙ sym (blocks_present (family_of set B) block upto)

-- ---- in either profile
pub start_in_family : (profile : Profile) (set : PieceSet) (place block : ℕ) → (profile ≡ A → place ≡ 0) → (profile ≡ B → place ≡ 1)
    → block ≤ product (block_bases set) → start_at place set block ≡ marks_below (is_present (family_of set profile)) (start_of set block)
start_in_family A set place block first second upto =
    ap (λ (n : ℕ). start_at n set block) (first refl) ∙ start_is set block upto ∙ sym (all_present (family_of set A) (start_of set block) refl)
start_in_family B set place block first second upto = ap (λ (n : ℕ). start_at n set block) (second refl) ∙ start_in_b set block upto
