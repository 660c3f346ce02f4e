-- What an index says of a block's runs is read from it.
use Rattle.dob_index.proofs.Common.{◌*◌, ◌+◌, ◌<◌, ◌^◌, ◌∙◌, ◌≡◌, ◌≤◌, List, ap, arith, get_or, subst, suc, sym, zero, ℕ, Family, lions_same, block_bases}
use Rattle.dob_index.proofs.Common.{product, lion_pairs, run_kind, all_lions, none_before, classes_to_block, classes_to_place, classes_to_run, marks_small}
use Rattle.dob_index.proofs.Common.{IsWalk, marks_before, MixedRun, StretchCursor, IsIndex, entry_places, row_at}
use Rattle.dob_index.proofs.Walked.{walked}

-- how many classes of the block stand before a run of the first hand, or before the end of the last
pub row_read : (family : Family) (block lions : ℕ) (words : List ℕ) → IsIndex family words → block < product (block_bases family.set) → lions ≤ lion_pairs
    → classes_to_block family block + get_or words (row_at block + lions) 0 ≡ classes_to_run family block lions
row_read family block zero words is within upto =
    ap (λ (n : ℕ). classes_to_block family block + n)
    (ap (λ (i : ℕ). get_or words i 0) (let e : row_at block + 0 ≡ row_at block = omega arith in e) ∙ (is.rows block within).first_is)
    ∙ none_before family block
row_read family block (suc lions) words is within upto =
    let same : lions + 1 ≡ suc lions = omega arith in
    subst (λ (n : ℕ). classes_to_block family block + get_or words (row_at block + n) 0
    ≡ classes_to_run family block n) same (is.runs block lions within (omega (arith, upto)))

-- it is small
pub row_small : (family : Family) (block lions : ℕ) (words : List ℕ) → IsIndex family words → block < product (block_bases family.set) → lions ≤ lion_pairs
    → get_or words (row_at block + lions) 0 ≤ 2 ^ 42
row_small family block lions words is within upto =
    let all = all_lions family block within in
    omega (arith, row_read family block lions words is within upto, marks_small family block lions within (omega (arith, upto, all)))

-- an entry of the first hand's run is what a walk from the run's start to its place counts
pub entry_read : (run : MixedRun) (words : List ℕ) (first entry : ℕ) (walk : StretchCursor) → IsIndex run.family words → run.run < lion_pairs
    → first ≡ get_or words (row_at run.block + (101 + run.run)) 0 → IsWalk run walk → walk.place ≡ entry * entry_places
    → get_or words (first + entry) 0 ≡ marks_before run walk.number
entry_read run words first entry walk is low first_is stands place =
    let upto = stands.upto in
    let kind = ap run_kind (lions_same run.run low) in
    let there = is.entries run.block run.run run.within low (sym kind ∙ run.kind) entry (omega (arith, upto, place)) in
    let here = subst (λ (f : ℕ). classes_to_run run.family run.block run.run + get_or words (f + entry) 0
    ≡ classes_to_place run.family run.block run.run (entry * entry_places)) (sym first_is) there in
    omega (arith, here, walked run walk (entry * entry_places) stands place)

-- where the entries of a run begin
pub first_small : (run : MixedRun) (words : List ℕ) → IsIndex run.family words → run.run < lion_pairs
    → get_or words (row_at run.block + (101 + run.run)) 0 ≤ 2 ^ 42
first_small run words is low = is.small run.block run.run run.within low (sym (ap run_kind (lions_same run.run low)) ∙ run.kind)
