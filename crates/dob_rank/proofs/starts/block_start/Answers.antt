-- The table's entry is the sum, computed for each set and each block.
use Rattle.dob_rank.proofs.Common.{◌<◌, ◌^◌, ◌∙◌, ◌≤◌, arith, subst, sym, ℕ, is_present, start_of}
use Rattle.dob_rank.proofs.Positions.BlockStarts.{place_within, start_few}
use Rattle.dob_rank.proofs.Marked.Words.{marks_below-le}
use Rattle.dob_rank.proofs.OfFamilies.Present.{all_present}
use Rattle.dob_rank.proofs.ProfileB.FamilyStarts.{start_in_family}
use Rattle.dob_rank.proofs.starts.block_start.Goals as goal

pub returns-clause-value : goal.returns-clause-value
returns-clause-value c =
    start_in_family c.args.family.profile c.args.family.set _ c.args.block c.place_of.ensures.first c.place_of.ensures.second c.requires

pub returns-clause-whole : goal.returns-clause-whole
returns-clause-whole c = λ a. returns-clause-value c ∙ all_present c.args.family (start_of c.args.family.set c.args.block) a

pub returns-clause-bound : goal.returns-clause-bound
returns-clause-bound c =
    let few = marks_below-le (is_present c.args.family) (start_of c.args.family.set c.args.block) in
    let small = start_few c.args.family.set c.args.block c.requires in
    subst (λ (n : ℕ). n < 2 ^ 31) (sym (returns-clause-value c)) (within few small)
  where
    within : {m n k : ℕ} → m ≤ n → n < k → m < k
    within h l = omega (arith, h, l)

pub overflow_add-place : goal.overflow_add-place
overflow_add-place c = let within = place_within c.args.family.set c.args.block c.requires in omega (arith, within)

pub bounds-place : goal.bounds-place
bounds-place c = place_within c.args.family.set c.args.block c.requires

pub offset_bounds-place_of-place : goal.offset_bounds-place_of-place
offset_bounds-place_of-place c = let within = place_within c.args.family.set c.args.block c.requires in omega (arith, within)
