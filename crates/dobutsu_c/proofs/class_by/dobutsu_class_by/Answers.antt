-- The text is of one position, and one family has those numbers; each refusal comes where its own test fails and those before it pass.
use Rattle.dobutsu_c.proofs.Common.{◌≡◌, ◌≢◌, inl, inr, refl, subst, ℕ, both_ways, Family, Setup, same_spelled, IsPositionOf}
use Rattle.dobutsu_c.proofs.Common.{IsInClass-class_number, IsIndex, IsTextOf}
use Rattle.dobutsu_c.specs.ByIndex.{IsClassFault, IsUnfit}
use Rattle.dobutsu_c.specs.Counts.{IsFamily}
use Rattle.dobutsu_c.proofs.Exact.{no_stranger}
use Rattle.dobutsu_c.proofs.Indexed.{one_family}
use Rattle.dobutsu_c.proofs.class_by.dobutsu_class_by.Goals as goal
use Rattle.dobutsu_c.proofs.class_by.dobutsu_class_by.Goals.{In-Ok-family_of}

-- what is asked is what was found
found : (c : In-Ok-family_of) (family : Family) (setup : Setup) → IsFamily c.args.chicks c.args.elephants c.args.giraffes c.args.profile family
    → IsTextOf c.args.text.now setup → IsPositionOf family setup
    → (family ≡ c.in-Ok-family_of.family) × (setup ≡ c.in-Ok.position.setup) × IsPositionOf c.in-Ok-family_of.family c.in-Ok.position.setup
found c family setup is named member =
    let same = one_family c.args.chicks c.args.elephants c.args.giraffes c.args.profile family c.in-Ok-family_of.family is c.in-Ok-family_of.ensures.0 in
    let read = same_spelled c.args.text.now setup c.in-Ok.position.setup named.1 c.in-Ok.ensures.read.2 in
    (same, read, subst (IsPositionOf c.in-Ok-family_of.family) read (subst (λ (f : Family). IsPositionOf f setup) same member))

-- the numbers name a family, which the index or the position doesn't fit
unfit : (c : In-Ok-family_of) (number : ℕ) → IsUnfit c.in-Ok-family_of.family c.args.index.now c.in-Ok.position.setup number
    → IsClassFault c.args.chicks c.args.elephants c.args.giraffes c.args.profile c.args.index.now c.args.text.now number
unfit c number is = inr (
  c.in-Ok.position.setup,
  (c.in-Ok.ensures.read.0, c.in-Ok.ensures.read.2),
  inr (c.in-Ok-family_of.family, c.in-Ok-family_of.ensures.0, is),
)

pub returns-in-Ok-check_member-clause-class : goal.returns-in-Ok-check_member-clause-class
returns-in-Ok-check_member-clause-class c = λ family setup is index named member.
    let as_found = found (goal.at.returns-in-Ok-check_member-clause-class c).In-Ok-family_of family setup is named member in
    let number = c.class_by.ensures (rw as_found.0 at index) in
    (refl, rw (as_found.0, as_found.1, number) (IsInClass-class_number c.in-Ok-family_of.family c.in-Ok.position.setup as_found.2))

pub returns-then-not-is_index_of-clause-class : goal.returns-then-not-is_index_of-clause-class
returns-then-not-is_index_of-clause-class c = λ family setup is index named member.
    let as_found = found (goal.at.returns-then-not-is_index_of-clause-class c).In-Ok-family_of family setup is named member in
    let there : IsIndex c.in-Ok-family_of.family c.args.index.now = subst (λ (f : Family). IsIndex f c.args.index.now) as_found.0 index in
    absurd (both_ways _ c.if-not-is_index_of.true (c.is_index_of.ensures.1 there.marked))

pub returns-in-Err-check_member-clause-class : goal.returns-in-Err-check_member-clause-class
returns-in-Err-check_member-clause-class c = λ family setup is index named member.
    let as_found = found (goal.at.returns-in-Err-check_member-clause-class c).In-Ok-family_of family setup is named member in
    absurd (no_stranger c.in-Ok-family_of.family c.in-Ok.position.setup c.in-Err-check_member.stranger as_found.2 c.in-Err-check_member.ensures)

pub returns-in-Ok-check_member-clause-told : goal.returns-in-Ok-check_member-clause-told
returns-in-Ok-check_member-clause-told c = λ none. (
  c.in-Ok-family_of.family,
  c.in-Ok.position.setup,
  c.in-Ok-family_of.ensures.0,
  c.is_index_of.ensures.0 c.if-not-is_index_of.false,
  (c.in-Ok.ensures.read.0, c.in-Ok.ensures.read.2),
  c.in-Ok-check_member.ensures,
)

pub returns-in-Err-clause-refused : goal.returns-in-Err-clause-refused
returns-in-Err-clause-refused c = λ _. inl (c.in-Err.fault, c.in-Err.ensures.read, c.text_number.ensures.number)

pub returns-in-Err-family_of-clause-refused : goal.returns-in-Err-family_of-clause-refused
returns-in-Err-family_of-clause-refused c = λ some. inr (
  c.in-Ok.position.setup,
  (c.in-Ok.ensures.read.0, c.in-Ok.ensures.read.2),
  inl (subst (λ (n : ℕ). n ≢ 0) c.in-Err-family_of.ensures.0 some, c.in-Err-family_of.ensures.0),
)

pub returns-then-not-is_index_of-clause-refused : goal.returns-then-not-is_index_of-clause-refused
returns-then-not-is_index_of-clause-refused c = λ _.
    unfit (goal.at.returns-then-not-is_index_of-clause-refused c).In-Ok-family_of _
    (inl (λ marked. both_ways _ c.if-not-is_index_of.true (c.is_index_of.ensures.1 marked), refl))

pub returns-in-Err-check_member-clause-refused : goal.returns-in-Err-check_member-clause-refused
returns-in-Err-check_member-clause-refused c = λ _.
    unfit (goal.at.returns-in-Err-check_member-clause-refused c).In-Ok-family_of _ (inr (
      c.is_index_of.ensures.0 c.if-not-is_index_of.false,
      c.in-Err-check_member.stranger,
      c.in-Err-check_member.ensures,
      c.number.ensures.number,
    ))
