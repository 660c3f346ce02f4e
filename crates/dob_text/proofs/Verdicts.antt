-- A text has one fault at most, and none where a position's text is.
use Rattle.dob_text.proofs.Common.{◌<◌, ◌↔◌, ◌∙◌, ◌≡◌, ◌≤◌, Err, List, Ok, Result, ap, arith, refl, subst, sym, ℕ, IsAllowed, Setup, Spells, text_of}
use Rattle.dob_text.proofs.Common.{capped_setup}
use Rattle.std.specs.Result.{MatchResult, IsErrOf, IfOk, IsOkAnd}
use Rattle.dob_pieces.specs.declared.kind.HandKind.TheVariants as kind
use Rattle.dob_pieces.specs.declared.profile.Profile.{Profile}
use Rattle.dob_pieces.specs.declared.position.Position.{Position}
use Rattle.dob_pieces.specs.Setups.{total, HasLions, HasFewPieces, HasLionOffFarRow, IsLegal}
use Rattle.dob_text.specs.declared.fault.TextFault.{TextFault}
use Rattle.dob_text.specs.declared.fault.TextFault.TheVariants as fault
use Rattle.dob_text.specs.Faults.{HasTextFault, HasSetupFault}
use Rattle.dob_text.proofs.Fronts.{same_hand}
use Rattle.dob_text.proofs.Whole.{spelled_shape, spelled_letters, spelled_hands, same_spelled, same_setup}
use Rattle.std.proofs.lemmas.Bool.{cases_order}

-- the order of the faults
abbrev place : TextFault → ℕ
place fault.Shape = 0
place fault.Letter = 1
place fault.Hand = 2
place fault.Lions = 3
place fault.Count = 4
place fault.FarLion = 5
place fault.FarChick = 6

place_small : (f : TextFault) → place f ≤ 6
place_small f = grind arith

same_place : (f g : TextFault) → place f ≡ place g → f ≡ g
same_place f g e = grind arith

-- a later fault speaks against an earlier one
ordered : (profile : Profile) (text : List ℕ) (f g : TextFault) → place f < place g → HasTextFault profile text f → HasTextFault profile text g → ⊥
ordered profile text fault.Shape fault.Letter lt x y = x y.0
ordered profile text fault.Shape fault.Hand lt x y = x y.0
ordered profile text fault.Shape fault.Lions lt x y = x (spelled_shape text y.0 y.1)
ordered profile text fault.Shape fault.Count lt x y = x (spelled_shape text y.0 y.1)
ordered profile text fault.Shape fault.FarLion lt x y = x (spelled_shape text y.0 y.1)
ordered profile text fault.Shape fault.FarChick lt x y = x (spelled_shape text y.0 y.1)
ordered profile text fault.Letter fault.Hand lt x y = x.1 y.1
ordered profile text fault.Letter fault.Lions lt x y = x.1 (spelled_letters text y.0 y.1)
ordered profile text fault.Letter fault.Count lt x y = x.1 (spelled_letters text y.0 y.1)
ordered profile text fault.Letter fault.FarLion lt x y = x.1 (spelled_letters text y.0 y.1)
ordered profile text fault.Letter fault.FarChick lt x y = x.1 (spelled_letters text y.0 y.1)
ordered profile text fault.Hand fault.Lions lt x y = x.2 (spelled_hands text y.0 y.1)
ordered profile text fault.Hand fault.Count lt x y = x.2 (spelled_hands text y.0 y.1)
ordered profile text fault.Hand fault.FarLion lt x y = x.2 (spelled_hands text y.0 y.1)
ordered profile text fault.Hand fault.FarChick lt x y = x.2 (spelled_hands text y.0 y.1)
ordered profile text fault.Lions fault.Count lt x y = x.2 (subst (λ (s : Setup). HasLions s) (same_spelled text y.0 x.0 y.1 x.1) y.2)
ordered profile text fault.Lions fault.FarLion lt x y = x.2 (subst (λ (s : Setup). HasLions s) (same_spelled text y.0 x.0 y.1 x.1) y.2)
ordered profile text fault.Lions fault.FarChick lt x y = x.2 (subst (λ (s : Setup). HasLions s) (same_spelled text y.0 x.0 y.1 x.1) y.2.lions)
ordered profile text fault.Count fault.FarLion lt x y = x.3 (subst (λ (s : Setup). HasFewPieces s) (same_spelled text y.0 x.0 y.1 x.1) y.3)
ordered profile text fault.Count fault.FarChick lt x y = x.3 (subst (λ (s : Setup). HasFewPieces s) (same_spelled text y.0 x.0 y.1 x.1) y.2.few)
ordered profile text fault.FarLion fault.FarChick lt x y =
    x.4 (subst (λ (s : Setup). HasLionOffFarRow s) (same_spelled text y.0 x.0 y.1 x.1) y.2.home)
ordered profile text _ g lt x y = absurd (omega (arith, place_small g))

-- a text has one fault
pub one_fault : (profile : Profile) (text : List ℕ) (f g : TextFault) → HasTextFault profile text f → HasTextFault profile text g → f ≡ g
one_fault profile text f g x y = grind (arith, cases_order (place f) (place g), same_place f g, ordered profile text f g, ordered profile text g f)

-- the text of a position of the profile has none
pub no_fault : (profile : Profile) (text : List ℕ) (setup : Setup) (f : TextFault) → IsLegal setup → IsAllowed profile setup → Spells text setup
    → HasTextFault profile text f → ⊥
no_fault profile text setup fault.Shape legal allowed spells x = x (spelled_shape text setup spells)
no_fault profile text setup fault.Letter legal allowed spells x = x.1 (spelled_letters text setup spells)
no_fault profile text setup fault.Hand legal allowed spells x = x.2 (spelled_hands text setup spells)
no_fault profile text setup fault.Lions legal allowed spells x = x.2 (rw (same_spelled text setup x.0 spells x.1) at legal.lions)
no_fault profile text setup fault.Count legal allowed spells x = x.3 (rw (same_spelled text setup x.0 spells x.1) at legal.few)
no_fault profile text setup fault.FarLion legal allowed spells x = x.4 (rw (same_spelled text setup x.0 spells x.1) at legal.home)
no_fault profile text setup fault.FarChick legal allowed spells x = x.3 (rw (same_spelled text setup x.0 spells x.1) at allowed)

-- what reading gives: the position that the text spells, or its fault
abbrev pub Reads : Profile → List ℕ → Result Position TextFault → Type 0
Reads profile text r = MatchResult r
    (λ position. IsLegal position.setup × IsAllowed profile position.setup × Spells text position.setup)
    (λ f. HasTextFault profile text f)

pub read_as : (profile : Profile) (text : List ℕ) (r : Result Position TextFault) → Reads profile text r → IfOk r (λ position. text ≡ text_of position.setup)
read_as profile text r reads = grind arith

pub allowed_as : (profile : Profile) (text : List ℕ) (r : Result Position TextFault) → Reads profile text r → IfOk r (λ position. IsAllowed profile position.setup)
allowed_as profile text r reads = grind arith

pub fault_as : (profile : Profile) (text : List ℕ) (r : Result Position TextFault) → Reads profile text r
    → (f : TextFault) → IsErrOf r f ↔ HasTextFault profile text f
fault_as profile text (Ok position) reads f = (λ same. cc, λ x. absurd (no_fault profile text position.setup f reads.0 reads.1 reads.2 x))
fault_as profile text (Err e) reads f =
    (λ same. let is : e ≡ f = cc in rw is at reads, λ x. ap (λ (g : TextFault). Err g) (one_fault profile text e f reads x))

pub whole_as : (profile : Profile) (text : List ℕ) (r : Result Position TextFault) → Reads profile text r → (setup : Setup) → IsLegal setup
    → IsAllowed profile setup → text ≡ text_of setup → IsOkAnd r (λ position. position.setup ≡ setup)
whole_as profile text (Ok position) reads setup legal allowed is =
    same_spelled text position.setup setup reads.2 (record { squares = legal.squares; spelled = is })
whole_as profile text (Err f) reads setup legal allowed is =
    no_fault profile text setup f legal allowed (record { squares = legal.squares; spelled = is }) reads

-- counts above 255 are above 2
few_up : (setup : Setup) → HasFewPieces (capped_setup setup) → HasFewPieces setup
unfolding total
few_up setup few of_kind = let h = few of_kind in grind arith

few_down : (setup : Setup) → HasFewPieces setup → HasFewPieces (capped_setup setup)
unfolding total
few_down setup few kind.Chick = let h : total kind.Chick setup ≤ 2 = few kind.Chick in omega arith
few_down setup few of_kind = let h : total of_kind setup ≤ 2 = few of_kind in omega arith

-- where there are few pieces nothing is capped
uncapped : (setup : Setup) → HasFewPieces setup → capped_setup setup ≡ setup
unfolding total
uncapped setup few =
    let chicks = few kind.Chick in
    let elephants = few kind.Elephant in
    let giraffes = few kind.Giraffe in
    same_setup _ _ refl (same_hand _ _ (omega arith) (omega arith) (omega arith)) (same_hand _ _ (omega arith) (omega arith) (omega arith))

-- the setup that was read is capped, and its fault is the text's
fault_up : (profile : Profile) (text : List ℕ) (setup : Setup) (f : TextFault) → Spells text setup
    → HasSetupFault profile (capped_setup setup) f → HasTextFault profile text f
fault_up profile text setup fault.Lions spells x = (setup, spells, x)
fault_up profile text setup fault.Count spells x = (setup, spells, x.0, λ few. x.1 (few_down setup few))
fault_up profile text setup fault.FarLion spells x = (setup, spells, x.0, few_up setup x.1, x.2)
fault_up profile text setup fault.FarChick spells x =
    let same : capped_setup setup ≡ setup = uncapped setup (few_up setup x.0.few) in
    (setup, spells, subst (λ (s : Setup). IsLegal s) same x.0, λ allowed. x.1 (subst (λ (s : Setup). IsAllowed profile s) (sym same) allowed))
fault_up profile text setup f spells x = absurd x

-- so is its position the text's
pub reads_by : (profile : Profile) (text : List ℕ) (full setup : Setup) (r : Result Position TextFault) → Spells text full → setup ≡ capped_setup full
    → MatchResult r (λ position. IsLegal setup × IsAllowed profile setup × (position.setup ≡ setup)) (λ f. HasSetupFault profile setup f) → Reads profile text r
reads_by profile text full setup (Ok position) spells is found =
    let legal = rw is at found.0 in
    let same : full ≡ position.setup = sym (found.2 ∙ is ∙ uncapped full (few_up full legal.few)) in
    (rw found.2 found.0, rw found.2 found.1, rw same at spells)
reads_by profile text full setup (Err f) spells is fault = fault_up profile text full f spells (rw is at fault)
