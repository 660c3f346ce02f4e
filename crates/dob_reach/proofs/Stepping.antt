-- What a class's moves lead to: a list that leaves out what is marked. And what is found of parts of the classes, one after the other.
use Rattle.dob_reach.proofs.Common.{◌*◌, ◌++◌, ◌+◌, ◌-◌, ◌<◌, ◌∙◌, ◌∷◌, ◌≡◌, ◌≤◌, AllZip, Among, AreExpanded, AreMarked, AreMet, Bool, Contains}
use Rattle.dob_reach.proofs.Common.{Contains-append_cases, Contains-append_left, Contains-append_right, Family, Goes, HasBits, HasStatus, HaveBits}
use Rattle.dob_reach.proofs.Common.{IsExpanded, IsInClass, IsInClass-class_number, IsMarked, IsOpen, IsPartAt, IsSifted, KeepsMarks, Leads, List, Open, FrontierPart}
use Rattle.dob_reach.proofs.Common.{RepresentsClass, Setup, [], ap, append-nil, append_assoc, arith, class_number-below, classes_of, drop, false, get_or}
use Rattle.dob_reach.proofs.Common.{head_in, inl, inr, length, length-drop, length-take, min, none_in_empty, from_bool, opens_of, outcomes_of, part_at}
use Rattle.dob_reach.proofs.Common.{part_count, parts_before, range_with_len, refl, subst, suc, sym, take, take-add, take-append-drop, take_all, take_min}
use Rattle.dob_reach.proofs.Common.{take_more, true, zero, ℕ}
use Rattle.dob_classes.proofs.OfFamilies.FamilyRepresentatives.{one_class, one_representative}
use Rattle.dob_value.specs.Graphs.{AreSuccessors}
use Rattle.dob_reach.proofs.Counts.{among_both, among_none, among_one, only_one, among_few}
use Rattle.std.proofs.lemmas.List.Concat.{flat_map-append}
use Rattle.std.proofs.lemmas.List.Sums.{sum_by-cons}

-- ---- classes

-- what a position is in is a class of the family
pub number_low : (family : Family) (s : Setup) (class : ℕ) → IsInClass family s class → class < classes_of family
number_low family s class is =
    let same = one_class family s class _ is (IsInClass-class_number family s is.position) in
    subst (λ k. k < classes_of family) (sym same) (class_number-below family s is.position)

pub class_low : (family : Family) (class other : ℕ) → Leads family class other → other < classes_of family
class_low family class other leads = number_low family leads.outcome other leads.inside

-- ---- lists that leave out what is marked
pub sifted_both : {words all more numbers others : List ℕ} → IsSifted words all numbers → IsSifted words more others → IsSifted words (all ++ more) (numbers
    ++ others)
sifted_both {all = all} {more = more} {numbers = numbers} {others = others} a b = record {
  sound = λ number there. elim (Contains-append_cases numbers others number there) [
    | inl left ↦ Contains-append_left all more number (a.sound number left)
    | inr right ↦ Contains-append_right all more number (b.sound number right)
  ];
  whole = λ number there. elim (Contains-append_cases all more number there) [
    | inl left ↦ elim (a.whole number left) [ inl listed ↦ inl (Contains-append_left numbers others number listed) | inr is ↦ inr is ]
    | inr right ↦ elim (b.whole number right) [ inl listed ↦ inl (Contains-append_right numbers others number listed) | inr is ↦ inr is ]
  ];
}

pub sifted_none : (words : List ℕ) → IsSifted words [] []
sifted_none words = record { sound = λ number there. there; whole = λ number there. inl there }

pub sifted_out : (words : List ℕ) (number : ℕ) → IsMarked words number → IsSifted words (number ∷ []) []
sifted_out words number is = record {
  sound = λ other there. absurd (none_in_empty other there);
  whole = λ other there. inr (subst (IsMarked words) (only_one number other there) is);
}

-- ---- one class

-- a class to which a move of the position leads, which is open
abbrev pub StandsFor : Family → Setup → ℕ → Setup → Type 0
StandsFor family p number q = HasStatus family.profile p Open × IsInClass family q number

pub expanded_class : (family : Family) (words : List ℕ) (p : Setup) (class : ℕ) (all numbers : List ℕ) (is_open : Bool) → RepresentsClass family p class
    → AreSuccessors family.profile (StandsFor family p) p all → IsSifted words all numbers
    → (is_open ≡ true → HasStatus family.profile p Open) → (HasStatus family.profile p Open → is_open ≡ true)
    → IsExpanded family words class numbers is_open
expanded_class family words p class all numbers is_open represents successors sifted opened closed = record {
  sound = λ other there.
      let found = successors.sound other (sifted.sound other there) in
      record {
        representative = p;
        represents = represents;
        is_open = found.3.0;
        move = found.0;
        outcome = found.1;
        goes = found.2;
        inside = found.3.1;
      };
  whole = λ other leads.
      let same : leads.representative ≡ p = one_representative family leads.representative p class leads.represents represents in
      let found = successors.whole (subst (λ s. HasStatus family.profile s Open) same leads.is_open) leads.move leads.outcome
      (subst (λ s. Goes family.profile s leads.move leads.outcome) same leads.goes) in
      let number : found.0 ≡ other = one_class family leads.outcome found.0 other found.2.1 leads.inside in
      sifted.whole other (subst (Contains all) number found.1);
  opened = λ is. record { representative = p; represents = represents; is_open = opened is };
  closed = λ is.
      let same : is.representative ≡ p = one_representative family is.representative p class is.represents represents in
      closed (subst (λ s. HasStatus family.profile s Open) same is.is_open);
}

-- ---- several classes
pub expanded_none : (family : Family) (words : List ℕ) → AreExpanded family words [] [] 0
expanded_none family words = record {
  sound = λ other there. absurd (none_in_empty other there);
  whole = λ other step. absurd (none_in_empty step.0 step.1);
  open_are = refl;
}

pub expanded_both : {family : Family} {words front behind outcomes others : List ℕ} {m n : ℕ} → AreExpanded family words front outcomes m
    → AreExpanded family words behind others n → AreExpanded family words (front ++ behind) (outcomes ++ others) (m + n)
expanded_both {family = family} {front = front} {behind = behind} {outcomes = outcomes} {others = others} {m = m} {n = n} a b = record {
  sound = λ other there. elim (Contains-append_cases outcomes others other there) [
    | inl left ↦ let step = a.sound other left in (step.0, Contains-append_left front behind step.0 step.1, step.2)
    | inr right ↦ let step = b.sound other right in (step.0, Contains-append_right front behind step.0 step.1, step.2)
  ];
  whole = λ other step. elim (Contains-append_cases front behind step.0 step.1) [
    | inl left ↦ elim (a.whole other (step.0, left, step.2)) [ inl listed ↦ inl (Contains-append_left outcomes others other listed) | inr is ↦ inr is ]
    | inr right ↦ elim (b.whole other (step.0, right, step.2)) [ inl listed ↦ inl (Contains-append_right outcomes others other listed) | inr is ↦ inr is ]
  ];
  open_are = among_both (IsOpen family) front behind m n a.open_are b.open_are;
}

pub one_few : (is_so : Bool) → from_bool is_so ≤ 1
one_few true = omega arith
one_few false = omega arith

among_bool : (family : Family) (class : ℕ) (is_open : Bool) → (is_open ≡ true → IsOpen family class) → (IsOpen family class → is_open ≡ true)
    → Among (IsOpen family) (class ∷ []) (from_bool is_open)
among_bool family class true opened closed = among_one (IsOpen family) class (opened refl)
among_bool family class false opened closed = among_none (IsOpen family) class (λ is. let no_way = closed is in absurd (cc))

expanded_one : {family : Family} {words : List ℕ} {class : ℕ} {numbers : List ℕ} {is_open : Bool} → IsExpanded family words class numbers is_open
    → AreExpanded family words (class ∷ []) numbers (from_bool is_open)
expanded_one {family = family} {class = class} {is_open = is_open} is = record {
  sound = λ other there. (class, head_in class [], is.sound other there);
  whole = λ other step. is.whole other (subst (λ k. Leads family k other) (sym (only_one class step.0 step.1)) step.2);
  open_are = among_bool family class is_open is.opened is.closed;
}

pub expanded_more : {family : Family} {words front outcomes more : List ℕ} {opens class : ℕ} {is_open : Bool} → AreExpanded family words front outcomes opens
    → IsExpanded family words class more is_open → AreExpanded family words (front ++ class ∷ []) (outcomes ++ more) (opens + from_bool is_open)
expanded_more are is = expanded_both are (expanded_one is)

-- marks that stay keep it
pub expanded_kept : {family : Family} {words after front outcomes : List ℕ} {opens : ℕ} → AreExpanded family words front outcomes opens
    → KeepsMarks words after → AreExpanded family after front outcomes opens
expanded_kept are keeps = record {
  sound = are.sound;
  whole = λ other step. elim (are.whole other step) [ inl listed ↦ inl listed | inr is ↦ inr (keeps.kept other is) ];
  open_are = are.open_are;
}

-- ---- parts

-- a part is cut off by its length
pub part_is : (front : List ℕ) (place count : ℕ) → count ≡ min 4096 (length front - place * 4096) → take count (drop (place * 4096) front) ≡ part_at front place
part_is front place count is =
    let long = length-drop (place * 4096) front in
    let size : count ≡ min 4096 (length (drop (place * 4096) front)) = is ∙ ap (min 4096) (sym long) in
    ap (λ n. take n (drop (place * 4096) front)) size ∙ take_min 4096 (drop (place * 4096) front)

-- what is cut from a list stands in it
pub cut_in : (numbers : List ℕ) (from count number : ℕ) → Contains (take count (drop from numbers)) number → Contains numbers number
cut_in numbers from count number there =
    subst (λ xs. Contains xs number) (take-append-drop from numbers)
    (Contains-append_right (take from numbers) (drop from numbers) number
    (subst (λ xs. Contains xs number) (take-append-drop count (drop from numbers))
    (Contains-append_left (take count (drop from numbers)) (drop count (drop from numbers)) number there)))

-- the classes before a part, and that part
next_part : (front : List ℕ) (place : ℕ) → parts_before front place ++ part_at front place ≡ parts_before front (place + 1)
next_part front place =
    let end : place * 4096 + 4096 ≡ (place + 1) * 4096 = omega arith in
    sym (take-add (place * 4096) 4096 front) ∙ ap (λ n. take n front) end

-- what is found of so many parts more
pub parts_expanded : (family : Family) (words front : List ℕ) (place count : ℕ) (done : List ℕ) (opens : ℕ) (parts : List FrontierPart)
    → AreExpanded family words (parts_before front place) done opens → AllZip (IsPartAt family words front) (range_with_len place count) parts
    → AreExpanded family words (parts_before front (place + count)) (done ++ outcomes_of parts) (opens + opens_of parts)
parts_expanded family words front place zero done opens [] are found =
    let end : place ≡ place + 0 = omega arith in
    subst (λ n. AreExpanded family words (parts_before front n) (done ++ []) (opens + 0)) end
    (subst (λ xs. AreExpanded family words (parts_before front place) xs (opens + 0)) (sym (append-nil done))
    (let same : opens ≡ opens + 0 = omega arith in subst (AreExpanded family words (parts_before front place) done) same are))
parts_expanded family words front place zero done opens (part ∷ parts) are found = absurd found
parts_expanded family words front place (suc count) done opens [] are found = absurd found
parts_expanded family words front place (suc count) done opens (part ∷ parts) are found =
    let more : AreExpanded family words (parts_before front (place + 1)) (done ++ part.outcomes.items) (opens + part.opens)
    = subst (λ xs. AreExpanded family words xs (done ++ part.outcomes.items) (opens + part.opens)) (next_part front place)
    (expanded_both are found.0.expanded) in
    let all = parts_expanded family words front (place + 1) count (done ++ part.outcomes.items) (opens + part.opens) parts more found.1 in
    let end : place + 1 + count ≡ place + suc count = omega arith in
    let sum : opens + part.opens + opens_of parts ≡ opens + opens_of (part ∷ parts) = (let split = sum_by-cons (λ (p : FrontierPart). p.opens) part parts in omega (arith, split)) in
    subst (λ n. AreExpanded family words (parts_before front (place + suc count)) (done ++ outcomes_of (part ∷ parts)) n) sum
    (subst (λ xs. AreExpanded family words (parts_before front (place + suc count)) xs (opens + part.opens + opens_of parts)) (append_assoc done part.outcomes.items (outcomes_of parts))
    (subst (λ n. AreExpanded family words (parts_before front n) ((done ++ part.outcomes.items) ++ outcomes_of parts) (opens + part.opens + opens_of parts)) end all))

-- what a part leads to is what all lead to
pub part_outcomes : (parts : List FrontierPart) (place : ℕ) (part : FrontierPart) (number : ℕ) → place < length parts → part ≡ get_or parts place part
    → Contains part.outcomes.items number → Contains (outcomes_of parts) number
part_outcomes [] place part number within is there = absurd (omega (arith, within))
part_outcomes (first ∷ rest) zero part number within is there =
    Contains-append_left first.outcomes.items (outcomes_of rest) number (subst (λ (p : FrontierPart). Contains p.outcomes.items number) is there)
part_outcomes (first ∷ rest) (suc place) part number within is there =
    Contains-append_right first.outcomes.items (outcomes_of rest) number (part_outcomes rest place part number (omega (arith, within)) is there)

-- one part more
pub one_part_more : (parts : List FrontierPart) (place : ℕ) (part : FrontierPart) → place < length parts → part ≡ get_or parts place part
    → outcomes_of (take (place + 1) parts) ≡ outcomes_of (take place parts) ++ part.outcomes.items
one_part_more parts place part within is =
    ap outcomes_of (take_more parts place part within)
    ∙ (flat_map-append (λ (p : FrontierPart). p.outcomes.items) (take place parts) (get_or parts place part ∷ [])
    ∙ ap (λ (xs : List ℕ). outcomes_of (take place parts) ++ xs) (append-nil (get_or parts place part).outcomes.items ∙ ap (λ (p : FrontierPart). p.outcomes.items) (sym is)))

-- there are bits for what parts lead to
pub parts_have_bits : {family : Family} {words front : List ℕ} {opens : ℕ} (done more : List ℕ) → AreExpanded family words front (done ++ more) opens
    → HasBits words (classes_of family) → HaveBits words more
parts_have_bits {family = family} done more are bits number there =
    let step = are.sound number (Contains-append_right done more number there) in
    let low = class_low family step.0 number step.2 in
    omega (arith, low, bits)

-- no more are open than there are
pub opens_fit : {family : Family} {words outcomes : List ℕ} {opens : ℕ} (front : List ℕ) (place : ℕ) → AreExpanded family words (parts_before front place)
    outcomes opens → opens ≤ length front
opens_fit {family = family} {opens = opens} front place are =
    let few = among_few (IsOpen family) (parts_before front place) opens are.open_are in
    let cut = length-take (place * 4096) front in
    omega (arith, few, cut)

-- all parts are done
pub all_parts : (front : List ℕ) (place : ℕ) → part_count front ≤ place → parts_before front place ≡ front
all_parts front place all = take_all (place * 4096) front (omega (arith, all))

pub round_met : {family : Family} {before words front done next : List ℕ} {opens : ℕ} → AreExpanded family words front done opens → AreMarked before words
    done next → AreMet (Leads family) before words front next
round_met are marked = record {
  keeps = marked.keeps;
  marked = marked.marked;
  fresh = marked.fresh;
  listed = λ number there. let had = marked.listed number there in (had.0, are.sound number had.1);
  whole = λ number step. elim (are.whole number step) [ inl listed ↦ marked.whole number listed | inr is ↦ is ];
  once = marked.once;
}
