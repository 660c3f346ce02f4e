-- Tables during the sweeps.
use Rattle.dob_value.proofs.Common.{rules, add-one, ◌++◌, ◌+◌, ◌<◌, ◌∙◌, ◌≡◌, ◌≤◌, List, arith, drop, get_or, inl, inr, length, map, slice_index_or, slice_set}
use Rattle.dob_value.proofs.Common.{subst, suc, take, true, zero, ℕ, cases_lt, common_steps, get_or-map, length-map, All, Family, Profile, Setup, Goes}
use Rattle.dob_value.proofs.Common.{HasStatus, Move, Status, Caught, Open, Stuck, Tried, classes_of, class_setup, IsEntry, IsShort, IsCutOff, Tells, TellsAt}
use Rattle.dob_value.proofs.Common.{is_draw, AreCutOff, AreSwept, AreValues, ClassStandsFor, IsGraph, IsNode, status_at, value_at_start, HasValue, Lost, Won}
use Rattle.dob_value.proofs.Common.{MAX_DISTANCE, Value, Draw, Loss, Win}
use Rattle.std.proofs.lemmas.List.{get_or_default}
use Rattle.dob_value.specs.declared.graph.Graph.{Graph}
use Rattle.dob_distance.proofs.Depths.{won_stays, lost_stays, lost_not_caught, lost_not_open, won_not_lost}
use Rattle.dob_distance.proofs.Outlooks.{tells, tells_same, draw_is}
use Rattle.dob_distance.proofs.Parity.{short_of_cut, entry_of_value}

-- a node's successors stay so where their numbers stand for positions in another way too
pub node_standing : (profile : Profile) (StandsFor Other : ℕ → Setup → Type 0) (p : Setup) (status : Status) (numbers : List ℕ) →
    ((number : ℕ) (q : Setup) → StandsFor number q → Other number q) → IsNode profile StandsFor p status numbers → IsNode profile Other p status numbers
node_standing profile StandsFor Other p status numbers stands known = record {
  status = known.status;
  successors = record {
    sound = λ number there. let step = known.successors.sound number there in (step.0, step.1, step.2, stands number step.1 step.3);
    whole = λ goes_on move q goes. let step = known.successors.whole goes_on move q goes in (step.0, step.1, stands step.0 q step.2);
  };
}

-- the entries during a sweep say, at each node, of what its successors are
pub successors_told : (n upto : ℕ) (family : Family) (entries : List Value) (p : Setup) (status : Status) (numbers : List ℕ) →
    AreSwept n upto family entries → IsNode family.profile (ClassStandsFor family) p status numbers → IsNode family.profile (TellsAt family.profile n entries) p status numbers
successors_told n upto family entries p status numbers swept known =
    let told : (number : ℕ) (q : Setup) → ClassStandsFor family number q → TellsAt family.profile n entries number q = λ number q stands.
    let fits = swept.fits number stands.0 in
    let below : number < length entries = omega (arith, stands.0, swept.same_length) in
    let told_there : Tells family.profile n (class_setup family number) (slice_index_or entries number Draw) = elim (cases_lt number upto) [
      | inl earlier ↦ tells family.profile n (n + 1) (class_setup family number) _ (omega arith) (fits.0 earlier)
      | inr later ↦ tells family.profile n n (class_setup family number) _ (omega arith) (fits.1 later)
    ] in
    (below, tells_same family.profile n (class_setup family number) q _ stands.1 told_there) in
    node_standing family.profile (ClassStandsFor family) (TellsAt family.profile n entries) p status numbers told known

-- one entry more is swept, which is written
pub swept_written : (n upto : ℕ) (family : Family) (entries : List Value) (v : Value) → upto < classes_of family →
    AreSwept n upto family entries → IsCutOff family.profile (n + 1) (class_setup family upto) v → AreSwept n (upto + 1) family (slice_set entries upto v)
swept_written n upto family entries v within swept cut = search rules

-- an entry that one depth more doesn't change: nothing is won or lost first at that depth
pub nothing_new : (profile : Profile) (n : ℕ) (p : Setup) (entry : Value) → IsCutOff profile n p entry → IsCutOff profile (n + 1) p entry →
    (Won profile (suc n) p → Won profile n p) × (Lost profile (suc n) p → Lost profile n p)
nothing_new profile n p (Win d) cut next =
    (λ won. won_stays profile d n p cut.0 cut.1.0, λ lost. absurd (won_not_lost profile d (suc n) p cut.1.0 lost))
nothing_new profile n p (Loss d) cut next =
    (λ won. absurd (won_not_lost profile (suc n) d p won cut.1.0), λ lost. lost_stays profile d n p cut.0 cut.1.0)
nothing_new profile n p Draw cut next =
    (λ won. absurd (next.0 (rw add-one won)), λ lost. absurd (next.1 (rw add-one lost)))

-- nothing is won or lost first at depth n + 1
abbrev pub NothingNew : ℕ → Family → Type 0
NothingNew n family = (number : ℕ) → number < classes_of family →
    (Won family.profile (suc n) (class_setup family number) → Won family.profile n (class_setup family number))
    × (Lost family.profile (suc n) (class_setup family number) → Lost family.profile n (class_setup family number))

-- the moves of the classes lead into classes
abbrev pub LeadsToClasses : Family → Type 0
LeadsToClasses family = (number : ℕ) → number < classes_of family → HasStatus family.profile (class_setup family number) Open → (move : Move) (q : Setup) →
    Goes family.profile (class_setup family number) move q → (next : ℕ) × ClassStandsFor family next q

-- then nothing is at any greater depth
pub nothing_later : (n : ℕ) (family : Family) → LeadsToClasses family → NothingNew n family → (m number : ℕ) → number < classes_of family →
    (Won family.profile m (class_setup family number) → Won family.profile n (class_setup family number)) × (Lost family.profile m (class_setup family number) → Lost family.profile n (class_setup family number))
nothing_later n family leads nothing zero number there =
    (λ won. absurd won, λ over. lost_stays family.profile 0 n (class_setup family number) (omega arith) over)
nothing_later n family leads nothing (suc m) number there = (
  λ won. (nothing number there).0 (elim won [
    | inl caught ↦ inl caught
    | inr open_win ↦
        let next = leads number there open_win.0 open_win.1 open_win.2 open_win.3 in
        let later = nothing_later n family leads nothing m next.0 next.1.0 in
        let lost = (next.1.1.lost n).1 (later.1 ((next.1.1.lost m).0 open_win.4)) in
        inr (open_win.0, open_win.1, open_win.2, open_win.3, lost)
  ]),
  λ lost. (nothing number there).1 (elim lost [
    | inl over ↦ inl over
    | inr open_loss ↦ inr (
      open_loss.0,
      λ move q goes.
          let next = leads number there open_loss.0 move q goes in
          let later = nothing_later n family leads nothing m next.0 next.1.0 in
          (next.1.1.won n).1 (later.0 ((next.1.1.won m).0 (open_loss.1 move q goes))),
    )
  ]),
)

-- an entry cut off at a depth after which nothing comes is the value
pub value_of_cut : (profile : Profile) (n : ℕ) (p : Setup) (entry : Value) → ((m : ℕ) → (Won profile m p → Won profile n p) × (Lost profile m p → Lost profile n p)) →
    IsCutOff profile n p entry → HasValue profile p entry
value_of_cut profile n p (Win d) later cut = cut.1
value_of_cut profile n p (Loss d) later cut = cut.1
value_of_cut profile n p Draw later cut = λ m. (λ won. cut.0 ((later m).0 won), λ lost. cut.1 ((later m).1 lost))

-- a sweep that changes nothing is the last
pub unchanged_is_final : (n : ℕ) (graph : Graph) (entries : List Value) → IsGraph graph →
    AreCutOff n graph.family entries → AreCutOff (n + 1) graph.family entries → AreValues graph.family entries
unchanged_is_final n graph entries is cut next =
    let nothing : NothingNew n graph.family = λ number there.
    nothing_new graph.family.profile n (class_setup graph.family number) _ (cut.fits number there) (next.fits number there) in
    let leads : LeadsToClasses graph.family = λ number there goes_on move q goes.
    let step = (is.known number there).successors.whole goes_on move q goes in (step.0, step.2) in
    record {
      same_length = cut.same_length;
      fits = λ number there.
          value_of_cut graph.family.profile n (class_setup graph.family number) _ (λ m. nothing_later n graph.family leads nothing m number there) (cut.fits number there);
    }

-- where a sweep finds a draw that it hasn't swept yet, the class is neither won nor lost up to its depth
pub open_here : (n upto : ℕ) (family : Family) (entries : List Value) (entry : Value) →
    AreSwept n upto family entries → upto < classes_of family → entry ≡ slice_index_or entries upto Draw →
    is_draw entry ≡ true → (¬ Won family.profile n (class_setup family upto)) × (¬ Lost family.profile n (class_setup family upto))
open_here n upto family entries entry swept within read is_open = grind (arith, draw_is)

-- the table before the first sweep
pub start_at : (profile : Profile) (p : Setup) (status : Status) → HasStatus profile p status → IsCutOff profile 0 p (value_at_start status)
start_at profile p Caught h = (λ won. won, λ over. lost_not_caught profile p over h)
start_at profile p Tried h = (omega arith, (inl h, λ n lost. omega arith))
start_at profile p Stuck h = (omega arith, (inr h, λ n lost. omega arith))
start_at profile p Open h = (λ won. won, λ over. lost_not_open profile p over h)

pub starts_cut : (graph : Graph) → IsGraph graph → AreCutOff 0 graph.family (map value_at_start graph.statuses.items)
starts_cut graph is = record {
  same_length = length-map graph.statuses.items value_at_start ∙ is.statuses_whole;
  fits = λ number there.
      rw (get_or-map value_at_start graph.statuses.items number Open Draw (rw is.statuses_whole there))
      (start_at graph.family.profile (class_setup graph.family number) (status_at graph number) (is.known number there).status);
}

-- a slice that is written back whole is all that there is
pub put_back : {X : Type 0} (n : ℕ) (new old : List X) → length new ≡ length old → n ≡ length old →
    take n (new ++ drop (length new) old) ≡ new
put_back n new old same full = grind (arith, common_steps)

-- ---- entries that are short

-- entries cut off at a depth that isn't too great are short
pub all_short : (n : ℕ) (family : Family) (entries : List Value) → n ≤ MAX_DISTANCE → AreCutOff n family entries → All IsShort entries
all_short n family entries upto cut k d below =
    let same_length : length entries ≡ classes_of family = cut.same_length in
    let within : k < classes_of family = omega (arith, below) in
    subst IsShort (get_or_default entries k Draw d below)
    (short_of_cut family.profile n (class_setup family k) (get_or entries k Draw) upto (cut.fits k within))

-- short entries that are right have the parity of their kind
pub all_entries : (family : Family) (entries : List Value) → AreValues family entries → All IsShort entries → All IsEntry entries
all_entries family entries values short k d below =
    let same_length : length entries ≡ classes_of family = values.same_length in
    let within : k < classes_of family = omega (arith, below) in
    let here : HasValue family.profile (class_setup family k) (get_or entries k d) =
    subst (HasValue family.profile (class_setup family k)) (get_or_default entries k Draw d below) (values.fits k within) in
    entry_of_value family.profile (class_setup family k) (get_or entries k d) here (short k d below)
