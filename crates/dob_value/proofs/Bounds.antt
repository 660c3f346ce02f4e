-- Of a table that is right, at least up to a depth, no distance up to it is above the number of classes.
use Rattle.dob_value.proofs.Common.{◌<◌, ◌∙◌, ◌≡◌, ◌≢◌, ◌≤◌, ◌⊎◌, AllPairs, Contains, List, arith, get_or, inl, inr, length, map, slice_index_or, subst, suc, ℕ}
use Rattle.dob_value.proofs.Common.{get_or-map, length-map, slice_get-get_or, range_with_len, Family, Profile, Setup, HasClass-marked, HasClasses-classes_of}
use Rattle.dob_value.proofs.Common.{IsPositionOf, IsRepresentative, classes_of, marks_below, rank_of_set, HasDistance, IsCutOff, AreCutOff, HasEntries}
use Rattle.dob_value.proofs.Common.{SomeHasDistance, HasValue, Lost, Won, Value, Draw, Loss, Win}
use Rattle.std.proofs.lemmas.List.FromFn.{length-range_with_len, get_or-range_with_len}
use Rattle.dob_pieces.proofs.Lists.{stands_or}
use Rattle.dob_rank.specs.Families.{is_marked, class_setup}
use Rattle.dob_distance.specs.Distances.{plies_of}
use Rattle.dob_value.specs.Bounds.{DistancesAreFew}
use Rattle.dob_distance.proofs.Depths.{won_stays, lost_stays, won_not_lost}
use Rattle.dob_value.proofs.Tables.{LeadsToClasses, NothingNew, nothing_later}
use Rattle.dob_value.proofs.ClassNumbers.{no_longer, one_count, class_within, has_representative, representative_is, represents_itself}
use Rattle.dob_value.proofs.Rows.{class_setup_is, class_outlook}
use Rattle.dob_value.proofs.Successors.{moves_keep_the_family}

-- ---- the moves of a class lead into classes
is_position : (family : Family) (number : ℕ) → number < classes_of family → IsPositionOf family (class_setup family number)
is_position family number low = (class_setup_is family number (classes_of family) (HasClasses-classes_of family) low).0.0

pub leads : (family : Family) → LeadsToClasses family
leads family number low goes_on move q goes =
    let all = HasClasses-classes_of family in
    let is = moves_keep_the_family family (class_setup family number) move q (is_position family number low) goes_on goes in
    let found = has_representative family q is in
    let represents = representative_is family q found.0 is found.1 in
    let class = marks_below (is_marked family) (rank_of_set family.set found.0) in
    let at = HasClass-marked family found.0 represents.0 in
    let within : class < classes_of family = class_within family found.0 class (classes_of family) represents at all in
    (class, (within, class_outlook family q found.0 class (classes_of family) all within is found.1 at))

-- ---- entries that are right up to a depth

-- a win or a loss is right, and a draw is neither won nor lost within n plies
abbrev pub IsRightUpTo : Profile → ℕ → Setup → Value → Type 0
IsRightUpTo profile n p (Win plies) = HasValue profile p (Win plies)
IsRightUpTo profile n p (Loss plies) = HasValue profile p (Loss plies)
IsRightUpTo profile n p Draw = (¬ Won profile n p) × (¬ Lost profile n p)

abbrev pub AreRightUpTo : ℕ → Family → List Value → Type 0
AreRightUpTo n family = HasEntries (λ number p entry. IsRightUpTo family.profile n p entry) family

cut_right : (profile : Profile) (n : ℕ) (p : Setup) (v : Value) → IsCutOff profile n p v → IsRightUpTo profile n p v
cut_right profile n p Draw cut = cut
cut_right profile n p _ cut = cut.1

value_right : (profile : Profile) (n : ℕ) (p : Setup) (v : Value) → HasValue profile p v → IsRightUpTo profile n p v
value_right profile n p Draw has = has n
value_right profile n p _ has = has

-- what isn't the distance of an entry is new to no class
no_new : (profile : Profile) (n k : ℕ) (p : Setup) (v : Value) → suc k ≤ n → IsRightUpTo profile n p v → plies_of v ≢ suc k →
    (Won profile (suc k) p → Won profile k p) × (Lost profile (suc k) p → Lost profile k p)
no_new profile n k p (Win plies) low right other = (
  λ won. won_stays profile plies k p (omega (arith, right.1 (suc k) won, other)) right.0,
  λ lost. absurd (won_not_lost profile plies (suc k) p right.0 lost),
)
no_new profile n k p (Loss plies) low right other = (
  λ won. absurd (won_not_lost profile (suc k) plies p won right.0),
  λ lost. lost_stays profile plies k p (omega (arith, right.1 (suc k) lost, other)) right.0,
)
no_new profile n k p Draw low right other = (
  λ won. absurd (right.0 (won_stays profile (suc k) n p low won)),
  λ lost. absurd (right.1 (lost_stays profile (suc k) n p low lost)),
)

-- ---- each lesser distance is some entry's

module _ (family : Family) (n : ℕ) (entries : List Value) (right : AreRightUpTo n family entries) where
  abbrev told : List ℕ
  told = map plies_of entries

  in_told : (number k : ℕ) → number < classes_of family → plies_of (slice_index_or entries number Draw) ≡ k → Contains told k
  in_told number k low is =
      let within : number < length entries = rw right.same_length low in
      (number, rw length-map within, get_or-map plies_of entries number Draw k within ∙ is)

  lesser_told : (number d k : ℕ) → number < classes_of family → HasDistance family.profile (class_setup family number) d → d ≤ n → suc k ≤ d → Contains told (suc k)
  lesser_told number d k low has upto less = elim (stands_or told (suc k)) [
    | inl there ↦ there
    | inr absent ↦
        let nothing : NothingNew k family = λ other there. no_new family.profile n k (class_setup family other) (slice_index_or entries other Draw) (omega (arith, upto, less))
        (right.fits other there) (λ same. absent (in_told other (suc k) there same)) in
        let later = nothing_later k family (leads family) nothing d number low in
        absurd (elim has [
          | inl won ↦ omega (arith, won.1 k (later.0 won.0), less)
          | inr lost ↦ omega (arith, lost.1 k (later.1 lost.0), less)
        ])
  ]

  range_apart : (d : ℕ) → AllPairs (λ (a b : ℕ). a ≢ b) (range_with_len 1 d)
  range_apart d i j e less within same = grind (arith, length-range_with_len, get_or-range_with_len)

  -- so as many classes as plies
  pub distance_within : (number d : ℕ) → number < classes_of family → HasDistance family.profile (class_setup family number) d → d ≤ n → d ≤ classes_of family
  distance_within number d low has upto =
      let each : (k : ℕ) → Contains (range_with_len 1 d) k → Contains told k = λ k there.
      let below : there.0 < d = rw length-range_with_len at there.1 in
      let is : suc there.0 ≡ k = omega (arith, get_or-range_with_len 1 d there.0 k below, there.2) in
      subst (λ m. Contains told m) is (lesser_told number d there.0 low has upto (omega (arith, below))) in
      omega (
        arith,
        no_longer (range_with_len 1 d) told (range_apart d) each,
        length-range_with_len 1 d,
        length-map entries plies_of,
        right.same_length,
      )

-- a class that is won or lost in n plies, where entries are cut off at depth n
pub deep_within : (family : Family) (n : ℕ) (entries : List Value) → AreCutOff n family entries → SomeHasDistance family n → n ≤ classes_of family
deep_within family n entries cut some = distance_within family n entries (record {
  same_length = cut.same_length;
  fits = λ number low. cut_right family.profile n (class_setup family number) (slice_index_or entries number Draw) (cut.fits number low);
}) some.0 n some.1 some.2 (omega arith)

-- ---- value tables
value_distance : (profile : Profile) (p : Setup) (v : Value) → HasValue profile p v → (plies_of v ≡ 0) ⊎ HasDistance profile p (plies_of v)
value_distance profile p (Win plies) has = inr (inl has)
value_distance profile p (Loss plies) has = inr (inr has)
value_distance profile p Draw has = inl (omega arith)

pub distances_are_few : DistancesAreFew
distances_are_few family entries table = λ number default within.
    let number_low : number < classes_of family = omega (arith, whole, within) in
    let v = get_or entries number default in
    elim (value_distance family.profile (class_setup family number) v (values number default within)) [
      | inl none ↦ omega (arith, none)
      | inr distance ↦
          omega (arith, distance_within family (plies_of v) entries (right (plies_of v)) number (plies_of v) number_low distance (omega arith), whole)
    ]
  where
    whole : length entries ≡ classes_of family
    whole = one_count (IsRepresentative family) (length entries) (classes_of family) table.table.classes (HasClasses-classes_of family)

    values : (number : ℕ) (default : Value) → number < length entries → HasValue family.profile (class_setup family number) (get_or entries number default)
    values number default within =
        let low : number < classes_of family = omega (arith, whole, within) in
        let represents = class_setup_is family number (classes_of family) (HasClasses-classes_of family) low in
        table.values_are (class_setup family number) (get_or entries number default) represents.0.0 (record {
          class = number;
          number = record {
            position = represents.0.0;
            representative = class_setup family number;
            stands = represents_itself family (class_setup family number) represents.0;
            before = represents.1;
          };
          entry = slice_get-get_or entries number default within;
        })

    right : (n : ℕ) → AreRightUpTo n family entries
    right n = record {
      same_length = whole;
      fits = λ number low. value_right family.profile n (class_setup family number) (slice_index_or entries number Draw)
          (values number Draw (omega (arith, whole, low)));
    }
