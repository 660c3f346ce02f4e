-- What lists say of a position, by its status.
use Rattle.dob_certificate.proofs.Common.{◌<◌, ◌↔◌, ◌∙◌, ◌≡◌, ◌≤◌, ◌⊎◌, Bool, IsTrue, List, ap, arith, false, inl, inr, leb, not, refl, subst, sym, true, ℕ}
use Rattle.dob_certificate.proofs.Common.{nat_tests, Family, Profile, Setup, HasStatus, Caught, Open, Stuck, Tried, class_setup, classes_of}
use Rattle.dob_certificate.proofs.Common.{lost_not_caught, lost_not_open, HasLost, IsSaidHeld, IsEntryFor, IsEntryOf, HasPlies}
use Rattle.dob_certificate.proofs.Common.{IsSaidLost, SaysLost, Entry, Supports, None, Option, Some}
use Rattle.dob_moves.specs.declared.position_status.Status.{Status}
use Rattle.dob_certificate.specs.declared.list_kind.ListKind.{ListKind}
use Rattle.dob_certificate.specs.declared.list_kind.ListKind.TheVariants.{Lost, Held}
use Rattle.dob_certificate.specs.Asked.{FindsLost, FindsWon, TakesForLost, plies_later}
use Rattle.dob_certificate.specs.Lists.{IsSupported}
use Rattle.dob_certificate.specs.Walks.{AllLead, SomeLeads}
use Rattle.std.specs.Prelude.{MatchBool, MatchOption}

-- ---- answers
pub said_no : {P : Type 0} → ¬ P → IsTrue false ↔ P
said_no isnt = (λ shown. absurd (cc), λ p. absurd (isnt p))

pub said_yes : {P : Type 0} → P → IsTrue true ↔ P
said_yes p = (λ shown. p, λ _. refl)

-- where the answer is no it isn't so
pub not_so : {P : Type 0} → (b : Bool) → b ≡ false → IsTrue b ↔ P → ¬ P
not_so b is answered p = let so : b ≡ true = answered.1 p in absurd (cc)

-- a test of two numbers
pub at_most : (m n : ℕ) → IsTrue (leb m n) ↔ (m ≤ n)
at_most m n = (λ shown. grind (arith, nat_tests, shown), λ is. grind (arith, nat_tests, is))

-- of two claims neither holds
neither : {P Q : Type 0} → ¬ P → ¬ Q → IsTrue false ↔ (P ⊎ Q)
neither not_p not_q = said_no (λ either. elim either [ inl p ↦ not_p p | inr q ↦ not_q q ])

-- the answer by a list of either kind, and what the list shows
pub lost_told : (P : Type 0) (b : Bool) → IsTrue b ↔ P → MatchBool b P (¬ P)
lost_told P true given = given.0 refl
lost_told P false given = not_so false refl given

pub held_told : (P : Type 0) (b : Bool) → IsTrue b ↔ P → MatchBool (not b) (¬ P) P
held_told P true given = given.0 refl
held_told P false given = not_so false refl given

pub lost_shown : (P : Type 0) (b : Bool) → MatchBool b P (¬ P) → IsTrue b ↔ P
lost_shown P true shown = said_yes shown
lost_shown P false not_shown = said_no not_shown

pub held_shown : (P : Type 0) (b : Bool) → MatchBool b (¬ P) P → IsTrue (not b) ↔ P
held_shown P true not_shown = said_no not_shown
held_shown P false shown = said_yes shown

-- the plies of the one entry for a position are enough, or there is no such entry
pub listed_by : (family : Family) (entries : List Entry) (q : Setup) (Enough : ℕ → Type 0) (b : Bool) (plies : ℕ) → HasPlies family entries q plies →
    IsTrue b ↔ Enough plies → IsTrue b ↔ ((e : Entry) × IsEntryFor family entries q e × Enough e.plies)
listed_by family entries q Enough b plies has enough = (
  λ shown. (has.entry, has.is, subst Enough (sym has.plies_are) (enough.0 shown)),
  λ listed. enough.1 (subst Enough (ap (λ (e : Entry). e.plies) (sym (has.alone listed.0 listed.1)) ∙ has.plies_are) listed.2),
)

-- ---- by the status

-- a status is the position's where it is that of a match's arm, tried or stuck it has lost
module _ (profile : Profile) (p : Setup) {s : Status} (has : HasStatus profile p s) where
  pub of_status : (t : Status) → s ≡ t → HasStatus profile p t
  of_status t is = subst (HasStatus profile p) is has

  pub over_by : (s ≡ Tried) ⊎ (s ≡ Stuck) → HasLost profile p
  over_by is = elim is [ inl tried ↦ inl (of_status Tried tried) | inr stuck ↦ inr (of_status Stuck stuck) ]

not_both : (profile : Profile) (p : Setup) → HasStatus profile p Caught → ¬ HasStatus profile p Open
not_both profile p caught goes_on = goes_on.0 caught

-- ---- classes that are lost
module _ (family : Family) (lost : List Entry) (p : Setup) where
  pub says_caught : HasStatus family.profile p Caught → SaysLost family lost p None
  says_caught caught = λ n said. elim said [ inl over ↦ lost_not_caught family.profile p over caught | inr listed ↦ not_both family.profile p caught listed.0 ]

  -- where the game goes on the list says what its entry does
  pub says_open : HasStatus family.profile p Open → (found : Option ℕ)
      → MatchOption found ((entry : Entry) → ¬ IsEntryFor family lost p entry) (λ plies. HasPlies family lost p plies) → SaysLost family lost p found
  says_open goes_on None none = λ n said. elim said [
    | inl over ↦ lost_not_open family.profile p over goes_on
    | inr listed ↦ none listed.1.0 listed.1.1
  ]
  says_open goes_on (Some plies) has = (
    inr (goes_on, (has.entry, has.is, omega (arith, has.plies_are))),
    λ n said. elim said [
      | inl over ↦ absurd (lost_not_open family.profile p over goes_on)
      | inr listed ↦ subst (λ (k : ℕ). k ≤ n) has.plies_are (subst (λ (e : Entry). e.plies ≤ n) (sym (has.alone listed.1.0 listed.1.1)) listed.1.2)
    ],
  )

  -- what is said within the fewest plies is said within more
  pub said_within : (fewest n : ℕ) → SaysLost family lost p (Some fewest) → IsTrue (leb fewest n) ↔ IsSaidLost family lost n p
  said_within fewest n says = (
    λ shown. elim says.0 [
      | inl over ↦ inl over
      | inr listed ↦ inr (listed.0, (listed.1.0, listed.1.1, omega (arith, (at_most fewest n).0 shown, listed.1.2)))
    ],
    λ said. (at_most fewest n).1 (says.1 n said),
  )

-- ---- classes that aren't lost
module _ (family : Family) (held : List Entry) (n : ℕ) (p : Setup) {s : Status} where
  pub said_held_caught : s ≡ Caught → HasStatus family.profile p s → IsTrue true ↔ IsSaidHeld family held n p
  said_held_caught is has = said_yes (inl (of_status family.profile p has Caught is))

  pub said_held_over : (s ≡ Tried) ⊎ (s ≡ Stuck) → HasStatus family.profile p s → IsTrue false ↔ IsSaidHeld family held n p
  said_held_over is has =
      let over = over_by family.profile p has is in
      neither (lost_not_caught family.profile p over) (λ other. lost_not_open family.profile p over other.0)

-- ---- what a list of either kind finds by moves
module _ (family : Family) (entries : List Entry) (n : ℕ) (p : Setup) {s : Status} where
  pub won_caught : (kind : ListKind) → s ≡ Caught → HasStatus family.profile p s → FindsWon kind family entries n true p
  won_caught Lost is has = inl (of_status family.profile p has Caught is)
  won_caught Held is has = λ safe. safe.free (of_status family.profile p has Caught is)

  pub won_over : (kind : ListKind) → (s ≡ Tried) ⊎ (s ≡ Stuck) → HasStatus family.profile p s → FindsWon kind family entries n false p
  won_over Lost is has =
      let over = over_by family.profile p has is in
      λ answered. elim answered [ inl caught ↦ lost_not_caught family.profile p over caught | inr reply ↦ lost_not_open family.profile p over reply.goes_on ]
  won_over Held is has =
      let over = over_by family.profile p has is in
      record {
        free = lost_not_caught family.profile p over;
        all_held = λ goes_on reply r goes. absurd (lost_not_open family.profile p over goes_on);
      }

  pub won_open : (kind : ListKind) (b : Bool) → s ≡ Open → HasStatus family.profile p s →
      MatchBool b (SomeLeads family.profile p (TakesForLost kind family entries n true)) (AllLead family.profile p (TakesForLost kind family entries n false)) →
      FindsWon kind family entries n b p
  won_open Lost true is has some =
      inr (record { goes_on = of_status family.profile p has Open is; reply = some.move; outcome = some.outcome; goes = some.goes; said = some.fits })
  won_open Lost false is has all = λ answered. elim answered [
    | inl caught ↦ not_both family.profile p caught (of_status family.profile p has Open is)
    | inr reply ↦ all reply.reply reply.outcome reply.goes reply.said
  ]
  won_open Held true is has some = λ safe. some.fits (safe.all_held (of_status family.profile p has Open is) some.move some.outcome some.goes)
  won_open Held false is has all = record {
    free = λ caught. not_both family.profile p caught (of_status family.profile p has Open is);
    all_held = λ _. all;
  }

  pub lost_caught : (kind : ListKind) → s ≡ Caught → HasStatus family.profile p s → FindsLost kind family entries n false p
  lost_caught Lost is has =
      let caught = of_status family.profile p has Caught is in
      λ supported. elim supported [ inl over ↦ lost_not_caught family.profile p over caught | inr more ↦ not_both family.profile p caught more.1.goes_on ]
  lost_caught Held is has = inl (of_status family.profile p has Caught is)

  pub lost_over : (kind : ListKind) → (s ≡ Tried) ⊎ (s ≡ Stuck) → HasStatus family.profile p s → FindsLost kind family entries n true p
  lost_over Lost is has = inl (over_by family.profile p has is)
  lost_over Held is has =
      let over = over_by family.profile p has is in
      λ supported. elim supported [ inl caught ↦ lost_not_caught family.profile p over caught | inr more ↦ lost_not_open family.profile p over more.0 ]

  pub lost_soon : (kind : ListKind) → s ≡ Open → HasStatus family.profile p s → n < 2 → FindsLost kind family entries n false p
  lost_soon Lost is has few = λ supported. elim supported [
    | inl over ↦ lost_not_open family.profile p over (of_status family.profile p has Open is)
    | inr more ↦ absurd (omega (arith, few, more.0))
  ]
  lost_soon Held is has few = inr (of_status family.profile p has Open is, λ two. absurd (omega (arith, few, two)))

  pub lost_open : (kind : ListKind) (b : Bool) → s ≡ Open → HasStatus family.profile p s → 2 ≤ n →
      MatchBool b (AllLead family.profile p (FindsWon kind family entries (plies_later kind n) true))
      (SomeLeads family.profile p (FindsWon kind family entries (plies_later kind n) false)) →
      FindsLost kind family entries n b p
  lost_open Lost true is has many all = inr (many, record { goes_on = of_status family.profile p has Open is; answered = all })
  lost_open Lost false is has many some = λ supported. elim supported [
    | inl over ↦ lost_not_open family.profile p over (of_status family.profile p has Open is)
    | inr more ↦ some.fits (more.1.answered some.move some.outcome some.goes)
  ]
  lost_open Held true is has many all = λ supported. elim supported [
    | inl caught ↦ not_both family.profile p caught (of_status family.profile p has Open is)
    | inr more ↦ let escape = more.1 many in all escape.step escape.outcome escape.goes escape.safe
  ]
  lost_open Held false is has many some =
      inr (of_status family.profile p has Open is, λ _. record { step = some.move; outcome = some.outcome; goes = some.goes; safe = some.fits })

-- ---- entries

-- an entry is supported where its class's setup shows what it has to
supports_by : (kind : ListKind) (family : Family) (entries : List Entry) (entry : Entry) → entry.class < classes_of family → (b : Bool)
    → IsTrue b ↔ IsSupported kind family entries entry.plies (class_setup family entry.class) → IsTrue b ↔ Supports kind family entries entry
supports_by Lost family lost entry within b given = (λ shown. record { within = within; supported = given.0 shown }, λ supports. given.1 supports.supported)
supports_by Held family held entry within b given = (λ shown. record { within = within; supported = given.0 shown }, λ supports. given.1 supports.supported)

-- the same of what is found lost, by the representative that stands for the entry
pub supported_by : (kind : ListKind) (family : Family) (entries : List Entry) (entry : Entry) (p : Setup) (plies : ℕ) → IsEntryOf family entry p plies →
    (b : Bool) → IsTrue b ↔ IsSupported kind family entries plies p → IsTrue b ↔ Supports kind family entries entry
supported_by kind family entries entry p plies is b given =
    let Fits : ℕ → Setup → Type 0 = λ n s. IsTrue b ↔ IsSupported kind family entries n s in
    supports_by kind family entries entry is.within b (subst (λ (n : ℕ). Fits n (class_setup family entry.class)) (sym is.plies_are) (subst (Fits plies) is.setup given))

-- and an entry of no class isn't
pub beyond : (kind : ListKind) (family : Family) (entries : List Entry) (entry : Entry) → classes_of family ≤ entry.class → ¬ Supports kind family entries entry
beyond Lost family lost entry far supported = omega (arith, far, supported.within)
beyond Held family held entry far supported = omega (arith, far, supported.within)
