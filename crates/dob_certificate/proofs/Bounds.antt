-- What lists say of positions is so, where they support each of their entries.
use Rattle.dob_certificate.proofs.Common.{◌-◌, ◌<◌, ◌≡◌, ◌≤◌, ◌⊎◌, List, arith, inl, inr, suc, zero, ℕ, Family, Profile, Setup, HasStatus, Caught, Open}
use Rattle.dob_certificate.proofs.Common.{HasClasses-classes_of, IsInClass, class_setup, classes_of, lost_not_caught, lost_not_open, lost_stays, Lost, Won}
use Rattle.dob_certificate.proofs.Common.{IsListedBeyond, IsSafe, IsSaidHeld, SupportsAllHeld, plies_asked, IsEntryFor, IsAnswered, IsListedWithin, IsSaidLost}
use Rattle.dob_certificate.proofs.Common.{SupportsAllLost, Entry, EVER}
use Rattle.dob_distance.specs.Depths.{SameOutlook}
use Rattle.dob_value.proofs.Rows.{class_outlook}

-- a position has the outlook of its class's representative
class_alike : (family : Family) (p : Setup) (class : ℕ) → class < classes_of family → IsInClass family p class →
    SameOutlook family.profile p (class_setup family class)
class_alike family p class within is =
    class_outlook family p is.representative class (classes_of family) (HasClasses-classes_of family) within is.position is.stands is.before

-- ---- classes that are lost

-- with more plies allowed it is listed too
within_more : (family : Family) (lost : List Entry) (n m : ℕ) (q : Setup) → n ≤ m → IsListedWithin family lost n q → IsListedWithin family lost m q
within_more family lost n m q more is = (is.0, is.1, omega (arith, is.2, more))

module _ (family : Family) (lost : List Entry) (supported : SupportsAllLost family lost) where
  -- a listed position has the outlook of its class's representative
  lost_alike : (p : Setup) (entry : Entry) → IsEntryFor family lost p entry → SameOutlook family.profile p (class_setup family entry.class)
  lost_alike p entry is = class_alike family p entry.class (supported entry is.listed).within is.stands

  pub listed_lost : (n : ℕ) (p : Setup) → IsListedWithin family lost n p → Lost family.profile n p
  listed_lost zero p is = ((lost_alike p is.0 is.1).lost 0).1 (elim ((supported is.0 is.1.listed).supported) [
    | inl over ↦ over
    | inr more ↦ absurd (omega (arith, is.2, more.0))
  ])
  listed_lost (suc zero) p is = ((lost_alike p is.0 is.1).lost 1).1 (elim ((supported is.0 is.1.listed).supported) [
    | inl over ↦ inl over
    | inr more ↦ absurd (omega (arith, is.2, more.0))
  ])
  listed_lost (suc (suc n)) p is =
      let less : is.0.plies - 2 ≤ n = omega (arith, is.2) in
      ((lost_alike p is.0 is.1).lost (suc (suc n))).1 (elim ((supported is.0 is.1.listed).supported) [
        | inl over ↦ inl over
        | inr more ↦ inr (
          more.1.goes_on,
          λ move q goes. elim (more.1.answered move q goes) [
            | inl caught ↦ inl caught
            | inr answer ↦ inr (
              answer.goes_on,
              answer.reply,
              answer.outcome,
              answer.goes,
              elim answer.said [
                | inl over ↦ lost_stays family.profile 0 n answer.outcome (omega arith) over
                | inr listed ↦ listed_lost n answer.outcome (within_more family lost (is.0.plies - 2) n answer.outcome less listed.1)
              ],
            )
          ],
        )
      ])

  -- what is said to be lost is so
  pub said_lost : (n : ℕ) (p : Setup) → IsSaidLost family lost n p → Lost family.profile n p
  said_lost n p said = elim said [
    | inl over ↦ lost_stays family.profile 0 n p (omega arith) over
    | inr listed ↦ listed_lost n p listed.1
  ]

  -- and what is answered is won in one ply more
  pub answered_won : (n : ℕ) (q : Setup) → IsAnswered family lost n q → Won family.profile (suc n) q
  answered_won n q answered = elim answered [
    | inl caught ↦ inl caught
    | inr answer ↦ inr (answer.goes_on, answer.reply, answer.outcome, answer.goes, said_lost n answer.outcome answer.said)
  ]

-- ---- classes that aren't lost

-- no position where the lion can be caught is lost
caught_not_lost : (profile : Profile) (n : ℕ) (p : Setup) → HasStatus profile p Caught → ¬ Lost profile n p
caught_not_lost profile zero p caught lost = lost_not_caught profile p lost caught
caught_not_lost profile (suc n) p caught lost = grind arith

-- no open position is lost within one ply
open_not_lost : (profile : Profile) (n : ℕ) (p : Setup) → n ≤ 1 → HasStatus profile p Open → ¬ Lost profile n p
open_not_lost profile zero p few goes_on lost = lost_not_open profile p lost goes_on
open_not_lost profile (suc zero) p few goes_on lost = elim lost [
  | inl over ↦ lost_not_open profile p over goes_on
  | inr open_loss ↦ let some = goes_on.2 in absurd (open_loss.1 some.0 some.1.0 some.1.1)
]
open_not_lost profile (suc (suc n)) p few goes_on lost = absurd (omega (arith, few))

-- what is said for k plies is meant for n: k is at least n, or ever
abbrev pub Covers : ℕ → ℕ → Type 0
Covers k n = (EVER ≤ k) ⊎ (n ≤ k)

-- what is asked: two plies less, or ever
asked_is : (k : ℕ) → ((k < EVER) × (plies_asked k ≡ k - 2)) ⊎ ((EVER ≤ k) × (plies_asked k ≡ k))
asked_is k = grind arith

-- what is asked for k plies covers two plies less
asked_covers : (k n : ℕ) → Covers k (suc (suc n)) → Covers (plies_asked k) n
asked_covers k n covers = grind (arith, asked_is)

-- an entry that is enough for k plies covers what k does
entry_covers : (entry k n : ℕ) → k ≤ entry → Covers k n → Covers entry n
entry_covers entry k n enough covers = grind arith

-- where more than one ply is covered, more than one is asked for
two_covered : (k n : ℕ) → Covers k (suc (suc n)) → 2 ≤ k
two_covered k n covers = elim covers [ inl ever ↦ omega (arith, ever) | inr more ↦ omega (arith, more) ]

few_covered : (k n : ℕ) → k ≤ 1 → Covers k n → n ≤ 1
few_covered k n few covers = elim covers [ inl ever ↦ absurd (omega (arith, ever, few)) | inr more ↦ omega (arith, more, few) ]

module _ (family : Family) (held : List Entry) (supported : SupportsAllHeld family held) where
  held_alike : (p : Setup) (entry : Entry) → IsEntryFor family held p entry → SameOutlook family.profile p (class_setup family entry.class)
  held_alike p entry is = class_alike family p entry.class (supported entry is.listed).within is.stands

  pub listed_held : (n k : ℕ) (p : Setup) → Covers k n → IsListedBeyond family held k p → ¬ Lost family.profile n p
  listed_held zero k p covers is lost = elim ((supported is.0 is.1.listed).supported) [
    | inl caught ↦ caught_not_lost family.profile 0 _ caught (((held_alike p is.0 is.1).lost 0).0 lost)
    | inr more ↦ open_not_lost family.profile 0 _ (omega arith) more.0 (((held_alike p is.0 is.1).lost 0).0 lost)
  ]
  listed_held (suc zero) k p covers is lost = elim ((supported is.0 is.1.listed).supported) [
    | inl caught ↦ caught_not_lost family.profile 1 _ caught (((held_alike p is.0 is.1).lost 1).0 lost)
    | inr more ↦ open_not_lost family.profile 1 _ (omega arith) more.0 (((held_alike p is.0 is.1).lost 1).0 lost)
  ]
  listed_held (suc (suc n)) k p covers is lost =
      let here : Covers is.0.plies (suc (suc n)) = entry_covers is.0.plies k (suc (suc n)) is.2 covers in
      let setup = class_setup family is.0.class in
      let lost_there : Lost family.profile (suc (suc n)) setup = ((held_alike p is.0 is.1).lost (suc (suc n))).0 lost in
      elim ((supported is.0 is.1.listed).supported) [
        | inl caught ↦ caught_not_lost family.profile (suc (suc n)) setup caught lost_there
        | inr more ↦
            let found = more.1 (two_covered is.0.plies n here) in
            let next : Covers (plies_asked is.0.plies) n = asked_covers is.0.plies n here in
            elim lost_there [
              | inl over ↦ lost_not_open family.profile setup over more.0
              | inr open_loss ↦ elim (open_loss.1 found.step found.outcome found.goes) [
                | inl caught ↦ found.safe.free caught
                | inr reply ↦ elim (found.safe.all_held reply.0 reply.1 reply.2 reply.3) [
                  | inl caught ↦ caught_not_lost family.profile n reply.2 caught reply.4
                  | inr other ↦ elim other.1 [
                    | inl soon ↦ open_not_lost family.profile n reply.2 (few_covered (plies_asked is.0.plies) n soon next) other.0 reply.4
                    | inr listed ↦ listed_held n (plies_asked is.0.plies) reply.2 next listed reply.4
                  ]
                ]
              ]
            ]
      ]

  -- what is said not to be lost within k plies is so, within all that k covers
  pub said_held : (n k : ℕ) (p : Setup) → Covers k n → IsSaidHeld family held k p → ¬ Lost family.profile n p
  said_held n k p covers said lost = elim said [
    | inl caught ↦ caught_not_lost family.profile n p caught lost
    | inr other ↦ elim other.1 [
      | inl soon ↦ open_not_lost family.profile n p (few_covered k n soon covers) other.0 lost
      | inr is ↦ listed_held n k p covers is lost
    ]
  ]

  -- and what is safe isn't won within one ply more
  pub safe_not_won : (n k : ℕ) (p : Setup) → Covers k n → IsSafe family held k p → ¬ Won family.profile (suc n) p
  safe_not_won n k p covers safe won = elim won [
    | inl caught ↦ safe.free caught
    | inr open_win ↦ said_held n k open_win.2 covers (safe.all_held open_win.0 open_win.1 open_win.2 open_win.3) open_win.4
  ]
