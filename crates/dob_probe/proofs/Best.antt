-- By the value table lines are the best lines, and none breaks off.
use Rattle.dob_probe.proofs.Common.{◌-◌, ◌∙◌, ◌∷◌, ◌≡◌, ◌≤◌, Err, IfErr, IfOk, List, MatchResult, Ok, Result, Some, [], ap, arith, inl, inr, subst, suc, sym}
use Rattle.dob_probe.proofs.Common.{zero, ℕ, cases_lt, Setup, Goes, CanCatch, HasStatus, Move, Open, IsPositionOf, consistent_is_right, moves_keep_the_family}
use Rattle.dob_probe.proofs.Common.{ClassTable, IsConsistent, IsValueTable, Value, Loss, Win, IsFaultOfLine, Begins, ValuedMove, GivenBy, IsLine, LacksMove}
use Rattle.dob_probe.proofs.Common.{LeadsTo, value_wanted, Fault, Inconsistent, Memory}
use Rattle.dob_distance.specs.Values.{Won, Lost, HasValue}
use Rattle.dob_distance.proofs.Depths.{won_stays, won_not_lost, at_most_one_value}
use Rattle.dob_probe.specs.Laws.{LinesAreBest, NoneBreaks}
use Rattle.dob_probe.specs.ValuedMoves.{AreValuedMoves}
use Rattle.dob_probe.proofs.Relations.{leads_by, line_by, listed_by}

module _ (table : ClassTable) (right : IsValueTable table.family table.values) where
  pub to_value : (p : Setup) (v : Value) → IsPositionOf table.family p → GivenBy table p v → HasValue table.family.profile p v
  to_value p v is given = right.values_are p v is given

  pub of_value : (p : Setup) (v : Value) → IsPositionOf table.family p → HasValue table.family.profile p v → GivenBy table p v
  of_value p v is value =
      let given = right.known p is in
      rw (at_most_one_value table.family.profile p given.0 v (to_value p given.0 is given.1) value) at given.1

  after : (p : Setup) (m : Move) (q : Setup) → IsPositionOf table.family p → HasStatus table.family.profile p Open → Goes table.family.profile p m q → IsPositionOf table.family q
  after p m q is goes_on goes = moves_keep_the_family table.family p m q is goes_on goes

  leads_by_table : (p : Setup) (wanted : Value) (m : Move) (q : Setup) → IsPositionOf table.family p
      → LeadsTo table.family.profile (HasValue table.family.profile) p wanted m q → LeadsTo table.family.profile (GivenBy table) p wanted m q
  leads_by_table = leads_by table.family.profile (IsPositionOf table.family) after (HasValue table.family.profile) (GivenBy table) of_value

  pub best : (moves : List Move) (p : Setup) → IsPositionOf table.family p → IsLine table.family.profile (GivenBy table) p moves
      → IsLine table.family.profile (HasValue table.family.profile) p moves
  best = line_by table.family.profile (IsPositionOf table.family) after (GivenBy table) (HasValue table.family.profile) to_value of_value

  pub valued_best : (p : Setup) (list : List ValuedMove) → IsPositionOf table.family p → AreValuedMoves table.family.profile (GivenBy table) p list
      → AreValuedMoves table.family.profile (HasValue table.family.profile) p list
  valued_best = listed_by table.family.profile (IsPositionOf table.family) after (GivenBy table) (HasValue table.family.profile) to_value of_value

  -- a position lost within n plies, but in no fewer, is a loss in n; and likewise one won
  loss_of : (n : ℕ) (q : Setup) (v : Value) → HasValue table.family.profile q v → Lost table.family.profile n q → ((e : ℕ) → Lost table.family.profile e q → n ≤ e) → v ≡ Loss n
  loss_of n q v value lost least = grind (arith, won_not_lost table.family.profile, least)

  -- a position won within n plies is a win in at most n
  win_of : (n : ℕ) (q : Setup) (v : Value) → HasValue table.family.profile q v → Won table.family.profile n q → (e : ℕ) × (v ≡ Win e) × (e ≤ n)
  win_of n q v value won = grind (arith, won_not_lost table.family.profile)

  win_goes_on : (n : ℕ) (p : Setup) → IsPositionOf table.family p → ¬ CanCatch p → HasValue table.family.profile p (Win n)
      → ((m : Move) (q : Setup) → ¬ LeadsTo table.family.profile (HasValue table.family.profile) p (Loss (n - 1)) m q) → ⊥
  win_goes_on zero p is no_catch value none = value.0
  win_goes_on (suc n) p is no_catch value none = elim value.0 [
    | inl caught ↦ no_catch caught
    | inr open_win ↦
        let goes_on = open_win.0 in
        let m = open_win.1 in
        let q = open_win.2 in
        let goes = open_win.3 in
        let member = after p m q is goes_on goes in
        let given = right.known q member in
        let known = to_value q given.0 member given.1 in
        let least : (e : ℕ) → Lost table.family.profile e q → n ≤ e = λ e lost. omega (arith, value.1 (suc e) (inr (goes_on, m, q, goes, lost))) in
        let back : n ≡ suc n - 1 = omega arith in
        none m q (record {
          goes_on = goes_on;
          goes = goes;
          has = subst (λ v. HasValue table.family.profile q v) (loss_of n q given.0 known open_win.4 least ∙ ap (λ k. Loss k) back) known;
        })
  ]

  loss_goes_on : (n : ℕ) (p : Setup) → IsPositionOf table.family p → HasValue table.family.profile p (Loss (suc n)) → ((m : Move) (q : Setup) → ¬ LeadsTo table.family.profile (HasValue table.family.profile) p (Win n) m q) → ⊥
  loss_goes_on n p is value none = elim value.0 [
    | inl over ↦ let bound : suc n ≤ 0 = value.1 0 over in absurd (omega arith)
    | inr open_loss ↦ by_depth n open_loss.0 open_loss.1 value.1 none
  ]
    where
      by_depth : (n : ℕ) → HasStatus table.family.profile p Open → ((m : Move) (q : Setup) → Goes table.family.profile p m q → Won table.family.profile n q) → ((e : ℕ) → Lost table.family.profile e p → suc n ≤ e) →
          ((m : Move) (q : Setup) → ¬ LeadsTo table.family.profile (HasValue table.family.profile) p (Win n) m q) → ⊥
      by_depth zero goes_on all least none = let move = goes_on.2 in all move.0 move.1.0 move.1.1
      by_depth (suc k) goes_on all least none =
          let lost : Lost table.family.profile (suc k) p = inr (
            goes_on,
            λ m q goes.
                let member = after p m q is goes_on goes in
                let given = right.known q member in
                let known = to_value q given.0 member given.1 in
                let win = win_of (suc k) q given.0 known (all m q goes) in
                let within : win.0 ≤ suc k = win.2 in
                elim (cases_lt win.0 (suc k)) [
                  | inl below ↦ won_stays table.family.profile win.0 k q (omega arith) (subst (λ v. HasValue table.family.profile q v) win.1 known).0
                  | inr upto ↦
                      let same : win.0 ≡ suc k = omega arith in
                      absurd (none m q (record {
                        goes_on = goes_on;
                        goes = goes;
                        has = subst (λ v. HasValue table.family.profile q v) (win.1 ∙ ap (λ e. Win e) same) known;
                      }))
                ],
          ) in
          let bound : suc (suc k) ≤ suc k = least (suc k) lost in
          absurd (omega arith)

  goes_on_by : (v wanted : Value) (p : Setup) → IsPositionOf table.family p → ¬ CanCatch p → HasValue table.family.profile p v → value_wanted v ≡ Some wanted →
      ((m : Move) (q : Setup) → ¬ LeadsTo table.family.profile (HasValue table.family.profile) p wanted m q) → ⊥
  goes_on_by (Win n) wanted p is no_catch value next none =
      let same : wanted ≡ Loss (n - 1) = cc in win_goes_on n p is no_catch value (rw same at none)
  goes_on_by (Loss (suc n)) wanted p is no_catch value next none =
      let same : wanted ≡ Win n = cc in loss_goes_on n p is value (rw same at none)
  goes_on_by v wanted p is no_catch value next none = absurd (cc)

  lacks_none : (p : Setup) → IsPositionOf table.family p → ¬ LacksMove table.family.profile (GivenBy table) p
  lacks_none p is lacks =
      let goes_on = lacks.1 in
      goes_on_by goes_on.value lacks.0 p is goes_on.no_catch (to_value p goes_on.value is goes_on.has) goes_on.next
      (λ m q leads. lacks.2 m q (leads_by_table p lacks.0 m q is leads))

  none_breaks_after : (ms : List Move) (p q : Setup) → IsPositionOf table.family p → Begins table.family.profile (GivenBy table) p ms q → ¬ LacksMove table.family.profile (GivenBy table) q
  none_breaks_after [] p q is same lacks = lacks_none p is (subst (LacksMove table.family.profile (GivenBy table)) (sym same) lacks)
  none_breaks_after (m ∷ ms) p q is begins lacks =
      let next = begins.1.2.leads in
      none_breaks_after ms begins.0 q (after p m begins.0 is next.goes_on next.goes) begins.2 lacks

pub lines_are_best : LinesAreBest
lines_are_best table p moves right is line = best table right moves p is line

pub none_breaks : NoneBreaks
none_breaks table p class right is breaks = none_breaks_after table right breaks.0 p breaks.1 is breaks.2 breaks.4

-- what a consistent table's line is, whatever came of it
pub best_answered : {T : Type 0} (moves_of : T → List Move) (table : ClassTable) (p : Setup) (result : Result T Fault) →
    IfOk result (λ t. IsLine table.family.profile (GivenBy table) p (moves_of t)) → IfErr result (IsFaultOfLine table p) →
    IsConsistent table.family table.values → IsPositionOf table.family p →
    MatchResult result (λ t. IsLine table.family.profile (HasValue table.family.profile) p (moves_of t)) (λ fault. fault ≡ Memory)
best_answered moves_of table p (Ok t) line fault consistent is =
    lines_are_best table p (moves_of t) (consistent_is_right table.family table.values consistent) is line
best_answered moves_of table p (Err (Inconsistent class)) line fault consistent is =
    absurd (none_breaks table p class (consistent_is_right table.family table.values consistent) is fault.1)
best_answered moves_of table p (Err fault) line holds consistent is = grind arith
