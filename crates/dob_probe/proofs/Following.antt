-- The value that follows from the successors' values, and that no other does.
use Rattle.dob_probe.proofs.Common.{◌<◌, ◌∙◌, ◌≡◌, Bool, Contains, List, None, Option, Some, ap, arith, false, length, refl, subst, sym, true, ℕ, same_Some}
use Rattle.dob_probe.proofs.Common.{slice_get_within, Setup, Goes, HasStatus, Move, Status, Open, IsPositionOf, one_of_class, moves_keep_the_family}
use Rattle.dob_probe.proofs.Common.{IsLeastLoss, ClassTable, FollowsFromSuccessors, IsConsistent, IsTable, Value, Draw, Loss, Win, ClassBreaks, ClassFollows}
use Rattle.dob_probe.proofs.Common.{HasEntry, GivenBy, HasNext, IsGreatestWin, TellsDraw, value_after}
use Rattle.dob_moves.proofs.Cases.{one_status}
use Rattle.dob_value.specs.Graphs.{AreSuccessors}
use Rattle.dob_value.specs.Follows.{HasSuccessor, SuccessorsAreWins, FollowsAt, Follows}
use Rattle.dob_probe.proofs.Entries.{one_given, given_is_entry}

module _ (table : ClassTable) (p : Setup) (is : IsPositionOf table.family p) where
  abbrev Has : Setup → Value → Type 0
  Has = GivenBy table

  one : HasStatus table.family.profile p Open → (m : Move) (q : Setup) (v w : Value) → Goes table.family.profile p m q → Has q v → Has q w → v ≡ w
  one goes_on m q v w goes a b = one_given table q v w (moves_keep_the_family table.family p m q is goes_on goes) a b

  module _ (goes_on : HasStatus table.family.profile p Open) (values : List Value) (are : AreSuccessors table.family.profile (λ v q. GivenBy table q v) p values) where
    has_of : (v : Value) → Contains values v → HasSuccessor table.family.profile Has p v
    has_of v there = are.sound v there

    of_has : (v : Value) → HasSuccessor table.family.profile Has p v → Contains values v
    of_has v has = let next = are.whole goes_on has.0 has.1 has.2 in rw (one goes_on has.0 has.1 next.0 v has.2 next.2 has.3) at next.1

    win_each : (none : (plies : ℕ) → ¬ Contains values (Loss plies)) (no_draw : ¬ Contains values Draw) (q : Setup) (v : Value) →
        Contains values v → Has q v → (plies : ℕ) × Has q (Win plies)
    win_each none no_draw q (Win plies) there has = (plies, has)
    win_each none no_draw q (Loss plies) there has = absurd (none plies there)
    win_each none no_draw q Draw there has = absurd (no_draw there)

    no_value : (v : Value) → ((plies : ℕ) → ¬ Contains values (Loss plies)) → ((plies : ℕ) → ¬ Contains values (Win plies)) →
        ¬ Contains values Draw → ¬ Contains values v
    no_value (Win plies) no_loss no_win no_draw there = no_win plies there
    no_value (Loss plies) no_loss no_win no_draw there = no_loss plies there
    no_value Draw no_loss no_win no_draw there = no_draw there

    pub follows_from : (least greatest : Option ℕ) (draw : Bool) → IsLeastLoss values least → IsGreatestWin values greatest →
        TellsDraw values draw → FollowsFromSuccessors table.family.profile Has p (value_after least greatest draw)
    follows_from (Some least) greatest draw known wins tells =
        (least, refl, has_of (Loss least) known.0, λ other has. known.1 other (of_has (Loss other) has))
    follows_from None greatest true none wins there = (
      λ plies has. none plies (of_has (Loss plies) has),
      λ all. let next = has_of Draw there in let win = all next.0 next.1 next.2 in absurd (cc (one goes_on next.0 next.1 Draw (Win win.0) next.2 next.3 win.1)),
    )
    follows_from None (Some greatest) false none known no_draw = (
      greatest,
      refl,
      has_of (Win greatest) known.0,
      λ other has. known.1 other (of_has (Win other) has),
      λ m q goes. let next = are.whole goes_on m q goes in win_each none no_draw q next.0 next.1 next.2,
    )
    follows_from None None false none no_win no_draw =
        let move = goes_on.2 in
        let next = are.whole goes_on move.0 move.1.0 move.1.1 in
        absurd (no_value next.0 none no_win no_draw next.1)

    -- one can be added to the distances that are kept
    pub least_has_next : IsTable table.family table.values → (least : Option ℕ) → IsLeastLoss values least → HasNext least
    least_has_next whole None none = tt
    least_has_next whole (Some least) known =
        let next = has_of (Loss least) known.0 in omega (arith, (given_is_entry table next.1 (Loss least) whole next.3).1)

    pub greatest_has_next : IsTable table.family table.values → (greatest : Option ℕ) → IsGreatestWin values greatest → HasNext greatest
    greatest_has_next whole None none = tt
    greatest_has_next whole (Some greatest) known =
        let next = has_of (Win greatest) known.0 in omega (arith, (given_is_entry table next.1 (Win greatest) whole next.3).1)

  -- one value follows
  not_loss_and_wins : HasStatus table.family.profile p Open → (plies : ℕ) → HasSuccessor table.family.profile Has p (Loss plies) → ¬ SuccessorsAreWins table.family.profile Has p
  not_loss_and_wins goes_on plies has all =
      let win = all has.0 has.1 has.2 in absurd (cc (one goes_on has.0 has.1 (Loss plies) (Win win.0) has.2 has.3 win.1))

  one_from : HasStatus table.family.profile p Open → (v w : Value) → FollowsFromSuccessors table.family.profile Has p v → FollowsFromSuccessors table.family.profile Has p w → v ≡ w
  one_from goes_on (Win a) (Win b) x y = ap (λ n. Win n) (omega (arith, x.1, y.1, x.3 y.0 y.2, y.3 x.0 x.2))
  one_from goes_on (Win a) (Loss b) x y = absurd (not_loss_and_wins goes_on x.0 x.2 y.4)
  one_from goes_on (Win a) Draw x y = absurd (y.0 x.0 x.2)
  one_from goes_on (Loss a) (Win b) x y = absurd (not_loss_and_wins goes_on y.0 y.2 x.4)
  one_from goes_on (Loss a) (Loss b) x y = ap (λ n. Loss n) (omega (arith, x.1, y.1, x.3 y.0 y.2, y.3 x.0 x.2))
  one_from goes_on (Loss a) Draw x y = absurd (y.1 x.4)
  one_from goes_on Draw (Win b) x y = absurd (x.0 y.0 y.2)
  one_from goes_on Draw (Loss b) x y = absurd (x.1 y.4)
  one_from goes_on Draw Draw x y = refl

  one_at : (s : Status) → HasStatus table.family.profile p s → (v w : Value) → FollowsAt table.family.profile Has p s v → FollowsAt table.family.profile Has p s w → v ≡ w
  one_at Open status v w a b = one_from status v w a b
  one_at s status v w a b = cc

  pub one_follows : (v w : Value) → Follows table.family.profile Has p v → Follows table.family.profile Has p w → v ≡ w
  one_follows v w a b =
      let same = one_status table.family.profile p b.0 a.0 b.1 a.1 in
      one_at a.0 a.1 v w a.2 (subst (λ s. FollowsAt table.family.profile Has p s w) same b.2)

-- ---- what is found of one class

module _ (table : ClassTable) (class : ℕ) (representative : Setup) (v : Value) (has : HasEntry table class representative v) (found : Value)
    (follows : Follows table.family.profile (GivenBy table) representative found) where
  pub class_follows : found ≡ v → ClassFollows table class
  class_follows same other w entry =
      let here = one_of_class table.family representative other class has.represents entry.represents has.number entry.number in
      rw (← here, ← same ∙ same_Some v w (sym has.entry ∙ entry.entry)) follows

  pub class_breaks : ¬ (found ≡ v) → ClassBreaks table class
  class_breaks apart = record {
    representative = representative;
    value = v;
    has = has;
    breaks = λ follows_too. apart (one_follows table representative has.represents.0 found v follows follows_too);
  }

-- ---- all classes
pub consistent_of_all : (table : ClassTable) → IsTable table.family table.values →
    ((class : ℕ) → class < length table.values → ClassFollows table class) → IsConsistent table.family table.values
consistent_of_all table whole all = record {
  table = whole;
  follows = λ representative class v represents number entry.
      all class (slice_get_within table.values class v entry) representative v (record { represents = represents; number = number; entry = entry });
}

pub consistent_has_no_break : (table : ClassTable) (class : ℕ) → IsConsistent table.family table.values → ¬ ClassBreaks table class
consistent_has_no_break table class consistent breaks =
    breaks.breaks (consistent.follows breaks.representative class breaks.value breaks.has.represents breaks.has.number breaks.has.entry)
