-- Lines as they grow, and where they break off.
use Rattle.dob_probe.proofs.Common.{◌++◌, ◌+◌, ◌<◌, ◌∙◌, ◌∷◌, ◌≡◌, ◌≤◌, ◌⊎◌, Err, IfErr, IfOk, List, None, Ok, Result, Some, [], ap, append-nil, arith}
use Rattle.dob_probe.proofs.Common.{inl, inr, length, refl, slice_get, subst, sym, ℕ, same_Some, before_or_here, standing, Profile}
use Rattle.dob_probe.proofs.Common.{Setup, Goes-is, Goes, AreMoves, CanCatch, IsFirstCatch, Move, HasStatus, IsInClass, IsPositionOf, Open, moves_keep_the_family}
use Rattle.dob_probe.proofs.Common.{ClassTable, Value, IsFaultOfLine, Begins, BreaksAt, Continues, EndsAt, GivenBy, GoesOnTo}
use Rattle.dob_probe.proofs.Common.{IsFirstTo, IsLine, LacksMove, LeadsTo, value_wanted, Fault, Inconsistent, Memory}
use Rattle.dob_pieces.specs.declared.profile.Family.{Family}
use Rattle.dob_classes.proofs.OfFamilies.FamilyRepresentatives.{one_class}
use Rattle.dob_probe.specs.Laws.{LinesDontBreak, OneBreak}
use Rattle.dob_probe.specs.Said.{IsGapOfLine, IsGapTo, fault_of}
use Rattle.dob_probe.specs.declared.gap.LookupFault.{LookupFault}
use Rattle.dob_probe.specs.declared.gap.LookupFault.TheVariants.{NoValue}
use Rattle.dob_probe.specs.declared.gap.LookupFault.TheVariants as gaps
use Rattle.dob_probe.proofs.Entries.{one_given}
use Rattle.dob_probe.proofs.InOrder.{in_order}
use Rattle.std.proofs.lemmas.Bool.{cases_lt}

-- ---- one move more, and the rest of the line after a beginning

module _ (profile : Profile) (Has : Setup → Value → Type 0) where
  pub begins_more : (ms : List Move) (p q : Setup) (m : Move) (r : Setup) → Begins profile Has p ms q → Continues profile Has q m r →
      Begins profile Has p (ms ++ m ∷ []) r
  begins_more [] p q m r same next = (r, subst (λ s. Continues profile Has s m r) (sym same) next, refl)
  begins_more (first ∷ ms) p q m r begins next = (begins.0, begins.1, begins_more ms begins.0 q m r begins.2 next)

  pub line_after : (ms rest : List Move) (p q : Setup) → Begins profile Has p ms q → IsLine profile Has q rest → IsLine profile Has p (ms ++ rest)
  line_after [] rest p q same line = subst (λ s. IsLine profile Has s rest) (sym same) line
  line_after (first ∷ ms) rest p q begins line = inr (begins.0, begins.1, line_after ms rest begins.0 q begins.2 line)

-- ---- the first move to a value

-- no move below an index leads to the value
abbrev pub NoneBelow : Profile → (Setup → Value → Type 0) → Setup → Value → List Move → ℕ → Type 0
NoneBelow profile Has p wanted legal upto = (index : ℕ) (move : Move) (q : Setup) → index < upto → slice_get legal index ≡ Some move →
    ¬ LeadsTo profile Has p wanted move q

module _ (profile : Profile) (Has : Setup → Value → Type 0) (p : Setup) (wanted : Value) (legal : List Move) where
  pub none_below_more : (upto : ℕ) (played : Move) → slice_get legal upto ≡ Some played →
      ((q : Setup) → ¬ LeadsTo profile Has p wanted played q) → NoneBelow profile Has p wanted legal upto → NoneBelow profile Has p wanted legal (upto + 1)
  none_below_more upto played here other before = λ index move q below there leads. elim (before_or_here legal upto index played move here there below) [
    | inl earlier ↦ before index move q earlier there leads
    | inr same ↦ other q (subst (λ m. LeadsTo profile Has p wanted m q) same leads)
  ]

  -- the move at the index is looked at, and none below it leads to the value
  module _ (index : ℕ) (played : Move) (are : AreMoves profile p legal) (goes_on : HasStatus profile p Open) (here : slice_get legal index ≡ Some played)
      (none : NoneBelow profile Has p wanted legal index) where
    pub none_here : ((q : Setup) → ¬ LeadsTo profile Has p wanted played q) → NoneBelow profile Has p wanted legal (index + 1)
    none_here other = none_below_more index played here other none

    pub first_here : (q : Setup) (value : Value) → Goes profile p played q → Has q value → value ≡ wanted → IsFirstTo profile Has p wanted played q
    first_here q value goes has same = record {
      leads = record { goes_on = goes_on; goes = goes; has = rw same at has };
      first = λ other r leads_too.
          let there = standing legal other (are.whole other leads_too.goes_on (r, leads_too.goes)) in
          elim (cases_lt index there.0) [
            | inl after ↦ inr (in_order profile p legal index there.0 played other are after there.1 here there.2)
            | inr upto ↦ elim (before_or_here legal index there.0 played other here there.2 (omega arith)) [
              | inl before ↦ absurd (none there.0 other r before there.2 leads_too)
              | inr same ↦ inl (sym same)
            ]
          ];
    }

  pub none_leads : (upto : ℕ) → AreMoves profile p legal → length legal ≤ upto → NoneBelow profile Has p wanted legal upto →
      (move : Move) (q : Setup) → ¬ LeadsTo profile Has p wanted move q
  none_leads upto are all none move q leads =
      let there = standing legal move (are.whole move leads.goes_on (q, leads.goes)) in
      none there.0 move q (omega (arith, there.1)) there.2 leads

-- ---- lines and breaks exclude each other

module _ (table : ClassTable) where
  abbrev Has : Setup → Value → Type 0
  Has = GivenBy table

  one_wanted : (p : Setup) (v w : Value) → IsPositionOf table.family p → GoesOnTo Has p v → GoesOnTo Has p w → v ≡ w
  one_wanted p v w is a b = same_Some v w (sym a.next ∙ ap value_wanted (one_given table p a.value b.value is a.has b.has) ∙ b.next)

  not_over : (p : Setup) (wanted : Value) → IsPositionOf table.family p → EndsAt Has p → ¬ GoesOnTo Has p wanted
  not_over p wanted is a b = absurd (cc (a.over, b.next, one_given table p a.value b.value is a.has b.has))

  one_move : (p : Setup) (wanted : Value) (m n : Move) (q r : Setup) → IsFirstTo table.family.profile Has p wanted m q → IsFirstTo table.family.profile Has p wanted n r → m ≡ n
  one_move p wanted m n q r a b = grind (arith, a.first n r b.leads, b.first m q a.leads)

  -- the line goes on in one way
  one_way : (p : Setup) (m n : Move) (q r : Setup) → IsPositionOf table.family p → Continues table.family.profile Has p m q → Continues table.family.profile Has p n r → q ≡ r
  one_way p m n q r is a b =
      let other = rw (one_wanted p b.0 a.0 is b.1 a.1) at b.2 in
      let same = one_move p a.0 n m r q other a.2 in
      Goes-is table.family.profile p m q a.2.leads.goes ∙ sym (Goes-is table.family.profile p m r (rw same at other.leads.goes))

  lacks_not_continues : (p : Setup) (m : Move) (q : Setup) → IsPositionOf table.family p → LacksMove table.family.profile Has p → ¬ Continues table.family.profile Has p m q
  lacks_not_continues p m q is lacks next = lacks.2 m q (rw (one_wanted p next.0 lacks.0 is next.1 lacks.1) at next.2.leads)

  next_is : (p : Setup) (m : Move) (q : Setup) → IsPositionOf table.family p → Continues table.family.profile Has p m q → IsPositionOf table.family q
  next_is p m q is next = moves_keep_the_family table.family p m q is next.2.leads.goes_on next.2.leads.goes

  line_or_break : (line ms : List Move) (p q : Setup) → IsPositionOf table.family p → IsLine table.family.profile Has p line → Begins table.family.profile Has p ms q → ¬ LacksMove table.family.profile Has q
  line_or_break [] [] p q is ends same lacks = not_over p lacks.0 is ends (subst (λ s. GoesOnTo Has s lacks.0) (sym same) lacks.1)
  line_or_break [] (m ∷ ms) p q is ends begins lacks = not_over p begins.1.0 is ends begins.1.1
  line_or_break (l ∷ line) [] p q is way same lacks =
      let lacks_here : LacksMove table.family.profile Has p = subst (LacksMove table.family.profile Has) (sym same) lacks in
      elim way [
        | inl catch ↦ lacks_here.1.no_catch (l, catch.0.catches)
        | inr next ↦ lacks_not_continues p l next.0 is lacks_here next.1
      ]
  line_or_break (l ∷ line) (m ∷ ms) p q is way begins lacks = elim way [
    | inl catch ↦ begins.1.1.no_catch (l, catch.0.catches)
    | inr next ↦
        line_or_break line ms next.0 q (next_is p l next.0 is next.1) next.2 (rw (one_way p m l begins.0 next.0 is begins.1 next.1) at begins.2) lacks
  ]

  one_end : (ms ns : List Move) (p q r : Setup) → IsPositionOf table.family p → Begins table.family.profile Has p ms q → Begins table.family.profile Has p ns r →
      LacksMove table.family.profile Has q → LacksMove table.family.profile Has r → (q ≡ r) × IsPositionOf table.family q
  one_end [] [] p q r is a b lacks lacks_too = (sym a ∙ b, subst (IsPositionOf table.family) a is)
  one_end [] (n ∷ ns) p q r is a b lacks lacks_too =
      absurd (lacks_not_continues p n b.0 is (subst (LacksMove table.family.profile Has) (sym a) lacks) b.1)
  one_end (m ∷ ms) [] p q r is a b lacks lacks_too =
      absurd (lacks_not_continues p m a.0 is (subst (LacksMove table.family.profile Has) (sym b) lacks_too) a.1)
  one_end (m ∷ ms) (n ∷ ns) p q r is a b lacks lacks_too =
      one_end ms ns a.0 q r (next_is p m a.0 is a.1) a.2 (rw (one_way p n m b.0 a.0 is b.1 a.1) at b.2) lacks lacks_too

pub lines_dont_break : LinesDontBreak
lines_dont_break table p moves class is line breaks =
    line_or_break table moves breaks.0 p breaks.1 is line breaks.2 breaks.4

pub one_break : OneBreak
one_break table p class other is a b =
    let end = one_end table a.0 b.0 p a.1 b.1 is a.2 b.2 a.4 b.4 in
    one_class table.family a.1 class other a.3 (subst (λ s. IsInClass table.family s other) (sym end.0) b.3)

-- ---- the line as far as it has come

-- the moves are a beginning of the line of p, and lead to a position with that value
pub record IsBegun (profile : Profile) (Has : Setup → Value → Type 0) (p : Setup) (moves : List Move) (q : Setup) (value : Value) : Type 0 where
  pub begins : Begins profile Has p moves q
  pub has : Has q value

module _ {profile : Profile} {Has : Setup → Value → Type 0} {p : Setup} {moves : List Move} {q : Setup} {value : Value}
    (on : IsBegun profile Has p moves q value) (no_catch : ¬ CanCatch q) where
  pub goes_on_to : (wanted : Value) → value_wanted value ≡ Some wanted → GoesOnTo Has q wanted
  goes_on_to wanted next = record { no_catch = no_catch; value = value; has = on.has; next = next }

  pub begun_more : (wanted : Value) (m : Move) (r : Setup) → value_wanted value ≡ Some wanted → IsFirstTo profile Has q wanted m r
      → IsBegun profile Has p (moves ++ m ∷ []) r wanted
  begun_more wanted m r next first = record {
    begins = begins_more profile Has moves p q m r on.begins (wanted, goes_on_to wanted next, first);
    has = first.leads.has;
  }

  pub line_ends : value_wanted value ≡ None → IsLine profile Has p moves
  line_ends over =
      subst (IsLine profile Has p) (append-nil moves)
      (line_after profile Has moves [] p q on.begins (record { no_catch = no_catch; value = value; has = on.has; over = over }))

pub line_catches : {profile : Profile} {Has : Setup → Value → Type 0} {p : Setup} {moves : List Move} {q : Setup} {value : Value}
    → IsBegun profile Has p moves q value → (m : Move) → IsFirstCatch q m → IsLine profile Has p (moves ++ m ∷ [])
line_catches {profile} {Has} {p} {moves} {q} on m catch = line_after profile Has moves (m ∷ []) p q on.begins (inl (catch, refl))

-- why there is no next move is why there is no line
pub gap_breaks : {F : Type 0} (family : Family) (Has : Setup → Value → Type 0) (Lacks : Setup → F → Type 0) (p : Setup) (moves : List Move) (q : Setup)
    (value wanted : Value) (gap : LookupFault F) → IsBegun family.profile Has p moves q value → ¬ CanCatch q → value_wanted value ≡ Some wanted
    → IsGapTo family Has Lacks q wanted gap → IsGapOfLine family Has Lacks p gap
gap_breaks family Has Lacks p moves q value wanted (NoValue fault) on no_catch next gap = (gap.0, inr (moves, q, on.begins, gap.1), gap.2)
gap_breaks family Has Lacks p moves q value wanted (gaps.Inconsistent class) on no_catch next gap =
    (moves, q, on.begins, gap.0, (wanted, goes_on_to on no_catch wanted next, gap.1))
gap_breaks family Has Lacks p moves q value wanted gaps.Memory on no_catch next gap = tt

-- by a table that is a fault of the line
pub fault_of_line : (table : ClassTable) (p : Setup) (gap : LookupFault Fault) → IsPositionOf table.family p
    → IsGapOfLine table.family (GivenBy table) (λ q fault. ⊥) p gap → IsFaultOfLine table p (fault_of gap)
fault_of_line table p (NoValue fault) member lacks = absurd lacks.2
fault_of_line table p (gaps.Inconsistent class) member breaks = (member, breaks)
fault_of_line table p gaps.Memory member memory = tt

-- ---- what is said of a line, whatever came of it

module _ {T : Type 0} (moves_of : T → List Move) (table : ClassTable) (p : Setup) where
  pub break_answered : (class : ℕ) (result : Result T Fault) → IfOk result (λ t. IsLine table.family.profile (GivenBy table) p (moves_of t)) →
      IfErr result (IsFaultOfLine table p) → IsPositionOf table.family p → BreaksAt table p class →
      (result ≡ Err (Inconsistent class)) ⊎ (result ≡ Err Memory)
  break_answered class (Ok t) line fault is breaks = absurd (lines_dont_break table p (moves_of t) class is line breaks)
  break_answered class (Err (Inconsistent other)) line fault is breaks = inl (rw (one_break table p other class is fault.1 breaks) refl)
  break_answered class (Err fault) line holds is breaks = grind arith

-- a move to positions with another value doesn't lead to the value that is wanted, where a position of the family has one value at most
pub other_value : (family : Family) (Has : Setup → Value → Type 0) → ((q : Setup) (v w : Value) → IsPositionOf family q → Has q v → Has q w → v ≡ w)
    → (p : Setup) (m : Move) (value wanted : Value) → IsPositionOf family p → ((q : Setup) → Goes family.profile p m q → Has q value) → ¬ (value ≡ wanted)
    → (q : Setup) → ¬ LeadsTo family.profile Has p wanted m q
other_value family Has one p m value wanted is says apart q leads =
    apart (one q value wanted (moves_keep_the_family family p m q is leads.goes_on leads.goes) (says q leads.goes) leads.has)
