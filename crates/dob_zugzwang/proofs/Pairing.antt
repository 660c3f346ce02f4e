-- The pair of a class by its representative.
use Rattle.dob_zugzwang.proofs.Common.{◌<◌, ◌∙◌, ◌≡◌, ◌≤◌, List, Some, ap, arith, inl, inr, refl, subst, sym, ℕ, same_Some, turned-mirrored, mirrored, turned}
use Rattle.dob_zugzwang.proofs.Common.{Family, Setup, HasStatus, Open, IsInClass, RepresentsClass, class_representative, in_mirror, one_class}
use Rattle.dob_zugzwang.proofs.Common.{one_representative, ClassTable, HasInTable, Value, Win, IsPair, IsPairOf, AreBothOpen, IsWorse, Zugzwang}
use Rattle.std.specs.Prelude.{slice_get}
use Rattle.dob_moves.proofs.ProfileMoves.{HasStatus-mirrored}
use Rattle.dob_rank.specs.Order.{IsEither}
use Rattle.dob_zugzwang.proofs.Turned.{turn_legal}
use Rattle.dob_zugzwang.proofs.Worth.{win_not_worse}

-- ---- mirror images

-- a position and its mirror image have one value in a table
in_table_mirrored : (family : Family) (values : List Value) (s : Setup) (v : Value) → HasInTable family values s v → HasInTable family values (mirrored s) v
in_table_mirrored family values s v has = record { class = has.class; number = in_mirror family s has.class has.number; entry = has.entry }

-- the mirror image of a pair's position is of the same pair
pub pair_mirrored : (table : ClassTable) (p : Setup) (pair : Zugzwang) → IsPairOf table p pair → IsPairOf table (mirrored p) pair
pair_mirrored table p pair is =
    let family = table.family in
    let profile = family.profile in
    let zugzwang = is.zugzwang in
    let legal = is.in_class.position.of_set.legal in
    let legal_turn = turn_legal profile p legal zugzwang.opens.0 in
    let same = turned-mirrored p in
    record {
      zugzwang = record {
        opens = (
          HasStatus-mirrored profile p Open legal zugzwang.opens.0,
          subst (λ (s : Setup). HasStatus profile s Open) (sym same) (HasStatus-mirrored profile (turned p) Open legal_turn zugzwang.opens.1),
        );
        has = in_table_mirrored family table.values p pair.value zugzwang.has;
        turn_has = subst (λ (s : Setup). HasInTable family table.values s pair.turn_value) (sym same)
            (in_table_mirrored family table.values (turned p) pair.turn_value zugzwang.turn_has);
        worse = zugzwang.worse;
      };
      in_class = in_mirror family p pair.class is.in_class;
      turn_in_class = subst (λ (s : Setup). IsInClass family s pair.turn_class) (sym same) (in_mirror family (turned p) pair.turn_class is.turn_in_class);
      ordered = is.ordered;
    }

-- ---- representatives

-- a pair is that of the representative of its lower class
pub by_representative : (table : ClassTable) (p representative : Setup) (pair : Zugzwang) → RepresentsClass table.family representative pair.class → IsPairOf table p pair
    → IsPairOf table representative pair
by_representative table p representative pair is_it is =
    let same = one_representative table.family is.in_class.representative representative pair.class (class_representative table.family p pair.class is.in_class) is_it in
    either (subst (IsEither p) same is.in_class.stands.0)
  where
    either : IsEither p representative → IsPairOf table representative pair
    either (inl itself) = subst (λ (s : Setup). IsPairOf table s pair) (sym itself) is
    either (inr image) = subst (λ (s : Setup). IsPairOf table s pair) (sym image) (pair_mirrored table p pair is)

-- ---- one pair

-- a position has one value in a table
pub one_in_table : (family : Family) (values : List Value) (s : Setup) (v w : Value) → HasInTable family values s v → HasInTable family values s w → v ≡ w
one_in_table family values s v w a b =
    let same = one_class family s a.class b.class a.number b.number in
    same_Some v w (sym a.entry ∙ ap (slice_get values) same ∙ b.entry)

abbrev pub pair_of : ℕ → Value → ℕ → Value → Zugzwang
pair_of class value turn_class turn_value = record { class = class; value = value; turn_class = turn_class; turn_value = turn_value }

-- and a class one pair
pub one_pair : (table : ClassTable) (p : Setup) (a b : Zugzwang) → IsPairOf table p a → IsPairOf table p b → a ≡ b
one_pair table p a b at_a at_b =
    let family = table.family in
    let class = one_class family p a.class b.class at_a.in_class at_b.in_class in
    let turn_class = one_class family (turned p) a.turn_class b.turn_class at_a.turn_in_class at_b.turn_in_class in
    let value = one_in_table family table.values p a.value b.value at_a.zugzwang.has at_b.zugzwang.has in
    let turn_value = one_in_table family table.values (turned p) a.turn_value b.turn_value at_a.zugzwang.turn_has at_b.zugzwang.turn_has in
    ap (λ (n : ℕ). pair_of n a.value a.turn_class a.turn_value) class
    ∙ (ap (λ (v : Value). pair_of b.class v a.turn_class a.turn_value) value
    ∙ (ap (λ (n : ℕ). pair_of b.class b.value n a.turn_value) turn_class
    ∙ ap (λ (v : Value). pair_of b.class b.value b.turn_class v) turn_value))

-- two pairs with the same lower class are one
pub pairs_agree : (table : ClassTable) (a b : Zugzwang) → a.class ≡ b.class → IsPair table a → IsPair table b → a ≡ b
pairs_agree table a b same at_a at_b =
    let family = table.family in
    let representative = at_a.1.in_class.representative in
    let is_it = class_representative family at_a.0 a.class at_a.1.in_class in
    one_pair table representative a b (by_representative table at_a.0 representative a is_it at_a.1)
    (by_representative table at_b.0 representative b (subst (RepresentsClass family representative) same is_it) at_b.1)

-- ---- what a class's pair has

module _ (table : ClassTable) (class : ℕ) (pair : Zugzwang) (same : pair.class ≡ class) where
  -- the value of the class
  pub value_is : (p : Setup) (value : Value) → slice_get table.values class ≡ Some value → IsPairOf table p pair → pair.value ≡ value
  value_is p value there is =
      let has = is.zugzwang.has in
      let one = one_class table.family p has.class pair.class has.number is.in_class in
      same_Some pair.value value (sym has.entry ∙ ap (slice_get table.values) (one ∙ same) ∙ there)

  -- so no win
  pub no_win : (value : Value) (plies : ℕ) → slice_get table.values class ≡ Some value → value ≡ Win plies → ¬ IsPair table pair
  no_win value plies there won is =
      let own : pair.value ≡ Win plies = value_is is.0 value there is.1 ∙ won in
      win_not_worse plies pair.turn_value (subst (λ (v : Value). IsWorse v pair.turn_value) own is.1.zugzwang.worse)

  module _ (representative : Setup) (represents_it : RepresentsClass table.family representative class) where
    -- it is that of the class's representative
    pub of_representative : IsPair table pair → IsPairOf table representative pair
    of_representative is = by_representative table is.0 representative pair (subst (RepresentsClass table.family representative) (sym same) represents_it) is.1

    pub both_open : (¬ AreBothOpen table.family.profile representative) → ¬ IsPair table pair
    both_open closed is = closed (of_representative is).zugzwang.opens

    module _ (turn_class : ℕ) (in_turn : IsInClass table.family (turned representative) turn_class) where
      turn_class_is : IsPair table pair → pair.turn_class ≡ turn_class
      turn_class_is is = one_class table.family (turned representative) pair.turn_class turn_class (of_representative is).turn_in_class in_turn

      -- the turn's class isn't lower
      pub no_lower : turn_class < class → ¬ IsPair table pair
      no_lower lower is = let turn = turn_class_is is in let ordered = is.1.ordered in absurd (omega (arith, lower, turn, ordered, same))

      -- and both values are worth less than nothing
      pub no_better : (value turn_value : Value) → slice_get table.values class ≡ Some value → slice_get table.values turn_class ≡ Some turn_value
          → (¬ IsWorse value turn_value) → ¬ IsPair table pair
      no_better value turn_value there turn_there better is =
          let at = of_representative is in
          let has = at.zugzwang.turn_has in
          let one = one_class table.family (turned representative) has.class turn_class has.number in_turn in
          let other : pair.turn_value ≡ turn_value = same_Some pair.turn_value turn_value (sym has.entry ∙ ap (slice_get table.values) one ∙ turn_there) in
          better (subst (λ (v : Value). IsWorse v turn_value) (value_is representative value there at)
          (subst (IsWorse pair.value) other at.zugzwang.worse))

-- the class in which a representative's turn is, by the names of what was asked
pub in_turn : (family asked : Family) (representative turn : Setup) (class : ℕ) → asked ≡ family → turn ≡ turned representative → IsInClass asked turn class
    → IsInClass family (turned representative) class
in_turn family asked representative turn class same is_turn is =
    subst (λ (f : Family). IsInClass f (turned representative) class) same (subst (λ (s : Setup). IsInClass asked s class) is_turn is)

-- a pair is found
pub pair_found : (table : ClassTable) (representative : Setup) (class turn_class : ℕ) (value turn_value : Value) → RepresentsClass table.family representative class
    → AreBothOpen table.family.profile representative → IsInClass table.family (turned representative) turn_class → slice_get table.values class ≡ Some value
    → slice_get table.values turn_class ≡ Some turn_value → class ≤ turn_class → IsWorse value turn_value
    → IsPairOf table representative (pair_of class value turn_class turn_value)
pair_found table representative class turn_class value turn_value is_it opens in_turn there turn_there ordered worse =
    let family = table.family in
    let own : IsInClass family representative class = record {
      position = is_it.0.0;
      representative = representative;
      stands = (inl refl, is_it.0.1);
      before = is_it.1;
    } in
    record {
      zugzwang = record {
        opens = opens;
        has = record { class = class; number = own; entry = there };
        turn_has = record { class = turn_class; number = in_turn; entry = turn_there };
        worse = worse;
      };
      in_class = own;
      turn_in_class = in_turn;
      ordered = ordered;
    }
