-- The laws.
use Rattle.dob_zugzwang.proofs.Common.{◌≡◌, arith, inl, inr, refl, subst, sym, cases_lt, turned-turned, turned, Profile, Setup, HasStatus, Open, IsInClass}
use Rattle.dob_zugzwang.proofs.Common.{class_number, HasInTable, Value, EachIsListed, IsMutual, IsRightByValues, TurnedTwice, IsPair, IsZugzwang, Zugzwang}
use Rattle.dob_classes.proofs.OfFamilies.FamilyNumbers.{IsInClass-class_number}
use Rattle.dob_distance.proofs.Depths.{at_most_one_value}
use Rattle.dob_distance.specs.Values.{HasValue}
use Rattle.dob_zugzwang.proofs.Pairing.{pair_of}
use Rattle.dob_zugzwang.proofs.Turned.{turn_is_position}
use Rattle.dob_zugzwang.proofs.Worth.{worse_exchanged}

pub twice : TurnedTwice
twice p legal = turned-turned p legal.squares

-- a zugzwang is one from the other side, where each is the turn of the other
exchanged : (profile : Profile) (Has : Setup → Value → Type 0) (p q : Setup) (v w : Value) → turned p ≡ q → turned q ≡ p → IsZugzwang profile Has p v w
    → IsZugzwang profile Has q w v
exchanged profile Has p q v w turn back is = record {
  opens = (subst (λ (s : Setup). HasStatus profile s Open) turn is.opens.1, subst (λ (s : Setup). HasStatus profile s Open) (sym back) is.opens.0);
  has = subst (λ (s : Setup). Has s w) turn is.turn_has;
  turn_has = subst (λ (s : Setup). Has s v) (sym back) is.has;
  worse = worse_exchanged v w is.worse;
}

pub mutual_turn : IsMutual
mutual_turn profile p v w legal = (
  exchanged profile (HasValue profile) p (turned p) v w refl (twice p legal),
  exchanged profile (HasValue profile) (turned p) p w v (twice p legal) refl,
)

pub by_values : IsRightByValues
by_values family values right p v w is = (
  λ z.
      let turn = turn_is_position family p is z.opens.0 in
      record { opens = z.opens; has = right.values_are p v is z.has; turn_has = right.values_are (turned p) w turn z.turn_has; worse = z.worse },
  λ z.
      let turn = turn_is_position family p is z.opens.0 in
      let own = right.known p is in
      let other = right.known (turned p) turn in
      record {
        opens = z.opens;
        has = subst (HasInTable family values p) (at_most_one_value family.profile p own.0 v (right.values_are p own.0 is own.1) z.has) own.1;
        turn_has = subst (HasInTable family values (turned p))
            (at_most_one_value family.profile (turned p) other.0 w (right.values_are (turned p) other.0 turn other.1) z.turn_has) other.1;
        worse = z.worse;
      },
)

pub listed : EachIsListed
listed table pairs are p v w class z is =
    let family = table.family in
    let position = is.position in
    let turn = turn_is_position family p position z.opens.0 in
    let turn_class = class_number family (turned p) in
    let in_turn = IsInClass-class_number family (turned p) turn in
    elim (cases_lt turn_class class) [
      | inl lower ↦
          let pair : Zugzwang = pair_of turn_class w class v in
          let found : IsPair table pair = (
            turned p,
            record {
              zugzwang = exchanged family.profile (HasInTable family table.values) p (turned p) v w refl (twice p position.of_set.legal) z;
              in_class = in_turn;
              turn_in_class = subst (λ (s : Setup). IsInClass family s class) (sym (twice p position.of_set.legal)) is;
              ordered = omega (arith, lower);
            },
          ) in
          (pair, are.whole pair found, inr refl)
      | inr ordered ↦
          let pair : Zugzwang = pair_of class v turn_class w in
          (pair, are.whole pair (p, record { zugzwang = z; in_class = is; turn_in_class = in_turn; ordered = ordered }), inl refl)
    ]
