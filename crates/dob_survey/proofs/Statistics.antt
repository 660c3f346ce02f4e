-- The longest win and the longest loss of a table are among its groups.
use Rattle.dob_survey.proofs.Common.{◌<◌, ◌∷◌, List, [], arith, fold, length, suc, slice_get_within, Value, longest_of, with_group, with_value}
use Rattle.std.proofs.Common.{Contains, IfSome}
use Rattle.dob_pieces.proofs.Lists.{head_in}
use Rattle.dob_probe.specs.declared.groups.Group.{Group}
use Rattle.dob_probe.specs.Statistics.{AreGroups}
use Rattle.dob_survey.specs.declared.stats.Longest.{Longest}

tail_in : (head : Group) (groups : List Group) (other : Group) → Contains groups other → Contains (head ∷ groups) other
tail_in head groups other there = (suc there.0, omega (arith, there.1), there.2)

module _ (P : Group → Type 0) where
  abbrev Have : Longest → Type 0
  Have longest = IfSome longest.win P × IfSome longest.loss P

  have_more : (value : Value) (group : Group) (longest : Longest) → P group → Have longest → Have (with_value value group longest)
  have_more value group longest it has = grind arith

  -- what holds of each group holds of the longest
  longest_have : (groups : List Group) (longest : Longest) → ((group : Group) → Contains groups group → P group) → Have longest
      → Have (fold with_group longest groups)
  longest_have [] longest each has = has
  longest_have (group ∷ groups) longest each has =
      longest_have groups (with_group longest group) (λ other there. each other (tail_in group groups other there))
      (have_more group.value group longest (each group (head_in group groups)) has)

-- so their first classes are classes of the table
pub longest_within : (values : List Value) (groups : List Group) → AreGroups values groups
    → IfSome (longest_of groups).win (λ group. group.first < length values) × IfSome (longest_of groups).loss (λ group. group.first < length values)
longest_within values groups are =
    longest_have (λ group. group.first < length values) groups _ (λ group there. slice_get_within values group.first group.value (are.sound group there).first)
    (tt, tt)
