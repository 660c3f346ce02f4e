-- How many classes of a table have which value, and which class is the first to have it.
use Rattle.std.specs.Prelude.{◌≡◌, ℕ, ◌<◌, ◌==◌, Bool, List, Contains, AllPairs, Some, slice_get, count_by}
use Rattle.dob_distance.specs.declared.value.Value.{Value}
use Rattle.dob_distance.specs.Codes.{code_of_value, IsEntry}
use Rattle.dob_probe.specs.declared.groups.Group.{Group}

-- The entry has that code: 0 of a draw, else one more than its distance, so that losses have odd codes and wins even ones, and entries
-- of one code are the same.
abbrev pub has_code : ℕ → Value → Bool
has_code code v = code_of_value v == code

-- the classes of one value: how many there are, and the first of them
pub record IsGroup (values : List Value) (group : Group) : Type 0 where
  pub entry : IsEntry group.value
  pub classes : group.classes ≡ count_by (has_code (code_of_value group.value)) values
  pub first : slice_get values group.first ≡ Some group.value
  pub before : (class : ℕ) → class < group.first → ¬ (slice_get values class ≡ Some group.value)

-- one group for each value that occurs: the draws, and then by ascending distance
pub record AreGroups (values : List Value) (groups : List Group) : Type 0 where
  pub sound : (group : Group) → Contains groups group → IsGroup values group
  pub whole : (v : Value) → Contains values v → (group : Group) × Contains groups group × (group.value ≡ v)
  pub ordered : AllPairs (λ a b. code_of_value a.value < code_of_value b.value) groups
