-- That in a value table no distance is above the number of classes, and families that have more classes than the greatest distance.
use Rattle.std.specs.Prelude.{◌≡◌, ◌<◌, ◌≤◌, List, length, All}
use Rattle.dob_pieces.specs.declared.profile.Family.{Family}
use Rattle.dob_pieces.specs.declared.profile.Profile.{Profile}
use Rattle.dob_pieces.specs.declared.setup.Setup.{Setup}
use Rattle.dob_rank.specs.Families.{IsPositionOf}
use Rattle.dob_rank.specs.Families.{classes_of}
use Rattle.dob_distance.specs.declared.value.Value.{Value}
use Rattle.dob_distance.specs.declared.value.TheConstants.{MAX_DISTANCE}
use Rattle.dob_distance.specs.Distances.{plies_of}
use Rattle.dob_value.specs.Follows.{IsValueTable}

-- the family of the position by the profile has more classes than the greatest distance
abbrev pub HasManyClasses : Profile → Setup → Type 0
HasManyClasses profile p = (family : Family) × (family.profile ≡ profile) × IsPositionOf family p × (MAX_DISTANCE < classes_of family)

-- in the value table of a family no distance is above the number of classes
abbrev pub DistancesAreFew : Type 0
DistancesAreFew = (family : Family) (values : List Value) → IsValueTable family values → All (λ v. plies_of v ≤ length values) values
