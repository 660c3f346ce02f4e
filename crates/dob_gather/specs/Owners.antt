-- What the nodes of a build show of the classes, each of its own.
use Rattle.std.specs.Prelude.{◌≡◌, ℕ, ◌<◌, List, Some, slice_get}
use Rattle.dob_pieces.specs.declared.profile.Family.{Family}
use Rattle.dob_rank.specs.Families.{classes_of}
use Rattle.dob_distance.specs.declared.value.Value.{Value}
use Rattle.dob_distance.specs.Codes.{value_of_code, IsEntry}
use Rattle.dob_value.specs.Follows.{AreGiven}
use Rattle.dob_share.specs.Owners.{owner_of}
use Rattle.dob_share.specs.Shares.{IsOwn, HasValueNow}
use Rattle.dob_share.specs.declared.share.Share.{Share}

-- The share of node k, one of n, has each class of the family that is its own, and shows for it such a value as a table can have.
pub record IsOwner (family : Family) (n k : ℕ) (share : Share) : Type 0 where
  pub own : (class : ℕ) → class < classes_of family → owner_of n class ≡ k → IsOwn share class
  pub entries : (class : ℕ) (value : Value) → class < classes_of family → owner_of n class ≡ k → HasValueNow share class value →
      IsEntry value

-- so do they all
abbrev pub AreOwners : Family → ℕ → List Share → Type 0
AreOwners family n shares = (k : ℕ) (share : Share) → slice_get shares k ≡ Some share → IsOwner family n k share

-- the value is one that the class's owner, of n nodes, shows for it
abbrev pub IsShownByOwner : ℕ → List Share → ℕ → Value → Type 0
IsShownByOwner n shares class value = (share : Share) → slice_get shares (owner_of n class) ≡ Some share → HasValueNow share class value

-- the code is one of 16 bits, of a value that the class's owner shows
abbrev pub IsCodeShown : ℕ → List Share → ℕ → ℕ → Type 0
IsCodeShown n shares class code = (code < 65536) × IsShownByOwner n shares class (value_of_code code)

-- the values of the classes below a number are those that their owners show
abbrev pub AreShownBelow : ℕ → ℕ → List Share → List Value → Type 0
AreShownBelow n upto shares values = AreGiven (IsShownByOwner n shares) upto values
