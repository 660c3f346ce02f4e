-- The classes of items, looked at before the items are taken, in groups of 32.
use Rattle.std.specs.Prelude.{◌≡◌, ℕ, ◌/◌, ◌%◌, ◌<◌, List, length, slice_index_or, Option}
use Rattle.dob_share.specs.declared.share.Seen.{Seen}
use Rattle.dob_share.specs.declared.share.Share.{Share}
use Rattle.dob_share.specs.Shares.{IsSeen}

-- what was seen of the classes that stand in the group of a place, each at its place in the group
unfoldable pub AreSeen : ℕ → Share → List ℕ → List (Option Seen) → Type 0
AreSeen next share classes looks = (place class : ℕ) (look : Option Seen) → place < length classes → place / 32 ≡ next / 32 →
    class ≡ slice_index_or classes place class → look ≡ slice_index_or looks (place % 32) look → IsSeen share class look
