-- Settlements with the number of items that each of them has somewhere. Only types' invariants and calls inside the crate name these.
use Rattle.std.specs.Prelude.{◌≡◌, ℕ, ◌+◌, ◌-◌, ◌^◌, ◌<◌, ◌≤◌, ◌==◌, nat_lt, min, cond, List, [], ◌∷◌, length, map}
use Rattle.dob_share.specs.declared.news.Settlement.{Settlement}
use Rattle.dob_share.specs.Items.{PartView}

abbrev pub settlement_of : PartView → Settlement
settlement_of part = part.settlement

abbrev pub settlements_of : List PartView → List Settlement
settlements_of parts = map settlement_of parts

-- so many items of the part's settlement
abbrev pub with_number : PartView → ℕ → PartView
with_number part items = record part { items = items }

-- the parts of the first k items
abbrev pub front : ℕ → List PartView → List PartView
front k [] = []
front k (part ∷ parts) = cond (k == 0) [] (with_number part (min k part.items) ∷ front (k - part.items) parts)

-- what is left of the parts without the first k items
abbrev pub left_after : ℕ → List PartView → List PartView
left_after k [] = []
left_after k (part ∷ parts) = cond (nat_lt k part.items) (with_number part (part.items - k) ∷ parts) (left_after (k - part.items) parts)

-- how many items of the first settlement stood before these parts, and stand before what is left without the first k
abbrev pub skip_after : ℕ → ℕ → List PartView → ℕ
skip_after skip k [] = skip
skip_after skip k (part ∷ parts) = cond (nat_lt k part.items) (skip + k) (skip_after 0 (k - part.items) parts)

-- The parts are runs of their settlements' items, of which `count s` gives the number: the first after `skip` of them,
-- each but the last up to the end, and none is empty.
abbrev pub AreParts : (Settlement → ℕ) → ℕ → List PartView → Type 0
AreParts count skip [] = Unit {0}
AreParts count skip (part ∷ parts) =
    (0 < part.items) × (skip + part.items ≤ count part.settlement)
    × (0 < length parts → skip + part.items ≡ count part.settlement) × AreParts count 0 parts

-- the last too is up to the end
abbrev pub AreWhole : (Settlement → ℕ) → ℕ → List PartView → Type 0
AreWhole count skip [] = skip ≡ 0
AreWhole count skip (part ∷ parts) =
    (0 < part.items) × (skip + part.items ≡ count part.settlement) × (count part.settlement < 2 ^ 64) × AreWhole count 0 parts
