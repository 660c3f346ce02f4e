-- The settlements of a node's opening.
use Rattle.std.specs.Prelude.{ℕ, zero, suc, List, [], ◌∷◌, ◌++◌, length, Option, None, Some}
use Rattle.dob_moves.specs.declared.position_status.Status.{Status}
use Rattle.dob_moves.specs.declared.position_status.Status.TheVariants.{Caught, Tried, Stuck, Open}
use Rattle.dob_distance.specs.declared.value.Value.{Value}
use Rattle.dob_distance.specs.declared.value.Value.TheVariants.{Win, Loss, Draw}
use Rattle.dob_share.specs.declared.news.Settlement.{Settlement}
use Rattle.dob_share.specs.declared.opening.Opening.{Opening}
use Rattle.dob_share.specs.Owners.{class_of_place}
use Rattle.dob_share.specs.Openings.{opening_of}

-- the value at which a class is settled at the opening
abbrev pub opening_value : Status → Option Value
opening_value Caught = Some (Win 1)
opening_value Tried = Some (Loss 0)
opening_value Stuck = Some (Loss 0)
opening_value Open = None

-- the settlement at the opening, where the class has one
abbrev pub opening_settlement : ℕ → ℕ → Option Value → List Settlement
opening_settlement number class None = []
opening_settlement number class (Some now) = record { number = number; class = class; was = Draw; now = now } ∷ []

-- the settlements at the opening, in the order of the classes, of owner `id` among n at that many first places, by the statuses there
abbrev pub start_settlements : (ℕ → Status) → ℕ → ℕ → ℕ → List Settlement
start_settlements status n id zero = []
start_settlements status n id (suc places) = let before = start_settlements status n id places in
    before ++ opening_settlement (length before) (class_of_place n id places) (opening_value (status places))

-- the same by the statuses of the classes
abbrev pub opening_settlements : (ℕ → Status) → ℕ → ℕ → ℕ → List Settlement
opening_settlements status n id = start_settlements (λ place. status (class_of_place n id place)) n id

-- the status that is listed of a class
abbrev pub opening_status : List Opening → ℕ → Status
opening_status openings class = (opening_of openings class).status
