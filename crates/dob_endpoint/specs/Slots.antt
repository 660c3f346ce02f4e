-- What lies in a slot, and what came out of an inbox and isn't in the slot any more.
use Rattle.std.specs.Prelude.{ℕ, ◌-◌, ◌==◌, cond, List, [], ◌∷◌, Option, Some, None, length, take, map}
use Rattle.std.specs.List.{range_with_len}
use Rattle.dob_update.specs.Batches.{BatchView}
use Rattle.dob_chan.specs.declared.ends.TakeEnd.{TakeEnd}
use Rattle.dob_chan.specs.Ends.{taken_by}

-- the batch in the slot, if there is one
abbrev pub in_slot : Option BatchView → List BatchView
in_slot None = []
in_slot (Some batch) = batch ∷ []

-- the batches that came out before the one in the slot
abbrev pub worked_of : TakeEnd → Option BatchView → List BatchView
worked_of end slot = take (length (taken_by end) - length (in_slot slot)) (taken_by end)

-- what is in the slot, if it is of that sender
abbrev pub held_from : Option BatchView → ℕ → Option BatchView
held_from None from = None
held_from (Some batch) from = cond (batch.from == from) (Some batch) None

-- what is in the slot, at the place of its sender among n
abbrev pub slot_row : ℕ → Option BatchView → List (Option BatchView)
slot_row n slot = map (held_from slot) (range_with_len 0 n)
