-- The open classes so far have slots, for a pool of as many free entries as they have moves; the settlements of the others are counted.
use Rattle.dob_share.proofs.Common.{◌<◌, ◌^◌, ◌≡◌, ◌≤◌, arc_value, class_of_place, opening_of, settled_among}
use Rattle.dob_share.proofs.Opened.{AreSlotsBelow}
use Rattle.dob_share.proofs.share.Share.open_placed.Given as goal

abbrev pub invariant-loop-place : goal.invariant-loop-place
invariant-loop-place l = record {
  slots : AreSlotsBelow (arc_value l.statuses-inside.words) (λ place. opening_of l.listed (class_of_place l.step l.first place)) l.place l.slots l.moves;
  moves : l.moves < 2 ^ 33;
  settled : l.settled ≡ settled_among (λ place. (opening_of l.listed (class_of_place l.step l.first place)).status) l.place;
  few : l.settled ≤ l.place;
}
