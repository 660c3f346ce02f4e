-- What is left to be moved, and room for as many parts.
use Rattle.dob_update.proofs.Common.{◌+◌, ◌≤◌, drop, vec_capacity, vec_len}
use Rattle.dob_update.proofs.PartLists.{IsDropping, IsMoving}
use Rattle.dob_update.proofs.outbox.push_front.Given as goal

abbrev pub invariant-loop-part : goal.invariant-loop-part
invariant-loop-part l = record {
  moving : IsMoving l.k l.rest l.parts (drop l.part-index l.parts) l.initial.list.items l.list.items;
  dropping : IsDropping l.k l.skip l.rest l.before l.parts (drop l.part-index l.parts);
  room : vec_len l.list + l.rest ≤ vec_capacity l.list;
}
