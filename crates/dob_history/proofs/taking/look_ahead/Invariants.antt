-- The cells of the classes of the group so far have been numbered, and then looked at.
use Rattle.std.proofs.Common.{◌≡◌, length}
use Rattle.dob_share.specs.Shares.{IsCellNumber, IsSeen}
use Rattle.dob_history.proofs.TakenLists.{AreHeld}
use Rattle.dob_history.proofs.taking.look_ahead.Given as goal

abbrev pub invariant-loop-place : goal.invariant-loop-place
invariant-loop-place l = record {
  whole : length l.numbers ≡ 32;
  numbered : AreHeld (IsCellNumber l.share) l.next l.place l.classes l.numbers;
}

abbrev pub invariant-loop-place-2 : goal.invariant-loop-place-2
invariant-loop-place-2 l = record {
  whole : length l.looks ≡ 32;
  looked : AreHeld (IsSeen l.share) l.next l.place l.classes l.looks;
}
