-- The items so far are taken, those of the parts before this one and of this one.
use Rattle.dob_history.proofs.Common.{◌+◌, ◌≡◌, take}
use Rattle.dob_share.specs.Items.{items_in_all}
use Rattle.dob_history.proofs.TakenLists.{IsTaking}
use Rattle.dob_history.proofs.taking.take_parts.Given as goal

abbrev pub invariant-loop-part : goal.invariant-loop-part
invariant-loop-part l = record {
  so_far : IsTaking l.parts l.classes l.taken l.fn.share l.share l.fn.history l.history l.looks;
  counted : l.taken ≡ items_in_all (take l.part-index l.parts);
}

abbrev pub invariant-loop-item : goal.invariant-loop-item
invariant-loop-item l = record {
  so_far : IsTaking l.parts l.classes l.taken l.fn.share l.share l.fn.history l.history l.looks;
  counted : l.taken ≡ items_in_all (take l.part-index l.parts) + l._item;
}
