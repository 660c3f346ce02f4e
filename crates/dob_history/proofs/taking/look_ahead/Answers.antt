-- One class more is numbered, or looked at; the group ends where 32 have been, or the classes end.
use Rattle.std.proofs.Common.{◌%◌, ◌∙◌, arith, get_or, rules}
use Rattle.std.proofs.Math.ListN.{length-set}
use Rattle.dob_share.specs.Shares.{IsCellNumber, IsSeen}
use Rattle.dob_history.proofs.TakenLists.{none_held, one_held, held_at, group_looked}
use Rattle.dob_history.proofs.taking.look_ahead.Goals as goal

pub loop-place-init : goal.loop-place-init
loop-place-init c = record { whole = omega arith; numbered = none_held (IsCellNumber c.args.share.now) c.args.next c.args.classes.now _ }

pub loop-place-preserved : goal.loop-place-preserved
loop-place-preserved c = record {
  whole = length-set c.loop-place.numbers (c.loop-place.place % 32) c.cell_number.result ∙ c.loop-place.invariant.whole;
  numbered = one_held (IsCellNumber c.args.share.now) c.args.next c.loop-place.place c.args.classes.now c.loop-place.numbers _ c.cell_number.result
      (omega arith) (omega arith) (omega arith) (omega arith) c.loop-place.invariant.whole c.cell_number.ensures c.loop-place.invariant.numbered;
}

pub loop-place-2-init : goal.loop-place-2-init
loop-place-2-init c = record { whole = c.told-looks; looked = none_held (IsSeen c.args.share.now) c.args.next c.args.classes.now c.args.looks.now }

pub see_cell-requires : goal.see_cell-requires
see_cell-requires c = (
  get_or c.args.classes.now c.loop-place-2.place 0,
  held_at (IsCellNumber c.args.share.now) c.args.next c.loop-place.place c.args.classes.now c.loop-place.numbers 0 c.loop-place-2.place _
      c.loop-place.invariant.numbered (omega arith) (omega arith) (search rules),
)

pub loop-place-2-preserved : goal.loop-place-2-preserved
loop-place-2-preserved c = record {
  whole = length-set c.loop-place-2.looks (c.loop-place-2.place % 32) c.see_cell.result ∙ c.loop-place-2.invariant.whole;
  looked = one_held (IsSeen c.args.share.now) c.args.next c.loop-place-2.place c.args.classes.now c.loop-place-2.looks 0 c.see_cell.result
      (omega arith) (omega arith) (omega arith) (omega arith) c.loop-place-2.invariant.whole
      (c.see_cell.ensures (get_or c.args.classes.now c.loop-place-2.place 0)
      (held_at (IsCellNumber c.args.share.now) c.args.next c.loop-place.place c.args.classes.now c.loop-place.numbers 0 c.loop-place-2.place _
      c.loop-place.invariant.numbered (omega arith) (omega arith) (search rules)))
      c.loop-place-2.invariant.looked;
}

pub returns : goal.returns
returns c = group_looked c.args.next c.loop-place-2.place c.args.share.now c.args.classes.now c.loop-place-2.looks (omega arith)
    (λ place inside group. omega arith) c.loop-place-2.invariant.looked
