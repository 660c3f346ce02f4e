-- By whether the lion stands at home.
use Rattle.dob_unmove.proofs.Common.{◌∙◌, sym, true≢false}
use Rattle.dob_unmove.proofs.Undone.{turned_squares, turned_lions}
use Rattle.dob_unmove.proofs.WayMasks.{Told, away, at_home}
use Rattle.dob_unmove.proofs.ways.Ways.of.Goals as goal
use Rattle.dob_unmove.proofs.ways.Ways.of.Goals.{then-is_empty, else-is_empty}

pub returns : goal.returns
returns c = λ after legal are.
    let threat = c.of-threat.result in
    let twelve = turned_squares after legal in
    let lions = turned_lions after legal in
    let both = c.and.ensures _ _ are.own_lion_is c.homes.ensures in
    let calm = c.and-calm.ensures _ _ (c.own.ensures after are) c.calm_ends.ensures in
    let told : Told after threat c.and.result c.and-calm.result twelve lions both calm c.if-is_empty.ends
    = elim c.if-is_empty.branch [
      | then-is_empty w ↦
          rw w.ends-is (away after threat c.and.result c.and-calm.result twelve lions both calm c.and-moved.result
          (c.is_empty.ensures.0 w.if-is_empty.true) (c.and-moved.ensures _ _ calm are.own_lion_is))
      | else-is_empty w ↦
          rw w.ends-is (at_home after threat c.and.result c.and-calm.result twelve lions both calm
          (λ e. true≢false (sym (c.is_empty.ensures.1 e) ∙ w.if-is_empty.false)))
    ] in
    record {
      board_is = are;
      threat_is = c.of-threat.ensures after legal are;
      empty_are = c.empty.ensures after are;
      stays = told.0;
      home_is = told.1;
      ends_are = told.2;
    }
