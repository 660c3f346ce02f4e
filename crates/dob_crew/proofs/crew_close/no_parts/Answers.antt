-- The parts of no endpoints: no seats, no taking ends, no slots, and a row without sending ends for each node.
use Rattle.dob_crew.proofs.Common.{Global, List, Option, ap, map, Vec, BatchView, row_of}
use Rattle.dob_inboxes.proofs.Rowed.{none_stands}
use Rattle.dob_crew.proofs.crew_close.no_parts.Goals as goal

pub returns : goal.returns
returns c = record {
  seats = c.new.ensures.items;
  sends_rows = c.in_ok-sends.ensures;
  sends = λ j i end there. none_stands c.args.count j i c.in_ok-sends.sends.items end c.in_ok-sends.ensures there;
  takes = c.new-2.ensures.items;
  sending = ap (λ (rows : List (Vec (Option BatchView) Global)). map row_of rows) c.new-3.ensures.items;
  taking = ap (λ (rows : List (Vec (Option BatchView) Global)). map row_of rows) c.new-4.ensures.items;
}
