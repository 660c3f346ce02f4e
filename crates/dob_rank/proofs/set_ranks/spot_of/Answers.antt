-- By the board that shows the position.
use Rattle.dob_rank.specs.BoardDigits.{IsShownOfSet}
use Rattle.dob_rank.proofs.set_ranks.spot_of.Goals as goal

pub spot_by-requires : goal.spot_by-requires
spot_by-requires c = (c.args.position.now.setup, record { position = c.requires; squares = c.of.ensures })

pub returns : goal.returns
returns c =
    let shown : IsShownOfSet c.args.set c.args.position.now.setup c.of.result = record { position = c.requires; squares = c.of.ensures } in
    record {
      block = c.spot_by.ensures.block _ shown;
      run = c.spot_by.ensures.run _ shown;
      local = c.spot_by.ensures.local _ shown;
    }
