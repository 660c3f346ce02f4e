-- Each item of a link's first batch fits its cell, once the batch's items before it are applied.
use Rattle.dob_world.proofs.Kept.{taken_item_fits}
use Rattle.dob_world.proofs.laws.taken_item_fits.Goals as goal

pub returns : goal.returns
returns c = taken_item_fits
