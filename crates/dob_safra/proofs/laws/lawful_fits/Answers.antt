-- A lawful ring's token has a word, and the sum that its node hands down is -2^48 to 2^48.
use Rattle.dob_safra.proofs.Kept.{lawful_fits}
use Rattle.dob_safra.proofs.laws.lawful_fits.Goals as goal

pub returns : goal.returns
returns c = lawful_fits
