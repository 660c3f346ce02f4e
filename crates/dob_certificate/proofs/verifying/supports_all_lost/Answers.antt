-- All are supported, or some entry isn't.
use Rattle.dob_certificate.proofs.Common.{SupportsLost}
use Rattle.dob_certificate.proofs.Firsts.{all_supported}
use Rattle.dob_certificate.proofs.verifying.supports_all_lost.Goals as goal

pub returns : goal.returns
returns c = rw c.is_ok.ensures.value (all_supported (SupportsLost c.args.classes.now.family c.args.lost.now) c.args.lost.now c.check_list.result c.check_list.ensures)
