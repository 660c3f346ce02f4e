-- What stands at the place is read.
use Rattle.std.proofs.Common.{refl}
use Rattle.std.proofs.lemmas.Option.{slice_get_read}
use Rattle.dob_lists.proofs.segmented.Segments.get.Goals as goal

pub returns-clause-get : goal.returns-clause-get
returns-clause-get g c = slice_get_read c.args.self.now _ c.args.place _ refl c.requires c.index.ensures
