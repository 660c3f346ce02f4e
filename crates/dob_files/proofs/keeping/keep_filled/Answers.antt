-- What the sink has received is kept.
use Rattle.dob_files.proofs.Common.{◌∙◌, ap, refl, fails, is_io}
use Rattle.dob_files.proofs.Kept.{keeps_working}
use Rattle.dob_files.proofs.keeping.keep_filled.Goals as goal

pub returns-in_ok-keep-in-Ok : goal.returns-in_ok-keep-in-Ok
returns-in_ok-keep-in-Ok g c =
    let kept = c.in_ok-keep-in-Ok.ensures in
    rw c.in-Ok.is (((refl, kept.kept), keeps_working _ _ _ (c.requires.failed ∙ ap (fails is_io) c.in-Ok.is) kept.failed), kept.others)
