-- The openings of its classes are those listed.
use Rattle.dob_share.proofs.Common.{IsNewShare}
use Rattle.std.proofs.lemmas.Result.{IfOk-weaker}
use Rattle.dob_share.proofs.Opened.{placed_itself}
use Rattle.dob_share.proofs.share.Share.open.Goals as goal

pub returns : goal.returns
returns c = IfOk-weaker c.open_placed.result _ (IsNewShare c.args.openings.now c.args.nodes c.args.id)
    (λ share new. new c.args.openings.now (placed_itself c.args.openings.now c.args.nodes c.args.id)) c.open_placed.ensures
