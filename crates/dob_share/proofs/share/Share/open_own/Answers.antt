-- The openings of its classes are those of the one owner of what is listed.
use Rattle.std.proofs.lemmas.Result.{IfOk-weaker}
use Rattle.dob_share.specs.Shares.{IsNewByOwn}
use Rattle.dob_share.proofs.Opened.{placed_own}
use Rattle.dob_share.proofs.share.Share.open_own.Goals as goal

pub returns : goal.returns
returns c = IfOk-weaker c.open_placed.result _ (IsNewByOwn c.args.own.now c.args.nodes c.args.id)
    (λ share new openings are. new openings (placed_own openings c.args.own.now c.one.result c.args.nodes c.args.id c.one.ensures are)) c.open_placed.ensures
