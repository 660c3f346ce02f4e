-- The item speaks of the settlement that it comes from.
use Rattle.std.proofs.Common.{rules}
use Rattle.dob_share.proofs.news.item_for.Goals as goal

pub returns : goal.returns
returns c = search rules fits 100
