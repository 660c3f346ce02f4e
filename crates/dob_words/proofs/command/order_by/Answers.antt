-- No file is to be written to a stream.
use Rattle.dob_words.proofs.Common.{◌∙◌, ap, sym, is_some}
use Rattle.dob_words.proofs.Matches.{settled_clear}
use Rattle.dob_words.proofs.command.order_by.Goals as goal

pub returns-in-None : goal.returns-in-None
returns-in-None c =
    settled_clear c.args.name.now c.args.inner.now c.order_for.result c.requires.named (sym c.misplaced_in.ensures ∙ ap is_some c.in-None.is)
    c.order_for.ensures
