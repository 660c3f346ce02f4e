-- The settlements that follow from the statuses.
use Rattle.dob_node.proofs.Common.{◌∙◌, HistoryView, StatusesView, ap, starts_of}
use Rattle.dob_node.proofs.node.opening_history.Goals as goal

pub returns : goal.returns
returns c = c.new.ensures
    ∙ ap (λ (statuses : StatusesView). let v : HistoryView = record { id = c.args.id; n = c.args.nodes; settlements = starts_of c.args.nodes c.args.id statuses; room = 0 } in v)
    (c.new-starts.ensures ∙ c.in_ok-statuses.ensures)
