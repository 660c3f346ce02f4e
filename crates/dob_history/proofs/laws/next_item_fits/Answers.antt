-- In lawful nodes the next item that a node has to apply fits the cell of its class.
use Rattle.dob_history.proofs.Steps.{can_apply}
use Rattle.dob_history.proofs.laws.next_item_fits.Goals as goal

pub returns : goal.returns
returns c = λ family n histories applied cell value i j item some low_i low_j lawful is_next.
    can_apply family n histories applied cell value some lawful i j low_i low_j item is_next
