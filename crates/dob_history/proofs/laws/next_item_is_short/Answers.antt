-- The value that the next item gives its class has a fall, and so no more plies than there are classes.
use Rattle.dob_history.proofs.Rises.{not_too_deep}
use Rattle.dob_history.proofs.laws.next_item_is_short.Goals as goal

pub returns : goal.returns
returns c = λ family n histories applied cell value i j item some low_i low_j lawful have is_next few deep.
    not_too_deep family n histories applied cell value some lawful have i j low_i low_j item is_next few deep
