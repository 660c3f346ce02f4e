-- After the next item of lawful nodes, and the settlement that it makes, each settlement has its fall.
use Rattle.dob_history.proofs.Rises.{falls_stay}
use Rattle.dob_history.proofs.laws.falls_stay.Goals as goal

pub returns : goal.returns
returns c = λ family n histories grown applied cell cells value worth i j item some low_i low_j lawful have is_next are_after settled.
    falls_stay family n histories applied cell value some lawful have i j low_i low_j item is_next cells worth are_after grown settled
