-- The clauses, from what reading gives.
use Rattle.std.proofs.Common.{List, ℕ, subst}
use Rattle.dob_text.proofs.Verdicts.{Reads, read_as, allowed_as, fault_as, whole_as}
use Rattle.dob_text.proofs.read_positions.read_position.Goals as goal

pub returns : goal.returns
returns c =
    let profile = c.args.profile in
    let reads : Reads profile c.args.text.now c.read_position_bytes.result
    = subst (λ (text : List ℕ). Reads profile text c.read_position_bytes.result) c.as_bytes.ensures.value c.read_position_bytes.ensures.read in
    record {
      read = read_as profile _ _ reads;
      allowed = allowed_as profile _ _ reads;
      whole = whole_as profile _ _ reads;
      fault = fault_as profile _ _ reads;
    }
