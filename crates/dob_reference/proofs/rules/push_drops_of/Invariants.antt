-- The drops on the squares so far are appended.
use Rattle.std.proofs.Common.{option_to_list, ◌++◌, ◌≡◌}
use Rattle.dob_pieces.specs.Lists.{each_below}
use Rattle.dob_moves.specs.Walks.{put_on}
use Rattle.dob_reference.proofs.rules.push_drops_of.Given as goal

abbrev pub invariant-loop-index : goal.invariant-loop-index
invariant-loop-index l =
    l.moves.items ≡ l.initial.moves.items ++ each_below (λ to. option_to_list (put_on l.profile l.setup l.kind to)) l.index
