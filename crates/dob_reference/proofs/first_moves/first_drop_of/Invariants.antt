-- Nothing was found so far.
use Rattle.std.proofs.Common.{None, option_to_list, ◌≡◌}
use Rattle.dob_pieces.specs.Lists.{each_below}
use Rattle.dob_pieces.specs.declared.profile.Profile.TheVariants.{A}
use Rattle.dob_moves.specs.Walks.{first, put_on}
use Rattle.dob_reference.proofs.first_moves.first_drop_of.Given as goal

abbrev pub invariant-loop-index : goal.invariant-loop-index
invariant-loop-index l = first (each_below (λ to. option_to_list (put_on A l.setup l.kind to)) l.index) ≡ None
