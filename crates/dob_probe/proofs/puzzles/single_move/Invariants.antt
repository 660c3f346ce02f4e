-- The only move so far that leads to the value, if there is one.
use Rattle.dob_rank.specs.Families.{class_setup}
use Rattle.dob_probe.specs.Lines.{GivenBy}
use Rattle.dob_probe.proofs.OnlyMoves.{IsSingleBelow}
use Rattle.dob_probe.proofs.puzzles.single_move.Given as goal

abbrev pub invariant-loop-place : goal.invariant-loop-place
invariant-loop-place l = IsSingleBelow l.table.family.profile (GivenBy l.table) (class_setup l.table.family l.class) l.wanted l.walk.moves.items l.place l.single
