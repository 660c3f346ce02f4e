-- The lines of the distances so far.
use Rattle.std.proofs.Common.{◌≡◌, string_bytes}
use Rattle.dob_survey.specs.Reaches.{level_lines}
use Rattle.dob_survey.proofs.reaches.level_lines.Given as goal

abbrev pub invariant-loop-distance : goal.invariant-loop-distance
invariant-loop-distance l = string_bytes l.lines ≡ level_lines l.is_json l.levels l.distance
