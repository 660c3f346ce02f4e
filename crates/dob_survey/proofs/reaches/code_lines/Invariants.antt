-- The lines of the codes so far.
use Rattle.std.proofs.Common.{◌≡◌, string_bytes}
use Rattle.dob_survey.specs.Reaches.{code_lines}
use Rattle.dob_survey.proofs.reaches.code_lines.Given as goal

abbrev pub invariant-loop-code : goal.invariant-loop-code
invariant-loop-code l = string_bytes l.lines ≡ code_lines l.is_json l.by_code l.code
