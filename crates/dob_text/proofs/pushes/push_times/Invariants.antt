-- So many letters have been appended.
use Rattle.dob_text.proofs.Common.{◌++◌, ◌≡◌, replicate, string_bytes}
use Rattle.dob_text.proofs.pushes.push_times.Given as goal

abbrev pub invariant-loop-i : goal.invariant-loop-i
invariant-loop-i l = string_bytes l.text ≡ string_bytes l.initial.text ++ replicate l._i l.byte
