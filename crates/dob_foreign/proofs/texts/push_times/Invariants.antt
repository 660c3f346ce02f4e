-- So many letters stand at the end.
use Rattle.std.proofs.Common.{◌≡◌, ◌+◌, ◌++◌, replicate}
use Rattle.arrayvec.specs.ArrayVec.{array_vec_len}
use Rattle.dob_foreign.proofs.texts.push_times.Given as goal

abbrev pub invariant-loop-i : goal.invariant-loop-i
invariant-loop-i l =
    (l.letters.items ≡ l.initial.letters.items ++ replicate l._i l.letter) × (array_vec_len l.letters ≡ array_vec_len l.initial.letters + l._i)
