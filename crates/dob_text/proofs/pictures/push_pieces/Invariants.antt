-- The pieces before the place are drawn.
use Rattle.dob_text.proofs.Common.{◌++◌, ◌≡◌, string_bytes, pieces_picture}
use Rattle.dob_text.proofs.pictures.push_pieces.Given as goal

abbrev pub invariant-loop-place : goal.invariant-loop-place
invariant-loop-place l = string_bytes l.text ≡ string_bytes l.initial.text ++ pieces_picture l.fn.piece l.fn.row l.place
