-- The piece ends at the first line feed, or is all that was read.
use Rattle.std.proofs.Common.{◌∙◌, ◌+◌, ◌++◌, ◌∷◌, List, ap, drop, rules, take, ℕ}
use Rattle.std.proofs.lemmas.List.{drop-drop, drop_all}
use Rattle.dob_shelf.proofs.FirstLine.{lacks_end, piece_taken}
use Rattle.dob_shelf.proofs.line_reader.LineReader.take_piece.Goals as goal

pub returns-in_ok-extend_from_slice-in-Some-clause-taken : goal.returns-in_ok-extend_from_slice-in-Some-clause-taken
returns-in_ok-extend_from_slice-in-Some-clause-taken g c =
    let items : List ℕ = c.args.self.now.read.items in
    let given : ℕ = c.args.self.now.given in
    let end : ℕ = c.in-Some.end in
    let taken = piece_taken (drop given items) end (rw c.left-piece.ensures at c.in-Some.ensures) in (
      take end (drop given items),
      taken.0,
      taken.1 ∙ ap (λ (l : List ℕ). take end (drop given items) ++ 10 ∷ l) (drop-drop (end + 1) given items),
      search rules,
    )

pub returns-in_ok-extend_from_slice-in-None-clause-taken : goal.returns-in_ok-extend_from_slice-in-None-clause-taken
returns-in_ok-extend_from_slice-in-None-clause-taken g c = (
  lacks_end (drop c.args.self.now.given c.args.self.now.read.items) (rw c.left-piece.ensures at c.in-None.ensures),
  search rules,
  drop_all c.len-self.result c.args.self.now.read.items (search rules),
)
