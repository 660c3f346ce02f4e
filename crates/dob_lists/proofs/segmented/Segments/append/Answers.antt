-- Some more of the items stand at the end.
use Rattle.std.proofs.Common.{◌≡◌, ◌++◌, ◌+◌, ◌∙◌, ℕ, List, ap, append_assoc, arith, drop, sym, take}
use Rattle.std.proofs.lemmas.List.{drop-take, length-drop, take-append-drop, take-take, take_rest}
use Rattle.dob_lists.proofs.segmented.Segments.append.Goals as goal

two_pieces : {X : Type 0} (xs : List X) (k m : ℕ) → take k xs ++ take m (drop k xs) ≡ take (k + m) xs
two_pieces xs k m = (λ i. sym (take-take k (k + m) xs (omega arith)) i ++ sym (drop-take k m xs) i) ∙ take-append-drop k (take (k + m) xs)

pub loop-done-preserved : goal.loop-done-preserved
loop-done-preserved g c =
    let items = c.args.items.now in
    let done = c.loop-done.done in
    let count = c.in_ok-done.field-0 in
    let bound = rw (take_rest items done) at c.in_ok-done.ensures.some.1 in
    let more = rw (take_rest items done) at c.in_ok-done.ensures.appended in (
      omega (arith, bound, length-drop done items, c.loop-done.invariant.0),
      more ∙ ap (λ xs. xs ++ take count (drop done items)) c.loop-done.invariant.1
          ∙ append_assoc c.args.self.now (take done items) (take count (drop done items))
          ∙ ap (λ xs. c.args.self.now ++ xs) (two_pieces items done count),
    )
