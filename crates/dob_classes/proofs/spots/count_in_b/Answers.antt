-- The positions before a place of the run, or all of them.
use Rattle.dob_classes.proofs.Common.{◌<◌, ◌≡◌, ◌≤◌, ◌∙◌, ap, arith, subst, sym, List, PieceSet, ℕ, block_bases, digits_of, local_bases, product, run_size}
use Rattle.dob_classes.proofs.Counting.RunNumbers.{count_by_places, whole_run}
use Rattle.dob_classes.proofs.spots.count_in_b.Goals as goal

size_is : (set : PieceSet) (block : ℕ) (ob : List ℕ) → ob ≡ digits_of (block_bases set) block → product (local_bases ob) ≡ run_size set block
unfolding run_size
size_is set block ob is = ap (λ (xs : List ℕ). product (local_bases xs)) is

inside : (place size end : ℕ) → place ≤ size → end ≡ size → (place ≡ end → ⊥) → place < size
inside place size end upto is not_end = omega (arith, upto, is, not_end)

pub number_of_place-requires-clause-place : goal.number_of_place-requires-clause-place
number_of_place-requires-clause-place c =
    subst (λ (n : ℕ). c.args.place < n) (sym (size_is c.args.set c.args.block _ c.numbers_in-on_board.ensures))
    (inside c.args.place _ c.run_size_in.result c.requires.place c.run_size_in.ensures.value c.if-place-run_size_in.false)

pub returns-then-place-run_size_in : goal.returns-then-place-run_size_in
returns-then-place-run_size_in c =
    whole_run c.args.set c.args.block c.args.run c.args.place c.forms_in.result c.others_ways.result _ c.requires.block c.requires.run
    (c.if-place-run_size_in.true ∙ c.run_size_in.ensures.value) c.numbers_in-on_board.ensures c.forms_in.ensures.value c.others_ways.ensures.value

pub returns-else-place-run_size_in : goal.returns-else-place-run_size_in
returns-else-place-run_size_in c =
    c.number_of_place.ensures.value
    ∙ count_by_places c.args.set c.args.block c.args.run c.args.place _ c.requires.block c.requires.run c.requires.place c.numbers_in-on_board.ensures
