-- A puzzle is passed where one with its outline is listed.
use Rattle.dob_probe.proofs.Common.{◌∙◌, inl, inr, refl, sym, puzzle_of}
use Rattle.dob_probe.proofs.Alike.{listed_one, outlines_more, passed_one}
use Rattle.dob_probe.proofs.puzzles.list_puzzle.Goals as goal

pub returns-then-is_passed-clause-listed : goal.returns-then-is_passed-clause-listed
returns-then-is_passed-clause-listed c =
    let found = passed_one c.args.table.now c.args.search.now.list.items c.args.search.now.outlines.items (puzzle_of c.args.class c.args.played) c.outline_at-outline.result
    (c.outline_at-outline.ensures c.args.played) c.requires.outlines c.args.search.now.is_spread (rw c.deref.ensures.value at (sym c.is_passed.ensures ∙ c.if-is_passed.true)) in
    inr (refl, found.0, found.1)

pub returns-clause-outlines : goal.returns-clause-outlines
returns-clause-outlines c = rw (c.in_ok-push.ensures.items, c.in_ok-push-2.ensures.items)
    (outlines_more c.args.table.now c.args.search.now.list.items c.args.search.now.outlines.items (puzzle_of c.args.class c.args.played) c.outline_at-outline.result
    (c.outline_at-outline.ensures c.args.played) c.requires.outlines)

pub returns-clause-listed : goal.returns-clause-listed
returns-clause-listed c = inl (
  c.in_ok-push.ensures.items,
  listed_one c.args.table.now c.args.search.now.list.items c.args.search.now.outlines.items (puzzle_of c.args.class c.args.played) c.outline_at-outline.result
      (c.outline_at-outline.ensures c.args.played) c.requires.outlines c.args.search.now.is_spread
      (rw c.deref.ensures.value at (sym c.is_passed.ensures ∙ c.if-is_passed.false)),
)
