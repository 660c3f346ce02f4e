-- The matches are those of the form that was met.
use Rattle.dob_words.proofs.Matches.{found_by_some, has_fit, is_named, reads}
use Rattle.dob_words.proofs.command.read_matches.Goals as goal

pub order_by-requires-clause-named : goal.order_by-requires-clause-named
order_by-requires-clause-named c =
    let met = found_by_some _ c.requires in
    is_named c.args.matches.now c.in-Some.inner.now c.in-Some.name.now c.in-Some.ensures.name c.in-Some.ensures.rows met.form met.texts met.among met.found

pub order_by-requires-clause-fit : goal.order_by-requires-clause-fit
order_by-requires-clause-fit c =
    let met = found_by_some _ c.requires in
    has_fit c.args.matches.now c.in-Some.inner.now c.in-Some.name.now c.in-Some.ensures.name c.in-Some.ensures.rows met.form met.texts met.among met.found

pub returns : goal.returns
returns c = λ form texts among found.
    c.read_order.ensures _ (reads c.args.matches.now c.in-Some.inner.now c.in-Some.name.now c.in-Some.ensures.name c.in-Some.ensures.rows form texts among found
    c.order_by.result c.order_by.ensures)
