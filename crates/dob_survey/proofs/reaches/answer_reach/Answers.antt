-- By rules no file is asked; else the file is.
use Rattle.dob_survey.proofs.Common.{rules, unchanged, shelf_change}
use Rattle.dob_files.proofs.Endings.{answered_by}
use Rattle.dob_survey.proofs.reaches.answer_reach.Goals as goal

pub returns-in-None : goal.returns-in-None
returns-in-None g c =
    let shelf = g.S.Shelf.state c.args.shelf.now in
    rw c.in-None.is (answered_by (shelf_change shelf shelf) _ _ _ c.by_rules.ensures.ok c.by_rules.ensures.err (search rules), unchanged shelf.has)

pub returns-in-Some : goal.returns-in-Some
returns-in-Some g c = rw c.in-Some.is c.by_file.ensures
