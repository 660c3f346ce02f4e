-- The number is marked now, or it was before.
use Rattle.dob_reach.proofs.Common.{◌++◌, ◌∙◌, ◌∷◌, AreMarked, [], false≢true, subst, sym}
use Rattle.dob_reach.proofs.Marking.{marked_more, marked_twice}
use Rattle.dob_reach.proofs.search.mark_one.Goals as goal

pub returns-in_ok-push-clause-marked : goal.returns-in_ok-push-clause-marked
returns-in_ok-push-clause-marked c = λ before done are.
    let number = c.args.number in
    let words = c.args.marks.now.words.items in
    let after = c.add.new.self.words.items in
    subst (AreMarked before after (done ++ number ∷ [])) (sym c.in_ok-push.ensures.items)
    (marked_more before words done c.args.next.now.items after number are (λ is. false≢true (sym c.if-not-has.true ∙ c.has.ensures.1 is))
    c.add.ensures.long c.add.ensures.marked c.add.ensures.others)

pub returns-else-not-has-clause-marked : goal.returns-else-not-has-clause-marked
returns-else-not-has-clause-marked c = λ before done are.
    marked_twice before c.args.marks.now.words.items done c.args.next.now.items c.args.number are (c.has.ensures.0 c.if-not-has.false)
