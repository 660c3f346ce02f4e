-- The first class alone is marked.
use Rattle.dob_reach.proofs.Common.{◌++◌, ◌∙◌, ◌∷◌, List, Reached, [], ap, arith, cases_eq, inl, inr, refl, ℕ}
use Rattle.dob_reach.proofs.Searched.{searched_begin}
use Rattle.dob_reach.proofs.search.begin.Goals as goal

pub returns-clause-searched : goal.returns-clause-searched
returns-clause-searched c =
    let start : ℕ = c.args.start in
    let words : List ℕ = c.add.new.self.words.items in
    let reached : Reached = record { classes = 0; opens = 0; levels = c.new.result; marks = c.add.new.self } in
    searched_begin c.args.classes.now.family start reached c.push.new.self.items c.requires
    (let number = c.class_count.ensures.number in let bound = c.class_count.ensures.bound in omega (arith, number, bound)) c.new.ensures.items refl refl
    (c.in_ok-push.ensures.items ∙ ap (λ (xs : List ℕ). xs ++ start ∷ []) c.new-front.ensures.items)
    (λ number is. elim (cases_eq number start) [
      | inl same ↦ same
      | inr apart ↦ let old = c.add.ensures.others number apart in let none = c.in_ok-marks.ensures.none number in absurd (omega (arith, is, old, none))
    ])
    c.add.ensures.marked
    (let long = c.add.ensures.long in let room = c.in_ok-marks.ensures.room in omega (arith, long, room, c.class_count.ensures.number))
