-- One family has those numbers.
use Rattle.dobutsu_c.proofs.Common.{◌≡◌, ap, arith, refl, subst, Family, IsIndex, words_of}
use Rattle.dobutsu_c.specs.Counts.{IsFamily}
use Rattle.dobutsu_c.proofs.Indexed.{one_family}
use Rattle.dobutsu_c.proofs.index.dobutsu_index.Goals as goal
use Rattle.dobutsu_c.proofs.index.dobutsu_index.Goals.{In-Ok}

same : (c : In-Ok) (family : Family) → IsFamily c.args.chicks c.args.elephants c.args.giraffes c.args.profile family → c.in-Ok.family ≡ family
same c family is = one_family c.args.chicks c.args.elephants c.args.giraffes c.args.profile c.in-Ok.family family c.in-Ok.ensures.0 is

pub returns-then-words-index_words-clause-written : goal.returns-then-words-index_words-clause-written
returns-then-words-index_words-clause-written c = λ family is room.
    let words = ap (λ (f : Family). words_of f.set) (same (goal.at.returns-then-words-index_words-clause-written c).In-Ok family is) in
    absurd (omega (arith, words, room, c.index_words.ensures.value, c.if-words-index_words.true))

pub returns-clause-written : goal.returns-clause-written
returns-clause-written c = λ family is room. (
  refl,
  subst (λ (f : Family). IsIndex f c.write_index.new.words)
      (same (goal.at.returns-clause-written c).In-Ok family is) c.write_index.ensures.index,
)

pub returns-clause-short : goal.returns-clause-short
returns-clause-short c = λ family is short.
    let words = ap (λ (f : Family). words_of f.set) (same (goal.at.returns-clause-short c).In-Ok family is) in
    absurd (omega (arith, words, short, c.index_words.ensures.value, c.if-words-index_words.false))

pub returns-clause-others : goal.returns-clause-others
returns-clause-others c = λ family is i behind.
    let words = ap (λ (f : Family). words_of f.set) (same (goal.at.returns-clause-others c).In-Ok family is) in
    c.write_index.ensures.others i (omega (arith, words, behind))
