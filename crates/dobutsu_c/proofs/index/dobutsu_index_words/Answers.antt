-- One family has those numbers.
use Rattle.dobutsu_c.proofs.Common.{◌∙◌, ap, Family, words_of}
use Rattle.dobutsu_c.proofs.Indexed.{one_family}
use Rattle.dobutsu_c.proofs.index.dobutsu_index_words.Goals as goal

pub returns-in-Ok-clause-words : goal.returns-in-Ok-clause-words
returns-in-Ok-clause-words c = λ family is.
    c.index_words.ensures.value
    ∙ ap (λ (f : Family). words_of f.set) (one_family c.args.chicks c.args.elephants c.args.giraffes c.args.profile c.in-Ok.family family c.in-Ok.ensures.0 is)
