-- by the lowest square of the set, and what is left without it
use Rattle.std.proofs.Common.{sym, ◌∙◌, true≢false}
use Rattle.dob_unmove.proofs.Threats.{nobody, one_alone, several}
use Rattle.dob_unmove.proofs.attackers.attackers_in.Goals as goal

pub returns-in-None : goal.returns-in-None
returns-in-None c = λ setup target are. nobody setup target c.args.attackers are c.in-None.ensures

pub returns-then-is_empty : goal.returns-then-is_empty
returns-then-is_empty c = λ setup target are.
    one_alone setup target c.args.attackers c.in-Some.first are c.in-Some.ensures (sym c.without.ensures ∙ c.is_empty.ensures.0 c.if-is_empty.true)

pub returns-else-is_empty : goal.returns-else-is_empty
returns-else-is_empty c = λ setup target are.
    several setup target c.args.attackers c.in-Some.first are c.in-Some.ensures
    (λ none. true≢false (sym (c.is_empty.ensures.1 (c.without.ensures ∙ none)) ∙ c.if-is_empty.false))
