-- The digit is written above the others.
use Rattle.dob_share.proofs.Common.{◌+◌, ◌<◌, ◌^◌, ◌∙◌, ap, bit, subst, sym, ℕ}
use Rattle.dob_share.proofs.Words.{digit_is, digit_there, digit_before, digit_low}
use Rattle.dob_share.proofs.statuses.with_digit.Goals as goal

pub returns-clause-here : goal.returns-clause-here
returns-clause-here c = ap (λ (w : ℕ). bit w c.args.place) (digit_is c.args.word c.args.place c.args.digit c.requires.place c.requires.digit c.requires.low)
    ∙ digit_there c.args.word c.args.place c.args.digit c.requires.digit c.requires.low

pub returns-clause-before : goal.returns-clause-before
returns-clause-before c = λ other below.
    ap (λ (w : ℕ). bit w other) (digit_is c.args.word c.args.place c.args.digit c.requires.place c.requires.digit c.requires.low)
    ∙ digit_before c.args.word c.args.place c.args.digit other c.requires.digit below

pub returns-clause-low : goal.returns-clause-low
returns-clause-low c = subst (λ (w : ℕ). w < 2 ^ (c.args.place + 1))
    (sym (digit_is c.args.word c.args.place c.args.digit c.requires.place c.requires.digit c.requires.low))
    (digit_low c.args.word c.args.place c.args.digit c.requires.digit c.requires.low)
