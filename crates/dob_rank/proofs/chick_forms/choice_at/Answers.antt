-- No square, one, or two.
use Rattle.dob_rank.proofs.Common.{◌+◌, ◌<◌, ◌≡◌, ◌≤◌, ◌∙◌, ap, arith, subst, sym, B, forms_before, ℕ}
use Rattle.dob_rank.specs.Weights.{forms_upto}
use Rattle.dob_rank.proofs.ProfileB.ChickForms.{before_one, in_run, run_forms}
use Rattle.dob_rank.proofs.chick_forms.choice_at.Goals as goal

pub square_at-requires-clause-number : goal.square_at-requires-clause-number
square_at-requires-clause-number c =
    subst (λ (n : ℕ). c.args.number < n) (in_run c.args.chicks c.args.lions c.requires.chicks c.requires.lions ∙ ap (λ n. run_forms n c.args.lions) c.in-1.is)
    c.requires.number

pub pair_at-requires-clause-number : goal.pair_at-requires-clause-number
pair_at-requires-clause-number c =
    let two : c.args.chicks ≡ 2 = omega arith in
    subst (λ (n : ℕ). c.args.number < n) (in_run c.args.chicks c.args.lions c.requires.chicks c.requires.lions ∙ ap (λ n. run_forms n c.args.lions) two)
    c.requires.number

one : (lions square number chicks : ℕ) → chicks ≡ 1 → lions < 99 → square ≤ 10 → forms_before B lions chicks square ≡ forms_upto lions square
one lions square number chicks e low upto = ap (λ (n : ℕ). forms_before B lions n square) e ∙ before_one lions square low upto

pub returns-in-1-clause-low : goal.returns-in-1-clause-low
returns-in-1-clause-low c =
    subst (λ (n : ℕ). n ≤ c.args.number) (sym (one c.args.lions c.square_at.result c.args.number c.args.chicks c.in-1.is c.requires.lions
    (upto c.square_at.result c.square_at.ensures.square))) c.square_at.ensures.low
  where
    upto : (n : ℕ) → n < 10 → n ≤ 10
    upto n h = omega (arith, h)

pub returns-in-1-clause-high : goal.returns-in-1-clause-high
returns-in-1-clause-high c =
    subst (λ (n : ℕ). c.args.number < n) (sym (one c.args.lions (c.square_at.result + 1) c.args.number c.args.chicks c.in-1.is c.requires.lions
    (upto c.square_at.result c.square_at.ensures.square))) c.square_at.ensures.high
  where
    upto : (n : ℕ) → n < 10 → n + 1 ≤ 10
    upto n h = omega (arith, h)

pub returns-in_default-clause-low : goal.returns-in_default-clause-low
returns-in_default-clause-low c =
    let two : 2 ≡ c.args.chicks = omega arith in
    subst (λ (n : ℕ). forms_before B c.args.lions n c.pair_at.result ≤ c.args.number) two c.pair_at.ensures.low

pub returns-in_default-clause-high : goal.returns-in_default-clause-high
returns-in_default-clause-high c =
    let two : 2 ≡ c.args.chicks = omega arith in
    subst (λ (n : ℕ). c.args.number < forms_before B c.args.lions n (c.pair_at.result + 1)) two c.pair_at.ensures.high
