-- What the source gives once its first bytes were looked at is what it gave before.
use Rattle.std.specs.Prelude.{string_bytes, true}
use Rattle.std.proofs.lemmas.Result.{IfOk-weaker}
use Rattle.dob_verdict.proofs.Common.{◌∙◌, List, false, sym, ℕ}
use Rattle.dob_verdict.specs.Headers.{Begins, GivesAll}
use Rattle.dob_verdict.proofs.Headed.{lines_weaker}
use Rattle.dob_verdict.proofs.headers.info_lines.Goals as goal

pub returns-then-begins-clause-ok : goal.returns-then-begins-clause-ok
returns-then-begins-clause-ok g c =
    let Given : List ℕ → Type 0 = GivesAll (g.R.Source.gives c.args.source.now) (g.R.Source.shows c.args.source.now) in
    let Later : List ℕ → Type 0 = Begins true (g.R.Source.gives c.begins_certificate.new.source) in
    let later : (bytes : List ℕ) → Given bytes → Later bytes = λ bytes has.
    let told = c.in_ok-begins.ensures.told bytes has in (told.1.0, sym told.0 ∙ c.if-begins.true) in
    IfOk-weaker c.certificate_lines.result _ _ (λ lines. lines_weaker Given Later later c.args.is_object (string_bytes lines)) c.certificate_lines.ensures.ok

pub returns-else-begins-clause-ok : goal.returns-else-begins-clause-ok
returns-else-begins-clause-ok g c =
    let Given : List ℕ → Type 0 = GivesAll (g.R.Source.gives c.args.source.now) (g.R.Source.shows c.args.source.now) in
    let Later : List ℕ → Type 0 = Begins false (g.R.Source.gives c.begins_certificate.new.source) in
    let later : (bytes : List ℕ) → Given bytes → Later bytes = λ bytes has.
    let told = c.in_ok-begins.ensures.told bytes has in (told.1.0, sym told.0 ∙ c.if-begins.false) in
    IfOk-weaker c.table_lines.result _ _ (λ lines. lines_weaker Given Later later c.args.is_object (string_bytes lines)) c.table_lines.ensures.ok
