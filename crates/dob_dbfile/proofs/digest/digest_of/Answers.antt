-- The table's codes are taken, all of them.
use Rattle.dob_dbfile.proofs.Common.{◌∙◌, ◌≡◌, List, ap, length, subst, sym, ℕ, length-map, Family, Value, value_of_code, values_of_codes, class_table, digest_of}
use Rattle.dob_dbfile.specs.Digests.{HasTaken}
use Rattle.dob_dbfile.proofs.digest.digest_of.Goals as goal

pub returns : goal.returns
returns c =
    let family = c.family.result in
    let codes = c.codes.result.now in
    let count : c.class_count.result ≡ length codes = c.class_count.ensures.length ∙ ap length (sym c.codes.ensures) ∙ length-map codes value_of_code in
    c.end.ensures family codes
    (subst (λ (k : ℕ). HasTaken c.with.result family k codes) count (c.with.ensures family c.class_count.result c.in_ok-hasher.ensures))
    ∙ ap (λ (f : Family). digest_of (class_table f (values_of_codes codes))) c.family.ensures.family
    ∙ ap (λ (values : List Value). digest_of (class_table c.args.table.now.family values)) c.codes.ensures
