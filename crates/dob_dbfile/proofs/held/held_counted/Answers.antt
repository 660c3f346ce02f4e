-- What the header says stands in the bytes, and of a file of the family no test fails.
use Rattle.dob_dbfile.proofs.Common.{◌∙◌, ◌≡◌, ◌≤◌, None, Option, Some, ap, arith, drop, length, refl, subst, sym, take, ℕ, Family, whole, CountsClasses}
use Rattle.dob_dbfile.proofs.Common.{NamesFamily, count_place, header_len, count_bytes, Format}
use Rattle.dob_dbfile.proofs.Headers.{set_lifts, family_lifts, counts_falls, count_part, fault_lifts, header_long}
use Rattle.dob_dbfile.proofs.HeldBytes.{refused, no_digest}
use Rattle.dob_dbfile.proofs.Places.{only_digest, same_head, same_format, same_set}
use Rattle.dob_dbfile.proofs.held.held_counted.Goals.{After-header_len-2}
use Rattle.dob_dbfile.proofs.held.held_counted.Goals as goal

-- the bytes are as many as the header's
there : (c : After-header_len-2) → header_len c.in-Ok.format ≤ length c.args.bytes.now
there c = omega (arith, c.header_len.ensures, c.if-bytes-header_len.false)

-- there is no family and one
both : (found : Option Family) (family : Family) → found ≡ None → found ≡ Some family → ⊥
both found family none some = (let e : (let o : Option Family = None in o) ≡ Some family = sym none ∙ some in cc)

pub returns-in_default-clause-some : goal.returns-in_default-clause-some
returns-in_default-clause-some c = λ format family classes is.
    let bytes = c.args.bytes.now in
    let given = c.in_default.field-0 in
    let wrong = fault_lifts 20 bytes (omega arith) (omega (arith, c.if-bytes-lt-FRONT_LEN.false)) given c.in_default.ensures.fault in
    absurd (no_digest bytes given wrong (only_digest (whole bytes) given format family (is, refl) (refused bytes given wrong)))

pub returns-in_err-family-clause-some : goal.returns-in_err-family-clause-some
returns-in_err-family-clause-some c = λ format family classes is.
    let bytes = c.args.bytes.now in
    let counts = is.0.0 in
    let named = set_lifts 20 bytes (omega arith) (omega (arith, c.if-bytes-lt-FRONT_LEN.false)) c.in-Ok.format c.in-Ok.set c.in-Ok.ensures.named in
    let same : format ≡ c.in-Ok.format = same_format format c.in-Ok.format bytes counts.0.0.0.0 named.0 in
    let set : family.set ≡ c.in-Ok.set = same_set format c.in-Ok.format family.set c.in-Ok.set bytes counts.0.0.0 named in
    let there : header_len format ≤ length bytes = counts.0.0.1 in
    let falls : CountsClasses format family (take (header_len format) bytes)
    = counts_falls (header_len format) bytes (header_long format) there format family (omega arith) counts in
    let header = subst (λ (f : Format). CountsClasses f family (take (header_len f) bytes)) same falls in
    let long = subst (λ (n : ℕ). CountsClasses c.in-Ok.format family (take n bytes)) (sym c.header_len-2.ensures) header in
    absurd (both c.family_saying.result family c.in_err-family.was (c.family_saying.ensures.none family set long.0 (long.1 ∙ ap count_bytes (sym classes))))

pub returns-clause-named : goal.returns-clause-named
returns-clause-named c =
    let format = c.in-Ok.format in
    family_lifts (header_len format) c.args.bytes.now (header_long format) (there (goal.at.returns-clause-named c).After-header_len-2) format
    c.in_ok-family.family
    (subst (λ (n : ℕ). NamesFamily format c.in_ok-family.family (take n c.args.bytes.now)) c.header_len-2.ensures c.in_ok-family.ensures.some.0)

pub returns-clause-counted : goal.returns-clause-counted
returns-clause-counted c =
    let found = c.in-Ok.format in
    let file = c.args.bytes.now in
    sym (count_part (header_len found) file (header_long found) (there (goal.at.returns-clause-counted c).After-header_len-2) found (omega arith))
    ∙ subst (λ (n : ℕ). take 8 (drop (count_place found) (take n file)) ≡ count_bytes c.args.classes) c.header_len-2.ensures c.in_ok-family.ensures.some.1

pub returns-clause-some : goal.returns-clause-some
returns-clause-some c = λ format family classes is.
    let same = same_head c.in-Ok.format format c.in_ok-family.family family c.args.bytes.now (returns-clause-named c) is.0.0.0 in
    ap (λ (f : Format). Some (f, c.in_ok-family.family)) same.0 ∙ ap (λ (p : Family). Some (format, p)) same.1
