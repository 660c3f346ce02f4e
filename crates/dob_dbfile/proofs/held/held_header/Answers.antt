-- What the header's bytes are refused for is a fault of the file.
use Rattle.dob_dbfile.proofs.Common.{◌≤◌, arith, inr, length, refl, subst, take, ℕ, err_from_is_err_and, whole, CountsClasses, HasHeaderFault}
use Rattle.dob_dbfile.proofs.Common.{header_len}
use Rattle.dob_dbfile.proofs.Headers.{set_lifts, counts_lifts, fault_lifts, front_refused, header_long}
use Rattle.dob_dbfile.proofs.held.held_header.Goals as goal

pub returns-in_err-format-clause-front : goal.returns-in_err-format-clause-front
returns-in_err-format-clause-front c =
    let bytes = c.args.bytes.now in
    let p = err_from_is_err_and c.from_residual.result c.from_residual.ensures.1 in
    rw (p.1, p.2) (front_refused (whole bytes) _
    (fault_lifts 20 bytes (omega arith) (omega (arith, c.if-bytes-lt-FRONT_LEN.false)) c.in_err-format.field-0.0 c.in_err-format.ensures.fault))

pub returns-then-bytes-header_len-clause-front : goal.returns-then-bytes-header_len-clause-front
returns-then-bytes-header_len-clause-front c =
    let bytes = c.args.bytes.now in
    let format = c.in_ok-format.format in
    let named = set_lifts 20 bytes (omega arith) (omega (arith, c.if-bytes-lt-FRONT_LEN.false)) format c.in_ok-format.set c.in_ok-format.ensures.named in
    let short : header_len format ≤ length bytes → ⊥ = λ le. omega (arith, le, c.header_len.ensures, c.if-bytes-header_len.true) in
    (inr (format, c.in_ok-format.set, named, λ has. short has.1), refl)

pub returns-in_err-family_counted-clause-front : goal.returns-in_err-family_counted-clause-front
returns-in_err-family_counted-clause-front c =
    let bytes = c.args.bytes.now in
    let p = err_from_is_err_and c.from_residual-in_err-family_counted.result c.from_residual-in_err-family_counted.ensures.1 in
    let format = c.in_ok-format.format in
    let there : header_len format ≤ length bytes = omega (arith, c.header_len.ensures, c.if-bytes-header_len.false) in
    rw (p.1, p.2) (front_refused (whole bytes) _ (fault_lifts (header_len format) bytes (header_long format) there c.in_err-family_counted.field-0.0
    (subst (λ (n : ℕ). HasHeaderFault (take n bytes) c.in_err-family_counted.field-0.0) c.header_len-2.ensures c.in_err-family_counted.ensures.fault)))

pub returns-clause-counted : goal.returns-clause-counted
returns-clause-counted c =
    let format = c.in_ok-format.format in
    let family = c.in_ok-family_counted.field-0 in
    let there : header_len format ≤ length c.args.bytes.now = omega (arith, c.header_len.ensures, c.if-bytes-header_len.false) in
    counts_lifts (header_len format) c.args.bytes.now (header_long format) there format family
    (subst (λ (n : ℕ). CountsClasses format family (take n c.args.bytes.now)) c.header_len-2.ensures c.in_ok-family_counted.ensures.counted)
