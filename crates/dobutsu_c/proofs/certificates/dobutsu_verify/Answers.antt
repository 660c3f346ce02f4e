-- What the file says is proved of its root, or refused.
use Rattle.dobutsu_c.proofs.Common.{◌≡◌, Err, rules, content}
use Rattle.dob_certificate.specs.declared.refusal.Refusal.TheVariants as refusal
use Rattle.dobutsu_c.proofs.Certified.{by_entry, by_claim}
use Rattle.dobutsu_c.proofs.certificates.dobutsu_verify.Goals as goal

pub returns-in-Ok-verify_file-clause-right : goal.returns-in-Ok-verify_file-clause-right
returns-in-Ok-verify_file-clause-right c = λ zero_is.
    let shown = c.in-Ok-verify_file.ensures.proof in
    record {
      content = content c.in-Ok.certificate;
      file = c.in-Ok.ensures.found.1;
      root = shown.0;
      is_root = shown.1;
      proved = shown.2;
      holds = shown.3;
      told = c.told.ensures;
    }

pub returns-in-Err-Unsupported-clause-refused : goal.returns-in-Err-Unsupported-clause-refused
returns-in-Err-Unsupported-clause-refused c = λ other.
    let is : c.verify_file.result ≡ Err (refusal.Unsupported c.in-Err-Unsupported.broken) = search rules in
    by_entry c.args.file.now (content c.in-Ok.certificate) c.verify_file.result c.in-Err-Unsupported.broken c.in-Ok.ensures.found.1 is c.verify_file.ensures.refusal

pub returns-clause-refused : goal.returns-clause-refused
returns-clause-refused c = λ other.
    let is : c.verify_file.result ≡ Err refusal.Claim = search rules in
    by_claim c.args.file.now (content c.in-Ok.certificate) c.verify_file.result c.args.class.now c.in-Ok.ensures.found.1 is c.verify_file.ensures.refusal
