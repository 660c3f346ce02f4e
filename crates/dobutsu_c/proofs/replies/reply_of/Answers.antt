-- The classes are those of the certificate's family.
use Rattle.std.specs.Prelude.{None, Some}
use Rattle.dobutsu_c.proofs.Common.{◌≡◌, Err, rules, subst, Family}
use Rattle.dob_certificate.specs.declared.refusal.Refusal.TheVariants as refusal
use Rattle.dob_certificate.specs.Lost.{SupportsAllLost}
use Rattle.dob_certify.specs.Replies.{IsReply, IsRight}
use Rattle.dobutsu_c.proofs.Replied.{unsupported_by, no_claim}
use Rattle.dobutsu_c.proofs.replies.reply_of.Goals as goal

pub reply_to-requires-clause-supported : goal.reply_to-requires-clause-supported
reply_to-requires-clause-supported c = c.in-Ok-check_list.ensures

pub returns-in-Some : goal.returns-in-Some
returns-in-Some c =
    let lost = c.args.certificate.now.certificate.lost in
    let p = c.args.position.now.setup in
    let said : IsReply c.in-Ok.classes.family lost p (Some c.in-Some.found) = c.in-Some.ensures.reply in
    let right : IsRight c.in-Ok.classes.family.profile p (Some c.in-Some.found) = c.in-Some.ensures.right in
    record {
      member = c.requires;
      supported = rw c.in-Ok.ensures.family at c.in-Ok-check_list.ensures;
      reply = subst (λ (family : Family). IsReply family lost p (Some c.in-Some.found)) c.in-Ok.ensures.family said;
      right = subst (λ (family : Family). IsRight family.profile p (Some c.in-Some.found)) c.in-Ok.ensures.family right;
    }

pub returns-in-Ok-check_list : goal.returns-in-Ok-check_list
returns-in-Ok-check_list c =
    let lost = c.args.certificate.now.certificate.lost in
    let p = c.args.position.now.setup in
    let none : c.reply_to.result ≡ None = search rules in
    let said : IsReply c.in-Ok.classes.family lost p None = subst (λ r. IsReply c.in-Ok.classes.family lost p r) none c.reply_to.ensures.reply in
    let right : IsRight c.in-Ok.classes.family.profile p None = subst (λ r. IsRight c.in-Ok.classes.family.profile p r) none c.reply_to.ensures.right in
    record {
      member = c.requires;
      supported = rw c.in-Ok.ensures.family at c.in-Ok-check_list.ensures;
      reply = subst (λ (family : Family). IsReply family lost p None) c.in-Ok.ensures.family said;
      right = subst (λ (family : Family). IsRight family.profile p None) c.in-Ok.ensures.family right;
    }

pub returns-in-Err-Unsupported : goal.returns-in-Err-Unsupported
returns-in-Err-Unsupported c =
    let lost = c.args.certificate.now.certificate.lost in
    let is : c.check_list.result ≡ Err (refusal.Unsupported c.in-Err-Unsupported.class) = search rules in (
      c.requires,
      subst (λ (family : Family). ¬ SupportsAllLost family lost) c.in-Ok.ensures.family
          (unsupported_by c.in-Ok.classes.family lost c.check_list.result c.check_list.ensures c.in-Err-Unsupported.class is),
    )

pub returns : goal.returns
returns c =
    let lost = c.args.certificate.now.certificate.lost in
    let is : c.check_list.result ≡ Err refusal.Claim = search rules in
    absurd (no_claim c.in-Ok.classes.family lost c.check_list.result c.check_list.ensures is)
