-- What the certificate says of the position is what the bytes say of the text, and why the position isn't one of its family.
use Rattle.dobutsu_c.proofs.Common.{content}
use Rattle.dobutsu_c.specs.Replies.{AreAsked}
use Rattle.dobutsu_c.proofs.Replied.{asked_replied}
use Rattle.dobutsu_c.proofs.replies.replied_by.Goals as goal
use Rattle.dobutsu_c.proofs.replies.replied_by.Goals.{In-Ok-read_certificate}

asked : (c : In-Ok-read_certificate) → AreAsked c.args.file.now c.args.text.now (content c.in-Ok-read_certificate.certificate) c.in-Ok.position.setup
asked c = record { read = c.in-Ok-read_certificate.ensures.found.1; named = (c.in-Ok.ensures.read.0, c.in-Ok.ensures.read.2) }

pub returns : goal.returns
returns c = (
  content c.in-Ok-read_certificate.certificate,
  c.in-Ok.position.setup,
  asked (goal.at.returns c).In-Ok-read_certificate,
  c.in-Err-check_member.ensures,
)

pub returns-in-Ok-check_member : goal.returns-in-Ok-check_member
returns-in-Ok-check_member c =
    asked_replied c.args.file.now c.args.text.now (content c.in-Ok-read_certificate.certificate) c.in-Ok.position.setup c.reply_of.result
    (asked (goal.at.returns-in-Ok-check_member c).In-Ok-read_certificate) c.reply_of.ensures
