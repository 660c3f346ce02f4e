-- The classes are those of the certificate's family.
use Rattle.dob_verdict.proofs.replying.proved_reply.Goals as goal

pub returns-clause-ok : goal.returns-clause-ok
returns-clause-ok c = record {
  member = c.in_ok-check_member.ensures.member;
  supported = rw c.in_ok-classes.ensures.family at c.in_ok-check_list.ensures;
  reply = rw c.in_ok-classes.ensures.family at c.reply_to.ensures.reply;
  right = rw c.in_ok-classes.ensures.family at c.reply_to.ensures.right;
}
