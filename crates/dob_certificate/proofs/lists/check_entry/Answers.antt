-- The slice is the list.
use Rattle.dob_certificate.proofs.Common.{List, ap, class_at, Entry}
use Rattle.dob_certificate.proofs.Cases.{not_so}
use Rattle.dob_certificate.proofs.lists.check_entry.Goals as goal

pub returns-else-supports_at : goal.returns-else-supports_at
returns-else-supports_at c = (
  ap (λ (entries : List Entry). class_at entries c.args.place) c.as_slice.ensures.entries,
  not_so c.supports_at.result c.if-supports_at.false c.supports_at.ensures,
)
