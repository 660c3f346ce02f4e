-- The entry is named by its class.
use Rattle.dob_certificate.proofs.Common.{List, ap, class_at, sym, Entry}
use Rattle.dob_certificate.proofs.lists.check_list.Goals as goal

pub returns-in-Some : goal.returns-in-Some
returns-in-Some c = record {
  place = c.in-Some.place;
  first = c.in-Some.ensures;
  class_is = sym (ap (λ (entries : List Entry). class_at entries c.in-Some.place) c.as_slice.ensures.entries);
}
