-- By the two laws of what is read.
use Rattle.dob_certfile.proofs.Common.{◌∙◌, ap, arith, subst, content, MayGive, file_at}
use Rattle.dob_certfile.proofs.Files.{is_found, is_fault, file_again}
use Rattle.dob_certfile.proofs.read.read_certificate.Goals as goal

pub returns-clause-found : goal.returns-clause-found
returns-clause-found c = is_found c.args.bytes.now c.file_of.result (λ i. omega (arith, c.type_inv.bytes i)) c.file_of.ensures

pub returns-clause-only : goal.returns-clause-only
returns-clause-only c = λ given fits is. subst (λ f. MayGive content c.file_of.result f) (ap file_at is ∙ file_again given fits) c.file_of.ensures

pub returns-clause-fault : goal.returns-clause-fault
returns-clause-fault c = is_fault c.args.bytes.now c.file_of.result c.file_of.ensures
