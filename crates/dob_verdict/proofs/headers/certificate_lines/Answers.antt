-- What the front says is what the file says.
use Rattle.dob_certfile.specs.Fronts.{front_content}
use Rattle.dob_verdict.specs.Headers.{of_certificate}
use Rattle.dob_verdict.proofs.headers.certificate_lines.Goals as goal

pub returns-clause-ok : goal.returns-clause-ok
returns-clause-ok g c = (
  of_certificate (front_content c.in_ok-front.front) c.in_ok-position.position.setup,
  λ bytes has. (has.1, c.in_ok-front.ensures.front bytes has.0, c.in_ok-position.ensures),
  c.in_ok-certificate_told.ensures,
)
