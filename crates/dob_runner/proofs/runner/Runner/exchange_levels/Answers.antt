-- The runner is as it was, but for what it was told.
use Rattle.dob_runner.proofs.Common.{◌∙◌, ap, refl, subst, sym, Option, Some}
use Rattle.dob_endpoint.proofs.Keeping.{endpoint_same}
use Rattle.dob_runner.proofs.Keeping.{goes_by}
use Rattle.dob_runner.specs.declared.pace.Pace.{Pace}
use Rattle.dob_runner.specs.Paces.{IsLimitFor, kept_member, last_level}
use Rattle.dob_runner.proofs.runner.Runner.exchange_levels.Goals as goal

pub returns-in-Some : goal.returns-in-Some
returns-in-Some c = record {
  goes = goes_by (endpoint_same c.args.self.now.endpoint) refl refl (ap Some c.exchange_levels.ensures.place ∙ ap kept_member (sym c.in-Some.is)) c.requires refl refl;
  node = refl;
  endpoint = refl;
  limit_is = c.exchange_levels.ensures.limit;
}

pub returns-in-None : goal.returns-in-None
returns-in-None c = record {
  goes = goes_by (endpoint_same c.args.self.now.endpoint) refl refl refl c.requires refl refl;
  node = refl;
  endpoint = refl;
  limit_is = subst (λ (kept : Option Pace). IsLimitFor kept last_level) (sym c.in-None.is) refl;
}
