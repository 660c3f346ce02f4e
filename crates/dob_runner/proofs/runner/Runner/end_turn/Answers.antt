-- A turn that did something ends at once, and any other one with the look for the token.
use Rattle.dob_runner.proofs.Common.{◌∙◌, refl, sym, both_ways}
use Rattle.dob_runner.proofs.Keeping.{work_same}
use Rattle.dob_runner.proofs.runner.Runner.end_turn.Goals as goal

pub returns-then-did-clause-ends : goal.returns-then-did-clause-ends
returns-then-did-clause-ends g c =
    let same = work_same c.args.self.now in
    record {
      same = record { node = same.node; links = same.links };
      busy = λ busy. refl;
      idle = λ idle. absurd (both_ways c.args.did idle c.if-did.true);
    }

pub returns-clause-ends : goal.returns-clause-ends
returns-clause-ends g c =
    let seeks = c.seek_token-found.ensures.seeks in
    record {
      same = record { node = seeks.same.node; links = seeks.same.links };
      busy = λ busy. absurd (let both = sym busy ∙ c.if-did.false in cc);
      idle = λ idle. (
        c.seek_token-found.result,
        record { same = record { node = seeks.same.node; links = seeks.same.links }; rests = seeks.rests; stays = seeks.stays },
      );
    }
