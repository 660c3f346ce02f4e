-- A runner that looks for the halt stays lawful, and its seat finds its own failure only where it knew of it.
use Rattle.dob_runner.proofs.Common.{inl, refl}
use Rattle.dob_endpoint.proofs.Keeping.{own_before}
use Rattle.dob_runner.proofs.Lawfuls.{still_coloured}
use Rattle.dob_runner.proofs.runner.Runner.look.Goals as goal

pub invariant_of-self : goal.invariant_of-self
invariant_of-self c =
    let r = c.args.self.now in
    record {
      going = λ _. c.requires;
      own = λ found. r.own (own_before r.endpoint.seat c.look_at_halt.new.self.seat c.look_at_halt.ensures.own c.look_at_halt.ensures.keeps.links.seat.node found);
      agrees = r.agrees;
      lawful = λ _. still_coloured r.family r.batch_size r.node r.endpoint c.look_at_halt.new.self (r.lawful (inl c.requires)) c.look_at_halt.ensures.keeps;
    }

pub returns-clause-seen : goal.returns-clause-seen
returns-clause-seen c = record {
  same = record { node = refl; links = c.look_at_halt.ensures.keeps.links };
  observed = c.look_at_halt.ensures.observed;
  told = c.look_at_halt.ensures.told;
  still = c.look_at_halt.ensures.observed.alone;
}
