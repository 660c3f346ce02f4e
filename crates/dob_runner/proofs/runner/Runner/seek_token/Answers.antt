-- A runner that isn't at rest does nothing. One that is moves the token, if its node has it, and stays lawful, of whatever colour.
use Rattle.dob_runner.proofs.Common.{ap, inl, refl, both_ways, IsAtRest}
use Rattle.dob_endpoint.proofs.Keeping.{own_before}
use Rattle.dob_runner.proofs.Keeping.{work_same}
use Rattle.dob_runner.proofs.Lawfuls.{recoloured, same_inlet}
use Rattle.dob_runner.proofs.runner.Runner.seek_token.Goals as goal

pub invariant_of-self : goal.invariant_of-self
invariant_of-self c =
    let r = c.args.self.now in
    let idle : IsAtRest r = c.is_idle.ensures.0 c.if-not-is_idle.false in
    record {
      going = λ _. c.requires;
      own = λ found. r.own (own_before r.endpoint.seat c.move_token.new.self.seat c.move_token.ensures.own c.move_token.ensures.links.seat.node found);
      agrees = r.agrees;
      lawful = λ _. recoloured r.family r.batch_size r.node r.endpoint c.move_token.new.self (r.lawful (inl c.requires))
          c.move_token.ensures.links.seat.node c.move_token.ensures.links.seat.nodes (ap (λ v. v.items) c.move_token.ensures.links.outlets)
          (same_inlet r.endpoint c.move_token.new.self c.move_token.ensures.links.inlet)
          (λ is. (idle.idle, idle.sent));
    }

pub returns-then-not-is_idle-clause-seeks : goal.returns-then-not-is_idle-clause-seeks
returns-then-not-is_idle-clause-seeks c = record {
  same = work_same c.args.self.now;
  rests = λ rests. absurd (both_ways _ c.if-not-is_idle.true (c.is_idle.ensures.1 rests));
  stays = λ busy. (refl, refl);
}

pub returns-clause-seeks : goal.returns-clause-seeks
returns-clause-seeks c = record {
  same = record { node = refl; links = c.move_token.ensures.links };
  rests = λ rests. c.move_token.ensures.moves;
  stays = λ busy. absurd (busy (c.is_idle.ensures.0 c.if-not-is_idle.false));
}
