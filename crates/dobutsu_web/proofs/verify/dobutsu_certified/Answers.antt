-- The lists say it of the position and the claim that were read.
use Rattle.dobutsu_web.proofs.Common.{◌≡◌, inl, inr, rules, subst, ℕ, not_so}
use Rattle.dobutsu_web.specs.Certified.{IsAnswer, IsToldAnswer}
use Rattle.dobutsu_web.proofs.verify.dobutsu_certified.Goals as goal

pub returns-then-not-are_ranks-clause-ranks : goal.returns-then-not-are_ranks-clause-ranks
returns-then-not-are_ranks-clause-ranks c = λ _.
    let asked = c.in-Ok.asked in
    (asked.family, asked.position.setup, c.in-Ok.ensures, inl (not_so c.are_ranks.result (search rules) c.are_ranks.ensures))

pub returns-then-not-are_ranks-2-clause-ranks : goal.returns-then-not-are_ranks-2-clause-ranks
returns-then-not-are_ranks-2-clause-ranks c = λ _.
    let asked = c.in-Ok.asked in
    (asked.family, asked.position.setup, c.in-Ok.ensures, inr (not_so c.are_ranks-2.result (search rules) c.are_ranks-2.ensures))

-- the answer is one of what was asked
answered : (c : goal.After-answer) (n : ℕ) → c.answer.result ≡ n → IsToldAnswer c.args.text.now c.args.profile c.args.kind c.args.plies c.args.lost_ranks.now
    c.args.lost_plies.now c.args.held_ranks.now c.args.held_plies.now n c.answer.new.broken
answered c n is =
    let asked = c.in-Ok.asked in
    record {
      family = asked.family;
      setup = asked.position.setup;
      claim = c.in-Some.claim;
      asked = record {
        asked = c.in-Ok.ensures;
        claimed = c.in-Some.ensures;
        lost_ranks = c.are_ranks.ensures.0 (search rules);
        held_ranks = c.are_ranks-2.ensures.0 (search rules);
      };
      is = subst (λ (n : ℕ). IsAnswer n asked.family c.args.lost_ranks.now c.args.lost_plies.now c.args.held_ranks.now c.args.held_plies.now
          asked.position.setup c.in-Some.claim c.answer.new.broken) is c.answer.ensures.answer;
    }

pub returns-clause-shown : goal.returns-clause-shown
returns-clause-shown c = answered c 0

pub returns-clause-broken : goal.returns-clause-broken
returns-clause-broken c = answered c 30

pub returns-clause-silent : goal.returns-clause-silent
returns-clause-silent c = answered c 31
