-- The seat looks for the token, and hands it on just where it finds it: it announces the end just where it may, and else passes it.
use Rattle.dob_endpoint.proofs.Common.{◌∙◌, List, false, refl, subst, sym, true, ℕ, both_ways, HasAnnounced, KnewOwnFailure, Halt, AreBatchesTaken, AreCounts}
use Rattle.dob_endpoint.proofs.Common.{AreOwn, offered}
use Rattle.dob_endpoint.proofs.Keeping.{links_trans, own_looked, passed_counts, token_by}
use Rattle.dob_endpoint.proofs.endpoint.Endpoint.move_token.Goals as goal

pub invariant_of-self-else-may_announce : goal.invariant_of-self-else-may_announce
invariant_of-self-else-may_announce c =
    let found = c.find_token.new.self in
    let same = c.pass.ensures.same in
    let counts = passed_counts found.seat c.pass.new.self found.seat.stand.token refl (c.find_token.ensures.found.0 c.if-not-find_token.false) c.pass.ensures.passed in
    record {
      outlets_len = found.outlets_len ∙ sym same.nodes;
      senders = found.senders ∙ sym same.nodes;
      own = subst (λ (node : ℕ). AreOwn node found.outlets.items) (sym same.node) found.own;
      posted = subst (λ (counts : List ℕ). AreCounts offered counts found.outlets.items) (sym counts.0) found.posted;
      taken = subst (λ (p : ℕ × List ℕ). AreBatchesTaken p.0 p.1 found.inlet) (λ q. ((sym same.nodes) q, (sym counts.1) q)) found.taken;
    }

pub returns-then-not-find_token-clause-moves : goal.returns-then-not-find_token-clause-moves
returns-then-not-find_token-clause-moves c =
    token_by c.args.self.now.seat c.find_token.new.self.seat c.find_token.new.self.seat c.find_token.result false c.if-not-find_token.true
    c.find_token.ensures.looked c.find_token.ensures.found (λ yes. absurd (cc)) (λ none. refl)

pub returns-then-not-find_token-clause-own : goal.returns-then-not-find_token-clause-own
returns-then-not-find_token-clause-own c = λ own. sym c.find_token.ensures.halt

pub returns-then-may_announce-clause-moves : goal.returns-then-may_announce-clause-moves
returns-then-may_announce-clause-moves c =
    let found = c.find_token.new.self.seat in
    let halt_is = c.announce.ensures.found.halt_is in
    token_by c.args.self.now.seat found c.announce.new.self c.find_token.result true c.if-not-find_token.false
    c.find_token.ensures.looked c.find_token.ensures.found
    (λ yes. record {
      announced = λ may. subst (λ (h : Halt). HasAnnounced found c.announce.new.self h) (sym halt_is) c.announce.ensures.event;
      passed = λ unable. absurd (unable (c.may_announce.ensures.0 c.if-may_announce.true));
    }) (λ none. absurd (cc))

pub returns-then-may_announce-clause-links : goal.returns-then-may_announce-clause-links
returns-then-may_announce-clause-links c =
    links_trans c.args.self.now c.find_token.new.self _ c.find_token.ensures.keeps.links (record { seat = c.announce.ensures.same; outlets = refl; inlet = refl })

pub returns-then-may_announce-clause-own : goal.returns-then-may_announce-clause-own
returns-then-may_announce-clause-own c =
    own_looked c.args.self.now.seat c.find_token.new.self.seat c.announce.new.self.stand.halt c.find_token.ensures.halt c.find_token.ensures.keeps.links.seat.node
    (subst (λ (h : Halt). KnewOwnFailure c.find_token.new.self.seat h) (sym c.announce.ensures.found.halt_is) c.announce.ensures.own)

pub returns-else-may_announce-clause-moves : goal.returns-else-may_announce-clause-moves
returns-else-may_announce-clause-moves c =
    token_by c.args.self.now.seat c.find_token.new.self.seat c.pass.new.self c.find_token.result true c.if-not-find_token.false
    c.find_token.ensures.looked c.find_token.ensures.found
    (λ yes. record { announced = λ may. absurd (both_ways _ c.if-may_announce.false (c.may_announce.ensures.1 may)); passed = λ unable. c.pass.ensures.event })
    (λ none. absurd (cc))

pub returns-else-may_announce-clause-links : goal.returns-else-may_announce-clause-links
returns-else-may_announce-clause-links c =
    links_trans c.args.self.now c.find_token.new.self _ c.find_token.ensures.keeps.links (record { seat = c.pass.ensures.same; outlets = refl; inlet = refl })
