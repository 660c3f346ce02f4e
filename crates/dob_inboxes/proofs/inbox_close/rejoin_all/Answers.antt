-- While a row of sending ends is left so is the taking end of its inbox, and its links go to their senders' rows.
use Rattle.dob_inboxes.proofs.Common.{◌+◌, ◌∙◌, ◌≡◌, Global, arith, length, refl, rules, subst, sym, vec_len, ℕ, ⊎_elim, Vec, Rejoined, AreJoined, AreDealt}
use Rattle.dob_inboxes.proofs.Common.{AreInOrder, AreRows, IfOk-weaker}
use Rattle.dob_endpoint.proofs.Places.{gone_all, next_at, none_gone, one_gone}
use Rattle.dob_inboxes.proofs.Inboxes.{HaveLinks, are_joined, links_more, rows_longer}
use Rattle.dob_inboxes.proofs.inbox_close.rejoin_all.Goals as goal
use Rattle.dob_inboxes.proofs.inbox_close.rejoin_all.Goals.{At-loop-row, In-None}

pub loop-row-init : goal.loop-row-init
loop-row-init g c = record {
  done = 0;
  senders = none_gone (search rules) refl;
  takers = none_gone (search rules) refl;
  rows_are = subst (λ (k : ℕ). AreRows k 0 c.in_ok-rows.rows.items) (search rules) c.in_ok-rows.ensures;
  links_are = λ i j send take below. absurd (omega (arith, below));
}

pub rejoin_one-requires : goal.rejoin_one-requires
rejoin_one-requires g c =
    c.requires.inboxes c.loop-row.invariant.done _ _ (next_at c.loop-row.invariant.senders c.in-Some.ensures.steps.0.0)
    (next_at c.loop-row.invariant.takers c.in-Some.ensures.steps.1.0)

pub push_each-requires : goal.push_each-requires
push_each-requires g c =
    let on = c.loop-row.invariant in
    let links : length c.in_ok-links.links.items ≡ vec_len c.args.takes =
    c.in_ok-links.ensures.0 ∙ c.requires.senders.each on.done _ (next_at on.senders c.in-Some.ensures.steps.0.0) in
    let rows : length c.loop-row.rows.items ≡ vec_len c.args.takes = on.rows_are.count in
    search rules

pub loop-row-preserved : goal.loop-row-preserved
loop-row-preserved g c =
    let n = vec_len c.args.takes in
    let links = c.in_ok-links.links in
    let on = c.loop-row.invariant in
    let at = next_at on.senders c.in-Some.ensures.steps.0.0 in
    let long : length links.items ≡ n = c.in_ok-links.ensures.0 ∙ c.requires.senders.each on.done _ at in
    let many : vec_len links ≡ n = search rules in
    let dealt : AreDealt n links.items c.loop-row.rows.items c.push_each.new.rows.items =
    subst (λ (k : ℕ). AreDealt k links.items c.loop-row.rows.items c.push_each.new.rows.items) many c.in_ok-push_each.ensures in
    record {
      done = on.done + 1;
      senders = one_gone on.senders c.in-Some.ensures.steps.0.0 refl;
      takers = one_gone on.takers c.in-Some.ensures.steps.1.0 refl;
      rows_are = rows_longer on.done c.loop-row.rows.items c.push_each.new.rows.items links.items on.rows_are dealt;
      links_are = links_more c.requires on.done c.loop-row.rows.items c.push_each.new.rows.items c.in-Some.row c.in-Some.take links.items on.rows_are
          on.links_are
          at (next_at on.takers c.in-Some.ensures.steps.1.0) c.in_ok-links.ensures dealt;
    }

-- there are as many rows as nodes, and so wide are they in the end
sizes : (g : _) (c : At-loop-row g) → (vec_len c.loop-row.rows ≡ vec_len c.args.takes) × (c.len-nodes.result ≡ vec_len c.args.takes)
sizes g c = let long : length c.loop-row.rows.items ≡ vec_len c.args.takes = c.loop-row.invariant.rows_are.count in (search rules, search rules)

-- as many inboxes are ended
all_done : (g : _) (c : In-None g) → c.loop-row.invariant.done ≡ vec_len c.args.takes
all_done g c = let on = c.loop-row.invariant in ⊎_elim (λ row. gone_all on.senders (search (rules, row.1.0)) ∙ c.requires.senders.count)
    (λ take. gone_all on.takers (search (rules, take.1.0)) ∙ c.requires.takers) c.in-None.ensures.steps

pub join-requires : goal.join-requires
join-requires g c =
    let are = sizes g (goal.at.join-requires g c).At-loop-row in
    let done = all_done g (goal.at.join-requires g c).In-None ∙ sym are.1 in
    subst (λ (p : ℕ × ℕ). AreRows p.0 p.1 c.loop-row.rows.items) (λ q. (sym are.0 q, done q)) c.loop-row.invariant.rows_are

pub returns : goal.returns
returns g c =
    let rows = c.loop-row.rows in
    let sends = c.args.sends.items in
    let takes = c.args.takes.items in
    let are = sizes g (goal.at.returns g c).At-loop-row in
    let all = subst (λ (k : ℕ). HaveLinks sends takes k rows.items) (all_done g (goal.at.returns g c).In-None)
    c.loop-row.invariant.links_are in
    IfOk-weaker c.join.result (λ (links : Vec Rejoined Global). AreInOrder c.len-nodes.result (vec_len rows) rows.items links.items)
    (λ links. AreJoined (vec_len c.args.takes) sends takes links.items)
    (λ links is. are_joined c.requires rows.items links.items all (subst (λ (p : ℕ × ℕ). AreInOrder p.0 p.1 rows.items links.items) (λ q. (are.1 q, are.0 q))
    is)) c.join.ensures
