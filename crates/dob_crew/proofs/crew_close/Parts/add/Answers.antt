-- One endpoint more is taken apart: its seat, taking end and slots go last, and each sending end to its receiver's row.
use Rattle.dob_crew.proofs.Common.{◌∙◌, ◌≡◌, List, ap, length, rules, subst, sym, vec_len, ℕ, length-map, SendEnd, outlet_end, AreDealt}
use Rattle.dob_crew.proofs.crew_close.Parts.add.Goals as goal
use Rattle.dob_crew.proofs.crew_close.Parts.add.Goals.{In_ok-sends}

-- a sending end for each outlet
count : (c : In_ok-sends) → vec_len c.in_ok-sends.sends ≡ length c.args.endpoint.outlets.items
count c =
    let long : length c.in_ok-sends.sends.items ≡ vec_len c.in_ok-sends.sends = search rules in
    sym long ∙ ap length c.in_ok-sends.ensures.ends ∙ length-map c.args.endpoint.outlets.items outlet_end

pub push_each-requires : goal.push_each-requires
push_each-requires c =
    let endpoint = c.args.endpoint in
    let wide : length endpoint.outlets.items ≡ vec_len endpoint.outlets = search rules in
    count (goal.at.push_each-requires c).In_ok-sends ∙ wide ∙ endpoint.outlets_len ∙ c.requires

pub returns : goal.returns
returns c = record {
  seats = c.in_ok-push.ensures.items;
  sends = subst (λ (p : ℕ × List SendEnd). AreDealt p.0 p.1 c.args.self.now.sends.items c.push_each.new.rows.items)
      (λ q. (count (goal.at.returns c).In_ok-sends q, c.in_ok-sends.ensures.ends q)) c.in_ok-push_each.ensures;
  takes = c.in_ok-push-3.ensures.items;
  sending = (c.in_ok-sends.sending, c.in_ok-push-2.ensures.items, c.in_ok-sends.ensures.slots);
  taking = (c.in_ok-taking.taking, c.in_ok-push-4.ensures.items, c.in_ok-taking.ensures);
}
