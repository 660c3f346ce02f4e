-- The posted batch is one more of the outlet's offered ones and of the seat's count, and the other links are kept.
use Rattle.dob_endpoint.proofs.Common.{◌∙◌, ◌∷◌, ◌≡◌, List, Some, [], ap, arith, length, length-append, refl, rules, subst, suc, sym, ℕ, slice_get, slice_set}
use Rattle.dob_endpoint.proofs.Common.{read_there, SeatState, place_of, SendEnd, AreBatchesTaken, AreCounts, AreOwn, KeepsOutlet, offered}
use Rattle.dob_endpoint.proofs.Links.{counts_rise, own_set}
use Rattle.dob_endpoint.proofs.Keeping.{outlet_same, outlet_kept, inlet_same, one_kept}
use Rattle.dob_endpoint.proofs.endpoint.Endpoint.post.Goals as goal
use Rattle.dob_endpoint.proofs.endpoint.Endpoint.post.Goals.{After-index_mut}

-- the outlet for the node
there : (c : After-index_mut) → slice_get c.args.self.now.outlets.items c.args.to ≡ Some c.index_mut.result.now
there c = read_there c.args.self.now.outlets.items c.args.to c.index_mut.result.now (search rules) c.index_mut.ensures.value

pub hold-requires-clause-own : goal.hold-requires-clause-own
hold-requires-clause-own c =
    c.requires.own ∙ sym (c.args.self.now.own c.args.to c.index_mut.result.now (there (goal.at.hold-requires-clause-own c).After-index_mut))

pub invariant_of-self : goal.invariant_of-self
invariant_of-self c =
    let endpoint = c.args.self.now in
    let old = c.index_mut.result.now in
    let at = there (goal.at.invariant_of-self c).After-index_mut in
    let more : length (offered c.hold.new.self) ≡ suc (length (offered old)) =
    omega (arith, ap length c.hold.ensures.offered, length-append (offered old) (c.args.batch ∷ [])) in
    let posted_is = ap (λ (s : SeatState). s.posted) c.post.ensures.counted in
    let taken_is = ap (λ (s : SeatState). s.taken) c.post.ensures.counted in
    record {
      outlets_len = endpoint.outlets_len ∙ sym c.post.ensures.same.nodes;
      senders = endpoint.senders ∙ sym c.post.ensures.same.nodes;
      own = subst (λ (node : ℕ). AreOwn node (slice_set endpoint.outlets.items c.args.to c.hold.new.self)) (sym c.post.ensures.same.node)
          (own_set endpoint.seat.node endpoint.outlets.items c.args.to old c.hold.new.self endpoint.own at (ap (λ (e : SendEnd). place_of e) c.hold.ensures.end));
      posted = subst (λ (counts : List ℕ). AreCounts offered counts (slice_set endpoint.outlets.items c.args.to c.hold.new.self)) (sym posted_is)
          (counts_rise offered endpoint.seat.stand.posted endpoint.outlets.items c.args.to old c.hold.new.self endpoint.posted at (omega (arith, endpoint.seat.posted_len, c.requires.node)) more);
      taken = subst (λ (p : ℕ × List ℕ). AreBatchesTaken p.0 p.1 endpoint.inlet) (λ q. ((sym c.post.ensures.same.nodes) q, (sym taken_is) q)) endpoint.taken;
    }

pub returns : goal.returns
returns c =
    let outlets = c.args.self.now.outlets.items in
    let before = c.index_mut.result.now in
    let after = c.hold.new.self in
    let at = there (goal.at.returns c).After-index_mut in
    record {
      counted = c.post.ensures.counted;
      event = c.post.ensures.event;
      offered = (before, after, at, (c.hold.ensures.end, c.hold.ensures.offered), refl);
      inlet = refl;
      keeps = record {
        seat = c.post.ensures.same;
        outlets = one_kept KeepsOutlet outlet_same outlets c.args.to before after at (outlet_kept before after c.hold.ensures.end);
        inlet = inlet_same c.args.self.now.inlet;
      };
    }
