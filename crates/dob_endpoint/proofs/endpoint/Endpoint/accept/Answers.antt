-- The accepted batch is one more of its sender's worked ones and of the seat's count, and the outlets are kept.
use Rattle.dob_endpoint.proofs.Common.{◌++◌, ◌<◌, ◌∙◌, ◌∷◌, ◌≡◌, List, Option, Some, [], ap, arith, refl, rules, subst, sym, ℕ, IfSome, BatchView, TakesOne}
use Rattle.dob_endpoint.proofs.Common.{SeatState, senders_of, AreBatchesTaken, AreCounts, AreOwn, KeepsOutlet, offered, worked, in_slot, Inlet}
use Rattle.dob_endpoint.proofs.Links.{taken_rises}
use Rattle.dob_endpoint.proofs.Keeping.{outlet_same, inlet_kept, each_same}
use Rattle.dob_endpoint.proofs.endpoint.Endpoint.accept.Goals as goal
use Rattle.dob_endpoint.proofs.endpoint.Endpoint.accept.Goals.{After-release}

-- what is so of the batch that lay in the slot is so of the one that is handed out
of_held : (P : BatchView → Type 0) (result slot : Option BatchView) (batch : BatchView) → result ≡ slot → slot ≡ Some batch → P batch → IfSome result P
of_held P result slot batch is held so = subst (λ (o : Option BatchView). IfSome o P) (sym (is ∙ held)) so

one_more : (old new : Inlet) (batch : BatchView) → old.slot ≡ Some batch → worked new ≡ worked old ++ in_slot old.slot → worked new ≡ worked old ++ batch ∷ []
one_more old new batch held more = more ∙ ap (λ (h : Option BatchView). worked old ++ in_slot h) held

pub invariant_of-self-2 : goal.invariant_of-self-2
invariant_of-self-2 c =
    let endpoint = c.args.self.now in
    let held = c.requires.held in
    let one : TakesOne endpoint.seat c.take.new.self c.args.from = search rules in
    let taken_is = ap (λ (s : SeatState). s.taken) one.counted in
    let posted_is = ap (λ (s : SeatState). s.posted) one.counted in
    let within : c.args.from < endpoint.seat.nodes = subst (λ (k : ℕ). c.args.from < k) endpoint.senders (subst (λ (k : ℕ). k < senders_of endpoint.inlet.end) held.2 (endpoint.inlet.within held.0 held.1)) in
    let counted = taken_rises endpoint.seat.nodes endpoint.seat.stand.taken endpoint.inlet c.release.new.self c.args.from held.0 endpoint.taken
    (omega (arith, endpoint.seat.taken_len, within)) held.2 (one_more endpoint.inlet c.release.new.self held.0 held.1 c.release.ensures.worked) in
    record {
      outlets_len = endpoint.outlets_len ∙ sym c.take.ensures.same.nodes;
      senders = search rules;
      own = subst (λ (node : ℕ). AreOwn node endpoint.outlets.items) (sym c.take.ensures.same.node) endpoint.own;
      posted = subst (λ (counts : List ℕ). AreCounts offered counts endpoint.outlets.items) (sym posted_is) endpoint.posted;
      taken = subst (λ (p : ℕ × List ℕ). AreBatchesTaken p.0 p.1 c.release.new.self) (λ q. ((sym c.take.ensures.same.nodes) q, (sym taken_is) q)) counted;
    }

-- what is so of the batch in the slot is so of the one that is handed out
handed_out : (c : After-release) (P : BatchView → Type 0) → P c.requires.held.0 → IfSome c.release.result P
handed_out c P so = of_held P c.release.result c.args.self.now.inlet.slot c.requires.held.0 c.release.ensures.batch c.requires.held.1 so

pub returns-clause-held : goal.returns-clause-held
returns-clause-held c =
    handed_out (goal.at.returns-clause-held c).After-release (λ b. c.args.self.now.inlet.slot ≡ Some b) c.requires.held.1

pub returns-clause-within : goal.returns-clause-within
returns-clause-within c =
    let endpoint = c.args.self.now in
    let held = c.requires.held in
    handed_out (goal.at.returns-clause-within c).After-release (λ b. b.from < endpoint.seat.nodes)
    (subst (λ (k : ℕ). held.0.from < k) endpoint.senders (endpoint.inlet.within held.0 held.1))

pub returns-clause-taken : goal.returns-clause-taken
returns-clause-taken c =
    let one : TakesOne c.args.self.now.seat c.take.new.self c.args.from = search rules in
    handed_out (goal.at.returns-clause-taken c).After-release (λ b. TakesOne c.args.self.now.seat c.take.new.self b.from)
    (subst (λ (k : ℕ). TakesOne c.args.self.now.seat c.take.new.self k) (sym c.requires.held.2) one)

pub returns-clause-worked : goal.returns-clause-worked
returns-clause-worked c =
    let inlet = c.args.self.now.inlet in
    let held = c.requires.held in
    handed_out (goal.at.returns-clause-worked c).After-release (λ b. (c.release.new.self.end ≡ inlet.end) × (worked c.release.new.self ≡ worked inlet ++ b ∷ []))
    (c.release.ensures.end, one_more inlet c.release.new.self held.0 held.1 c.release.ensures.worked)

pub returns-clause-keeps : goal.returns-clause-keeps
returns-clause-keeps c =
    let endpoint = c.args.self.now in
    record {
      seat = c.take.ensures.same;
      outlets = each_same KeepsOutlet outlet_same endpoint.outlets.items endpoint.outlets.items refl;
      inlet = inlet_kept endpoint.inlet c.release.new.self c.release.ensures.end;
    }
