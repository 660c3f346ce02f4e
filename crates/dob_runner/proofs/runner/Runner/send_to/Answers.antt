-- The slot's filling and the offer of its batch make one step. The offer leaves the counts and the offered batches, at most 2^40, as they were, and so the
-- runner lawful, sent or not.
use Rattle.dob_runner.proofs.Common.{◌<◌, ◌≡◌, ◌≢◌, None, Some, ap, inl, length, refl, slice_get, KeepsOutlet, offered, GoesOn, SendsTo}
use Rattle.dob_endpoint.proofs.Links.{counts_stay, own_set}
use Rattle.dob_runner.proofs.Keeping.{runner_same, broken_on, goes_by, goes_trans}
use Rattle.dob_endpoint.proofs.Keeping.{outlet_same, inlet_same, one_kept, seat_same}
use Rattle.dob_runner.proofs.Lawfuls.{offered_again}
use Rattle.dob_runner.proofs.Sending.{low_still, in_outlets, outlet_at, slot_there, few_there, own_unsent, sends_none, sends_offered}
use Rattle.dob_runner.proofs.runner.Runner.send_to.Goals as goal
use Rattle.dob_runner.proofs.runner.Runner.send_to.Goals.{In_ok-cut_for, After-index_mut-outlet}

-- the node is one of those of the endpoint still
low : (g : _) (c : In_ok-cut_for g) → c.args.to < c.cut_for.new.self.endpoint.seat.nodes
low g c = low_still c.args.self.now c.cut_for.new.self c.args.to c.requires.node c.in_ok-cut_for.ensures.0.goes.keeps

-- and its outlet stands there
there : (g : _) (c : After-index_mut-outlet g) → c.args.to < c.cut_for.new.self.endpoint.seat.nodes →
    slice_get c.cut_for.new.self.endpoint.outlets.items c.args.to ≡ Some c.index_mut-outlet.result.now
there g c low = outlet_at c.cut_for.new.self.endpoint c.args.to c.index_mut-outlet.result.now low c.index_mut-outlet.ensures.value

pub index-requires : goal.index-requires
index-requires g c = in_outlets c.cut_for.new.self.endpoint c.args.to (low g (goal.at.index-requires g c).In_ok-cut_for)

pub index_mut-outlet-requires : goal.index_mut-outlet-requires
index_mut-outlet-requires g c = in_outlets c.cut_for.new.self.endpoint c.args.to (low g (goal.at.index_mut-outlet-requires g c).In_ok-cut_for)

pub offer-requires : goal.offer-requires
offer-requires g c =
    few_there c.cut_for.new.self.endpoint c.args.to c.index_mut-outlet.result.now (low g (goal.at.offer-requires g c).In_ok-cut_for) c.index_mut-outlet.ensures.value

pub invariant_of-endpoint : goal.invariant_of-endpoint
invariant_of-endpoint g c =
    let f = c.cut_for.new.self in
    let old = c.index_mut-outlet.result.now in
    let back = goal.at.invariant_of-endpoint g c in
    let at = there g back.After-index_mut-outlet (low g back.In_ok-cut_for) in
    record {
      outlets_len = f.endpoint.outlets_len;
      senders = f.endpoint.senders;
      own = own_set f.endpoint.seat.node f.endpoint.outlets.items c.args.to old c.offer.new.self f.endpoint.own at c.offer.ensures.keeps.0.1;
      posted = counts_stay offered f.endpoint.seat.stand.posted f.endpoint.outlets.items c.args.to old c.offer.new.self f.endpoint.posted at (ap length c.offer.ensures.same);
      taken = f.endpoint.taken;
    }

pub invariant_of-self-clause-lawful : goal.invariant_of-self-clause-lawful
invariant_of-self-clause-lawful g c = λ _.
    let f = c.cut_for.new.self in
    let went : GoesOn c.args.self.now f = c.in_ok-cut_for.ensures.0.goes in
    let back = goal.at.invariant_of-self-clause-lawful g c in
    offered_again f.family f.batch_size c.args.to f.node f.endpoint _ (f.lawful (inl went.unfailed)) refl
    (c.index_mut-outlet.result.now, c.offer.new.self, there g back.After-index_mut-outlet (low g back.In_ok-cut_for), c.offer.ensures, refl) refl

pub returns-in_err-cut_for : goal.returns-in_err-cut_for
returns-in_err-cut_for g c = broken_on (SendsTo c.args.to c.args.small) c.args.self.now c.args.self.now c.cut_for.new.self c.from_residual.result c.in_err-cut_for.field-0.0
    c.from_residual.ensures.1 (runner_same c.args.self.now) refl c.in_err-cut_for.ensures

pub returns-then-to-self : goal.returns-then-to-self
returns-then-to-self g c = own_unsent c.args.small c.args.self.now c.args.to c.requires.unfailed c.if-to-self.true

pub returns-then-not-is_full : goal.returns-then-not-is_full
returns-then-not-is_full g c =
    let f = c.cut_for.new.self in
    sends_none c.args.to c.args.small c.args.self.now f c.in_ok-cut_for.field-0 c.if-to-self.false c.in_ok-cut_for.ensures
    (slot_there f.endpoint c.args.to c.index.result.now (low g (goal.at.returns-then-not-is_full g c).In_ok-cut_for) c.index.ensures (λ s. s ≡ None)
    (c.is_full.ensures.empty c.if-not-is_full.true))

pub returns : goal.returns
returns g c =
    let r = c.args.self.now in
    let f = c.cut_for.new.self in
    let fills = c.in_ok-cut_for.ensures in
    let old = c.index_mut-outlet.result.now in
    let back = goal.at.returns g c in
    let within = low g back.In_ok-cut_for in
    let at = there g back.After-index_mut-outlet within in
    let full = slot_there f.endpoint c.args.to c.index.result.now within c.index.ensures (λ s. s ≢ None) (c.is_full.ensures.full c.if-not-is_full.false)
    old at in
    sends_offered c.args.to c.args.small r f c.in_ok-cut_for.field-0 c.if-to-self.false fills _
    (goes_trans r f _ fills.0.goes (goes_by (record {
      seat = seat_same f.endpoint.seat;
      outlets = one_kept KeepsOutlet outlet_same f.endpoint.outlets.items c.args.to old c.offer.new.self at c.offer.ensures.keeps;
      inlet = inlet_same f.endpoint.inlet;
    }) refl refl refl fills.0.goes.unfailed refl refl))
    refl refl (old, c.offer.new.self, at, c.offer.ensures, refl) full c.is_full-2.result c.is_full-2.ensures.full c.is_full-2.ensures.empty
