-- What sending to one node after another does.
use Rattle.dob_runner.proofs.Common.{◌++◌, ◌+◌, ◌<◌, ◌^◌, ◌||◌, ◌∙◌, ◌∷◌, ◌≡◌, ◌≢◌, ◌≤◌, Bool, Err, List, None, Ok, Option, Result, Some, [], ap, arith, false}
use Rattle.dob_runner.proofs.Common.{get_or, inl, inr, length, length-append, not, refl, subst, sym, true, ℕ, both_ways, cases_Bool, cases_eq, append-nil}
use Rattle.dob_runner.proofs.Common.{append_cancel_right, same_Some, slice_get_within, slice_get, vec_len, read_there, some_at, BatchView, Cause, HasCut}
use Rattle.dob_runner.proofs.Common.{outbox_to, sent_by, SendEnd, HasChangedOne, KeepsEndpoint, IsOffered, offered, GoesOn, KeepsRunner, StepsBy, in_slot}
use Rattle.dob_runner.proofs.Common.{CutsFor, CutsLeft, FillsFor, HasSentOne, HasToSend, IsMoreOut, IsSent, IsToFill, SendsBelow, SendsTo, Endpoint, Runner}
use Rattle.dob_runner.proofs.Common.{Outlet}
use Rattle.dob_runner.specs.Paces.{kept_member}
use Rattle.dob_endpoint.proofs.Keeping.{endpoint_same, still_same}
use Rattle.dob_runner.proofs.Keeping.{goes_by, goes_same, goes_trans}
use Rattle.dob_endpoint.proofs.Links.{changed_there, changed_at, changed_else}

-- ---- to all nodes

-- what is to send, where the outbox and the size are the same
to_send_still : (small : Bool) (to : ℕ) (b c : Runner) → outbox_to c.node to ≡ outbox_to b.node to → c.batch_size ≡ b.batch_size → HasToSend c to small → HasToSend b to small
to_send_still small to b c outbox size has = grind arith

sent_still : (small : Bool) (to : ℕ) (b c : Runner) (one : Bool) (before after : Outlet) → outbox_to c.node to ≡ outbox_to b.node to → c.batch_size ≡ b.batch_size →
    IsSent small to b one before after → IsSent small to c one before after
sent_still small to b c one before after outbox size sent = grind (arith, to_send_still)

-- none yet
pub none_sent : (small : Bool) (r : Runner) → r.failed ≡ None → SendsBelow 0 small r r false
none_sent small r unfailed = record {
  goes = goes_same r unfailed;
  sent = λ to low apart before after was is. absurd (omega (arith, low));
  some = λ never. absurd (cc);
  itself = refl;
  own = refl;
  later = λ j high. refl;
  inlet = refl;
}

-- to whom one more went
sent_some : (small : Bool) (k : ℕ) (a b c : Runner) (did one : Bool) → SendsBelow k small a b did → SendsTo k small b c one → (did || one) ≡ true →
    (to : ℕ) × (to < k + 1) × HasSentOne to a.endpoint.outlets.items c.endpoint.outlets.items
sent_some small k a b c true one so_far next said =
    let found = so_far.some refl in
    let apart = next.others found.0 (λ same. absurd (omega (arith, same, found.1))) in
    (found.0, omega (arith, found.1), (found.2.0, found.2.1, found.2.2, apart ∙ found.2.3, found.2.4))
sent_some small k a b c false one so_far next said =
    let found = next.some said in
    (k, omega arith, (found.0, found.1, sym (so_far.later k (omega arith)) ∙ found.2, found.3, found.4))

-- and the next
pub sends_more : (small : Bool) (k : ℕ) (a b c : Runner) (did one : Bool) → SendsBelow k small a b did → SendsTo k small b c one →
    SendsBelow (k + 1) small a c (did || one)
sends_more small k a b c did one so_far next = record {
  goes = goes_trans a b c so_far.goes next.goes;
  sent = λ to low apart before after was is. elim (cases_eq to k) [
    | inl here ↦
        let there : slice_get b.endpoint.outlets.items k ≡ Some before =
        so_far.later k (omega arith) ∙ ap (λ (i : ℕ). slice_get a.endpoint.outlets.items i) (sym here) ∙ was in (
          one,
          subst (λ (i : ℕ). IsSent small i c one before after) (sym here) (next.sent (λ same. apart (here ∙ same ∙ so_far.goes.keeps.endpoint.seat.node)) before after there
              (ap (λ (i : ℕ). slice_get c.endpoint.outlets.items i) (sym here) ∙ is)),
          λ said. last did one said,
        )
    | inr other ↦
        let found = so_far.sent to (omega (arith, low, other)) apart before after was (sym (next.others to other) ∙ is) in
        (found.0, sent_still small to b c found.0 before after (next.outboxes to other) next.goes.keeps.batch_size found.1, λ said. first did one (found.2 said))
  ];
  some = sent_some small k a b c did one so_far next;
  itself = elim (cases_eq a.endpoint.seat.node k) [
    | inl here ↦ ap (λ (l : List Outlet). slice_get l a.endpoint.seat.node) (next.itself (sym here ∙ sym so_far.goes.keeps.endpoint.seat.node)).1 ∙ so_far.itself
    | inr other ↦ next.others a.endpoint.seat.node other ∙ so_far.itself
  ];
  own = next.own ∙ so_far.own;
  later = λ j high. next.others j (λ same. absurd (omega (arith, same, high))) ∙ so_far.later j (omega (arith, high));
  inlet = next.inlet ∙ so_far.inlet;
}
  where
    first : (x y : Bool) → x ≡ true → (x || y) ≡ true
    first x y is = ap (λ (b : Bool). b || y) is

    last : (x y : Bool) → y ≡ true → (x || y) ≡ true
    last true y is = refl
    last false y is = is

-- ---- a batch for one

-- a place of one, after a step
pub low_still : (r f : Runner) (to : ℕ) → to < r.endpoint.seat.nodes → KeepsRunner r f → to < f.endpoint.seat.nodes
low_still r f to low kept = omega (arith, low, kept.endpoint.seat.nodes)

pub in_outlets : (endpoint : Endpoint) (to : ℕ) → to < endpoint.seat.nodes → to < vec_len endpoint.outlets
in_outlets endpoint to low = omega (arith, endpoint.outlets_len, low)

-- the outlet that was read stands there
module _ (endpoint : Endpoint) (to : ℕ) (x : Outlet) (low : to < endpoint.seat.nodes) (is : x ≡ get_or endpoint.outlets.items to x) where
  pub outlet_at : slice_get endpoint.outlets.items to ≡ Some x
  outlet_at = read_there endpoint.outlets.items to x (omega (arith, endpoint.outlets_len, low)) is

  pub few_there : length (offered x) ≤ 2 ^ 40
  few_there = omega (arith, endpoint.posted to x outlet_at, endpoint.seat.few_posted to low)

  -- and what is so of its slot is so of what is found there
  pub slot_there : (P : Option BatchView → Type 0) → P x.slot → (outlet : Outlet) → slice_get endpoint.outlets.items to ≡ Some outlet → P outlet.slot
  slot_there P so outlet at = subst (λ (o : Outlet). P o.slot) (same_Some x outlet (sym outlet_at ∙ at)) so

-- nothing is cut
pub uncut : (to : ℕ) (old new : Runner) → new.failed ≡ None → new.node ≡ old.node → new.endpoint ≡ old.endpoint → new.family ≡ old.family →
    new.batch_size ≡ old.batch_size → kept_member new.pace ≡ kept_member old.pace → CutsFor to old new false
uncut to old new unfailed node endpoint family size pace = record {
  goes = goes_by (subst (KeepsEndpoint old.endpoint) (sym endpoint) (endpoint_same old.endpoint)) family size pace unfailed
      (ap (λ (m : Endpoint). m.seat.stand.halt) endpoint) (still_same old.endpoint.seat new.endpoint.seat (ap (λ (m : Endpoint). m.seat) endpoint));
  one = λ never. absurd (cc);
  nothing = λ is. (node, endpoint);
  own = ap (λ n. n.own) node;
  others = λ j other. ap (λ n. outbox_to n j) node;
  inlet = ap (λ (m : Endpoint). m.inlet) endpoint;
}

-- and one is cut
pub cut_more : (to size : ℕ) (batch : BatchView) (old new : Runner) → GoesOn old new → HasCut to size batch old.node new.node →
    HasChangedOne (IsMoreOut batch) to old.endpoint.outlets.items new.endpoint.outlets.items → new.endpoint.inlet ≡ old.endpoint.inlet →
    (outbox_to old.node to).items ≢ [] → CutsLeft to old new true
cut_more to size batch old new goes cut offer inlet some = (
  record {
    goes = goes;
    one = λ did. (batch, offer);
    nothing = λ never. absurd (cc);
    own = cut.kept.2;
    others = cut.others;
    inlet = inlet;
  },
  (λ never. absurd (cc), λ empty. absurd (some empty)),
)

-- what is cut fills the slot that was to be filled
pub fills_of : (to : ℕ) (small : Bool) (old new : Runner) (r : Result Bool Cause) → IsToFill old to small → StepsBy (CutsLeft to) old new r →
    StepsBy (FillsFor to small) old new r
fills_of to small old new (Ok did) fill cuts = grind arith
fills_of to small old new (Err why) fill broken = broken

-- ---- and its way

-- nothing to itself
pub own_unsent : (small : Bool) (r : Runner) (to : ℕ) → r.failed ≡ None → to ≡ r.endpoint.seat.node → SendsTo to small r r false
own_unsent small r to unfailed is = record {
  goes = goes_same r unfailed;
  itself = λ same. (refl, refl);
  sent = λ apart before after was there. absurd (apart is);
  some = λ never. absurd (cc);
  own = refl;
  outboxes = λ j other. refl;
  others = λ j other. refl;
  inlet = refl;
}

filled_slot : (slot : Option BatchView) → slot ≢ None → (batch : BatchView) × (slot ≡ Some batch)
filled_slot None full = absurd (full refl)
filled_slot (Some batch) full = (batch, refl)

module _ (to : ℕ) (small : Bool) (old mid : Runner) (any : Bool) (apart : to ≢ old.endpoint.seat.node) (fills : FillsFor to small old mid any) where
  -- what was offered, after the slot was filled or not
  few_filled : (before between : Outlet) → slice_get old.endpoint.outlets.items to ≡ Some before → slice_get mid.endpoint.outlets.items to ≡ Some between →
      (between.end ≡ before.end) × (length (offered between) ≤ length (offered before) + 1)
  few_filled before between was is = elim (cases_Bool any) [
    | inl did ↦
        let one = fills.0.one did in
        let more = changed_at (IsMoreOut one.0) old.endpoint.outlets.items mid.endpoint.outlets.items to one.1 before between was is in
        (more.0, omega (arith, ap length more.1, length-append (offered before) (one.0 ∷ [])))
    | inr none ↦
        let same : before ≡ between = same_Some before between (sym was ∙ ap (λ (m : Endpoint). slice_get m.outlets.items to) (sym (fills.0.nothing none).1) ∙ is) in
        (ap (λ (o : Outlet). o.end) (sym same), omega (arith, ap (λ (o : Outlet). length (offered o)) same))
  ]

  -- the slot is empty where it wasn't filled
  unfilled : (before between : Outlet) → slice_get old.endpoint.outlets.items to ≡ Some before → slice_get mid.endpoint.outlets.items to ≡ Some between →
      between.slot ≡ None → any ≡ false
  unfilled before between was is out = elim (cases_Bool any) [
    | inl did ↦
        let one = fills.0.one did in
        let more = changed_at (IsMoreOut one.0) old.endpoint.outlets.items mid.endpoint.outlets.items to one.1 before between was is in
        absurd (omega (
          arith,
          ap length more.1,
          length-append (offered before) (one.0 ∷ []),
          length-append (sent_by before.end) (in_slot before.slot),
          length-append (sent_by between.end) (in_slot between.slot),
          ap (λ (h : Option BatchView). length (in_slot h)) out,
          ap (λ (e : SendEnd). length (sent_by e)) more.0,
        ))
    | inr none ↦ none
  ]

  others : (j : ℕ) → j ≢ to → slice_get mid.endpoint.outlets.items j ≡ slice_get old.endpoint.outlets.items j
  others j other = elim (cases_Bool any) [
    | inl did ↦ changed_else (IsMoreOut (fills.0.one did).0) old.endpoint.outlets.items mid.endpoint.outlets.items to j (fills.0.one did).1 other
    | inr none ↦ ap (λ (m : Endpoint). slice_get m.outlets.items j) (fills.0.nothing none).1
  ]

  -- nothing lies in the slot
  pub sends_none : ((outlet : Outlet) → slice_get mid.endpoint.outlets.items to ≡ Some outlet → outlet.slot ≡ None) → SendsTo to small old mid false
  sends_none out = record {
    goes = fills.0.goes;
    itself = λ is. absurd (apart is);
    sent = λ _ before after was is.
        let few = few_filled before after was is in
        let none = unfilled before after was is (out after is) in
        record {
          few = few.1;
          one = λ never. absurd (cc);
          none = λ unsent. ap sent_by few.0;
          spent = λ unsent empty has. both_ways any none (fills.1.1 (
            to_send_still small to old mid (ap (λ n. outbox_to n to) (fills.0.nothing none).0) fills.0.goes.keeps.batch_size has,
            λ outlet at. out outlet (ap (λ (m : Endpoint). slice_get m.outlets.items to) (fills.0.nothing none).1 ∙ at),
          ));
          full = λ unsent stuck. absurd (stuck (out after is));
        };
    some = λ never. absurd (cc);
    own = fills.0.own;
    outboxes = fills.0.others;
    others = others;
    inlet = fills.0.inlet;
  }

  -- one does, and was offered to the inbox
  module _ (new : Runner) (goes : GoesOn old new) (node : new.node ≡ mid.node) (inlet : new.endpoint.inlet ≡ mid.endpoint.inlet)
      (offer : HasChangedOne IsOffered to mid.endpoint.outlets.items new.endpoint.outlets.items) (full : offer.0.slot ≢ None) where
    is_offered : (after : Outlet) → slice_get new.endpoint.outlets.items to ≡ Some after → IsOffered offer.0 after
    is_offered after is = changed_at IsOffered mid.endpoint.outlets.items new.endpoint.outlets.items to offer offer.0 after offer.2 is

    there : slice_get new.endpoint.outlets.items to ≡ Some offer.1
    there = changed_there IsOffered mid.endpoint.outlets.items new.endpoint.outlets.items to offer

    in_slot_of : (after : Outlet) → slice_get new.endpoint.outlets.items to ≡ Some after → after.slot ≡ offer.1.slot
    in_slot_of after is = ap (λ (o : Outlet). o.slot) (same_Some after offer.1 (sym is ∙ there))

    same_offer : (after : Outlet) → slice_get new.endpoint.outlets.items to ≡ Some after → offered after ≡ offered offer.0
    same_offer after is = (is_offered after is).same

    few_offered : (before after : Outlet) → slice_get old.endpoint.outlets.items to ≡ Some before → slice_get new.endpoint.outlets.items to ≡ Some after →
        length (offered after) ≤ length (offered before) + 1
    few_offered before after was is = omega (arith, (few_filled before offer.0 was offer.2).1, ap length (same_offer after is))

    else_where : (j : ℕ) → j ≢ to → slice_get new.endpoint.outlets.items j ≡ slice_get old.endpoint.outlets.items j
    else_where j other = changed_else IsOffered mid.endpoint.outlets.items new.endpoint.outlets.items to j offer other ∙ others j other

    took_it : (before after : Outlet) → slice_get old.endpoint.outlets.items to ≡ Some before → slice_get new.endpoint.outlets.items to ≡ Some after → after.slot ≡ None →
        (batch : BatchView) × (sent_by after.end ≡ sent_by before.end ++ batch ∷ []) × (after.slot ≡ None)
    took_it before after was is out =
        let held = filled_slot offer.0.slot full in (
          held.0,
          sym (append-nil (sent_by after.end)) ∙ sym (ap (λ (h : Option BatchView). sent_by after.end ++ in_slot h) out) ∙ same_offer after is
              ∙ ap (λ (h : Option BatchView). sent_by offer.0.end ++ in_slot h) held.1
              ∙ ap (λ (e : SendEnd). sent_by e ++ held.0 ∷ []) (few_filled before offer.0 was offer.2).0,
          out,
        )

    left_it : (before after : Outlet) → slice_get old.endpoint.outlets.items to ≡ Some before → slice_get new.endpoint.outlets.items to ≡ Some after → after.slot ≢ None →
        sent_by after.end ≡ sent_by before.end
    left_it before after was is unsent = elim (is_offered after is).slot [
      | inl same ↦
          append_cancel_right (sent_by after.end) (sent_by offer.0.end) (in_slot offer.0.slot)
          (ap (λ (h : Option BatchView). sent_by after.end ++ in_slot h) (sym same) ∙ same_offer after is)
          ∙ ap (λ (e : SendEnd). sent_by e) (few_filled before offer.0 was offer.2).0
      | inr out ↦ absurd (unsent out)
    ]

    was_there : (before : Outlet) × (slice_get old.endpoint.outlets.items to ≡ Some before)
    was_there =
        let low = slice_get_within mid.endpoint.outlets.items to offer.0 offer.2 in
        some_at old.endpoint.outlets.items to (omega (arith, low, mid.endpoint.outlets_len, old.endpoint.outlets_len, fills.0.goes.keeps.endpoint.seat.nodes))

    one_more : (after : Outlet) → slice_get new.endpoint.outlets.items to ≡ Some after → after.slot ≡ None → HasSentOne to old.endpoint.outlets.items new.endpoint.outlets.items
    one_more after is out =
        let took = took_it was_there.0 after was_there.1 is out in
        (was_there.0, after, was_there.1, is, omega (arith, ap length took.1, length-append (sent_by was_there.0.end) (took.0 ∷ [])))

    -- it still lies there, or not
    pub sends_offered : (still : Bool) → (still ≡ true → offer.1.slot ≢ None) → (still ≡ false → offer.1.slot ≡ None) → SendsTo to small old new (not still)
    sends_offered still unsent out = record {
      goes = goes;
      itself = λ is. absurd (apart is);
      sent = λ _ before after was is. record {
        few = few_offered before after was is;
        one = λ sent. took_it before after was is (in_slot_of after is ∙ out (sent_away still sent));
        none = λ left. left_it before after was is (λ none. unsent (left_there still left) (sym (in_slot_of after is) ∙ none));
        spent = λ left empty has. unsent (left_there still left) (sym (in_slot_of after is) ∙ empty);
        full = λ left stuck. (is_offered after is).full stuck;
      };
      some = λ sent. one_more offer.1 there (out (sent_away still sent));
      own = ap (λ n. n.own) node ∙ fills.0.own;
      outboxes = λ j other. ap (λ n. outbox_to n j) node ∙ fills.0.others j other;
      others = else_where;
      inlet = inlet ∙ fills.0.inlet;
    }
      where
        sent_away : (b : Bool) → not b ≡ true → b ≡ false
        sent_away true is = absurd (cc)
        sent_away false is = refl

        left_there : (b : Bool) → not b ≡ false → b ≡ true
        left_there true is = refl
        left_there false is = absurd (cc)
