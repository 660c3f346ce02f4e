-- What links, seats and endpoints keep, through one step and the next.
use Rattle.dob_endpoint.proofs.Common.{◌++◌, ◌↔◌, ◌∙◌, ◌≡◌, ◌≢◌, Bool, IsTrue, List, None, Option, Some, [], ap, append_assoc, arith, false, length, refl, set, subst, sym, true, ℕ, append-nil}
use Rattle.dob_endpoint.proofs.Common.{same_Some, slice_get_within, slice_get, some_at, BatchView, token_moves_of, IsSameSeat, KnewOwnFailure, MovesNothing}
use Rattle.dob_endpoint.proofs.Common.{witnessed_by, Halt, Failed, NodeSeat, SeatState, SendsToSame, TakesFromSame, sent_by, taken_by, SendEnd, TakeEnd, KeepsEach}
use Rattle.dob_endpoint.proofs.Common.{HasSameLinks, KeepsEndpoint, KeepsInlet, KeepsOutlet, Endpoint, Inlet, Outlet}
use Rattle.dob_pieces.specs.Lists.{IsBeginning}
use Rattle.dob_safra.specs.declared.token.Token.{Token}
use Rattle.dob_board.specs.Views.{passes}
use Rattle.dob_endpoint.specs.TokenMoves.{HasLooked, HandsOn, MovesToken}
use Rattle.dob_endpoint.proofs.Links.{each_after}

-- ---- lists of batches
pub goes_on_same : (xs ys : List BatchView) → ys ≡ xs → IsBeginning xs ys
goes_on_same xs ys same = ([], same ∙ sym (append-nil xs))

goes_on_trans : (xs ys zs : List BatchView) → IsBeginning xs ys → IsBeginning ys zs → IsBeginning xs zs
goes_on_trans xs ys zs one two = (one.0 ++ two.0, two.1 ∙ ap (λ bs. bs ++ two.0) one.1 ∙ append_assoc xs one.0 two.0)

-- ---- links
pub outlet_kept : (old new : Outlet) → new.end ≡ old.end → KeepsOutlet old new
outlet_kept old new same =
    (subst (λ (e : SendEnd). SendsToSame old.end e) (sym same) (refl, refl, refl, refl), goes_on_same (sent_by old.end) (sent_by new.end) (ap (λ (e : SendEnd). sent_by e) same))

pub inlet_kept : (old new : Inlet) → new.end ≡ old.end → KeepsInlet old new
inlet_kept old new same =
    (subst (λ (e : TakeEnd). TakesFromSame old.end e) (sym same) (refl, refl), goes_on_same (taken_by old.end) (taken_by new.end) (ap (λ (e : TakeEnd). taken_by e) same))

pub outlet_same : (x : Outlet) → KeepsOutlet x x
outlet_same x = outlet_kept x x refl

pub inlet_same : (x : Inlet) → KeepsInlet x x
inlet_same x = inlet_kept x x refl

outlet_trans : (x y z : Outlet) → KeepsOutlet x y → KeepsOutlet y z → KeepsOutlet x z
outlet_trans x y z one two = ((two.0.0 ∙ one.0.0, two.0.1 ∙ one.0.1, two.0.2 ∙ one.0.2, two.0.3 ∙ one.0.3), goes_on_trans (sent_by x.end) (sent_by y.end) (sent_by z.end) one.1 two.1)

inlet_trans : (x y z : Inlet) → KeepsInlet x y → KeepsInlet y z → KeepsInlet x z
inlet_trans x y z one two = ((two.0.0 ∙ one.0.0, two.0.1 ∙ one.0.1), goes_on_trans (taken_by x.end) (taken_by y.end) (taken_by z.end) one.1 two.1)

-- ---- lists of links
pub one_kept : {L : Type 0} (Keeps : L → L → Type 0) → ((x : L) → Keeps x x) → (xs : List L) (k : ℕ) (x y : L) → slice_get xs k ≡ Some x → Keeps x y →
    KeepsEach Keeps xs (set xs k y)
one_kept Keeps self xs k x y at keeps j before after old new =
    each_after (λ m l. slice_get xs m ≡ Some before → Keeps before l) xs k y
    (λ m l apart there was. subst (Keeps before) (same_Some before l (sym was ∙ there)) (self before))
    (λ was. subst (λ b. Keeps b y) (same_Some x before (sym at ∙ was)) keeps) j after new old

pub each_same : {L : Type 0} (Keeps : L → L → Type 0) → ((x : L) → Keeps x x) → (xs ys : List L) → ys ≡ xs → KeepsEach Keeps xs ys
each_same Keeps self xs ys same j before after old new =
    subst (Keeps before) (same_Some before after (sym old ∙ (ap (λ zs. slice_get zs j) (sym same) ∙ new))) (self before)

each_trans : {L : Type 0} (Keeps : L → L → Type 0) → ((x y z : L) → Keeps x y → Keeps y z → Keeps x z) → (xs ys zs : List L) → length xs ≡ length ys →
    KeepsEach Keeps xs ys → KeepsEach Keeps ys zs → KeepsEach Keeps xs zs
each_trans Keeps trans xs ys zs long one two j before after old new =
    let between = some_at ys j (omega (arith, slice_get_within xs j before old, long)) in
    trans before between.0 after (one j before between.0 old between.1) (two j between.0 after between.1 new)

-- ---- seats and endpoints
pub seat_same : (seat : NodeSeat) → IsSameSeat seat seat
seat_same seat = record { node = refl; nodes = refl; board = refl }

pub seat_trans : (a b c : NodeSeat) → IsSameSeat a b → IsSameSeat b c → IsSameSeat a c
seat_trans a b c one two = record { node = two.node ∙ one.node; nodes = two.nodes ∙ one.nodes; board = two.board ∙ one.board }

-- a seat that is as it was moved nothing, nor did one in two steps that moved nothing
pub still_same : (a b : NodeSeat) → b ≡ a → MovesNothing a b
still_same a b same = ap (λ (s : NodeSeat). token_moves_of a.node (witnessed_by s)) same

pub still_trans : (a b c : NodeSeat) → b.node ≡ a.node → MovesNothing a b → MovesNothing b c → MovesNothing a c
still_trans a b c node one two = subst (λ (k : ℕ). token_moves_of k (witnessed_by c) ≡ token_moves_of k (witnessed_by b)) node two ∙ one

pub links_kept : (old new : Endpoint) → HasSameLinks old new → KeepsEndpoint old new
links_kept old new same = record {
  seat = same.seat;
  outlets = each_same KeepsOutlet outlet_same old.outlets.items new.outlets.items (ap (λ v. v.items) same.outlets);
  inlet = inlet_kept old.inlet new.inlet (ap (λ (i : Inlet). i.end) same.inlet);
}

pub endpoint_same : (endpoint : Endpoint) → KeepsEndpoint endpoint endpoint
endpoint_same endpoint = links_kept endpoint endpoint (record { seat = seat_same endpoint.seat; outlets = refl; inlet = refl })

pub endpoint_trans : (a b c : Endpoint) → KeepsEndpoint a b → KeepsEndpoint b c → KeepsEndpoint a c
endpoint_trans a b c one two = record {
  seat = seat_trans a.seat b.seat c.seat one.seat two.seat;
  outlets = each_trans KeepsOutlet outlet_trans a.outlets.items b.outlets.items c.outlets.items
      (omega (arith, a.outlets_len, b.outlets_len, one.seat.nodes)) one.outlets two.outlets;
  inlet = inlet_trans a.inlet b.inlet c.inlet one.inlet two.inlet;
}

pub links_trans : (a b c : Endpoint) → HasSameLinks a b → HasSameLinks b c → HasSameLinks a c
links_trans a b c one two = record { seat = seat_trans a.seat b.seat c.seat one.seat two.seat; outlets = two.outlets ∙ one.outlets; inlet = two.inlet ∙ one.inlet }

-- ---- halts

-- a seat that finds its own failure knew it
pub own_before : (old new : NodeSeat) → KnewOwnFailure old new.stand.halt → new.node ≡ old.node → new.stand.halt ≡ Failed new.node → old.stand.halt ≡ Failed old.node
own_before old new knew node own = (let found : new.stand.halt ≡ Failed old.node = own ∙ ap Failed node in knew found ∙ found)

-- nor where it looked for the token before
pub own_looked : (old found : NodeSeat) (halt : Halt) → found.stand.halt ≡ old.stand.halt → found.node ≡ old.node → KnewOwnFailure found halt → KnewOwnFailure old halt
own_looked old found halt same node knew own = sym same ∙ knew (own ∙ ap Failed (sym node))

-- and it knows it still
pub own_still : (old new : NodeSeat) → new.stand.halt ≡ old.stand.halt → new.node ≡ old.node → new.stand.halt ≡ Failed new.node → old.stand.halt ≡ Failed old.node
own_still old new halt node own = sym halt ∙ own ∙ ap Failed node

-- and a seat that passed the token that it knew has the same counts
pub passed_counts : (old new : NodeSeat) (known : Option Token) → old.stand.token ≡ known → old.stand.token ≢ None →
    ((token : Token) → old.stand.token ≡ Some token → new.stand ≡ passes old.nodes old.node old.stand token) →
    (new.stand.posted ≡ old.stand.posted) × (new.stand.taken ≡ old.stand.taken)
passed_counts old new None is some passed = absurd (some is)
passed_counts old new (Some token) is some passed = (let stand = passed token is in (ap (λ (s : SeatState). s.posted) stand, ap (λ (s : SeatState). s.taken) stand))

-- ---- the token

-- it was looked for, and moved just where it is there
pub token_by : (old found new : NodeSeat) (did is_there : Bool) → did ≡ is_there → HasLooked old found → (IsTrue did ↔ (found.stand.token ≢ None)) →
    (is_there ≡ true → HandsOn found new) → (is_there ≡ false → new ≡ found) → MovesToken old new is_there
token_by old found new did is_there is looked known moved stayed = record {
  found = found;
  looked = looked;
  known = subst (λ (b : Bool). IsTrue b ↔ (found.stand.token ≢ None)) is known;
  moved = moved;
  stayed = stayed;
}
