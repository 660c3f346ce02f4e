-- The ends of an inbox are joined again: passes end, and what is left goes into its sender's room.
use Rattle.dob_chan.proofs.Common.{◌++◌, ◌<◌, ◌∙◌, ◌∷◌, ◌≡◌, ◌≢◌, ◌≤◌, List, [], ap, append_assoc, arith, length, length-append, refl, slice_index}
use Rattle.dob_chan.proofs.Common.{slice_index_or, subst, sym, vec_len, ℕ, ⊎_elim, eqb_tells, append-nil, map-append, slice_get, Held, IsSamePass}
use Rattle.dob_chan.proofs.Common.{Pass, view, at_end, middle, some_at, BatchView, AreEndsOf, AreRejoined, place_of, sent_by, taken_by, AreLeft, IsLawfulInbox}
use Rattle.dob_chan.proofs.Common.{batches_of, sent_by_ended, taking, AreFilled, AreRooms, AreRoomy, HasRoom, SendEnd, TakeEnd, Note}
use Rattle.std.proofs.Common.{◌+◌, map, Some, vec_capacity}
use Rattle.std.proofs.lemmas.List.{get_or-map, length-map}
use Rattle.std.proofs.lemmas.Option.{get_or_from_slice_get, slice_get_within, same_Some}
use Rattle.dob_chan.specs.declared.ends.Rejoined.{Rejoined}
use Rattle.dob_chan.specs.Rooms.{HasOneMoreWaiting}
use Rattle.dob_chan.proofs.Deliveries.{own_more, others_more}

one_thing : {X : Type 0} → (xs : List X) (k : ℕ) (a b : X) → slice_get xs k ≡ Some a → slice_get xs k ≡ Some b → a ≡ b
one_thing xs k a b here there = same_Some a b (sym here ∙ there)

mapped : {X Y : Type 0} → (f : X → Y) (xs : List X) (k : ℕ) (x : X) (d : Y) → slice_get xs k ≡ Some x → slice_index_or (map f xs) k d ≡ f x
mapped f xs k x d e = get_or-map f xs k x d (slice_get_within xs k x e) ∙ ap f (get_or_from_slice_get xs k x x e)

-- Senders have ended one after another, and these are left.
pub record IsEnding (all left : List SendEnd) (old new : Pass BatchView Note) : Type 0 where
  pub same : IsSamePass old new
  pub done : List SendEnd
  pub split : all ≡ done ++ left
  pub ended : view new ≡ taking (view old).senders (view old).opened (view old).taken (map sent_by done) (view old).told

-- the next end stands where as many have ended
pub next_ends : (all left after : List SendEnd) (send : SendEnd) (old new : Pass BatchView Note) (inv : IsEnding all left old new) → left ≡ send ∷ after
    → ((k : ℕ) (s : SendEnd) → slice_get all k ≡ Some s → (s.pass.table_id ≡ old.table_id) × (place_of s ≡ k))
    → (send.pass.table_id ≡ new.table_id) × (place_of send ≡ length (view new).ended)
next_ends all left after send old new inv is ends =
    let at : slice_get all (length inv.done) ≡ Some send =
    ap (λ l. slice_get l (length inv.done)) (inv.split ∙ ap (λ l. inv.done ++ l) is) ∙ middle inv.done after send in
    let one = ends (length inv.done) send at in
    (one.0 ∙ sym inv.same.0, one.1 ∙ sym (ap (λ (v : Note). length v.ended) inv.ended ∙ length-map inv.done sent_by))

pub ending_goes_on : (all left after : List SendEnd) (send : SendEnd) (old now new : Pass BatchView Note) (inv : IsEnding all left old now) → left ≡ send ∷ after
    → IsSamePass now new
    → view new ≡ taking (view now).senders (view now).opened (view now).taken ((view now).ended ++ sent_by send ∷ []) (view now).told
    → IsEnding all after old new
ending_goes_on all left after send old now new inv is same role = record {
  same = (same.0 ∙ inv.same.0, same.1 ∙ inv.same.1, same.2 ∙ inv.same.2);
  done = inv.done ++ send ∷ [];
  split = inv.split ∙ ap (λ l. inv.done ++ l) is ∙ sym (append_assoc inv.done (send ∷ []) after);
  ended = role ∙ ap (λ (v : Note). taking v.senders v.opened v.taken (v.ended ++ sent_by send ∷ []) v.told) inv.ended
      ∙ ap (λ l. taking (view old).senders (view old).opened (view old).taken l (view old).told) (sym (map-append sent_by inv.done (send ∷ [])));
}

-- one room more
pub one_room : (sends : List SendEnd) (taken : List ℕ) (rooms : List Rejoined) (room : Rejoined) (send : SendEnd) → slice_get sends (length rooms) ≡ Some send
    → HasRoom send.sent (slice_index taken (length rooms)) room → AreRooms sends taken rooms → AreRooms sends taken (rooms ++ room ∷ [])
one_room sends taken rooms room send at has all k s r here there = ⊎_elim
    (λ before. all k s r here before)
    (λ now. subst (λ (y : ℕ × SendEnd × Rejoined). HasRoom y.1.sent (slice_index taken y.0) y.2)
    (λ i. (sym now.0 i, one_thing sends k send s (ap (slice_get sends) now.0 ∙ at) here i, now.1 i)) has) (at_end rooms room r k there)

-- Rooms are filled with what was taken since.
pub record IsFilling (first now : Note) (olds news : List Rejoined) : Type 0 where
  pub role : now ≡ taking first.senders first.opened now.taken first.ended now.told
  pub count : length news ≡ length olds
  pub each : (k : ℕ) (old new : Rejoined) → slice_get olds k ≡ Some old → slice_get news k ≡ Some new
      → (new.sent ≡ old.sent) × (new.received ≡ old.received) × (batches_of k now.taken ≡ batches_of k first.taken ++ new.waiting.items)
      × (vec_capacity old.waiting ≤ vec_capacity new.waiting)

-- what is taken next has room
pub has_room : (first now new : Note) (olds news : List Rejoined) (x : BatchView) (room : Rejoined) → IsFilling first now olds news
    → length first.ended ≡ length olds → AreRoomy first.ended first.taken olds → slice_get news x.from ≡ Some room
    → new ≡ taking now.senders now.opened (now.taken ++ x ∷ []) now.ended new.told
    → (x.from < length now.ended → length (batches_of x.from new.taken) ≤ length (sent_by_ended now.ended x.from))
    → length room.waiting.items < vec_capacity room.waiting
has_room first now new olds news x room inv many roomy at role few =
    let within = slice_get_within news x.from room at in
    let same = inv.count in
    let old = some_at olds x.from (omega (arith, within, same)) in
    let this = inv.each x.from old.0 room old.1 at in
    let most = subst (λ (l : List (List BatchView)). x.from < length l → length (batches_of x.from new.taken) ≤ length (sent_by_ended l x.from))
    (ap (λ (v : Note). v.ended) inv.role) few (omega (arith, within, same, many)) in
    let one : length (batches_of x.from new.taken) ≡ length (batches_of x.from now.taken) + 1 =
    ap (λ (v : Note). length (batches_of x.from v.taken)) role ∙ ap length (own_more x.from now.taken x refl)
    ∙ length-append (batches_of x.from now.taken) (x ∷ []) in
    let sum : length (batches_of x.from now.taken) ≡ length (batches_of x.from first.taken) + length room.waiting.items =
    ap length this.2 ∙ length-append (batches_of x.from first.taken) room.waiting.items in
    omega (arith, most, (roomy x.from old.0 old.1).1, one, sum, this.3)

-- one batch more went into its sender's room
pub filling_goes_on : (first now new : Note) (olds news more : List Rejoined) (x : BatchView) → IsFilling first now olds news
    → new ≡ taking now.senders now.opened (now.taken ++ x ∷ []) now.ended new.told → length more ≡ length news
    → ((a b : Rejoined) → slice_get news x.from ≡ Some a → slice_get more x.from ≡ Some b → HasOneMoreWaiting a x b)
    → ((k : ℕ) → k ≢ x.from → slice_get more k ≡ slice_get news k) → IsFilling first new olds more
filling_goes_on first now new olds news more x inv role count here others = record {
  role = role ∙ ap (λ (v : Note). taking v.senders v.opened (now.taken ++ x ∷ []) v.ended new.told) inv.role
      ∙ ap (λ l. taking first.senders first.opened l first.ended new.told) (sym (ap (λ (v : Note). v.taken) role));
  count = count ∙ inv.count;
  each = λ k old b was at. ⊎_elim
      (λ same.
      let k_is : k ≡ x.from = same.1 in
      let a = some_at news k (let same = inv.count in omega (arith, slice_get_within olds k old was, same)) in
      let grown = here a.0 b (ap (slice_get news) (sym k_is) ∙ a.1) (ap (slice_get more) (sym k_is) ∙ at) in
      let was_so = inv.each k old a.0 was a.1 in (
        grown.0 ∙ was_so.0,
        grown.1 ∙ was_so.1,
        ap (λ (v : Note). batches_of k v.taken) role ∙ own_more k now.taken x (sym k_is) ∙ ap (λ l. l ++ x ∷ []) was_so.2
            ∙ append_assoc (batches_of k first.taken) a.0.waiting.items (x ∷ []) ∙ ap (λ l. batches_of k first.taken ++ l) (sym grown.2),
        (let wider = grown.3 in let wide = was_so.3 in omega (arith, wider, wide)),
      ))
      (λ other.
      let so = inv.each k old b was (sym (others k other.1) ∙ at) in
      (so.0, so.1, ap (λ (v : Note). batches_of k v.taken) role ∙ others_more k now.taken x (λ same. other.1 (sym same)) ∙ so.2, so.3))
      (eqb_tells k x.from);
}

-- where the inbox is empty, each room has what was left
pub all_filled : (first now : Note) (olds news : List Rejoined) → IsFilling first now olds news → length first.ended ≡ length olds
    → Held 0 (AreLeft now.taken now.ended) → AreFilled first.ended first.taken olds news
all_filled first now olds news inv many held = (
  inv.count,
  λ k old new was at.
      let so = inv.each k old new was at in
      let ended_is : now.ended ≡ first.ended = ap (λ (v : Note). v.ended) inv.role in
      let left = held.2 k (subst (λ (l : List (List BatchView)). k < length l) (sym ended_is) (omega (arith, slice_get_within olds k old was, many))) in (
        so.0,
        so.1,
        ap (λ l. sent_by_ended l k) (sym ended_is) ∙ left ∙ ap (λ l. batches_of k now.taken ++ batches_of k l) (none_left held.0 held.1)
            ∙ append-nil (batches_of k now.taken) ∙ so.2,
      ),
) where
  none_left : {X : Type 0} → (xs : List X) → length xs ≡ 0 → xs ≡ []
  none_left [] e = refl
  none_left (x ∷ xs) e = absurd (omega (arith, e))

-- each of the inbox's senders has a room
pub record HasRooms (sends : List SendEnd) (take : TakeEnd) (rooms : List Rejoined) : Type 0 where
  pub count : length sends ≡ vec_len take.taken
  pub many : length rooms ≡ length sends
  pub all : AreRooms sends take.taken.items rooms

-- the rooms are wide enough for what was sent beyond what was taken
pub rooms_are_wide : (sends : List SendEnd) (take : TakeEnd) (rooms : List Rejoined) → HasRooms sends take rooms →
    AreRoomy (map sent_by sends) (taken_by take) rooms
rooms_are_wide sends take rooms has_rooms k room at =
    let within = slice_get_within rooms k room at in
    let many = has_rooms.many in
    let send = some_at sends k (omega (arith, within, many)) in
    let has = has_rooms.all k send.0 room send.1 at in
    let sent : length (sent_by_ended (map sent_by sends) k) ≡ send.0.sent = ap length (mapped sent_by sends k send.0 [] send.1) ∙ sym send.0.counted in
    let wide = has.3 in
    (has.2, omega (arith, sent, take.counted k (omega (arith, within, many, has_rooms.count)), wide))

-- for each sender, what it sent is what was received and then what is left
pub all_rejoined : (sends : List SendEnd) (take : TakeEnd) (rooms joined : List Rejoined) → AreEndsOf take sends → HasRooms sends take rooms
    → AreFilled (map sent_by sends) (taken_by take) rooms joined → AreRejoined sends (taken_by take) joined
all_rejoined sends take rooms joined ends has_rooms filled = (
  filled.0 ∙ has_rooms.many,
  λ k send this at there.
      let within = slice_get_within sends k send at in
      let room = some_at rooms k (omega (arith, within, has_rooms.many)) in
      let has = has_rooms.all k send room.0 at room.1 in
      let so = filled.1 k room.0 this room.1 there in
      let place : place_of send ≡ k = (ends.1 k send at).1 in
      subst (λ (p : ℕ). (this.sent ≡ length (sent_by send)) × (this.received ≡ length (batches_of p (taken_by take)))
      × IsLawfulInbox (sent_by send) (batches_of p (taken_by take)) this.waiting.items) (sym place) (
        so.0 ∙ has.0 ∙ send.counted,
        so.1 ∙ has.1 ∙ take.counted k (omega (arith, within, has_rooms.count)),
        sym (mapped sent_by sends k send [] at) ∙ so.2,
      ),
)
