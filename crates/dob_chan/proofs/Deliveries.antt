-- Each step of a pass keeps the rule of an inbox.
use Rattle.dob_chan.proofs.Common.{◌++◌, ◌<◌, ◌∙◌, ◌∷◌, ◌≡◌, ◌≢◌, ◌≤◌, List, [], ap, append_assoc, arith, cond, length, length-append, nat_eq, refl, set, rules}
use Rattle.dob_chan.proofs.Common.{subst, suc, sym, true, true≢false, zero, ℕ, ⊎_elim, eqb_tells, append-nil, All, Forks, Learns, Merges, Pops, Pushes}
use Rattle.dob_chan.proofs.Common.{BatchView, AreLeft, IsLawfulInbox, batches_of, sent_by_ended, taking, untold, Note}
use Rattle.std.proofs.lemmas.Bool.{cond-true, cond-false, eq-eqb, cases_lt}
use Rattle.std.proofs.Math.Seq.{get_or-append_seam}
use Rattle.std.proofs.lemmas.List.{get_or_append_left}
use Rattle.std.proofs.lemmas.List.Elements.{filter-append, All-head, All-push}
use mathlib.Core.Option.{Option, some, none, some-ne-none, some-injective}
use lib.ListN.{get_elem?}
use Rattle.crossbeam_queue.proofs.Lists.{at_set, at_snoc}
use Rattle.dob_pieces.specs.Lists.{IsBeginning}
use Rattle.dob_chan.specs.declared.rule.Told.{Told}
use Rattle.dob_chan.specs.Inboxes.{most_deliveries, sending, resting, AreOf, AreHeldSince, AreNext, IsAfterTold, HasSent, HasReceived, FitsSender, FitsTaker}
use Rattle.dob_chan.specs.Inboxes.{IsDelivered}

at_end : {V : Type 0} → (l : List V) (a b : V) (j : ℕ) → get_elem? l j ≢ some b → get_elem? (l ++ a ∷ []) j ≡ some b → j ≡ length l
at_end [] a b zero n e = refl
at_end [] a b (suc j) n e = absurd (some-ne-none b (sym e))
at_end (x ∷ xs) a b zero n e = absurd (n e)
at_end (x ∷ xs) a b (suc j) n e = ap suc (at_end xs a b j n e)

-- a fact of each pass and its view
abbrev Each : (ℕ → Note → Type 0) → List Note → Type 0
Each F views = (pass : ℕ) (v : Note) → get_elem? views pass ≡ some v → F pass v

each_set : (F : ℕ → Note → Type 0) (views : List Note) (pass : ℕ) (w : Note) → F pass w
    → ((j : ℕ) (u : Note) → j ≢ pass → get_elem? views j ≡ some u → F j u) → Each F (set views pass w)
each_set F views pass w mine others j u e = grind (arith, at_set)

-- what holds of all holds of the last of them
of_last : {X : Type 0} → (P : X → Type 0) (xs ys : List X) → All P (xs ++ ys) → All P ys
of_last P [] ys all = all
of_last P (x ∷ xs) ys all = of_last P xs ys (λ k d below. all (suc k) d (omega (arith, below)))

-- of each sender, what was sent is what was taken and then what is held
pub of_each : (from : ℕ) (sent taken held : List BatchView) → IsLawfulInbox sent taken held
    → IsLawfulInbox (batches_of from sent) (batches_of from taken) (batches_of from held)
of_each from sent taken held is = ap (batches_of from) is ∙ filter-append (λ (b : BatchView). nat_eq b.from from) taken held

-- one batch more is one of its sender's more, and none of another's
pub own_more : (from : ℕ) (all : List BatchView) (x : BatchView) → x.from ≡ from → batches_of from (all ++ x ∷ []) ≡ batches_of from all ++ x ∷ []
own_more from all x own = grind (arith, filter-append, cond-true)

pub others_more : (from : ℕ) (all : List BatchView) (x : BatchView) → x.from ≢ from → batches_of from (all ++ x ∷ []) ≡ batches_of from all
others_more from all x apart = search (rules, filter-append, cond-false, eqb_tells)

few_more : (all : List BatchView) (x : BatchView) (limit : ℕ) → length (batches_of x.from all) < limit
    → ((from : ℕ) → length (batches_of from all) ≤ limit) → (from : ℕ) → length (batches_of from (all ++ x ∷ [])) ≤ limit
few_more all x limit below each from = ⊎_elim
    (λ same. let less = subst (λ (k : ℕ). length (batches_of k all) < limit) same.1 below in
    subst (λ (l : List BatchView). length l ≤ limit) (sym (own_more from all x same.1)) (omega (arith, less, length-append (batches_of from all) (x ∷ []))))
    (λ other. subst (λ (l : List BatchView). length l ≤ limit) (sym (others_more from all x other.1)) (each from)) (eqb_tells x.from from)

-- the seats with one of them exchanged
abbrev with_seat : ℕ → Option ℕ → (ℕ → Option ℕ) → ℕ → Option ℕ
with_seat from pass seat k = cond (nat_eq k from) pass (seat k)

seat_here : (from : ℕ) (pass : Option ℕ) (seat : ℕ → Option ℕ) (k : ℕ) → k ≡ from → with_seat from pass seat k ≡ pass
seat_here from pass seat k same = cond-true (nat_eq k from) pass (seat k) (eq-eqb k from same)

seat_else : (from : ℕ) (pass : Option ℕ) (seat : ℕ → Option ℕ) (k : ℕ) → k ≢ from → with_seat from pass seat k ≡ seat k
seat_else from pass seat k apart = ⊎_elim (λ same. absurd (apart same.1)) (λ other. cond-false (nat_eq k from) pass (seat k) other.0) (eqb_tells k from)

-- two places of which one has a pass and the other none, or another, are two
seats_apart : (seat : ℕ → Option ℕ) (a b pass : ℕ) → seat a ≡ some pass → seat b ≡ none → a ≢ b
seats_apart seat a b pass at free same = some-ne-none pass (sym at ∙ ap seat same ∙ free)

passes_apart : (seat : ℕ → Option ℕ) (a b p q : ℕ) → seat a ≡ some p → seat b ≡ some q → q ≢ p → a ≢ b
passes_apart seat a b p q at bt apart same = apart (some-injective q p (sym bt ∙ ap seat (sym same) ∙ at))

-- what begins a list begins it with one thing more
begins_it : {X : Type 0} → (l : List X) → IsBeginning l l
begins_it l = ([], sym (append-nil l))

begins_more : {X : Type 0} → (front whole : List X) (x : X) → IsBeginning front whole → IsBeginning front (whole ++ x ∷ [])
begins_more front whole x is = (is.0 ++ x ∷ [], ap (λ l. l ++ x ∷ []) is.1 ∙ append_assoc front is.0 (x ∷ []))

-- what was learned goes on when one batch more is sent, or taken
sent_on : (told : Told) (sent taken : List BatchView) (x : BatchView) → IsAfterTold told sent taken → IsAfterTold told (sent ++ x ∷ []) taken
sent_on told sent taken x is = (begins_more told.sent sent x is.0, is.1)

taken_on : (told : Told) (sent taken : List BatchView) (x : BatchView) → IsAfterTold told sent taken → IsAfterTold told sent (taken ++ x ∷ [])
taken_on told sent taken x is = (is.0, begins_more told.taken taken x is.1)

-- the pass fits as a sender's and as the taker's
abbrev Fits : ℕ → ℕ → (ℕ → Option ℕ) → List BatchView → List BatchView → ℕ → Note → Type 0
Fits senders taker seat sent taken pass v = FitsSender senders seat sent taken pass v × FitsTaker senders taker seat sent taken pass v

-- the same batches, where the passes fit other seats
reseated : {held : List BatchView} {views : List Note} (h : IsDelivered held views) (senders : ℕ) (seat : ℕ → Option ℕ) (now : List Note)
    → h.senders ≤ senders → Each (Fits senders h.taker seat h.sent h.taken) now → IsDelivered held now
reseated h senders seat now more each = record {
  senders = senders;
  taker = h.taker;
  seat = seat;
  sent = h.sent;
  taken = h.taken;
  lawful = h.lawful;
  of_senders = λ k d below. (let some = h.of_senders k d below in omega (arith, some, more));
  few = h.few;
  each = each;
}

-- a new inbox is lawful
pub begins : IsDelivered [] (taking 0 0 [] [] untold ∷ [])
begins = record {
  senders = 0;
  taker = 0;
  seat = λ _. none;
  sent = [];
  taken = [];
  lawful = refl;
  of_senders = λ k d below. absurd (omega (arith, below));
  few = λ from. omega arith;
  each = each_set (Fits 0 0 (λ _. none) [] []) (taking 0 0 [] [] untold ∷ []) 0 (taking 0 0 [] [] untold) (
    (λ p. absurd (true≢false (sym p))),
    λ _. (
      refl,
      refl,
      refl,
      omega arith,
      omega arith,
      (λ k _. (refl, refl)),
      (λ k below. absurd (omega (arith, below))),
      (begins_it [], begins_it []),
    ),
  )
      (λ j u other e. absurd (other (at_end [] _ u j (λ x. some-ne-none u (sym x)) e)));
}

-- a sender sends one more
pub posts : (n port : ℕ) (v : Note) (x : BatchView) → v ≡ sending v.senders v.from v.sent v.told → x.from ≡ v.from → length v.sent < most_deliveries
    → Pushes IsDelivered n port v x (λ w. (w ≡ sending v.senders v.from (v.sent ++ x ∷ []) w.told) × HasSent v.from x w.sent v.told w.told)
posts n port v x role own few held views _ h at =
    let mine = (h.each port v at).0 (ap (λ (y : Note). y.sends) role) in
    let sent = h.sent ++ x ∷ [] in
    let told : Told = record { sent = sent; taken = h.taken } in
    let w : Note = sending v.senders v.from (v.sent ++ x ∷ []) told in
    let own_sent : v.sent ++ x ∷ [] ≡ batches_of v.from sent = ap (λ l. l ++ x ∷ []) mine.3 ∙ sym (own_more v.from h.sent x own) in
    let other_seat : (k : ℕ) → h.seat k ≡ none → x.from ≢ k = λ k free. λ same. seats_apart h.seat v.from k port mine.2 free (sym own ∙ same) in (
      w,
      record {
        senders = h.senders;
        taker = h.taker;
        seat = h.seat;
        sent = sent;
        taken = h.taken;
        lawful = ap (λ l. l ++ x ∷ []) h.lawful ∙ append_assoc h.taken held (x ∷ []);
        of_senders = All-push (λ (b : BatchView). b.from < h.senders) h.sent x h.of_senders (subst (λ (k : ℕ). k < h.senders) (sym own) mine.1);
        few = few_more h.sent x most_deliveries (subst (λ (l : List BatchView). length l < most_deliveries) (mine.3 ∙ ap (λ k. batches_of k h.sent) (sym own)) few) h.few;
        each = each_set (Fits h.senders h.taker h.seat sent h.taken) views port w
            ((λ _. (mine.0, mine.1, mine.2, own_sent, (begins_it sent, begins_it h.taken))), λ p. absurd (true≢false (sym p)))
            (λ j u other e. (
              (λ p. let f = (h.each j u e).0 p in (
                f.0,
                f.1,
                f.2,
                f.3 ∙ sym (others_more u.from h.sent x (λ same. passes_apart h.seat v.from u.from port j mine.2 f.2 other (sym own ∙ same))),
                sent_on u.told h.sent h.taken x f.4,
              )),
              λ p. let f = (h.each j u e).1 p in (
                f.0,
                f.1,
                f.2,
                f.3,
                f.4,
                (λ k from. let g = f.5 k from in (g.0, others_more k h.sent x (other_seat k g.0) ∙ g.1)),
                (λ k below. let g = f.6 k below in (g.0, g.1 ∙ sym (others_more k h.sent x (other_seat k g.0)))),
                sent_on u.told h.sent h.taken x f.7,
              ),
            ));
      },
      (refl, (h.sent, refl, mine.4, sym own_sent)),
    )

-- a sender learns that what the inbox holds was sent and not taken
pub last : (port : ℕ) (v : Note) → v ≡ sending v.senders v.from v.sent v.told → Learns IsDelivered port v (AreHeldSince v.senders v.from v.sent v.told)
last port v role held views h at =
    let mine = (h.each port v at).0 (ap (λ (y : Note). y.sends) role) in (
      of_last (λ (b : BatchView). b.from < v.senders) h.taken held
          (subst (λ (y : ℕ × List BatchView). AreOf y.0 y.1) (λ i. (sym mine.0 i, h.lawful i)) h.of_senders),
      (h.sent, h.taken, h.lawful, sym mine.3, mine.4),
    )

-- of a sender no more is taken than it sent
part_few : (from : ℕ) (sent taken held : List BatchView) (x : BatchView) → sent ≡ taken ++ x ∷ held
    → length (batches_of from (taken ++ x ∷ [])) ≤ length (batches_of from sent)
part_few from sent taken held x is =
    let whole = ap length (of_each from sent (taken ++ x ∷ []) held (is ∙ sym (append_assoc taken (x ∷ []) held))) in
    omega (arith, whole, length-append (batches_of from (taken ++ x ∷ [])) (batches_of from held))

-- a sender's pass still fits when one batch more is taken
sender_stays : (senders : ℕ) (seat : ℕ → Option ℕ) (sent taken : List BatchView) (x : BatchView) (pass : ℕ) (v : Note)
    → FitsSender senders seat sent taken pass v → FitsSender senders seat sent (taken ++ x ∷ []) pass v
sender_stays senders seat sent taken x pass v fits p = let f = fits p in (f.0, f.1, f.2, f.3, taken_on v.told sent taken x f.4)

-- what is learned of so much that was sent, where one batch more is taken
abbrev told_next : List BatchView → List BatchView → BatchView → Told
told_next sent taken x = record { sent = sent; taken = taken ++ x ∷ [] }

-- the taker takes the first
one_taken : (port : ℕ) (v : Note) (x : BatchView) (items : List BatchView) (views : List Note) → v.takes ≡ true
    → (h : IsDelivered (x ∷ items) views) → get_elem? views port ≡ some v
    → IsDelivered items (set views port (taking v.senders v.opened (v.taken ++ x ∷ []) v.ended (told_next h.sent h.taken x)))
one_taken port v x items views may h at =
    let mine = (h.each port v at).1 may in
    let taken = h.taken ++ x ∷ [] in record {
      senders = h.senders;
      taker = h.taker;
      seat = h.seat;
      sent = h.sent;
      taken = taken;
      lawful = h.lawful ∙ sym (append_assoc h.taken (x ∷ []) items);
      of_senders = h.of_senders;
      few = h.few;
      each = each_set (Fits h.senders h.taker h.seat h.sent taken) views port
          (taking v.senders v.opened (v.taken ++ x ∷ []) v.ended (told_next h.sent h.taken x)) (
            (λ p. absurd (true≢false (sym p))),
            λ _. (mine.0, mine.1, ap (λ l. l ++ x ∷ []) mine.2, mine.3, mine.4, mine.5, mine.6, (begins_it h.sent, begins_it taken)),
          )
          (λ j u other e. (
            sender_stays h.senders h.seat h.sent h.taken x j u (h.each j u e).0,
            λ p. absurd (other (((h.each j u e).1 p).1 ∙ sym mine.1)),
          ));
    }

-- what is taken is of one of the senders
of_sender : (port : ℕ) (v : Note) (x : BatchView) (items : List BatchView) (views : List Note) → v.takes ≡ true
    → IsDelivered (x ∷ items) views → get_elem? views port ≡ some v → x.from < v.senders
of_sender port v x items views may h at =
    All-head (λ (b : BatchView). b.from < v.senders) x items
    (of_last (λ (b : BatchView). b.from < v.senders) h.taken (x ∷ items)
    (subst (λ (y : ℕ × List BatchView). AreOf y.0 y.1) (λ i. (sym ((h.each port v at).1 may).0 i, h.lawful i)) h.of_senders))

pub takes : (port : ℕ) (v : Note) → v.takes ≡ true → Pops IsDelivered port v
    (λ x w. (w ≡ taking v.senders v.opened (v.taken ++ x ∷ []) v.ended w.told) × (x.from < v.senders)
    × (length (batches_of x.from w.taken) ≤ most_deliveries) × HasReceived w.taken v.told w.told)
takes port v may x items views h at =
    let mine = (h.each port v at).1 may in
    let same = ap (λ (l : List BatchView). length (batches_of x.from (l ++ x ∷ []))) mine.2 in
    let more = ap (λ (l : List BatchView). l ++ x ∷ []) mine.2 in (
      taking v.senders v.opened (v.taken ++ x ∷ []) v.ended (told_next h.sent h.taken x),
      one_taken port v x items views may h at,
      (
        refl,
        of_sender port v x items views may h at,
        (let most = h.few x.from in omega (arith, part_few x.from h.sent h.taken items x h.lawful, same, most)),
        (
          sym more,
          (items, h.lawful ∙ sym (append_assoc h.taken (x ∷ []) items) ∙ ap (λ l. l ++ items) (sym more)),
          taken_on v.told h.sent h.taken x mine.7,
        ),
      ),
    )

-- the taker learns that what the inbox holds comes next
pub next : (port : ℕ) (v : Note) → v.takes ≡ true → Learns IsDelivered port v (AreNext v.taken v.told)
next port v may held views h at = let mine = (h.each port v at).1 may in (
  h.sent,
  h.lawful ∙ ap (λ l. l ++ held) (sym mine.2),
  subst (λ (l : List BatchView). IsAfterTold v.told h.sent l) (sym mine.2) mine.7,
)

-- of senders that have ended no more is taken than they sent
pub takes_left : (port : ℕ) (v : Note) → v.takes ≡ true → Pops IsDelivered port v
    (λ x w. (w ≡ taking v.senders v.opened (v.taken ++ x ∷ []) v.ended w.told) × (x.from < v.senders)
    × (x.from < length v.ended → length (batches_of x.from w.taken) ≤ length (sent_by_ended v.ended x.from)))
takes_left port v may x items views h at =
    let mine = (h.each port v at).1 may in
    let same = ap (λ (l : List BatchView). length (batches_of x.from (l ++ x ∷ []))) mine.2 in (
      taking v.senders v.opened (v.taken ++ x ∷ []) v.ended (told_next h.sent h.taken x),
      one_taken port v x items views may h at,
      (
        refl,
        of_sender port v x items views may h at,
        λ below. (let all = ap length (mine.6 x.from below).1 in omega (arith, part_few x.from h.sent h.taken items x h.lawful, same, all)),
      ),
    )

-- the taker learns what is left of the senders that have ended
pub left : (port : ℕ) (v : Note) → v.takes ≡ true → Learns IsDelivered port v (AreLeft v.taken v.ended)
left port v may held views h at = let mine = (h.each port v at).1 may in λ from below.
    (mine.6 from below).1 ∙ of_each from h.sent h.taken held h.lawful ∙ ap (λ l. batches_of from l ++ batches_of from held) (sym mine.2)

-- the inbox is for one sender more, as long as none has a pass
pub counts : (port : ℕ) (v : Note) → v.takes ≡ true → v.opened ≡ 0
    → Forks IsDelivered port v (taking (suc v.senders) v.opened v.taken v.ended v.told) resting
counts port v may unopened held views h at =
    let mine = (h.each port v at).1 may in
    let l : Note = taking (suc v.senders) v.opened v.taken v.ended v.told in
    let now : Each (Fits (suc h.senders) h.taker h.seat h.sent h.taken) (set views port l) = each_set _ views port l (
      (λ p. absurd (true≢false (sym p))),
      λ _. (ap suc mine.0, mine.1, mine.2, (let some = mine.3 in omega (arith, some)), mine.4, mine.5, mine.6, mine.7),
    )
    (λ j u other e. (
      (λ p. absurd (some-ne-none j (sym ((h.each j u e).0 p).2 ∙ (mine.5 u.from (omega (arith, unopened))).0))),
      λ p. absurd (other (((h.each j u e).1 p).1 ∙ sym mine.1)),
    )) in
    reseated h (suc h.senders) h.seat _ (omega arith) (λ j u e. ⊎_elim (λ x. now j u x)
    (λ (is : resting ≡ u). (
      (λ p. absurd (true≢false (sym (ap (λ (y : Note). y.sends) is ∙ p)))),
      λ p. absurd (true≢false (sym (ap (λ (y : Note). y.takes) is ∙ p))),
    )) (at_snoc (set views port l) resting u j e))

-- the next sender gets its pass
pub opens : (port : ℕ) (v : Note) → v.takes ≡ true → v.opened < v.senders
    → Forks IsDelivered port v (taking v.senders (suc v.opened) v.taken v.ended v.told) (sending v.senders v.opened [] untold)
opens port v may more held views h at =
    let mine = (h.each port v at).1 may in
    let l : Note = taking v.senders (suc v.opened) v.taken v.ended v.told in
    let r : Note = sending v.senders v.opened [] untold in
    let vs : List Note = set views port l in
    let seat : ℕ → Option ℕ = with_seat v.opened (some (length vs)) h.seat in
    let free = (mine.5 v.opened (omega arith)).0 in
    let kept : (k : ℕ) → k ≢ v.opened → seat k ≡ h.seat k = λ k apart. seat_else v.opened (some (length vs)) h.seat k apart in
    let Old : ℕ → Note → Type 0 = λ j u. FitsSender h.senders h.seat h.sent h.taken j u × FitsTaker h.senders h.taker seat h.sent h.taken j u in
    let old : Each Old vs = each_set Old views port l (
      (λ p. absurd (true≢false (sym p))),
      λ _. (
        mine.0,
        mine.1,
        mine.2,
        (let all = mine.0 in omega (arith, more, all)),
        (let fewer = mine.4 in omega (arith, fewer)),
        (λ k from. let g = mine.5 k (omega (arith, from)) in (kept k (λ same. omega (arith, from, same)) ∙ g.0, g.1)),
        (λ k below. let g = mine.6 k below in (kept k (λ same. (let fewer = mine.4 in omega (arith, below, same, fewer))) ∙ g.0, g.1)),
        mine.7,
      ),
    )
    (λ j u other e. ((h.each j u e).0, λ p. absurd (other (((h.each j u e).1 p).1 ∙ sym mine.1)))) in
    reseated h h.senders seat _ (omega arith) (λ j u e. ⊎_elim
    (λ x. let o = old j u x in
    ((λ p. let f = o.0 p in (f.0, f.1, kept u.from (seats_apart h.seat u.from v.opened j f.2 free) ∙ f.2, f.3, f.4)), o.1))
    (λ (is : r ≡ u). (
      (λ p.
          let place : j ≡ length vs = at_end vs r u j
          (λ x. some-ne-none j (sym ((old j u x).0 p).2 ∙ ap h.seat (sym (ap (λ (y : Note). y.from) is)) ∙ free)) e in (
            sym (ap (λ (y : Note). y.senders) is) ∙ mine.0,
            subst (λ (y : ℕ × ℕ). y.0 < y.1) (λ i. ((ap (λ (y : Note). y.from) is) i, mine.0 i)) more,
            seat_here v.opened (some (length vs)) h.seat u.from (sym (ap (λ (y : Note). y.from) is)) ∙ ap some (sym place),
            sym (ap (λ (y : Note). y.sent) is) ∙ sym (mine.5 v.opened (omega arith)).1 ∙ ap (λ k. batches_of k h.sent) (ap (λ (y : Note). y.from) is),
            subst (λ (t : Told). IsAfterTold t h.sent h.taken) (ap (λ (y : Note). y.told) is) ((h.sent, refl), (h.taken, refl)),
          )),
      λ p. absurd (true≢false (sym (ap (λ (y : Note). y.takes) is ∙ p))),
    ))
    (at_snoc vs r u j e))

-- the next sender has ended
pub ends : (port : ℕ) (v : Note) (other : ℕ) (u : Note) → v.takes ≡ true → u.sends ≡ true → u.from ≡ length v.ended
    → Merges IsDelivered port v other u (taking v.senders v.opened v.taken (v.ended ++ u.sent ∷ []) v.told) resting
ends port v other u may sends place held views h at two at' =
    let both : Note = taking v.senders v.opened v.taken (v.ended ++ u.sent ∷ []) v.told in
    let mine = (h.each port v at).1 may in
    let vs : List Note = set views port both in
    let was : get_elem? views other ≡ some u = ⊎_elim (λ x. absurd (two x.0)) (λ x. x.1) (at_set views port other both u at') in
    let theirs = (h.each other u was).0 sends in
    let seat : ℕ → Option ℕ = with_seat u.from none h.seat in
    let gone : (k : ℕ) → h.seat k ≡ none → seat k ≡ none = λ k free. seat_else u.from none h.seat k (λ same. seats_apart h.seat u.from k other theirs.2 free (sym same)) ∙ free in
    let unended : length v.ended < v.opened = ⊎_elim (λ x. x)
    (λ x. absurd (some-ne-none other (sym theirs.2 ∙ (mine.5 u.from (omega (arith, x, place))).0))) (cases_lt (length v.ended) v.opened) in
    let Now : ℕ → Note → Type 0 = λ j y. j ≢ other → Fits h.senders h.taker seat h.sent h.taken j y in
    let now : Each Now vs = each_set Now views port both
    (λ _. (
      (λ p. absurd (true≢false (sym p))),
      λ _. (
        mine.0,
        mine.1,
        mine.2,
        mine.3,
        omega (arith, unended, length-append v.ended (u.sent ∷ [])),
        (λ k from. let g = mine.5 k from in (gone k g.0, g.1)),
        (λ k below. ⊎_elim
            (λ earlier. let g = mine.6 k earlier in (gone k g.0, get_or_append_left v.ended (u.sent ∷ []) [] k earlier ∙ g.1))
            (λ later.
            let here : k ≡ length v.ended = omega (arith, later, below, length-append v.ended (u.sent ∷ [])) in (
              seat_here u.from none h.seat k (here ∙ sym place),
              ap (sent_by_ended (v.ended ++ u.sent ∷ [])) here ∙ get_or-append_seam v.ended u.sent [] [] ∙ theirs.3 ∙ ap (λ j. batches_of j h.sent) (place ∙ sym here),
            ))
            (cases_lt k (length v.ended))),
        mine.7,
      ),
    ))
    (λ j y away e apart. (
      (λ p. let f = (h.each j y e).0 p in
          (f.0, f.1, seat_else u.from none h.seat y.from (passes_apart h.seat y.from u.from j other f.2 theirs.2 (λ same. apart (sym same))) ∙ f.2, f.3, f.4)),
      λ p. absurd (away (((h.each j y e).1 p).1 ∙ sym mine.1)),
    )) in
    reseated h h.senders seat _ (omega arith) (each_set _ vs other resting ((λ p. absurd (true≢false (sym p))), λ p. absurd (true≢false (sym p)))
    (λ j y apart e. now j y e apart))
