-- The inboxes of a crew, laid and ended one by one.
use Rattle.dob_inboxes.proofs.Common.{◌*◌, ◌++◌, ◌+◌, ◌<◌, ◌∙◌, ◌∷◌, ◌≡◌, List, None, Some, [], ap, arith, inl, inr, length, length-append, length-set, rules}
use Rattle.dob_inboxes.proofs.Common.{set, subst, sym, take, ℕ, cases_eq, same_Some, slice_get_within, slice_get, Vec, at_end, get_front, get_set_other, middle}
use Rattle.dob_inboxes.proofs.Common.{some_at, AreEndsOf, AreOpened, AreRejoined, IsRejoined, senders_of, taken_by, Rejoined, SendEnd, TakeEnd, each_after}
use Rattle.dob_inboxes.proofs.Common.{Inlet, Outlet, AreEnds, AreJoined, AreDealt, AreInOrder, AreRows, StandsAt, AreLaidUpto, AreOutlets, IsLaid, IsOneLaid}
use Rattle.dob_inboxes.proofs.Common.{IsUntaken}
use Rattle.dob_endpoint.proofs.Places.{HaveGone, behind, each_more, none_at}

module _ {X Z : Type 0} where
  -- the thing of that place was put behind those of the row
  abbrev IsDealt : List X → List (Vec X Z) → ℕ → Vec X Z → Type 0
  IsDealt things old j row =
      (before : Vec X Z) × (x : X) × (slice_get old j ≡ Some before) × (slice_get things j ≡ Some x) × (row.items ≡ before.items ++ x ∷ [])

  pub dealt_one : (k : ℕ) (things : List X) (old new : List (Vec X Z)) (before row : Vec X Z) (x : X) → AreDealt k things old new →
      slice_get new k ≡ Some before → slice_get things k ≡ Some x → row.items ≡ before.items ++ x ∷ [] → AreDealt (k + 1) things old (set new k row)
  dealt_one k things old new before row x so_far at thing is = record {
    rows = length-set new k row ∙ so_far.rows;
    dealt = λ j other below there. each_after (λ (m : ℕ) (r : Vec X Z). m < k + 1 → IsDealt things old m r) new k row
        (λ m r apart at low. so_far.dealt m r (omega (arith, low, apart)) at)
        (λ low. (before, x, sym (so_far.later k (omega arith)) ∙ at, thing, is)) j other there below;
    later = λ j from. get_set_other new k j row (λ e. omega (arith, e, from)) ∙ so_far.later j (omega (arith, from));
  }

-- each row has one thing more
pub rows_longer : {X Z : Type 0} {n : ℕ} (k : ℕ) (old new : List (Vec X Z)) (things : List X) → AreRows n k old → AreDealt n things old new → AreRows n (k + 1) new
rows_longer {X} {Z} {n} k old new things are dealt = record {
  count = dealt.rows ∙ are.count;
  each = λ i row e.
      let low : i < n = omega (arith, slice_get_within new i row e, dealt.rows, are.count) in
      let was = dealt.dealt i row low e in
      omega (arith, ap length was.4, length-append was.0.items (was.1 ∷ []), are.each i was.0 was.2);
}

-- ---- rows joined one by one

-- the next row's things behind those of the rows before it
pub joined_more : {X Z : Type 0} (width done : ℕ) (rows : List (Vec X Z)) (row : Vec X Z) (things more : List X) → AreInOrder width done rows things →
    slice_get rows done ≡ Some row → length row.items ≡ width → more ≡ things ++ row.items → AreInOrder width (done + 1) rows more
joined_more {X} {Z} width done rows row things more so_far at wide grown =
    let one_more : (done + 1) * width ≡ done * width + width = search rules in
    record {
      count = omega (arith, ap length grown, length-append things row.items, so_far.count, wide, one_more);
      each = λ i j x below there. elim (cases_eq i done) [
        | inl here ↦
            let row_is : there.0 ≡ row = same_Some there.0 row (sym there.1 ∙ ap (slice_get rows) here ∙ at) in
            let place : i * width + j ≡ length things + j = ap (λ (m : ℕ). m * width + j) here ∙ ap (λ (m : ℕ). m + j) (sym so_far.count) in
            ap (slice_get more) place ∙ ap (λ (l : List X). slice_get l (length things + j)) grown ∙ behind things row.items j
            ∙ ap (λ (v : Vec X Z). slice_get v.items j) (sym row_is) ∙ there.2
        | inr apart ↦
            ap (λ (l : List X). slice_get l (i * width + j)) grown
            ∙ get_front things row.items x (i * width + j) (so_far.each i j x (omega (arith, below, apart)) there)
      ];
    }

-- ---- inboxes ended one by one

-- the links of the first inboxes stand in the rows of their senders
abbrev pub HaveLinks : {Z W : Type 0} → List (Vec SendEnd Z) → List TakeEnd → ℕ → List (Vec Rejoined W) → Type 0
HaveLinks sends takes k rows = (i j : ℕ) (send : SendEnd) (take : TakeEnd) → j < k → StandsAt sends j i send → slice_get takes j ≡ Some take →
    (link : Rejoined) × StandsAt rows i j link × IsRejoined send (taken_by take) link

-- So many inboxes are ended, whose links stand at the ends of their senders' rows, and these ends are left.
pub record AreOn {Z W : Type 0} (n : ℕ) (sends : List (Vec SendEnd Z)) (takes : List TakeEnd) (sends_left : List (Vec SendEnd Z)) (takes_left : List TakeEnd)
    (rows : List (Vec Rejoined W)) : Type 0 where
  pub done : ℕ
  pub senders : HaveGone sends sends_left done
  pub takers : HaveGone takes takes_left done
  pub rows_are : AreRows n done rows
  pub links_are : HaveLinks sends takes done rows

module _ {Z W : Type 0} {n : ℕ} {sends : List (Vec SendEnd Z)} {takes : List TakeEnd} (ends : AreEnds n sends takes) where
  pub links_more : (k : ℕ) (old new : List (Vec Rejoined W)) (row : Vec SendEnd Z) (take : TakeEnd) (links : List Rejoined) → AreRows n k old →
      HaveLinks sends takes k old → slice_get sends k ≡ Some row → slice_get takes k ≡ Some take → AreRejoined row.items (taken_by take) links →
      AreDealt n links old new → HaveLinks sends takes (k + 1) new
  links_more k old new row take links are so_far at at_take rejoined dealt i j send taker below there taken =
      let low : i < n = omega (arith, slice_get_within there.0.items i send there.2, ends.senders.each j there.0 there.1) in
      let now = some_at new i (omega (arith, low, dealt.rows, are.count)) in
      let one = dealt.dealt i now.0 low now.1 in
      elim (cases_eq j k) [
        | inl here ↦
            let row_is : row ≡ there.0 = same_Some row there.0 (sym at ∙ ap (slice_get sends) (sym here) ∙ there.1) in
            let take_is : take ≡ taker = same_Some take taker (sym at_take ∙ ap (slice_get takes) (sym here) ∙ taken) in (
              one.1,
              (
                now.0,
                now.1,
                ap (λ (l : List Rejoined). slice_get l j) one.4
                    ∙ ap (slice_get (one.0.items ++ one.1 ∷ [])) (here ∙ sym (are.each i one.0 one.2)) ∙ middle one.0.items [] one.1,
              ),
              subst (λ (t : TakeEnd). IsRejoined send (taken_by t) one.1) take_is
                  (rejoined.1 i send one.1 (ap (λ (v : Vec SendEnd Z). slice_get v.items i) row_is ∙ there.2) one.3),
            )
        | inr apart ↦
            let was = so_far i j send taker (omega (arith, below, apart)) there taken in
            let before_is : one.0 ≡ was.1.0 = same_Some one.0 was.1.0 (sym one.2 ∙ was.1.1) in (
              was.0,
              (
                now.0,
                now.1,
                ap (λ (l : List Rejoined). slice_get l j) one.4
                    ∙ get_front one.0.items (one.1 ∷ []) was.0 j (ap (λ (v : Vec Rejoined W). slice_get v.items j) before_is ∙ was.1.2),
              ),
              was.2,
            )
      ]

  -- all links, row by row
  pub are_joined : (rows : List (Vec Rejoined W)) (links : List Rejoined) → HaveLinks sends takes n rows → AreInOrder n n rows links → AreJoined n sends
      takes links
  are_joined rows links all order = record {
    count = order.count;
    joined = λ i j send take there at_take.
        let low_i : i < n = omega (arith, slice_get_within there.0.items i send there.2, ends.senders.each j there.0 there.1) in
        let link = all i j send take (omega (arith, slice_get_within takes j take at_take, ends.takers)) there at_take in
        (link.0, order.each i j link.0 low_i link.1, link.2);
  }

-- ---- inboxes laid one by one
pub one_laid : (capacity n : ℕ) (sends : List SendEnd) (take : TakeEnd) (outlets : List Outlet) (inlet : Inlet) → senders_of take ≡ n → AreEndsOf take sends →
    AreOpened take.pass capacity n sends → taken_by take ≡ [] → AreOutlets sends outlets → inlet.end ≡ take → inlet.slot ≡ None → IsOneLaid capacity n outlets inlet
one_laid capacity n sends take outlets inlet many ends opened nothing are end slot = grind arith

-- ---- all of them

module _ {Z : Type 0} (capacity n : ℕ) where
  pub none_laid : (rows : List (Vec Outlet Z)) (inlets : List Inlet) → AreRows n 0 rows → inlets ≡ [] → AreLaidUpto capacity n 0 rows inlets
  none_laid rows inlets are none = record {
    rows = are;
    count = ap length none;
    laid = λ i j outlet inlet out at. none_at inlets j inlet none at;
    untaken = λ j inlet at. none_at inlets j inlet none at;
  }

  laid_for : (k : ℕ) (old new : List (Vec Outlet Z)) (inlets more : List Inlet) (outlets : List Outlet) (inlet : Inlet) → AreLaidUpto capacity n k old inlets →
      IsOneLaid capacity n outlets inlet → AreDealt n outlets old new → more ≡ inlets ++ inlet ∷ [] →
      (i j : ℕ) (outlet : Outlet) (into : Inlet) → StandsAt new i j outlet → slice_get more j ≡ Some into → IsLaid capacity i outlet into
  laid_for k old new inlets more outlets inlet so_far one dealt grown i j outlet into out at =
      let low : i < n = omega (arith, slice_get_within new i out.0 out.1, dealt.rows, so_far.rows.count) in
      let new_one = dealt.dealt i out.0 low out.1 in
      let was : length new_one.0.items ≡ k = so_far.rows.each i new_one.0 new_one.2 in
      elim (at_end inlets inlet into j (ap (λ (l : List Inlet). slice_get l j) (sym grown) ∙ at)) [
        | inl before ↦
            elim (at_end new_one.0.items new_one.1 outlet j (ap (λ (l : List Outlet). slice_get l j) (sym new_one.4) ∙ out.2)) [
              | inl old_out ↦ so_far.laid i j outlet into (new_one.0, new_one.2, old_out) before
              | inr last ↦ absurd (omega (arith, last.0, was, slice_get_within inlets j into before, so_far.count))
            ]
        | inr last_in ↦
            elim (at_end new_one.0.items new_one.1 outlet j (ap (λ (l : List Outlet). slice_get l j) (sym new_one.4) ∙ out.2)) [
              | inl old_out ↦ absurd (omega (arith, slice_get_within new_one.0.items j outlet old_out, was, last_in.0, so_far.count))
              | inr last ↦ subst (λ (p : Outlet × Inlet). IsLaid capacity i p.0 p.1) (λ q. (last.1 q, last_in.1 q)) (one.laid i new_one.1 new_one.3)
            ]
      ]

  pub laid_more : (k : ℕ) (old new : List (Vec Outlet Z)) (inlets more : List Inlet) (outlets : List Outlet) (inlet : Inlet) → AreLaidUpto capacity n k old inlets →
      IsOneLaid capacity n outlets inlet → AreDealt n outlets old new → more ≡ inlets ++ inlet ∷ [] → AreLaidUpto capacity n (k + 1) new more
  laid_more k old new inlets more outlets inlet so_far one dealt grown = record {
    rows = rows_longer k old new outlets so_far.rows dealt;
    count = omega (arith, ap length grown, length-append inlets (inlet ∷ []), so_far.count);
    laid = laid_for k old new inlets more outlets inlet so_far one dealt grown;
    untaken = each_more (λ (j : ℕ) (i : Inlet). IsUntaken n i) inlets more inlet k so_far.count grown so_far.untaken one.untaken;
  }
