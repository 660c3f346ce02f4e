-- The batch cut is the last that waits on the lane, whose link has room, and its items are listed as sent.
use Rattle.dob_world.proofs.Common.{◌++◌, ◌∙◌, ◌∷◌, ◌≡◌, ◌≤◌, [], BatchView, HasCut, IfSome, ap, length, link_of, outbox_to, refl, subst, vec_len}
use Rattle.dob_world.proofs.Firsts.{went_well}
use Rattle.std.proofs.Common.{◌+◌, ap₂, arith, length-take, min, ℕ}
use Rattle.dob_world.proofs.steps.post.Goals as goal

-- there is room for what was counted, the lesser of two numbers
fits_as_counted : (len listed count a b room : ℕ) → listed ≡ min a b → count ≡ min b a → len + count ≤ room → len + listed ≤ room
fits_as_counted len listed count a b room is counted fits = grind arith

pub list_items-requires : goal.list_items-requires
list_items-requires c =
    let size : ℕ = c.args.batch_size in
    let items = (outbox_to c.args.node.now c.args.to).items in
    let cut = subst (λ given. IfSome given (λ (b : BatchView). HasCut c.args.to size b c.args.node.now c.cut_for.new.self)) c.in-Some.is
    c.in_ok-batch.ensures.step.cut in
    let listed : length c.in-Some.batch.items ≡ min size (length items) = ap length cut.cut.items ∙ length-take size items in
    let count : c.min-count.result ≡ min (length items) size = c.min-count.ensures ∙ ap₂ min c.left_for.ensures c.get.ensures.value in
    fits_as_counted (vec_len c.reserve.new.self) (length c.in-Some.batch.items) c.min-count.result size (length items) _ listed count c.in_ok-reserve.ensures.ok

pub returns-clause-posted : goal.returns-clause-posted
returns-clause-posted c = λ e.
    let steps : c.offer.new.self.waiting ≡ c.args.lane.now.link.waiting ++ c.in-Some.batch ∷ [] =
    went_well c.offer.result (c.offer.new.self.waiting ≡ c.args.lane.now.link.waiting ++ c.in-Some.batch ∷ [])
    (c.args.lane.now.link.capacity ≤ length c.args.lane.now.link.waiting) c.offer.ensures.ok c.offer.ensures.full_only_at_capacity
    (λ full. let yes = c.is_full.ensures.1 full in let no = c.if-is_full.false in cc) in
    record {
      batch = c.in-Some.batch;
      cut = subst (λ given. IfSome given (λ (b : BatchView). HasCut c.args.to c.args.batch_size b c.args.node.now c.cut_for.new.self)) c.in-Some.is
          c.in_ok-batch.ensures.step.cut;
      link = ap (λ w. link_of w c.offer.new.self.capacity) steps
          ∙ ap (λ k. link_of (c.args.lane.now.link.waiting ++ c.in-Some.batch ∷ []) k) c.offer.ensures.capacity;
      sent = c.list_items.ensures ∙ ap (λ xs. xs ++ c.in-Some.batch.items) c.in_ok-reserve.ensures.items;
      same = refl;
    }
