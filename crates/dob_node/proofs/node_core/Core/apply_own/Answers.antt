-- What is taken is kept.
use Rattle.dob_node.proofs.Common.{◌∙◌, ◌∷◌, ◌≡◌, [], ap, arith, common_steps, drop, going, kept_own, queued, refl, sym}
use Rattle.dob_node.proofs.TakenLists.{first_there, none_first, still_sound}
use Rattle.dob_node.proofs.node_core.Core.apply_own.Goals as goal
use Rattle.dob_node.proofs.node_core.Core.apply_own.Goals.{In-Some}

-- the item stands in front
in_front : (c : In-Some) → queued c.args.self.now.own ≡ c.in-Some.item ∷ drop 1 (queued c.args.self.now.own)
in_front c = first_there (queued c.args.self.now.own) c.in-Some.item (sym c.first.ensures.item ∙ c.in-Some.is)

pub take_seen-requires-clause-kept : goal.take_seen-requires-clause-kept
take_seen-requires-clause-kept c = (c.args.self.now.family, kept_own c.requires.kept)

pub take_seen-requires-clause-entries : goal.take_seen-requires-clause-entries
take_seen-requires-clause-entries c = rw c.in-Some.is at c.first.ensures.entries

pub returns-clause-sound : goal.returns-clause-sound
returns-clause-sound c =
    let out = c.in_ok-take_seen.ensures in
    still_sound {node = going c.args.self.now} refl (c.in-Some.item ∷ []) c.requires
    (c.take_seen.new.share, c.take_seen.new.self, out.taken, (refl, refl)) out.kept

pub returns-in_default-clause-step : goal.returns-in_default-clause-step
returns-in_default-clause-step c =
    let none = none_first (queued c.args.self.now.own) (sym c.first.ensures.item ∙ c.in_default.is) in
    record { done = (λ same. none, λ empty. refl); nothing = λ same. refl; applied = λ other. absurd (cc); stopped = tt; unchanged = tt }

pub returns-in_err-take_seen-clause-step : goal.returns-in_err-take_seen-clause-step
returns-in_err-take_seen-clause-step c =
    let front = in_front (goal.at.returns-in_err-take_seen-clause-step c).In-Some in grind (arith, common_steps, front)

pub returns-in_err-take_seen-clause-sound : goal.returns-in_err-take_seen-clause-sound
returns-in_err-take_seen-clause-sound c = grind (arith, common_steps)

pub returns-clause-step : goal.returns-clause-step
returns-clause-step c =
    let front = in_front (goal.at.returns-clause-step c).In-Some in
    record {
      done = (λ other. absurd (cc), λ none. absurd (cc));
      nothing = λ other. absurd (cc);
      applied = λ same. record {
        item = c.in-Some.item;
        first = front ∙ ap (λ xs. c.in-Some.item ∷ xs) (sym c.drop_front.ensures.items);
        taken = c.in_ok-take_seen.ensures.taken;
        same = (refl, refl, refl, refl);
        outboxes = refl;
      };
      stopped = tt;
      unchanged = tt;
    }
