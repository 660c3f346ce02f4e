-- The next end's outlet goes last, until each end has one.
use Rattle.dob_inboxes.proofs.Common.{◌∙◌, ◌≡◌, Some, [], ap, length, refl, rules, sym}
use Rattle.dob_endpoint.proofs.Places.{each_more, gone_all, next_at, none_at, none_gone, one_gone, one_longer}
use Rattle.dob_inboxes.proofs.inbox_open.outlets_of.Goals as goal

pub loop-send-init : goal.loop-send-init
loop-send-init c =
    let none : c.in_ok-outlets.outlets.items ≡ [] = search rules in record {
      gone = none_gone c.into_iter-send-iterator.ensures.into_iter_gives.0 (ap length none);
      each = λ k outlet at. none_at _ k outlet none at;
    }

pub loop-send-preserved : goal.loop-send-preserved
loop-send-preserved c =
    let on = c.loop-send.invariant in
    let more = c.in_ok-push.ensures.items in record {
      gone = one_gone on.gone c.in-Some.ensures.steps.0 (one_longer _ _ more);
      each = each_more _ _ _ _ _ refl more on.each (next_at on.gone c.in-Some.ensures.steps.0 ∙ ap Some (sym c.new.ensures.end), c.new.ensures.slot);
    }

pub returns : goal.returns
returns c = record { count = gone_all c.loop-send.invariant.gone (search rules); each = c.loop-send.invariant.each }
