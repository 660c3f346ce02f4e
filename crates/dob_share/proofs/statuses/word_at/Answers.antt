-- One digit more in each word.
use Rattle.dob_share.proofs.Common.{◌+◌, ◌<◌, ◌∙◌, ◌≡◌, ap, arith, catches, opens, status_listed, tries, ℕ}
use Rattle.dob_share.proofs.Words.{digits_none, digits_more}
use Rattle.dob_share.proofs.statuses.word_at.Goals as goal

pub loop-k-init : goal.loop-k-init
loop-k-init c = record { opens_are = digits_none; caught_are = digits_none; tried_are = digits_none }

pub loop-k-preserved : goal.loop-k-preserved
loop-k-preserved c =
    let so_far = c.loop-k.invariant in
    let digits = c.digits_of-is_open.ensures in
    let here : c.listed_status-status.result ≡ status_listed c.args.openings.now c.args.places c.args.nodes c.args.id (c.args.first + c.loop-k.k)
    = c.listed_status-status.ensures ∙ ap (λ (k : ℕ). status_listed c.args.openings.now c.args.places c.args.nodes c.args.id (c.args.first + k)) c.from.ensures in record {
      opens_are = digits_more so_far.opens_are (c.with_digit-opens.ensures.here ∙ digits.open ∙ ap opens here) c.with_digit-opens.ensures.before
          c.with_digit-opens.ensures.low;
      caught_are = digits_more so_far.caught_are (c.with_digit-caught.ensures.here ∙ digits.caught ∙ ap catches here) c.with_digit-caught.ensures.before
          c.with_digit-caught.ensures.low;
      tried_are = digits_more so_far.tried_are (c.with_digit-tried.ensures.here ∙ digits.tried ∙ ap tries here) c.with_digit-tried.ensures.before
          c.with_digit-tried.ensures.low;
    }

pub returns-clause-each : goal.returns-clause-each
returns-clause-each c = λ k low.
    let inside : k < c.loop-k.k = omega arith in record {
      opens_is = c.loop-k.invariant.opens_are.each k inside;
      caught_is = c.loop-k.invariant.caught_are.each k inside;
      tried_is = c.loop-k.invariant.tried_are.each k inside;
    }
