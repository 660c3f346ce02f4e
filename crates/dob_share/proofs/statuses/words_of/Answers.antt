-- The words so far, and one more.
use Rattle.dob_share.proofs.Common.{◌%◌, ◌+◌, ◌∙◌, IsStatusOf, ap, arith, length, length_push, status_listed, subst, word_of, ℕ}
use Rattle.dob_share.proofs.Words.{words_more, listed_status}
use Rattle.dob_share.proofs.statuses.words_of.Goals as goal

pub loop-number-preserved : goal.loop-number-preserved
loop-number-preserved c =
    let l = c.loop-number in
    let more = words_more (λ place. status_listed c.args.openings.now c.args.places c.args.nodes c.args.id place) l.number l.count c.from-count.result
    c.word_at-word.result l.words c.push.new.self l.invariant.whole l.invariant.counted l.invariant.count c.word_at-word.ensures.before
    c.word_at-word.ensures.low c.from-count.ensures c.in_ok-push.ensures.appended c.word_at-word.ensures.each l.invariant.each in
    record {
      whole = ap length c.in_ok-push.ensures.appended ∙ length_push l.words _ ∙ ap (λ (k : ℕ). k + 1) l.invariant.whole;
      count = more.sum;
      few = more.few;
      counted = more.counted;
      each = more.each;
    }

pub returns-clause-statuses : goal.returns-clause-statuses
returns-clause-statuses c = λ place low.
    subst (λ s. IsStatusOf (word_of c.loop-number.words place) (place % 64) s) (listed_status c.args.openings.now c.args.places c.args.nodes c.args.id place low)
    (c.loop-number.invariant.each place (omega arith))
