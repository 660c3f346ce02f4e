-- What the word says and the bits before the place.
use Rattle.dob_share.proofs.Common.{◌+◌, ◌/◌, ◌<◌, ◌^◌, ◌∙◌, ◌≡◌, ◌≤◌, List, Some, StatusWord, StatusesView, ap, arc_value, arith, opens_below, slice_get}
use Rattle.dob_share.proofs.Common.{subst}
use Rattle.std.proofs.Math.Facts.{Fits-of_lt}
use Rattle.dob_share.proofs.Words.{rank_read, opens_few}
use Rattle.dob_share.proofs.statuses.Statuses.opens_before.Goals as goal

pub overflow_add-result : goal.overflow_add-result
overflow_add-result c =
    let words : List StatusWord = arc_value c.self.inside.words in
    let word : slice_get words (c.args.place / 64) ≡ Some c.get-word.result
    = subst (λ (ws : List StatusWord). slice_get ws (c.args.place / 64) ≡ Some c.get-word.result) c.deref.ensures c.get-word.ensures.get in
    let sum : c.get-word.result.before + c.ones_before.result ≡ opens_below words c.args.place
    = rank_read words c.args.place c.ones_before.result c.get-word.result c.self.invariant.2 word c.ones_before.ensures in
    let few : opens_below words c.args.place ≤ c.args.place = opens_few words c.args.place in
    let low : c.args.place < c.args.self.now.places = c.requires in
    let same : c.self.inside.places ≡ c.args.self.now.places = ap (λ (v : StatusesView). v.places) c.self.view_is in
    let all : c.self.inside.places < 2 ^ 32 = c.self.invariant.1 in
    Fits-of_lt (omega (arith, sum, few, low, same, all))

pub returns : goal.returns
returns c = rank_read (arc_value c.self.inside.words) c.args.place c.ones_before.result c.get-word.result c.self.invariant.2
    (subst (λ (ws : List StatusWord). slice_get ws (c.args.place / 64) ≡ Some c.get-word.result) c.deref.ensures c.get-word.ensures.get) c.ones_before.ensures
    ∙ ap (λ (v : StatusesView). opens_below v.words c.args.place) c.self.view_is
