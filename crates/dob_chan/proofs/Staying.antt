-- The ends of an inbox stay its ends, whatever is sent and taken.
use Rattle.dob_chan.proofs.Common.{◌∙◌, List, arith, sym, some_at, AreEndsOf, AreStill, TakesFromSame, SendEnd, TakeEnd}
use Rattle.std.proofs.lemmas.Option.{slice_get_within}

-- the ends of all senders of an inbox are so after more calls
pub ends_stay : (take now : TakeEnd) (sends later : List SendEnd) → TakesFromSame take now → AreStill sends later → AreEndsOf take sends → AreEndsOf now later
ends_stay take now sends later same still ends = (
  still.0 ∙ ends.0 ∙ sym same.1,
  λ from send at.
      let old = some_at sends from (omega (arith, slice_get_within later from send at, still.0)) in
      let was = ends.1 from old.0 old.1 in
      let is = still.1 from old.0 send old.1 at in
      (is.0 ∙ was.0 ∙ sym same.0, is.1 ∙ was.1),
)

pub still_on : (olds sends news : List SendEnd) → AreStill olds sends → AreStill sends news → AreStill olds news
still_on olds sends news first next = (
  next.0 ∙ first.0,
  λ k old new was at.
      let send = some_at sends k (omega (arith, slice_get_within olds k old was, first.0)) in
      let one = first.1 k old send.0 was send.1 in
      let two = next.1 k send.0 new send.1 at in
      (two.0 ∙ one.0, two.1 ∙ one.1, two.2 ∙ one.2, two.3 ∙ one.3),
)
