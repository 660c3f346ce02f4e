-- What a link does with the batches that wait in it, call by call and over many calls.
use Rattle.std.specs.Prelude.{◌≡◌, ℕ, List, [], ◌∷◌, ◌++◌}
use Rattle.dob_update.specs.Batches.{BatchView}

-- what a call of a link came to: a batch was taken in, one was given back, the next was handed out, or there was none
pub data Call : Type 0 where
  Taken : BatchView → Call
  GivenBack : BatchView → Call
  Handed : BatchView → Call
  Nothing : Call

-- The batches waiting before such a call and after it: a batch is taken in at the end, the first is handed out.
abbrev pub LinkSteps : List BatchView → Call → List BatchView → Type 0
LinkSteps old (Taken batch) new = new ≡ old ++ batch ∷ []
LinkSteps old (GivenBack batch) new = new ≡ old
LinkSteps old (Handed batch) new = old ≡ batch ∷ new
LinkSteps old Nothing new = (old ≡ []) × (new ≡ [])

-- before and after such calls, one after another
abbrev pub LeadsBy : List BatchView → List Call → List BatchView → Type 0
LeadsBy old [] new = old ≡ new
LeadsBy old (call ∷ calls) new = (between : List BatchView) × LinkSteps old call between × LeadsBy between calls new

-- the batches that were taken in, in order
abbrev pub taken : List Call → List BatchView
taken [] = []
taken (Taken batch ∷ calls) = batch ∷ taken calls
taken (GivenBack batch ∷ calls) = taken calls
taken (Handed batch ∷ calls) = taken calls
taken (Nothing ∷ calls) = taken calls

-- the batches that were handed out, in order
abbrev pub handed : List Call → List BatchView
handed [] = []
handed (Taken batch ∷ calls) = handed calls
handed (GivenBack batch ∷ calls) = handed calls
handed (Handed batch ∷ calls) = batch ∷ handed calls
handed (Nothing ∷ calls) = handed calls

-- Over any calls of a link that was empty before them, the batches taken in are those handed out followed by those
-- waiting, in the same order.
abbrev pub LinksKeepOrder : Type 0
LinksKeepOrder = (calls : List Call) (waiting : List BatchView) → LeadsBy [] calls waiting → taken calls ≡ handed calls ++ waiting

-- a link: the batches that wait in it, the first to be handed out first, and for how many it has room
pub record LinkView : Type 0 where
  pub waiting : List BatchView
  pub capacity : ℕ

abbrev pub link_of : List BatchView → ℕ → LinkView
link_of waiting capacity = record { waiting = waiting; capacity = capacity }
