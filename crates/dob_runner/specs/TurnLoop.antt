-- What a runner needs to make turns, and what it is afterwards.
use Rattle.std.specs.Prelude.{◌≡◌, ◌≢◌, ⊤, ℕ, Bool, true, None}
use Rattle.dob_pieces.specs.declared.profile.Family.{Family}
use Rattle.dob_board.specs.declared.halt.Halt.TheVariants.{Running}
use Rattle.dob_runner.specs.declared.runner.Runner.{Runner}
use Rattle.dob_runner.specs.declared.turn_loop.Until.{Until}
use Rattle.dob_runner.specs.declared.turn_loop.Until.TheVariants.{Turns, Halted}
use Rattle.dob_runner.specs.TurnRounds.{AddsFew}
use Rattle.dob_runner.specs.Runners.{KeepsRunner, IsReasoned, says_no}

-- the runner can work with the classes of that family
pub record Suits (family : Family) (runner : Runner) : Type 0 where
  pub family_is : family ≡ runner.family
  pub unfailed : runner.failed ≡ None

-- until each seat knows that the run ended or failed
abbrev pub until_halted : Until
until_halted = Halted

-- until each has made so many turns
abbrev pub until_turns : ℕ → Until
until_turns count = Turns count

-- the runner was to make turns for so long, and has: with so many turns over each link went at most so many batches, if none failed
abbrev pub IsThrough : Until → Runner → Runner → Type 0
IsThrough (Turns count) old new = new.failed ≡ None → AddsFew count old.endpoint new.endpoint
IsThrough Halted old new = new.endpoint.seat.stand.halt ≢ Running

-- it keeps its place in its crew, and has; where it failed it has a reason, with a gate that may say no to some nodes
abbrev pub Ends : (ℕ → Type 0) → Until → Runner → Runner → Type 0
Ends No until old new = KeepsRunner old new × IsThrough until old new × IsReasoned No new

-- a gate that may answer so let its node go on, where its run went on and it hasn't failed
abbrev pub IsLetOn : (ℕ → Bool → Type 0) → Until → Runner → Runner → Type 0
IsLetOn Says (Turns count) old new = ⊤
IsLetOn Says Halted old new = old.endpoint.seat.stand.halt ≡ Running → new.failed ≡ None → Says new.endpoint.seat.node true

-- it has made its turns by such a gate
abbrev pub EndsBy : (ℕ → Bool → Type 0) → Until → Runner → Runner → Type 0
EndsBy Says until old new = Ends (says_no Says) until old new × IsLetOn Says until old new
