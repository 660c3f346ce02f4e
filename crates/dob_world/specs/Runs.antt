-- Lists of events, one after another.
use Rattle.std.specs.Prelude.{◌≡◌, ℕ, ◌+◌, ◌⊎◌, List, [], ◌∷◌}
use Rattle.dob_world.specs.declared.event.Event.{Event}
use Rattle.dob_world.specs.Worlds.{Setting, State}
use Rattle.dob_world.specs.Events.{CanHappen, Happens}

-- The event is done, since it can happen, or it is skipped, since it can't; then nothing is changed.
abbrev pub IsDoneOrSkipped : Setting → State → Event → State → Type 0
IsDoneOrSkipped k old event new = (CanHappen k old event × Happens k old event new) ⊎ ((¬ CanHappen k old event) × (new ≡ old))

-- the new state is the old one after the events
abbrev pub IsAfter : Setting → State → List Event → State → Type 0
IsAfter k old [] new = new ≡ old
IsAfter k old (event ∷ events) new = (between : State) × IsDoneOrSkipped k old event between × IsAfter k between events new

-- the same of an event by which so many are done: one or none
abbrev pub IsStepOf : Setting → State → Event → ℕ → State → Type 0
IsStepOf k old event done new = (CanHappen k old event × Happens k old event new × (done ≡ 1)) ⊎ ((¬ CanHappen k old event) × (new ≡ old) × (done ≡ 0))

-- the new state is the old one after the events, so many of which are done
abbrev pub IsAfterSteps : Setting → State → List Event → ℕ → State → Type 0
IsAfterSteps k old [] done new = (new ≡ old) × (done ≡ 0)
IsAfterSteps k old (event ∷ events) done new = (between : State) × (first : ℕ) × (rest : ℕ) × IsStepOf k old event first between
    × IsAfterSteps k between events rest new × (done ≡ first + rest)
