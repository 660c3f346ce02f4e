-- Moves as other languages see them.
use Rattle.std.specs.Prelude.{◌≡◌, ◌⊎◌, ℕ, List}
use Rattle.dob_pieces.specs.declared.profile.Family.{Family}
use Rattle.dob_pieces.specs.declared.setup.Setup.{Setup}
use Rattle.dob_moves.specs.declared.game_move.Move.{Move}
use Rattle.dob_pieces.specs.declared.profile.Profile.{Profile}
use Rattle.dob_moves.specs.AtPlaces.{IsMoveAt, IsCatchAt}
use Rattle.dob_moves.specs.Moves.{Goes}
use Rattle.dob_rank.specs.Numbers.{block_of}
use Rattle.dob_foreign.specs.Moves.{shown_step}
use Rattle.dobutsu_web.specs.declared.steps.DobutsuPlacedStep.{DobutsuPlacedStep}
use Rattle.dobutsu_web.specs.Asked.{IsTextAsked}
use Rattle.dobutsu_web.specs.Rows.{IsClassBy}

-- a move, and the block of what it leads to
abbrev pub placed_step : Move → ℕ → DobutsuPlacedStep
placed_step move block = record { block = block; step = shown_step move }

-- the move of an open position at that place, or the step there that catches the lion
abbrev pub IsMoveAtPlace : Profile → Setup → ℕ → Move → Type 0
IsMoveAtPlace profile p there move = IsMoveAt profile p there move ⊎ IsCatchAt p there move

-- what the move of an open position at that place leads to
abbrev pub IsOutcomeAt : Family → Setup → ℕ → Setup → Type 0
IsOutcomeAt family p there outcome = (move : Move) × IsMoveAt family.profile p there move × Goes family.profile p move outcome

-- a move of an open position with the block of what it leads to
abbrev pub IsShownMove : Family → Setup → ℕ → DobutsuPlacedStep → Type 0
IsShownMove family p there step = (move : Move) × (outcome : Setup) × IsMoveAt family.profile p there move × Goes family.profile p move outcome
    × (step ≡ placed_step move (block_of family.set outcome))

-- a step that catches the lion, which leads to no position
abbrev pub IsShownCatch : Setup → ℕ → DobutsuPlacedStep → Type 0
IsShownCatch p there step = (move : Move) × IsCatchAt p there move × (step ≡ placed_step move 0)

abbrev pub IsStepShown : Family → Setup → ℕ → DobutsuPlacedStep → Type 0
IsStepShown family p there step = IsShownMove family p there step ⊎ IsShownCatch p there step

-- ---- of the position that is asked for
abbrev pub IsToldStep : List ℕ → ℕ → ℕ → DobutsuPlacedStep → Type 0
IsToldStep text number there step = (family : Family) × (setup : Setup) × IsTextAsked text number family setup × IsStepShown family setup there step

-- no move, and no step that catches the lion, stands at that place
abbrev pub HasNone : List ℕ → ℕ → ℕ → Type 0
HasNone text number there =
    (family : Family) × (setup : Setup) × IsTextAsked text number family setup × ((move : Move) → ¬ IsMoveAtPlace family.profile setup there move)

-- no move stands at that place
abbrev pub HasNoMove : List ℕ → ℕ → ℕ → Type 0
HasNoMove text number there =
    (family : Family) × (setup : Setup) × IsTextAsked text number family setup × ((move : Move) → ¬ IsMoveAt family.profile setup there move)

-- the class of what the move at that place leads to, by numbers that ought to be the row of its block
abbrev pub IsToldClassAfter : List ℕ → ℕ → ℕ → List ℕ → ℕ → Type 0
IsToldClassAfter text number there row class = (family : Family) × (setup : Setup) × (outcome : Setup) × IsTextAsked text number family setup
    × IsOutcomeAt family setup there outcome × IsClassBy family row outcome class
