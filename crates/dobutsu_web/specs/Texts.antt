-- Texts as other languages see them.
use Rattle.std.specs.Prelude.{ℕ, ◌==◌, List, not}
use Rattle.dob_pieces.specs.declared.profile.Family.{Family}
use Rattle.dob_pieces.specs.declared.setup.Setup.{Setup}
use Rattle.dob_moves.specs.declared.game_move.Move.{Move}
use Rattle.dob_text.specs.MoveText.{move_text}
use Rattle.dob_text.specs.PositionText.{text_of}
use Rattle.dob_foreign.specs.declared.texts.DobutsuText.{DobutsuText}
use Rattle.dob_foreign.specs.Texts.{IsText}
use Rattle.dobutsu_web.specs.Asked.{IsTextAsked}
use Rattle.dobutsu_web.specs.Steps.{IsMoveAtPlace, IsOutcomeAt}

-- the text of the move, or of the step that catches the lion, at that place
abbrev pub IsToldMoveText : List ℕ → ℕ → ℕ → ℕ → DobutsuText → Type 0
IsToldMoveText text number there second written = (family : Family) × (setup : Setup) × (move : Move) × IsTextAsked text number family setup
    × IsMoveAtPlace family.profile setup there move × IsText written (move_text move (not (second == 0)))

-- the text of what the move at that place leads to
abbrev pub IsToldOutcome : List ℕ → ℕ → ℕ → DobutsuText → Type 0
IsToldOutcome text number there written = (family : Family) × (setup : Setup) × (outcome : Setup) × IsTextAsked text number family setup
    × IsOutcomeAt family setup there outcome × IsText written (text_of outcome)
