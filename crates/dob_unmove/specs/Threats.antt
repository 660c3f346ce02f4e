-- Which of the mover's pieces attack the enemy lion, before a move is taken back and after.
use Rattle.std.specs.Prelude.{◌≡◌, ◌≢◌, ℕ, ◌<◌, ◌==◌, if◌then◌else◌, not, Bool, true, false, Some}
use Rattle.dob_pieces.specs.declared.kind.Kind.TheVariants.{Lion}
use Rattle.dob_pieces.specs.declared.kind.Side.TheVariants.{Enemy}
use Rattle.dob_pieces.specs.declared.setup.Setup.{Setup}
use Rattle.dob_pieces.specs.Pieces.{leads}
use Rattle.dob_pieces.specs.Setups.{at, piece_of}
pub use Rattle.dob_pieces.specs.Masks.{attacks_by, attacks}
use Rattle.dob_unmove.specs.declared.attackers.Attackers.{Attackers}
use Rattle.dob_unmove.specs.declared.attackers.Attackers.TheVariants.{Nobody, One, Several}
use Rattle.dob_unmove.specs.declared.attackers.Threat.{Threat}
use Rattle.dob_unmove.specs.declared.undo.RetroMove.{RetroMove}
use Rattle.dob_unmove.specs.declared.undo.RetroMove.TheVariants.{Unstep, Unput}

-- of the squares below the bound none, just that one, or several have a piece that attacks the target
abbrev pub AreAttackers : Setup → ℕ → ℕ → Attackers → Type 0
AreAttackers p target bound Nobody = (s : ℕ) → s < bound → attacks p s target ≡ false
AreAttackers p target bound (One attacker) =
    (attacker < bound) × (attacks p attacker target ≡ true) × ((s : ℕ) → s < bound → attacks p s target ≡ true → s ≡ attacker)
AreAttackers p target bound Several =
    (s t : ℕ) × (s ≢ t) × (attacks p s target ≡ true) × (attacks p t target ≡ true)

-- the enemy lion's square, and who attacks it
pub record IsThreat (p : Setup) (threat : Threat) : Type 0 where
  pub lion : at p threat.lion ≡ Some (piece_of Enemy Lion)
  pub attackers : AreAttackers p threat.lion 12 threat.attackers

-- there is one on another square
abbrev pub elsewhere : Attackers → ℕ → Bool
elsewhere Nobody square = false
elsewhere (One attacker) square = not (attacker == square)
elsewhere Several square = true

-- a piece attacked the enemy lion before the move: one that didn't move, or the one that did
abbrev pub stood_before : Threat → RetroMove → Bool
stood_before threat (Unstep kind from to caught) = if leads kind from threat.lion then true else elsewhere threat.attackers to
stood_before threat (Unput kind to) = elsewhere threat.attackers to
