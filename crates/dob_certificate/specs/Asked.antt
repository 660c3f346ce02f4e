-- What a list of either kind is asked of a position: whether it takes it for lost or won.
use Rattle.std.specs.Prelude.{◌-◌, Bool, List, ℕ, MatchBool}
use Rattle.dob_pieces.specs.declared.profile.Family.{Family}
use Rattle.dob_pieces.specs.declared.setup.Setup.{Setup}
use Rattle.dob_certificate.specs.declared.entry.Entry.{Entry}
use Rattle.dob_certificate.specs.declared.list_kind.ListKind.{ListKind}
use Rattle.dob_certificate.specs.declared.list_kind.ListKind.TheVariants.{Lost, Held}
use Rattle.dob_certificate.specs.Lost.{IsSaidLost, IsAnswered, IsLossSupported}
use Rattle.dob_certificate.specs.Held.{IsSaidHeld, IsSafe, IsHoldSupported, plies_asked}

-- by a lost list the answer is yes just where what it shows holds; by a held list it is no just where what that shows does
abbrev pub AnswersBy : ListKind → Bool → Type 0 → Type 0 → Type 0
AnswersBy Lost told Shown Against = MatchBool told Shown (¬ Shown)
AnswersBy Held told Shown Against = MatchBool told (¬ Against) Against

-- the position is taken for lost within n plies: it is said to be lost, or isn't said to be held
abbrev pub TakesForLost : ListKind → Family → List Entry → ℕ → Bool → Setup → Type 0
TakesForLost kind family entries n told q = AnswersBy kind told (IsSaidLost family entries n q) (IsSaidHeld family entries n q)

-- it is found to be won: the lion can be caught, or some move leads to what is taken for lost within n plies
abbrev pub FindsWon : ListKind → Family → List Entry → ℕ → Bool → Setup → Type 0
FindsWon kind family entries n told q = AnswersBy kind told (IsAnswered family entries n q) (IsSafe family entries n q)

-- it is found to be lost within n plies: it has lost, or each move leads to what is found to be won in time
abbrev pub FindsLost : ListKind → Family → List Entry → ℕ → Bool → Setup → Type 0
FindsLost kind family entries n told q = AnswersBy kind told (IsLossSupported family entries n q) (IsHoldSupported family entries n q)

-- what is asked of positions two plies later
abbrev pub plies_later : ListKind → ℕ → ℕ
plies_later Lost n = n - 2
plies_later Held n = plies_asked n
