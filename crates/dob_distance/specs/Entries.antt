-- What an entry of a table says of its position before all is known.
use Rattle.std.specs.Prelude.{◌≡◌, ℕ, ◌≤◌, ◌<◌, ◌⊎◌, nat_le, Bool, true, false, List, length, slice_index_or}
use Rattle.dob_pieces.specs.declared.profile.Profile.{Profile}
use Rattle.dob_pieces.specs.declared.setup.Setup.{Setup}
use Rattle.dob_distance.specs.declared.value.Value.{Value}
use Rattle.dob_distance.specs.declared.value.Value.TheVariants.{Win, Loss, Draw}
use Rattle.dob_distance.specs.Values.{Won, Lost, HasValue}

-- a win in at most n plies
abbrev pub is_win_within : ℕ → Value → Bool
is_win_within n (Win plies) = nat_le plies n
is_win_within n _ = false

-- a loss in at most n plies
abbrev pub is_loss_within : ℕ → Value → Bool
is_loss_within n (Loss plies) = nat_le plies n
is_loss_within n _ = false

abbrev pub is_draw : Value → Bool
is_draw Draw = true
is_draw _ = false

-- the value cut off at depth n: right where its distance is at most n, and a draw where the position is neither won
-- nor lost within n plies
abbrev pub IsCutOff : Profile → ℕ → Setup → Value → Type 0
IsCutOff profile n p (Win plies) = (plies ≤ n) × HasValue profile p (Win plies)
IsCutOff profile n p (Loss plies) = (plies ≤ n) × HasValue profile p (Loss plies)
IsCutOff profile n p Draw = (¬ Won profile n p) × (¬ Lost profile n p)

-- the entry says whether the position is won and whether it is lost within n plies
pub record Tells (profile : Profile) (n : ℕ) (p : Setup) (entry : Value) : Type 0 where
  pub win : is_win_within n entry ≡ true → Won profile n p
  pub won : Won profile n p → is_win_within n entry ≡ true
  pub loss : is_loss_within n entry ≡ true → Lost profile n p
  pub lost : Lost profile n p → is_loss_within n entry ≡ true

-- there is an entry with that number, which says the same of the position
abbrev pub TellsAt : Profile → ℕ → List Value → ℕ → Setup → Type 0
TellsAt profile n entries number p = (number < length entries) × Tells profile n p (slice_index_or entries number Draw)

-- the position is won or lost in n plies, and not in fewer
abbrev pub HasDistance : Profile → Setup → ℕ → Type 0
HasDistance profile p n = HasValue profile p (Win n) ⊎ HasValue profile p (Loss n)
