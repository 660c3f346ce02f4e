-- What is made of what a table says of a position.
use Rattle.std.specs.Prelude.{◌≡◌, ◌≤◌, ◌+◌, ◌*◌, ◌/◌, ℕ, Bool, length, if◌then◌else◌}
use Rattle.dob_pieces.specs.declared.setup.Setup.{Setup}
use Rattle.dob_distance.specs.declared.value.Value.{Value}
use Rattle.dob_distance.specs.declared.value.Value.TheVariants.{Win, Loss, Draw}
use Rattle.dob_value.specs.Follows.{ClassTable}
use Rattle.dob_probe.specs.Lines.{GivenBy}
use Rattle.dob_certificate.specs.declared.claim.Claim.{Claim}
use Rattle.dob_certificate.specs.declared.claim.Claim.TheVariants.{Exactly, LostWithin, WonWithin}
use Rattle.dob_certificate.specs.Claims.{Prove}
use Rattle.dob_certify.specs.declared.making.Certified.{Certified}

-- what is claimed of a position with that value: a draw is always exact
abbrev pub claim_of : Value → Bool → Claim
claim_of (Win plies) is_exact = if is_exact then Exactly (Win plies) else WonWithin plies
claim_of (Loss plies) is_exact = if is_exact then Exactly (Loss plies) else LostWithin plies
claim_of Draw is_exact = Exactly Draw

-- how many rounds of the lists of a certificate of that value are reckoned with: one for each two plies, as many again where it is to be exact, and one
-- for a draw
abbrev pub rounds_of : Value → Bool → ℕ
rounds_of (Win plies) is_exact = if is_exact then 2 * (plies / 2) else plies / 2
rounds_of (Loss plies) is_exact = if is_exact then 2 * (plies / 2) else plies / 2
rounds_of Draw is_exact = 1

-- the claim is that of the value which the table gives the position, and the lists prove it, by at most so many entries
pub record IsMade (table : ClassTable) (is_exact : Bool) (most : ℕ) (p : Setup) (made : Certified) : Type 0 where
  pub value : Value
  pub given : GivenBy table p value
  pub claim_is : made.claim ≡ claim_of value is_exact
  pub proved : Prove table.family made.certificate.lost made.certificate.held p made.claim
  pub few : length made.certificate.lost + length made.certificate.held ≤ most
