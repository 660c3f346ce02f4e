-- Why no certificate is made.
use Rattle.std.specs.Prelude.{◌≡◌, ◌+◌, ◌≤◌, ℕ, Bool, List, length}
use Rattle.dob_pieces.specs.Faults.{memory_text}
use Rattle.dob_pieces.specs.declared.setup.Setup.{Setup}
use Rattle.dob_rank.specs.Families.{IsPositionOf}
use Rattle.dob_distance.specs.declared.value.Value.{Value}
use Rattle.dob_value.specs.Follows.{ClassTable}
use Rattle.dob_probe.specs.Lines.{GivenBy}
use Rattle.dob_probe.specs.Faults as by_table
use Rattle.dob_certificate.specs.declared.entry.Entry.{Entry}
use Rattle.dob_certificate.specs.declared.refusal.Refusal.{Refusal}
use Rattle.dob_certificate.specs.Refusals as lists
use Rattle.dob_certify.specs.declared.fault.MakingFault.{MakingFault}
use Rattle.dob_certify.specs.declared.fault.MakingFault.TheVariants.{Table, Unproved, TooMany, Memory}
use Rattle.dob_certify.specs.Lists.{HaveMore}
use Rattle.dob_certify.specs.Made.{claim_of}

-- the fault's number and name
abbrev pub fault_text : MakingFault → List ℕ
fault_text (Table fault) = by_table.fault_text fault
fault_text (Unproved refusal) = lists.fault_text refusal
fault_text (TooMany most) = lists.too_many_text most
fault_text Memory = memory_text

-- some lists of at most so many entries don't prove the claim for the value that the table gives the position
pub record IsUnproved (table : ClassTable) (is_exact : Bool) (p : Setup) (most : ℕ) (refusal : Refusal) : Type 0 where
  pub value : Value
  pub given : GivenBy table p value
  pub lost : List Entry
  pub held : List Entry
  pub few : length lost + length held ≤ most
  pub refused : lists.IsRefusal table.family lost held p (claim_of value is_exact) refusal

-- the position is the table's, and lists by the table have more entries than the number that is named and that they may
pub record IsTooMany (table : ClassTable) (p : Setup) (most number : ℕ) : Type 0 where
  pub member : IsPositionOf table.family p
  pub named : number ≡ most
  pub more : HaveMore table most

-- Why nothing is made: the position isn't one of the table's; else lists that were found have more entries than they may; else they don't prove the claim;
-- or memory ran out.
abbrev pub IsFault : ClassTable → Bool → Setup → ℕ → MakingFault → Type 0
IsFault table is_exact p most (Table fault) = by_table.IsRefusal table.family p fault
IsFault table is_exact p most (Unproved refusal) = IsUnproved table is_exact p most refusal
IsFault table is_exact p most (TooMany number) = IsTooMany table p most number
IsFault table is_exact p most Memory = Unit {0}
