-- The faults of finding a value are those of what is asked.
use Rattle.dob_query.proofs.Common.{◌≡◌, IsFaultOf, List, Profile, Setup, arith, fault_of_value, ℕ}
use Rattle.dob_pieces.specs.Setups.{IsLegal}
use Rattle.dob_text.specs.PositionText.{Spells}
use Rattle.dob_value.specs.Rosters.{HasSamePieces, SomeTooDeep}
use Rattle.dob_distance.specs.declared.fault.ValueFault.{ValueFault}
use Rattle.dob_distance.specs.declared.fault.ValueFault.TheVariants as value_fault

-- a fault of finding a value is one of the text's
pub value_fault_holds : (profile : Profile) (text : List ℕ) (p : Setup) (f : ValueFault) → IsLegal p → Spells text p
    → (f ≡ value_fault.TooDeep → SomeTooDeep profile (HasSamePieces profile p))
    → IsFaultOf profile text (fault_of_value f)
value_fault_holds profile text p f legal spelled deep = grind arith
