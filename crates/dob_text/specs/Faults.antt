-- The faults of a text that is no position's, in the order in which they are tested.
use Rattle.std.specs.Prelude.{ℕ, List, Some, codes}
use Rattle.dob_pieces.specs.declared.profile.Profile.{Profile}
use Rattle.dob_pieces.specs.declared.setup.Setup.{Setup}
use Rattle.dob_pieces.specs.declared.fault.PositionFault.TheVariants as position_fault
use Rattle.dob_pieces.specs.Faults as position
use Rattle.dob_pieces.specs.Profiles.{IsAllowed}
use Rattle.dob_pieces.specs.Setups.{HasLions, HasFewPieces, HasLionOffFarRow, IsLegal}
use Rattle.dob_text.specs.declared.fault.TextFault.{TextFault}
use Rattle.dob_text.specs.declared.fault.TextFault.TheVariants.{Shape, Letter, Hand, Lions, Count, FarLion, FarChick}
use Rattle.dob_text.specs.PositionText.{HasShape, HasLetters, HasHands, Spells}

-- how a fault is printed
abbrev pub fault_text : TextFault → List ℕ
fault_text Shape = codes "E1 Shape"
fault_text Letter = codes "E2 Letter"
fault_text Hand = codes "E3 Hand"
fault_text Lions = position.fault_text position_fault.Lions
fault_text Count = position.fault_text position_fault.Count
fault_text FarLion = position.fault_text position_fault.FarLion
fault_text FarChick = position.far_chick_text

-- the first fault of the text by a profile: what it lacks, and that it has all that is tested before
abbrev pub HasTextFault : Profile → List ℕ → TextFault → Type 0
HasTextFault profile text Shape = ¬ HasShape text
HasTextFault profile text Letter = HasShape text × ¬ HasLetters text
HasTextFault profile text Hand = HasShape text × HasLetters text × ¬ HasHands text
HasTextFault profile text Lions = (setup : Setup) × Spells text setup × ¬ HasLions setup
HasTextFault profile text Count = (setup : Setup) × Spells text setup × HasLions setup × ¬ HasFewPieces setup
HasTextFault profile text FarLion = (setup : Setup) × Spells text setup × HasLions setup × HasFewPieces setup × ¬ HasLionOffFarRow setup
HasTextFault profile text FarChick = (setup : Setup) × Spells text setup × IsLegal setup × ¬ IsAllowed profile setup

-- why the setup that a text spells is no position of the profile
abbrev pub HasSetupFault : Profile → Setup → TextFault → Type 0
HasSetupFault profile setup Lions = position.HasPositionFault setup (Some position_fault.Lions)
HasSetupFault profile setup Count = position.HasPositionFault setup (Some position_fault.Count)
HasSetupFault profile setup FarLion = position.HasPositionFault setup (Some position_fault.FarLion)
HasSetupFault profile setup FarChick = IsLegal setup × ¬ IsAllowed profile setup
HasSetupFault profile setup Shape = ⊥
HasSetupFault profile setup Letter = ⊥
HasSetupFault profile setup Hand = ⊥
