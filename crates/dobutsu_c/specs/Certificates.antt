-- What is answered of the bytes of a certificate's file.
use Rattle.std.specs.Prelude.{◌≡◌, ◌⊎◌, ℕ, List}
use Rattle.dob_pieces.specs.declared.setup.Setup.{Setup}
use Rattle.dob_distance.specs.declared.value.Value.TheVariants.{Win, Loss, Draw}
use Rattle.dob_foreign.specs.Profiles.{profile_number}
use Rattle.dob_certificate.specs.declared.claim.Claim.{Claim}
use Rattle.dob_certificate.specs.declared.claim.Claim.TheVariants.{Exactly, LostWithin, WonWithin}
use Rattle.dob_certificate.specs.declared.refusal.Refusal.TheVariants as refusal
use Rattle.dob_certificate.specs.Claims.{Holds, Prove}
use Rattle.dob_certificate.specs.Refusals.{IsRefusal}
use Rattle.dob_certfile.specs.declared.defect.Defect.{Defect}
use Rattle.dob_certfile.specs.declared.defect.Defect.TheVariants.{Truncated, Magic, Version, SetByte, ProfileByte, RootClass, ClaimByte, EntryCount, EntryNumber, EntryOrder, EntryClass, EntryPlies, Trailing, Digest}
use Rattle.dob_certfile.specs.Format.{Content, bytes_of}
use Rattle.dob_certfile.specs.Reading.{HasCertFault}
use Rattle.dob_certfile.specs.Roots.{IsRoot}
use Rattle.dobutsu_c.specs.declared.certificates.DobutsuClaim.{DobutsuClaim}

-- the numbers of defects, which the program prints behind an E
abbrev pub defect_number : Defect → ℕ
defect_number Truncated = 15
defect_number Magic = 16
defect_number Version = 32
defect_number SetByte = 17
defect_number ProfileByte = 27
defect_number RootClass = 33
defect_number ClaimByte = 34
defect_number EntryCount = 35
defect_number EntryNumber = 36
defect_number EntryOrder = 37
defect_number EntryClass = 38
defect_number EntryPlies = 42
defect_number Trailing = 19
defect_number Digest = 20

-- the kind of a claim, its plies, and 1 where it is within so many
pub record ToldClaim : Type 0 where
  pub kind : ℕ
  pub plies : ℕ
  pub within : ℕ

abbrev pub told_claim : Claim → ToldClaim
told_claim (Exactly Draw) = record { kind = 0; plies = 0; within = 0 }
told_claim (Exactly (Win plies)) = record { kind = 1; plies = plies; within = 0 }
told_claim (Exactly (Loss plies)) = record { kind = 2; plies = plies; within = 0 }
told_claim (WonWithin plies) = record { kind = 1; plies = plies; within = 1 }
told_claim (LostWithin plies) = record { kind = 2; plies = plies; within = 1 }

-- what a file claims, as other languages see it
pub record IsToldOf (c : Content) (claim : DobutsuClaim) : Type 0 where
  pub chicks : claim.chicks ≡ c.family.set.chicks
  pub elephants : claim.elephants ≡ c.family.set.elephants
  pub giraffes : claim.giraffes ≡ c.family.set.giraffes
  pub profile : claim.profile ≡ profile_number c.family.profile
  pub root : claim.root ≡ c.root
  pub kind : claim.kind ≡ (told_claim c.claim).kind
  pub plies : claim.plies ≡ (told_claim c.claim).plies
  pub within : claim.within ≡ (told_claim c.claim).within

-- the bytes are a certificate's file, whose lists prove what it claims of its root, and so that holds
pub record IsProvedBy (bytes : List ℕ) (claim : DobutsuClaim) : Type 0 where
  pub content : Content
  pub file : bytes ≡ bytes_of content
  pub root : Setup
  pub is_root : IsRoot content.family content.root root
  pub proved : Prove content.family content.lost content.held root content.claim
  pub holds : Holds content.family.profile root content.claim
  pub told : IsToldOf content claim

-- they are a certificate's file, whose lists don't show its claim: by the entry of that class, or at last
pub record IsUnproved (bytes : List ℕ) (number class : ℕ) : Type 0 where
  pub content : Content
  pub file : bytes ≡ bytes_of content
  pub root : Setup
  pub is_root : IsRoot content.family content.root root
  pub refused : ((number ≡ 30) × IsRefusal content.family content.lost content.held root content.claim (refusal.Unsupported class))
      ⊎ ((number ≡ 31) × IsRefusal content.family content.lost content.held root content.claim refusal.Claim)

-- why a number isn't 0: memory ran out, the bytes have that defect, or the claim isn't proved
abbrev pub IsVerifyFault : List ℕ → ℕ → ℕ → Type 0
IsVerifyFault bytes number class = (number ≡ 23) ⊎ (((defect : Defect) × HasCertFault bytes defect × (number ≡ defect_number defect)) ⊎ IsUnproved bytes number class)
