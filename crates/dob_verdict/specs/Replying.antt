-- What the program owes where it is asked for the move that a certificate gives.
use Rattle.std.specs.Prelude.{◌≡◌, ◌⊎◌, ℕ, ◌+◌, false, List, [], ◌∷◌, ◌++◌, Option, Some, None, codes}
use Rattle.std.specs.Fmt.{decimal}
use Rattle.dob_pieces.specs.Bytes.{line_feed}
use Rattle.dob_pieces.specs.declared.profile.Profile.TheVariants.{A}
use Rattle.dob_pieces.specs.declared.setup.Setup.{Setup}
use Rattle.dob_text.specs.Faults.{HasTextFault}
use Rattle.dob_text.specs.MoveText.{move_text}
use Rattle.dob_moves.specs.declared.game_move.Move.{Move}
use Rattle.dob_rank.specs.Families.{IsPositionOf}
use Rattle.dob_probe.specs.Faults as by_table
use Rattle.dob_certificate.specs.declared.refusal.Refusal.{Refusal}
use Rattle.dob_certificate.specs.declared.refusal.Refusal.TheVariants as refusal
use Rattle.dob_certificate.specs.Lost.{SupportsAllLost, SupportsLost}
use Rattle.dob_certificate.specs.Refusals.{IsFirstUnsupported}
use Rattle.dob_certfile.specs.Format.{Content}
use Rattle.dob_certify.specs.declared.replies.Reply.{Reply}
use Rattle.dob_certify.specs.declared.replies.Reply.TheVariants.{Win, Loss}
use Rattle.dob_certify.specs.Replies.{IsReply, IsRight}
use Rattle.dob_files.specs.declared.certificate_fault.CertificateFault.TheVariants.{Unproved, Unlisted}
use Rattle.dob_files.specs.declared.fault.ProgramFault.{ProgramFault}
use Rattle.dob_files.specs.declared.fault.ProgramFault.TheVariants.{Text, Table, Certificate, Memory}
use Rattle.dob_verdict.specs.Certificates.{IsCertificateFile, IsReadingFault}
use Rattle.dob_files.specs.Owed.{Owed, file_owed}
use Rattle.dob_files.specs.Tables.{IsTextOf}

-- ---- lines

-- a move that wins within so many plies, as `Ge3-b3 win within 77`
abbrev pub win_line : Move → ℕ → List ℕ
win_line move plies = move_text move false ++ (codes " win within " ++ (decimal plies ++ line_feed ∷ []))

abbrev pub loss_line : ℕ → List ℕ
loss_line plies = codes "loss within " ++ decimal plies ++ line_feed ∷ []

abbrev pub reply_line : Reply → List ℕ
reply_line (Win move plies) = win_line move (plies + 1)
reply_line (Loss plies) = loss_line plies

-- ---- what a certificate says of a position

-- the position is one of its family, its lost list supports its entries and says this, and so it is right by definition
pub record IsReplyOf (said : Content) (p : Setup) (found : Option Reply) : Type 0 where
  pub member : IsPositionOf said.family p
  pub supported : SupportsAllLost said.family said.lost
  pub reply : IsReply said.family said.lost p found
  pub right : IsRight said.family.profile p found

-- the line tells it
abbrev pub IsToldReply : Content → Setup → List ℕ → Type 0
IsToldReply said p line = (found : Reply) × IsReplyOf said p (Some found) × (line ≡ reply_line found)

-- why the lost list isn't believed: an entry isn't supported
abbrev pub IsListRefusal : Content → Refusal → Type 0
IsListRefusal said (refusal.Unsupported class) = IsFirstUnsupported (SupportsLost said.family said.lost) said.lost class
IsListRefusal said refusal.Claim = ⊥

-- a fault of asking it: the position isn't one of its family, E26 before E7; or its lost list isn't believed; or it says nothing; or memory failed
abbrev pub IsReplyFault : Content → Setup → ProgramFault → Type 0
IsReplyFault said p (Table fault) = by_table.IsRefusal said.family p fault
IsReplyFault said p (Certificate (Unproved refusal)) = IsPositionOf said.family p × IsListRefusal said refusal
IsReplyFault said p (Certificate Unlisted) = IsReplyOf said p None
IsReplyFault said p Memory = Unit {0}
IsReplyFault said p _ = ⊥

-- ---- of a file and a text
pub record IsReplyLine (Has : List ℕ → Type 0) (words line : List ℕ) : Type 0 where
  pub said : Content
  pub read : IsCertificateFile Has said
  pub position : Setup
  pub named : IsTextOf words position
  pub told : IsToldReply said position line

-- a fault of asking a file: the text's; or one of reading the file, or of asking the certificate, only where the text is a position's
abbrev pub IsReplyFaultOf : (List ℕ → Type 0) → List ℕ → ProgramFault → Type 0
IsReplyFaultOf Has words (Text fault) = HasTextFault A words fault
IsReplyFaultOf Has words fault = (position : Setup) × IsTextOf words position
    × (IsReadingFault Has fault ⊎ ((said : Content) × IsCertificateFile Has said × IsReplyFault said position fault))

abbrev pub reply_owed : List ℕ → List ℕ → Owed
reply_owed file words = file_owed file (λ Has. IsReplyLine Has words) (λ Has. IsReplyFaultOf Has words)
