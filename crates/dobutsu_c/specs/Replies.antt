-- What a certificate's file says of a position, and why it says nothing.
use Rattle.std.specs.Prelude.{◌≡◌, ◌+◌, ℕ, List, Option, Some, None}
use Rattle.dob_pieces.specs.declared.profile.Profile.TheVariants.{A}
use Rattle.dob_pieces.specs.declared.setup.Setup.{Setup}
use Rattle.dob_text.specs.Faults.{HasTextFault}
use Rattle.dob_rank.specs.Families.{IsPositionOf}
use Rattle.dob_foreign.specs.Faults.{text_number}
use Rattle.dob_certificate.specs.Lost.{SupportsAllLost}
use Rattle.dob_certfile.specs.Format.{Content, bytes_of}
use Rattle.dob_certfile.specs.Reading.{HasCertFault}
use Rattle.dob_certify.specs.declared.replies.Reply.{Reply}
use Rattle.dob_certify.specs.declared.replies.Reply.TheVariants.{Win, Loss}
use Rattle.dob_certify.specs.Replies.{IsReply, IsRight}
use Rattle.dobutsu_c.specs.declared.moves.DobutsuMove.{DobutsuMove}
use Rattle.dobutsu_c.specs.declared.replies.ReplyFault.{ReplyFault}
use Rattle.dobutsu_c.specs.declared.replies.ReplyFault.TheVariants.{Text, Bytes, Member, Unsupported, Unlisted, Memory}
use Rattle.dobutsu_c.specs.Certificates.{defect_number}
use Rattle.dobutsu_c.specs.Faults.{IsStranger, stranger_number}
use Rattle.dobutsu_c.specs.Moves.{shown_move}
use Rattle.dobutsu_c.specs.Probes.{IsTextOf}

-- the position is one of the certificate's family, its lost list supports its entries and says this, and so it is right by definition
pub record IsReplyBy (said : Content) (p : Setup) (found : Option Reply) : Type 0 where
  pub member : IsPositionOf said.family p
  pub supported : SupportsAllLost said.family said.lost
  pub reply : IsReply said.family said.lost p found
  pub right : IsRight said.family.profile p found

-- the bytes are a certificate's file, and the text is that position's
pub record AreAsked (file text : List ℕ) (said : Content) (p : Setup) : Type 0 where
  pub read : file ≡ bytes_of said
  pub named : IsTextOf text p

-- what the file says of the position that is asked for
abbrev pub IsRepliedBy : List ℕ → List ℕ → Reply → Type 0
IsRepliedBy file text found = (said : Content) × (p : Setup) × AreAsked file text said p × IsReplyBy said p (Some found)

-- a move that wins with the value that it has, a win within so many plies; or no move, of a position that is lost within so many
abbrev pub shown_reply : Reply → DobutsuMove
shown_reply (Win move plies) = shown_move move (record { kind = 1; plies = plies + 1 })
shown_reply (Loss plies) = record { kind = 0; from = 0; to = 0; catches = 0; grows = 0; value = record { kind = 2; plies = plies } }

-- why the certificate gives a position of its family no reply
abbrev pub HasNoReply : Content → Setup → ReplyFault → Type 0
HasNoReply said p Unsupported = IsPositionOf said.family p × ¬ SupportsAllLost said.family said.lost
HasNoReply said p Unlisted = IsReplyBy said p None
HasNoReply said p Memory = Unit {0}
HasNoReply said p _ = ⊥

-- the first fault: of the text, of the bytes, of the position in the certificate, of its lost list; or it says nothing; or memory ran out
abbrev pub HasReplyFault : List ℕ → List ℕ → ReplyFault → Type 0
HasReplyFault file text (Text fault) = HasTextFault A text fault
HasReplyFault file text (Bytes defect) = (p : Setup) × IsTextOf text p × HasCertFault file defect
HasReplyFault file text (Member stranger) = (said : Content) × (p : Setup) × AreAsked file text said p × IsStranger said.family p stranger
HasReplyFault file text Memory = Unit {0}
HasReplyFault file text fault = (said : Content) × (p : Setup) × AreAsked file text said p × HasNoReply said p fault

abbrev pub reply_number : ReplyFault → ℕ
reply_number (Text fault) = text_number fault
reply_number (Bytes defect) = defect_number defect
reply_number (Member stranger) = stranger_number stranger
reply_number Unsupported = 30
reply_number Unlisted = 41
reply_number Memory = 23

-- why a number isn't 0
abbrev pub IsReplyRefused : List ℕ → List ℕ → ℕ → Type 0
IsReplyRefused file text number = (fault : ReplyFault) × HasReplyFault file text fault × (number ≡ reply_number fault)
