-- The names that the proofs here use most, from other crates and the definitions of this one.
pub use Rattle.std.proofs.Common.{◌*◌, ◌+◌, ◌-◌, ◌/◌, ◌<◌, ◌^◌, ◌↔◌, ◌∙◌, ◌≡◌, ◌≢◌, ◌≤◌, ◌⊎◌, AllPairs, Contains, Err, IsErrOf, List, MatchOption, MatchResult}
pub use Rattle.std.proofs.Common.{None, Ok, Option, Result, Some, [], ap, arith, drop, get_or, inl, inr, length, refl, rules, slice_get, slice_set, subst, suc}
pub use Rattle.std.proofs.Common.{sym, take, ℕ}
pub use Rattle.std.proofs.lemmas.Bool.{both_ways}
pub use Rattle.std.proofs.lemmas.List.{get_or-set_other, get_or-set_same, get_or_default, length-set}
pub use Rattle.dob_pieces.specs.declared.fault.PositionFault.{PositionFault}
pub use Rattle.dob_pieces.specs.declared.hand.Hands.{Hands}
pub use Rattle.dob_pieces.specs.declared.position.Position.{Position}
pub use Rattle.dob_pieces.specs.declared.profile.Family.{Family}
pub use Rattle.dob_pieces.specs.declared.profile.Profile.{Profile}
pub use Rattle.dob_pieces.specs.declared.profile.Profile.TheVariants.{A}
pub use Rattle.dob_pieces.specs.declared.setup.Setup.{Setup}
pub use Rattle.dob_moves.proofs.ByProfile.{can_go, goes}
pub use Rattle.dob_moves.specs.Moves.{CanGo, Goes, place}
pub use Rattle.dob_moves.specs.declared.game_move.Move.{Move}
pub use Rattle.dob_moves.specs.declared.position_status.Status.TheVariants.{Open}
pub use Rattle.dob_text.proofs.Whole.{same_spelled}
pub use Rattle.dob_text.specs.PositionText.{text_of}
pub use Rattle.dob_text.specs.declared.fault.TextFault.{TextFault}
pub use Rattle.dob_rank.proofs.OfFamilies.ClassBounds.{classes_of-below}
pub use Rattle.dob_rank.specs.Families.{IsPositionOf, RepresentsClass, class_number, classes_of}
pub use Rattle.dob_classes.proofs.OfFamilies.FamilyNumbers.{IsInClass-class_number, class_number-below}
pub use Rattle.dob_classes.proofs.OfFamilies.FamilyRepresentatives.{one_class}
pub use Rattle.dob_value.proofs.Successors.{moves_keep_the_family}
pub use Rattle.dob_value.specs.Follows.{ClassTable, IsConsistent, IsValueTable}
pub use Rattle.dob_distance.specs.Values.{HasValue}
pub use Rattle.dob_distance.specs.declared.value.Value.{Value}
pub use Rattle.dob_index.specs.Index.{IsIndex}
pub use Rattle.dob_index.specs.Layout.{words_of}
pub use Rattle.dob_device.specs.Devices.{whole}
pub use Rattle.dob_dbfile.specs.Faults.{CountsClasses, HasReadFault, IsNoLonger, NamesFamily, count_place, header_len}
pub use Rattle.dob_dbfile.specs.Format.{IsFile, count_bytes}
pub use Rattle.dob_dbfile.specs.declared.header.Format.{Format}
pub use Rattle.dob_foreign.specs.Cells.{cell_number}
pub use Rattle.dob_foreign.specs.Faults.{file_number, text_number}
pub use Rattle.dob_foreign.specs.Moves.{shown_step}
pub use Rattle.dob_foreign.specs.Texts.{IsText}
pub use Rattle.dob_probe.specs.ValuedMoves.{AreValuedMoves, ComesBefore, HasMoveValue, seen_from_before}
pub use Rattle.dob_probe.specs.declared.by_value.ValuedMove.{ValuedMove}
pub use Rattle.dob_certificate.specs.Refusals.{IsListVerdict, IsRefusal}
pub use Rattle.dob_certificate.specs.declared.refusal.Refusal.{Refusal}
pub use Rattle.dob_certfile.specs.Format.{Content, bytes_of, content}
pub use Rattle.dobutsu_c.specs.ByIndex.{HasByFault, IsGivenBy, IsIndexFor, IsMarkedBy, IsRight, IsToldBy, number_by}
pub use Rattle.dobutsu_c.specs.Certificates.{IsVerifyFault, defect_number}
pub use Rattle.dobutsu_c.specs.FaultNames.{name_of, names}
pub use Rattle.dobutsu_c.specs.Faults.{fault_number}
pub use Rattle.dobutsu_c.specs.Many.{IsAnswerAt, IsAnswerOf, start_at, text_at}
pub use Rattle.dobutsu_c.specs.Moves.{AreAnsweredMoves, AreExactMoves, AreMovesBy, AreToldMoves, AreToldMovesBy, AreWritten, IsMovesFault, shown_valued}
pub use Rattle.dobutsu_c.specs.Positions.{IsShown}
pub use Rattle.dobutsu_c.specs.Probed.{IsAnswer, IsExact}
pub use Rattle.dobutsu_c.specs.Probes.{AreRead, HasProbeFault, IsAsked, IsGiven, IsTextOf, IsTold, shown}
pub use Rattle.dobutsu_c.specs.declared.by_index.ByFault.{ByFault}
pub use Rattle.dobutsu_c.specs.declared.fault.QuestionFault.{QuestionFault}
pub use Rattle.dobutsu_c.specs.declared.many.DobutsuAnswer.{DobutsuAnswer}
pub use Rattle.dobutsu_c.specs.declared.moves.DobutsuMove.{DobutsuMove}
pub use Rattle.dobutsu_c.specs.declared.numbering.Numbering.{Numbering}
pub use Rattle.dobutsu_c.specs.declared.positions.DobutsuPosition.{DobutsuPosition}
pub use Rattle.dobutsu_c.specs.declared.value.DobutsuValue.{DobutsuValue}
