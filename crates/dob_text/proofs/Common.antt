-- The names that the proofs here use most, from other crates and the definitions of this one.
pub use Rattle.std.proofs.Common.{if◌then◌else◌, ◌%◌, ◌*◌, ◌++◌, ◌+◌, ◌-◌, ◌<◌, ◌==◌, ◌↔◌, ◌∙◌, ◌∷◌, ◌≡◌, ◌≢◌, ◌≤◌, ◌⊎◌, All, Err, List, None, Ok, Result, Some}
pub use Rattle.std.proofs.Common.{[], ap, append_assoc, arith, drop, false, get_or, inl, inr, length, length-append, map, nat_lt, refl, replicate}
pub use Rattle.std.proofs.Common.{slice_index_or, subst, suc, sym, take, true, zero, ℕ}
pub use Rattle.std.proofs.lemmas.Bool.{both_ways}
pub use Rattle.std.proofs.lemmas.List.{append-nil, get_or_append_left, take-append-drop, take_rest}
pub use Rattle.std.proofs.lemmas.List.Elements.{All-append, All-cons, All-from_get_or, All-replicate, All-weaker}
pub use Rattle.std.specs.List.{after_first, before_first, concat, position, position_or_len, prefix_len, range_with_len}
pub use Rattle.std.specs.String.{string_bytes}
pub use Rattle.dob_pieces.specs.Profiles.{IsAllowed}
pub use Rattle.dob_pieces.specs.Setups.{Cell}
pub use Rattle.dob_pieces.specs.declared.hand.Hand.{Hand}
pub use Rattle.dob_pieces.specs.declared.kind.Kind.TheVariants.{Chick, Elephant, Giraffe, Hen, Lion}
pub use Rattle.dob_pieces.specs.declared.kind.Side.{Side}
pub use Rattle.dob_pieces.specs.declared.kind.Side.TheVariants.{Enemy, Mover}
pub use Rattle.dob_pieces.specs.declared.setup.Setup.{Setup}
pub use Rattle.dob_text.specs.Letters.{cased, letter_of, letter_of_kind}
pub use Rattle.dob_text.specs.Pictures.{hand_left, hand_top, piece_picture, pieces_picture, square_picture, use_line}
pub use Rattle.dob_text.specs.PositionText.{AreParts, AreTwoWords, HasHands, HasLetters, HasShape, IsBoardLetter, IsGrid, IsWord, Spells, board_text}
pub use Rattle.dob_text.specs.PositionText.{hand_letters, hand_text, is_space, or_dash, text_of}
pub use Rattle.dob_text.specs.Readings.{capped_setup, letter_place}
