-- The names that the proofs here use most, from other crates and the definitions of this one.
pub use Rattle.std.proofs.Common.{◌%◌, ◌*◌, ◌++◌, ◌+◌, ◌-◌, ◌/◌, ◌<◌, ◌||◌, ◌↔◌, ◌∙◌, ◌∷◌, ◌≡◌, ◌≢◌, ◌≤◌, ◌⊎◌, Bool, Err, List, None, Ok, Option, Result, Some, []}
pub use Rattle.std.proofs.Common.{add-one, ap, append-nil, append_assoc, arith, cond, drop, false, inl, inr, length, length-drop, length-take, length-take-le}
pub use Rattle.std.proofs.Common.{min, refl, rules, slice_get, slice_index, subst, suc, sym, take, take-add, take_all, true, vec_capacity, vec_len, zero, ℕ}
pub use Rattle.std.proofs.Math.Bool.{or-false}
pub use Rattle.std.proofs.Math.Nat.{min-le_left, min-le_right}
pub use Rattle.std.proofs.lemmas.Bool.{cases_lt, cases_order}
pub use Rattle.std.proofs.lemmas.List.{drop-drop, drop-take, drop_at, length-append, length-map, take-append-drop, take-append-le, take_at, take_rest}
pub use Rattle.std.proofs.lemmas.List.Concat.{flat_map-append}
pub use Rattle.std.proofs.lemmas.List.Elements.{All-push, All-tail}
pub use Rattle.std.proofs.lemmas.Result.{IfErr-weaker, IfOk-weaker, err_from_is_err_and, on_ok_weaker}
pub use Rattle.std.specs.List.{All, flat_map}
pub use Rattle.std.specs.Prelude.{unwrap_or}
pub use Rattle.byteorder.specs.Endian.{little_bytes, little_number}
pub use Rattle.sha2.specs.Hashers.{Holds256}
pub use Rattle.sha2.specs.Sha256.{sha256}
pub use borrow.Rule.Slice.PartMut.{post_of, put_mid}
pub use Rattle.dob_pieces.specs.declared.piece_set.PieceSet.{PieceSet}
pub use Rattle.dob_pieces.specs.declared.profile.Family.{Family}
pub use Rattle.dob_pieces.specs.declared.profile.Profile.{Profile}
pub use Rattle.dob_pieces.specs.declared.profile.Profile.TheVariants.{A, B}
pub use Rattle.dob_rank.specs.Families.{classes_of, family_of}
pub use Rattle.dob_distance.specs.Codes.{IsEntry, code_of_value, value_at_distance, value_of_code, values_of_codes}
pub use Rattle.dob_value.specs.Follows.{ClassTable, IsTable, class_table}
pub use Rattle.dob_distance.specs.declared.value.Value.{Value}
pub use Rattle.dob_device.specs.Devices.{GivesFirst, Stream, after, whole}
pub use Rattle.dob_dbfile.specs.Faults.{CountsClasses, HasDigest, HasHeader, HasHeaderFault, HasReadFault, HasTitle, IsHeaderShort, NamesClasses, NamesFamily}
pub use Rattle.dob_dbfile.specs.Faults.{NamesSet, PassesAll, SaysProfile, contents_len, count_place, file_len, header_len}
pub use Rattle.dob_dbfile.specs.Format.{IsFile, bytes_in, bytes_of, code_bytes, count_bytes, front_of, header_in, profile_bytes, records, set_bytes, title}
unfoldable pub use Rattle.dob_dbfile.specs.Format.{contents_in, digest_of}
pub use Rattle.dob_dbfile.specs.Looking.{HasFrontFault, HasRecord, RecordsAreEntries, place_of}
pub use Rattle.dob_dbfile.specs.Reading.{EndsWith, GivesFewer, HasDigestFault, HasRestFault, HashesNext, IsDigest, ReadsCodes, TakesBytes}
pub use Rattle.dob_device.specs.Sinks.{Puts, SinkState, StopsAfter, Writes, change}
pub use Rattle.dob_dbfile.specs.declared.fault.Fault.{Fault}
pub use Rattle.dob_dbfile.specs.declared.header.Format.{Format}
pub use Rattle.dob_dbfile.specs.declared.header.Format.TheVariants.{First, Second}
