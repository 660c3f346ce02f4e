-- The names that the proofs here use most, from other crates and the definitions of this one.
pub use Rattle.std.proofs.Common.{◌%◌, ◌*◌, ◌++◌, ◌+◌, ◌-◌, ◌/◌, ◌<◌, ◌↔◌, ◌∙◌, ◌∷◌, ◌≡◌, ◌≤◌, ◌⊎◌, All, Bool, Err, List, Ok, Result, [], ap, append_assoc}
pub use Rattle.std.proofs.Common.{arith, cond, drop, eqb, false, get_or, inl, inr, leb, length, ltb, refl, rules, slice_index_or, subst, suc, sym, take, true}
pub use Rattle.std.proofs.Common.{zero, ℕ}
pub use Rattle.std.proofs.lemmas.Bool.{cases_Bool, cases_lt, eq-eqb, eqb-true, iff_false, le-leb, le-ltb, leb-true, lt-ltb, ltb-true}
pub use Rattle.std.proofs.lemmas.List.{append-nil, drop_more, length-append, take_at}
pub use Rattle.std.proofs.lemmas.Result.{IfErr-weaker, err_from_is_err_and}
pub use Rattle.std.specs.Result.{IfErr, IfOk, OnOk}
pub use Rattle.byteorder.specs.Endian.{little_bytes, little_number}
pub use Rattle.dob_pieces.specs.declared.profile.Family.{Family}
pub use Rattle.dob_rank.proofs.OfFamilies.ClassBounds.{classes_of-below}
pub use Rattle.dob_rank.specs.Families.{classes_of, family_of}
pub use Rattle.dob_certificate.specs.Ascending.{AreAscending, class_at}
pub use Rattle.dob_certificate.specs.declared.entry.Entry.{Entry}
pub use Rattle.dob_certificate.specs.declared.list_kind.ListKind.{ListKind}
pub use Rattle.dob_certificate.specs.declared.list_kind.ListKind.TheVariants.{Lost, Held}
pub use Rattle.dob_certfile.specs.Format.{Content, FitEntries, FitEntry, Fits, FitsClaim, FitsPlies, bytes_of, claim_bytes, content, entry_bytes, head_bytes}
pub use Rattle.dob_certfile.specs.Format.{plies_byte, certificate_title}
unfoldable pub use Rattle.dob_certfile.specs.Format.{contents_of, entries_bytes}
pub use Rattle.dob_certfile.specs.Reading.{◌>>=◌, FrontContent, HasCertFault, MayGive, byte_at, claim_at, claim_of_kind, few_at, part, plies_at}
pub use Rattle.dob_certfile.specs.Reading.{profile_at, wants, word}
unfoldable pub use Rattle.dob_certfile.specs.Reading.{entries_at, entry_at, family_at, file_at, front_at, number_at, seal_at, set_at}
pub use Rattle.dob_certfile.specs.declared.defect.Defect.{Defect}
pub use Rattle.dob_certfile.specs.declared.defect.Defect.TheVariants.{Digest, EntryClass, EntryCount, EntryNumber, EntryOrder, Magic, ProfileByte, RootClass}
pub use Rattle.dob_certfile.specs.declared.defect.Defect.TheVariants.{SetByte, Truncated, Version}
