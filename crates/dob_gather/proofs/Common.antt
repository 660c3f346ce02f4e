-- The names that the proofs here use most, from other crates and the definitions of this one.
pub use Rattle.std.proofs.Common.{◌++◌, ◌+◌, ◌-◌, ◌<◌, ◌∙◌, ◌∷◌, ◌≡◌, ◌≤◌, ◌⊎◌, List, Result, Some, [], ap}
pub use Rattle.std.proofs.Common.{arith, inl, inr, length, length-append, map, refl, subst, suc, sym}
pub use Rattle.std.proofs.Common.{zero, ℕ, ⊎_elim}
pub use Rattle.std.proofs.lemmas.List.{length-map}
pub use Rattle.std.proofs.lemmas.Option.{same_Some, slice_get-get_or}
pub use Rattle.std.specs.List.{All, AllZip, range_with_len}
pub use Rattle.std.specs.Prelude.{IfOk, slice_get, slice_index_or}
pub use Rattle.dob_pieces.proofs.Elements.{read_there, some_at}
pub use Rattle.dob_pieces.proofs.Zips.{as_many, each_is}
pub use Rattle.dob_pieces.specs.declared.profile.Family.{Family}
pub use Rattle.dob_rank.specs.Families.{classes_of}
pub use Rattle.dob_value.specs.Follows.{ClassTable}
pub use Rattle.dob_distance.specs.declared.value.Value.{Value}
pub use Rattle.dob_share.specs.Owners.{owner_of}
pub use Rattle.dob_share.specs.Shares.{HasValueNow}
pub use Rattle.dob_share.specs.declared.share.Share.{Share}
pub use Rattle.dob_history.proofs.Rest.{below_owner}
pub use Rattle.dob_gather.specs.Owners.{AreOwners, AreShownBelow, IsCodeShown}
pub use Rattle.dob_gather.specs.Owners.{IsShownByOwner}
pub use Rattle.dob_gather.specs.Gathering.{AreHashed}
pub use Rattle.dob_gather.specs.Scans.{AreFrom}
pub use Rattle.dob_dbfile.specs.Digests.{HasTaken}
pub use Rattle.dob_distance.specs.Codes.{IsEntry, value_of_code, values_of_codes}
