-- The names that the proofs here use most, from other crates and the definitions of this one.
pub use Rattle.std.proofs.Common.{◌%◌, ◌+◌, ◌<◌, ◌∙◌, ◌≡◌, ◌≤◌, Err, List, Ok, Result, Some, ap, arith, get_or, inl, inr, length, option_map, refl, slice_get}
pub use Rattle.std.proofs.Common.{subst, suc, sym, true, zero, ℕ}
pub use Rattle.std.proofs.lemmas.Bool.{cases_eq, cases_lt, le-leb, leb-true}
pub use Rattle.std.proofs.lemmas.List.{get_or-map, length-map}
pub use Rattle.std.proofs.lemmas.Option.{slice_get-map}
pub use Rattle.std.specs.List.{All}
pub use Rattle.dob_pieces.specs.declared.profile.Profile.{Profile}
pub use Rattle.dob_pieces.specs.declared.setup.Setup.{Setup}
pub use Rattle.dob_moves.proofs.ProfileMoves.{Goes-mirrored, HasStatus-mirrored, IsLegal-Goes}
pub use Rattle.dob_moves.specs.Moves.{Goes}
pub use Rattle.dob_moves.specs.Statuses.{HasStatus}
pub use Rattle.dob_moves.specs.declared.game_move.Move.{Move}
pub use Rattle.dob_moves.specs.declared.position_status.Status.TheVariants.{Caught, Open, Stuck, Tried}
pub use Rattle.dob_distance.specs.Codes.{IsEntry, IsShort, ValuesHaveParity, value_of_code, values_of_codes}
pub use Rattle.dob_distance.specs.Depths.{LostStaysLost, MirrorsHaveOneOutlook, MirrorsHaveOneValue, OneValue, SameOutlook, WonStaysWon}
pub use Rattle.dob_distance.specs.Entries.{IsCutOff, Tells, is_draw}
pub use Rattle.dob_distance.specs.Values.{HasLost, HasValue, Lost, Won}
pub use Rattle.dob_distance.specs.declared.value.TheConstants.{MAX_DISTANCE}
pub use Rattle.dob_distance.specs.declared.value.Value.{Value}
pub use Rattle.dob_distance.specs.declared.value.Value.TheVariants.{Draw, Loss, Win}
