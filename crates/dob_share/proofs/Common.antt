-- The names that the proofs here use most, from other crates and the definitions of this one.
pub use Rattle.std.proofs.Common.{◌%◌, ◌*◌, ◌++◌, ◌+◌, ◌-◌, ◌/◌, ◌<◌, ◌^◌, ◌↔◌, ◌∙◌, ◌∷◌, ◌≡◌, ◌≤◌, ◌⊎◌, Bool, Contains, Err, List}
pub use Rattle.std.proofs.Common.{MatchOption, None, Ok, Option, Result, Some, [], add-one, ap, arith, bit_and, bit_or, cond, get_or, inl, inr, length}
pub use Rattle.std.proofs.Common.{min, refl, replicate, slice_get, subst, suc, sym, true, zero, ℕ}
pub use Rattle.std.proofs.Math.ListN.{length-set, set}
pub use Rattle.std.proofs.Math.Nat.{add-mul-div_right, mod-eq_of_lt, mod-lt, mul-le-mul_right}
pub use Rattle.std.proofs.lemmas.Bool.{cases_Bool, cases_eq, cases_lt, cond_below, eq-eqb}
pub use Rattle.std.proofs.lemmas.Bool.Decides.{nat_tests}
pub use Rattle.std.proofs.lemmas.List.{append-nil, get_or-set_other, get_or-set_same, get_or_append_left, get_or_default, get_or_past, get_or_push}
pub use Rattle.std.proofs.lemmas.List.{length-replicate, length_push, set-get_or}
pub use Rattle.std.proofs.lemmas.List.Elements.{Contains-append_cases, Contains-append_left, Contains-append_right}
pub use Rattle.std.proofs.lemmas.List.Sums.{sum_by-append, sum_by-cons}
pub use Rattle.std.proofs.lemmas.Nat.{and_mask, div-add-mod', div-mul-add, le-div, mod-pow-add, one_shl, ones_cat, pow-add, pow_pos}
pub use Rattle.std.specs.Arc.{arc_value}
unfoldable pub use Rattle.std.specs.Int.Count.{ones}
pub use Rattle.std.specs.List.{count_by}
pub use Rattle.dob_pieces.proofs.Lists.{cons_cases, head_in, none_in_empty}
pub use Rattle.dob_moves.specs.declared.position_status.Status.{Status}
pub use Rattle.dob_moves.specs.declared.position_status.Status.TheVariants.{Open, Stuck}
pub use Rattle.dob_distance.specs.Distances.{IsLeastLoss, greater_of, lesser_of}
pub use Rattle.dob_distance.specs.Entries.{is_draw}
pub use Rattle.dob_distance.specs.declared.value.Value.{Value}
pub use Rattle.dob_distance.specs.declared.value.Value.TheVariants.{Draw, Loss, Win}
pub use Rattle.dob_share.specs.Cells.{Cell, CellCanTake, CellValue, Changes, IsGreatestIn, KnowsLossWithin, SameCell, SumsUp, changed, fresh, less_at, more_at}
pub use Rattle.dob_share.specs.Openings.{AreOpened, AreOwn, ArePlaced, cell_moves, moves_where, new_slot, opening_of, settled_among, settles, slots_where}
pub use Rattle.dob_share.specs.Owners.{class_of_place}
pub use Rattle.dob_share.specs.Pools.{ChangesRun, moves_at, tally, vacant}
unfoldable pub use Rattle.dob_share.specs.Pools.{wins_in}
pub use Rattle.dob_share.specs.Shares.{IsNewShare, cell_where}
unfoldable pub use Rattle.dob_share.specs.Shares.{IsOwn, IsOwnOpen, cell_at, open_number, places_of, status_at}
pub use Rattle.dob_share.specs.Slots.{ArePooled, IsShortCell, beyond, cell_by, cell_of, least_of, room_at, slot_at, start_at}
unfoldable pub use Rattle.dob_share.specs.Slots.{cell_in}
pub use Rattle.dob_share.specs.Statuses.{AreCounted, IsStatusOf, StatusesView, bit, bits_below, catches, open_at, opens, opens_below, status_in, status_listed}
pub use Rattle.dob_share.specs.Statuses.{tries, word_of}
pub use Rattle.dob_share.specs.Steps.{IsApplied, IsChange, IsTooDeep}
pub use Rattle.dob_share.specs.Values.{Better, NoWorse, is_win_in}
pub use Rattle.dob_share.specs.declared.cells.CellHead.{CellHead}
pub use Rattle.dob_share.specs.declared.fault.Fault.{Fault}
pub use Rattle.dob_share.specs.declared.fault.Fault.TheVariants.{Contradiction, TooDeep}
pub use Rattle.dob_share.specs.declared.opening.Opening.{Opening}
pub use Rattle.dob_share.specs.declared.share.Share.{Share}
pub use Rattle.dob_share.specs.declared.statuses.StatusWord.{StatusWord}
