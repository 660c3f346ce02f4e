-- The names that the proofs here use most, from other crates and the definitions of this one.
pub use Rattle.std.proofs.Common.{◌*◌, ◌++◌, ◌+◌, ◌/◌, ◌<◌, ◌^◌, ◌↔◌, ◌∙◌, ◌∷◌, ◌≡◌, ◌≢◌, ◌≤◌, Bool, Err, List, None, Ok, Option, Result, Some, []}
pub use Rattle.std.proofs.Common.{ap, arith, cond, eqb, get_or, inl, inr, length, refl, rules, set, slice_get, subst, sym, true, ℕ, ap₂, drop, vec_len}
pub use Rattle.std.proofs.Math.ListN.{get_or-eq_default}
pub use Rattle.std.proofs.Math.Seq.{drop-nil}
pub use Rattle.std.proofs.lemmas.Bool.{cases_eq, cases_lt, eq-eqb}
pub use Rattle.std.proofs.lemmas.Bool.Decides.{nat_tests}
pub use Rattle.std.proofs.lemmas.List.{append-nil, get_or-set_other, get_or-set_same, get_or_append_left, get_or_default, length-append, length-set}
pub use Rattle.std.proofs.lemmas.Nat.{div-mul-add, mod-mul-add}
pub use Rattle.std.proofs.lemmas.Option.{get_or_from_slice_get, slice_get-get_or, slice_get_within}
pub use Rattle.std.proofs.lemmas.Result.{IfOk-weaker, err_from_is_err_and}
pub use Rattle.std.specs.List.{All}
pub use Rattle.std.specs.Prelude.{IfSome, IsNone}
pub use Rattle.std.specs.Result.{IfErr}
pub use Rattle.dob_pieces.proofs.Elements.{at_end}
pub use Rattle.dob_pieces.specs.declared.profile.Family.{Family}
pub use Rattle.dob_moves.specs.Statuses.{HasStatus}
pub use Rattle.dob_moves.specs.declared.position_status.Status.{Status}
pub use Rattle.dob_moves.specs.declared.position_status.Status.TheVariants.{Open}
pub use Rattle.dob_rank.specs.Families.{class_setup, classes_of}
pub use Rattle.dob_value.specs.Follows.{AreGiven}
pub use Rattle.dob_distance.specs.declared.value.Value.{Value}
pub use Rattle.dob_distance.specs.declared.value.Value.TheVariants.{Draw}
pub use Rattle.dob_unmove.specs.Edges.{predecessors}
pub use Rattle.dob_share.specs.Cells.{Cell, CellValue, SameCell, fresh}
pub use Rattle.dob_share.specs.Openings.{opening_of}
pub use Rattle.dob_share.specs.Owners.{class_of_place}
pub use Rattle.dob_share.specs.Shares.{HasSettled, HasValueNow, IsNewShare, IsValue, cell_at}
unfoldable pub use Rattle.dob_share.specs.Shares.{Fits, IsOwn, places_of, status_at}
pub use Rattle.dob_share.specs.Statuses.{StatusesView}
pub use Rattle.dob_share.specs.Values.{Better, NoWorse}
pub use Rattle.dob_share.specs.declared.news.Item.{Item}
pub use Rattle.dob_share.specs.declared.news.Settlement.{Settlement}
pub use Rattle.dob_share.specs.declared.opening.Opening.{Opening}
pub use Rattle.dob_share.specs.declared.share.Share.{Share}
pub use Rattle.dob_update.specs.Batches.{BatchView, IsCut, OutboxState, OutboxView, added, empty_outbox}
pub use Rattle.dob_update.specs.Queues.{queued}
pub use Rattle.dob_share.specs.Items.{items_of, items_of_parts}
pub use Rattle.dob_share.specs.declared.cause.Cause.{Cause}
pub use Rattle.dob_history.specs.Histories.{AreValuesBelow, value_of}
pub use Rattle.dob_history.specs.Lawful.{AreLawfulNodes}
pub use Rattle.dob_node.specs.NodeSteps.{AppliesAll, AppliesEveryOwn}
pub use Rattle.dob_node.specs.NodeViews.{NodeView, going, node_of}
pub use Rattle.dob_node.specs.Nodes.{AreValuesNow, HasItemFault, HasTaken, HasTakenBefore, IsOpened, IsOpenedBy, IsOpenedOf, IsSound, IsUnchanged, outbox_to}
pub use Rattle.dob_history.specs.OpeningLists.{opening_settlements, opening_status}
pub use Rattle.dob_history.specs.Openings.{AreOpenings}
pub use Rattle.dob_node.specs.Outboxes.{AreAdded, HaveRoom, IsCutFrom, IsOutboxTo, outbox_in, sends_of}
pub use Rattle.dob_history.specs.Stores.{HistoryView, start_status, starts_of}
pub use Rattle.dob_history.specs.TakenItems.{AreKept, AreTaken, AreTakenBefore, HasParities, IsHistory, IsTaken, StayKept, StopsAt, StopsFirst, listed}
pub use Rattle.dob_history.proofs.Kepts.{kept_own}
pub use Rattle.std.proofs.lemmas.Grind.{common_steps}
pub use Rattle.std.proofs.lemmas.List.{get_or-map, length-map, map-set}
