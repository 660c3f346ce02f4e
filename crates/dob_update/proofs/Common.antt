-- The names that the proofs here use most, from other crates and the definitions of this one.
pub use Rattle.std.proofs.Common.{◌++◌, ◌+◌, ◌-◌, ◌<◌, ◌==◌, ◌^◌, ◌↔◌, ◌∙◌, ◌∷◌, ◌≡◌, ◌≢◌, ◌≤◌, Bool, IsTrue, List, [], ap, arith, cond, drop, false, get_or}
pub use Rattle.std.proofs.Common.{inl, inr, length, length-append, length-drop, length-take-le, min, refl, rules, subst, sym, take, true, ℕ}
pub use Rattle.std.proofs.lemmas.Bool.{cases_lt}
pub use Rattle.std.proofs.lemmas.Bool.Decides.{nat_tests}
pub use Rattle.std.proofs.lemmas.Grind.{common_steps, flat_map-append}
pub use Rattle.std.proofs.lemmas.List.{append-nil, append_assoc, drop-append-le, drop-drop, drop_all, drop_at, drop_min, drop_more, length-map, map-append}
pub use Rattle.std.proofs.lemmas.List.{take-append-le, take-take, take_all, take_min}
pub use Rattle.std.specs.List.{filter, All}
pub use Rattle.std.specs.Prelude.{map}
pub use Rattle.dob_pieces.proofs.Results.{on_err}
pub use Rattle.dob_pieces.specs.declared.profile.Family.{Family}
pub use Rattle.dob_unmove.specs.Edges.{predecessors}
pub use Rattle.dob_share.specs.Owners.{owner_of}
pub use Rattle.dob_share.specs.declared.news.Item.{Item}
pub use Rattle.dob_share.specs.declared.news.Settlement.{Settlement}
pub use Rattle.dob_update.specs.Batches.{BatchView, IsBatch, IsCut, IsFront, IsOutbox, OutboxState, OutboxView, added, items_for, with_items}
pub use Rattle.dob_share.specs.Items.{item_for, items_in_all, items_of, items_of_parts, target_of, PartView, HasItem}
pub use Rattle.dob_update.specs.Parts.{AreParts, AreWhole, left_after, front, settlement_of, settlements_of, skip_after}
pub use Rattle.dob_update.specs.Parts.{with_number}
pub use Rattle.dob_update.specs.Queues.{AreQueued, QueueView, queued, room_of, with_part}
pub use Rattle.dob_update.specs.Runs.{AreItemsRun, AreListed, IsItemRun, IsRest, count_for}
pub use Rattle.dob_share.proofs.PartItems.{items_of_parts-length, targets_of_parts}
pub use Rattle.std.proofs.Common.{Some, ap₂, slice_get, vec_capacity, vec_len}
pub use Rattle.std.proofs.lemmas.List.Elements.{All-cons, All-nil}
pub use Rattle.std.proofs.lemmas.List.Sums.{count_by-le-length, length-filter}
