-- The names that the proofs here use most, from other crates and the definitions of this one.
pub use Rattle.std.proofs.Common.{◌%◌, ◌*◌, ◌++◌, ◌+◌, ◌-◌, ◌/◌, ◌<◌, ◌^◌, ◌∙◌, ◌∷◌, ◌≡◌, ◌≢◌, ◌≤◌, ◌⊎◌, Bool, Err, FitsSigned, IfOk, IfSome, List, None, Ok}
pub use Rattle.std.proofs.Common.{Option, Some, [], add-one, ap, append_assoc, arith, cond, drop, eqb, false, get_or, get_or-set_other, get_or-set_same, inl}
pub use Rattle.std.proofs.Common.{inr, length, nat_eq, nat_lt, of_z, pos, refl, rules, set, slice_get, subst, suc, sym, take, to_z, true, w64, zero, ℕ}
pub use Rattle.std.proofs.Math.Nat.{mod-add-div', mod-eq-sub-div-mul}
pub use Rattle.std.proofs.lemmas.Bool.{and_cases, and_parts, and_right, cases_Bool, cases_eq, cases_lt, eq-eqb, eqb-true, lt-ltb, ltb-true, ne_eqb, true≢false}
pub use Rattle.std.proofs.lemmas.Int.{ints, to_z-of_z}
pub use Rattle.std.proofs.lemmas.List.{append-nil, get_or_default, length-append, length-replicate, length-set, take-append-drop, take_all}
pub use Rattle.std.proofs.lemmas.List.Elements.{All-append, All-cons, All-head, All-nil, All-tail}
pub use Rattle.std.proofs.lemmas.Nat.{div-mul-add, mul-add-lt, same_from_place}
pub use Rattle.std.proofs.lemmas.Option.{same_Some, slice_get-get_or, slice_get_within}
pub use Rattle.std.specs.List.{All}
pub use Rattle.std.specs.Prelude.{◌≤ℤ◌, MatchOption, slice_index, slice_index_or, vec_len}
pub use Rattle.dob_pieces.proofs.Elements.{at_end, get_set_other, get_set_same, read_there, some_at}
pub use Rattle.dob_pieces.specs.declared.profile.Family.{Family}
pub use Rattle.dob_moves.proofs.Cases.{one_status}
pub use Rattle.dob_moves.specs.Statuses.{HasStatus}
pub use Rattle.dob_moves.specs.declared.position_status.Status.{Status}
pub use Rattle.dob_moves.specs.declared.position_status.Status.TheVariants.{Open}
pub use Rattle.dob_rank.specs.Families.{class_setup, classes_of}
pub use Rattle.dob_distance.specs.Codes.{IsEntry}
pub use Rattle.dob_distance.specs.declared.value.Value.TheVariants.{Draw}
pub use Rattle.dob_unmove.specs.Edges.{predecessors}
pub use Rattle.dob_safra.proofs.Kept.{lawful_fits, moved_kept}
pub use Rattle.dob_safra.proofs.Sums.{sum_same}
pub use Rattle.dob_safra.specs.Laws.{IsRingQuiet, IsSize}
pub use Rattle.dob_safra.specs.Rings.{AllTaken, AllWhite, CountsStay, IsLawfulRing, Moved, Ring, counter, in_flight, sum_below, Raises}
pub use Rattle.dob_safra.specs.declared.token.Token.{Token}
pub use Rattle.dob_share.specs.Cells.{Cell, CellCanTake, CellValue, SameCell, changed, fresh}
pub use Rattle.dob_share.specs.Owners.{owner_of}
pub use Rattle.dob_share.specs.Shares.{HasValueNow, IsOwn, cell_at, places_of, status_at}
pub use Rattle.dob_share.specs.declared.news.Item.{Item}
pub use Rattle.dob_share.specs.declared.news.Settlement.{Settlement}
pub use Rattle.dob_share.specs.declared.opening.Opening.{Opening}
pub use Rattle.dob_share.specs.declared.share.Share.{Share}
pub use Rattle.dob_update.specs.Batches.{BatchView, OutboxView, empty_outbox, items_of_batches}
pub use Rattle.dob_share.specs.Items.{items_from, items_of}
pub use Rattle.dob_share.specs.declared.cause.Cause.{Cause}
pub use Rattle.dob_share.specs.declared.build_fault.BuildFault.{BuildFault}
pub use Rattle.dob_share.specs.declared.build_fault.BuildFault.TheVariants.{Stopped}
pub use Rattle.dob_node.proofs.Nodes.{kept_sound, outbox_same}
pub use Rattle.dob_history.proofs.Rest.{below_owner}
pub use Rattle.dob_history.proofs.Settles.{emitted_all, emitted_grown, emitted_more, items_from-append}
pub use Rattle.dob_node.proofs.ShownValues.{value_shown, values_given}
pub use Rattle.dob_node.proofs.TakenLists.{before_since, taken_since}
pub use Rattle.dob_history.proofs.Totals.{some_known, start_sums}
pub use Rattle.dob_history.proofs.ValuesFollow.{SumsUp-same, value_follows}
pub use Rattle.dob_history.specs.Histories.{AreValuesBelow, IsChained, value_of}
pub use Rattle.dob_history.specs.Lawful.{CanApply, known_of}
pub use Rattle.dob_node.specs.Nodes.{HasApplied, HasCut, HasItemFault, HasTaken, IsExpanded, IsOpened, IsSound, IsUnchanged, outbox_to}
pub use Rattle.dob_history.specs.Stores.{HistoryView}
pub use Rattle.dob_history.specs.TakenItems.{AreKept, AreTaken, IsReason, IsTaken}
pub use Rattle.dob_node.specs.declared.node.Node.{Node}
pub use Rattle.dob_world.specs.Effects.{IsEventDone, IsMade, IsSkipped, IsStopped, IsWorldUnchanged}
pub use Rattle.dob_world.specs.Events.{Applies, AppliesItems, AppliesOwn, CanHappen, ExpandsAt, Happens, LinksStay, NodesStay, OtherLinksStay, Posts, Stays}
pub use Rattle.dob_world.specs.Events.{TakesBatch, WorldMayEnd}
pub use Rattle.dob_world.specs.Headline.{AreBeginnings, HaveKnownValues, Headline}
pub use Rattle.dob_world.specs.Lanes.{HasListed, HasReceivedFront, HasSentBatch, HasTakenBatch, IsBatchTo, LaneStays}
pub use Rattle.dob_world.specs.Laws.{EndIsRest, EndIsSilent, EventsKeepAll, HappeningKeepsAll, HappeningKeepsMatch, HeadlineHolds, ListsAreBeginnings}
pub use Rattle.dob_world.specs.Laws.{OwnItemFits, RestIsRight, RestStays, StillIsEnded, TakenItemFits}
pub use Rattle.dob_world.specs.Links.{LinkView, link_of}
pub use Rattle.dob_world.specs.Results.{HasDriven, HasMadeRound, HasRunEvents, HasStoppedAt, SomeCan, StopsInRounds}
pub use Rattle.dob_world.specs.Rounds.{IsStill, round_event, round_length}
pub use Rattle.dob_world.specs.Runs.{IsAfter, IsAfterSteps, IsDoneOrSkipped, IsStepOf}
pub use Rattle.dob_world.specs.Shown.{lane_at, part, ring_of, setting_of, state_of}
unfoldable pub use Rattle.dob_world.specs.Shown.{nodes_shown, world_shown}
pub use Rattle.dob_world.specs.Standing.{AreCutsPosted, AreInPlace, CanCount, HasAtMost, HasOpenings, IsCounted, IsLaneOf, IsLeft, IsNodeOf, IsSetting}
pub use Rattle.dob_world.specs.Standing.{IsStanding, Stand, StandsOrStopped}
pub use Rattle.dob_world.specs.Start.{AreEmptyLanes, AreOpenedNodes, IsEmptyLane, IsWorldStart}
pub use Rattle.dob_world.specs.Stops.{IsCauseOf, IsForMemory, IsLeftBy, IsStopBy, IsStopInRounds, TakesFront}
pub use Rattle.dob_world.specs.Worlds.{AreLawful, HaveFallsIn, IsAtRest, IsLinked, IsNodeIdle, Matches, Nodes, Setting, State, WorldView, emitted_in, items_in}
pub use Rattle.dob_world.specs.Worlds.{setting_by, value_in, waiting_batches}
pub use Rattle.dob_world.specs.declared.detector.Detector.{Detector}
pub use Rattle.dob_world.specs.declared.event.Event.{Event}
pub use Rattle.dob_world.specs.declared.event.Event.TheVariants.{Announce, Expand, Own, Pass, Post, Take}
pub use Rattle.dob_world.specs.declared.lane.Lane.{Lane}
pub use Rattle.dob_world.specs.declared.world.World.{World}
pub use Rattle.std.proofs.Math.IntN.{◌-ℤ◌}
