-- What the proofs cite of definitions and of lemmas below, so that a file names it in one line.
pub use Rattle.atomic_table.proofs.Lists.{at_set, set_else}
pub use Rattle.atomic_table.specs.Seated.{TableId}
pub use Rattle.atomic_table.specs.Table.{Allows, Joins, keeps, Me, Splits, State, step}
pub use Rattle.dob_board.specs.Boards.{AreAsWitnessed, AreRead, unseated, closed_view, first_words, IsWord, joined, LeadsTo, nobody, Read}
pub use Rattle.dob_board.specs.Histories.{halt_told, HasHalt, HasPosted, HasToken, IsInTime, IsLaterLog, MakesEvent, Observes, Runs, token_moves_of}
pub use Rattle.dob_board.specs.Plays.{Announced, Announcing, FailedRun, first_of, Halted, Looked, LooksAt, Met, others_of, own_stand, Passed}
pub use Rattle.dob_board.specs.Plays.{Exchanged, Posted, Took}
pub use Rattle.dob_board.specs.Rule.{fresh, IsHeld, IsNode, IsView, nodes_in, whole}
pub use Rattle.dob_board.specs.Seats.{AreSeats, AreWords, IsBoardHistory, IsSameSeat, IsSeatOf, log_of, MayEnd, stand_of}
pub use Rattle.dob_board.specs.Seats.{TakesOne, witnessed_by}
pub use Rattle.dob_board.specs.Views.{counter_of, finds, IsInBounds, IsStand, IsTokenInBounds, KnowsHalt, meets, one, passed_by, passes, posts_more, sees, Shows, takes_more}
pub use Rattle.dob_board.specs.Views.{token_at}
pub use Rattle.dob_board.specs.Words.{halt_after, halt_word, posted_word, ring_of, taken_word, word_count}
pub use Rattle.dob_board.specs.declared.board.Closed.{Closed}
pub use Rattle.dob_board.specs.declared.halt.Halt.{Halt}
pub use Rattle.dob_board.specs.declared.halt.Halt.TheVariants.{Ended, Failed, Running}
pub use Rattle.dob_board.specs.declared.seat.NodeSeat.{NodeSeat}
pub use Rattle.dob_board.specs.declared.view.BoardEvent.{BoardEvent}
pub use Rattle.dob_board.specs.declared.view.BoardEvent.TheVariants.{Failure, OfRing}
pub use Rattle.dob_board.specs.declared.view.SeatState.{SeatState}
pub use Rattle.dob_board.specs.declared.view.View.{View}
pub use Rattle.dob_pieces.proofs.Elements.{at_end, get_front, middle, some_at}
pub use Rattle.dob_safra.proofs.Kept.{moved_kept, raised_at_least, raised_at_most}
pub use Rattle.dob_safra.proofs.Sums.{sum_same}
pub use Rattle.dob_safra.specs.Laws.{HasFew, IsSize}
pub use Rattle.dob_safra.specs.Rings.{Announces, black_token, Colours, ColoursStay, counter, CountsStay, IsLawfulRing, IsStart, Moved, Passes, Posts, Raises}
pub use Rattle.dob_safra.specs.Rings.{Ring, sum_below, Takes}
pub use Rattle.dob_safra.specs.Tokens.{first_token, IsPacked, IsToken, MayAnnounce, passed_on}
pub use Rattle.dob_safra.specs.declared.event.RingEvent.{RingEvent}
pub use Rattle.dob_safra.specs.declared.event.RingEvent.TheVariants.{Announce, Pass, Post, Take}
pub use Rattle.dob_safra.specs.declared.token.Token.{Token}
pub use Rattle.std.proofs.Math.IntN.{neg_ℤ, pos, ℤ, ◌-ℤ◌}
pub use Rattle.std.proofs.lemmas.Bool.{cases_eq, false_from_ne_true}
pub use Rattle.std.proofs.lemmas.Grind.{replicate_next}
pub use Rattle.std.proofs.lemmas.Int.{ints, to_z-of_z, to_z_pos}
pub use Rattle.std.proofs.lemmas.List.{length-map, length-replicate, map-append}
pub use Rattle.std.proofs.lemmas.List.Sums.{sum_by-cons, sum_by_push}
pub use Rattle.std.proofs.lemmas.Nat.{mul-add-lt, same_from_place}
pub use Rattle.std.proofs.lemmas.Option.{same_Some, slice_get_within}
pub use Rattle.std.specs.Prelude.{replicate, slice_get, slice_index, slice_set, sum, ◌≤ℤ◌}
pub use lib.ListN.{get_elem?}
pub use mathlib.Core.Option.{none, some, some-injective, some-ne-none}
pub use prog.Atomic.{either}
