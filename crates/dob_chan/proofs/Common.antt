-- The names that the proofs here use most, from other crates and the definitions of this one.
pub use Rattle.std.proofs.Common.{◌++◌, ◌<◌, ◌∙◌, ◌∷◌, ◌≡◌, ◌≢◌, ◌≤◌, List, [], ap, append_assoc, arith, cond, length, length-append, nat_eq, refl, rules, set}
pub use Rattle.std.proofs.Common.{slice_index, slice_index_or, subst, suc, sym, true, true≢false, vec_len, zero, ℕ, ⊎_elim}
pub use Rattle.std.proofs.lemmas.Bool.Decides.{eqb_tells}
pub use Rattle.std.proofs.lemmas.List.{append-nil, map-append}
pub use Rattle.std.specs.Prelude.{All, Some, slice_get}
pub use Rattle.crossbeam_queue.specs.Fifo.{Forks, Held, Learns, Merges, Pops, Pushes}
pub use Rattle.crossbeam_queue.specs.Passes.{IsPassOf, IsSamePass, Pass, ruled_capacity, view}
pub use Rattle.dob_pieces.proofs.Elements.{at_end, middle, read_there, some_at}
pub use Rattle.dob_update.specs.Batches.{BatchView}
pub use Rattle.dob_chan.specs.Ends.{AreEndsOf, AreOpened, AreRejoined, AreStill, IsEndOpened, TakesFromSame, place_of, sent_by, taken_by}
pub use Rattle.dob_chan.specs.Inboxes.{AreLeft, IsLawfulInbox, batches_of, sent_by_ended, taking, untold}
pub use Rattle.dob_chan.specs.Rooms.{AreFilled, AreRooms, AreRoomy, HasRoom}
pub use Rattle.dob_chan.specs.declared.ends.SendEnd.{SendEnd}
pub use Rattle.dob_chan.specs.declared.ends.TakeEnd.{TakeEnd}
pub use Rattle.dob_chan.specs.declared.rule.Note.{Note}
