-- The names that the proofs here use most, from other crates and the definitions of this one.
pub use Rattle.std.proofs.Common.{◌++◌, ◌∙◌, ◌∷◌, ◌≡◌, Bool, List, [], ap, length, refl, rules, subst, sym, ℕ}
pub use Rattle.std.proofs.lemmas.Result.{IfOk-weaker}
pub use Rattle.std.specs.List.{AllZip}
pub use Rattle.std.specs.Vec.Iter.{into_iter_items}
pub use Rattle.rtrb.specs.Ring.{ConsumerLooked, IsPair, ProducerLooked, SameConsumer, SameProducer, known_items, received, sent}
pub use Rattle.dob_pieces.proofs.Zips.{zip_at, zip_one}
pub use Rattle.dob_runner.specs.Runners.{HasFailed}
pub use Rattle.dob_runner.specs.TurnLoop.{EndsBy, Suits}
pub use Rattle.dob_runner.specs.declared.runner.Runner.{Runner}
pub use Rattle.dob_runner.specs.declared.turn_loop.Until.{Until}
pub use Rattle.dob_threads.specs.Started.{AreJoinable, IsEndOf, IsHandedOn, IsJoinable, IsStartOf}
pub use Rattle.dob_threads.specs.declared.handed.Handed.{Handed}
pub use Rattle.dob_threads.specs.declared.threads.Kept.{Kept}
