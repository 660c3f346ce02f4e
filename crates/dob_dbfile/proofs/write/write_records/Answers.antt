-- Piece after piece the records go in.
use Rattle.dob_dbfile.proofs.Common.{◌*◌, ◌++◌, ◌∙◌, ◌≡◌, List, ap, arith, drop, subst, take, ℕ, err_from_is_err_and, code_bytes, Writes, change}
use Rattle.dob_device.proofs.Sinks.{writes_more, writes_none}
use Rattle.dob_dbfile.proofs.Parts.{stops_past}
use Rattle.dob_dbfile.proofs.CodeBytes.{codes_len, codes_part}
use Rattle.dob_dbfile.proofs.write.write_records.Goals.{After-deref}
use Rattle.dob_dbfile.proofs.write.write_records.Goals as goal

-- the piece goes on from the records before it
joined : (g : _) (c : After-deref g) → code_bytes (take c.pieces.class c.args.codes.now) ++ c.deref.result.now ≡ code_bytes (take c.min-end.result c.args.codes.now)
joined g c = ap (λ (bytes : List ℕ). code_bytes (take c.pieces.class c.args.codes.now) ++ bytes) c.deref.ensures.value ∙ c.put_records.ensures.records

pub pieces-init : goal.pieces-init
pieces-init g c = (omega arith, c.requires, writes_none (g.W.Sink.state c.args.sink.now))

pub pieces-preserved : goal.pieces-preserved
pieces-preserved g c = (
  omega (arith, c.min-end.ensures),
  omega (arith, c.put_records.ensures.capacity, c.pieces.invariant.1),
  subst (Writes (change (g.W.Sink.state c.args.sink.now) (g.W.Sink.state c.write_after.new.sink))) (joined g (goal.at.pieces-preserved g c).After-deref)
      (writes_more (g.W.Sink.state c.args.sink.now) (g.W.Sink.state c.pieces.sink) (g.W.Sink.state c.write_after.new.sink)
      (code_bytes (take c.pieces.class c.args.codes.now)) c.deref.result.now c.pieces.invariant.2 c.in_ok-write_after.ensures.done),
)

pub returns-in_err-write_after-clause-part : goal.returns-in_err-write_after-clause-part
returns-in_err-write_after-clause-part g c =
    let p = err_from_is_err_and c.from_residual.result c.from_residual.ensures.1 in
    let codes = c.args.codes.now in
    let class = c.pieces.class in
    rw (p.1, p.2) (stops_past (g.W.Sink.state c.args.sink.now) (g.W.Sink.state c.pieces.sink) (g.W.Sink.state c.write_after.new.sink) 21 (2 * class)
    (code_bytes (take class codes)) c.deref.result.now (code_bytes (drop c.min-end.result codes)) (code_bytes codes) _ c.pieces.invariant.2
    (codes_len codes class (omega (arith, c.pieces.invariant.0, c.len-count.ensures.count)))
    (codes_part codes class c.min-end.result c.deref.result.now (joined g (goal.at.returns-in_err-write_after-clause-part g c).After-deref))
    c.in_err-write_after.ensures.part)
