-- Piece after piece goes on from the records before it.
use Rattle.dob_dbfile.proofs.Common.{◌++◌, ◌∙◌, List, ap, append_assoc, arith, subst, take, take_all, ℕ, Holds256, code_bytes, front_of}
use Rattle.dob_dbfile.proofs.digest.FileHasher.with.Goals as goal

pub pieces-preserved : goal.pieces-preserved
pieces-preserved c =
    let before = code_bytes (take c.pieces.class c.args.codes.now) in (
      omega (arith, c.min-end.ensures),
      omega (arith, c.put_records.ensures.capacity, c.pieces.invariant.1),
      λ family count taken.
          let front = front_of family count in
          subst (Holds256 c.update.new.self)
          (append_assoc front before c.put_records.new.bytes.items ∙ ap (λ (bytes : List ℕ). front ++ bytes) c.put_records.ensures.records)
          (c.update.ensures (front ++ before) (c.pieces.invariant.2 family count taken)),
    )

pub returns : goal.returns
returns c = λ family count taken.
    let all = take_all c.pieces.class c.args.codes.now (omega (arith, c.pieces-test.false, c.len-count.ensures.count)) in
    record { held = subst (λ (codes : List ℕ). Holds256 c.pieces.hasher (front_of family count ++ code_bytes codes)) all (c.pieces.invariant.2 family count taken) }
