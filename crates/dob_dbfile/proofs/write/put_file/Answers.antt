-- Header, records and digest go in one after the other.
use Rattle.dob_dbfile.proofs.Common.{◌*◌, ◌++◌, ◌+◌, ◌∙◌, ◌≡◌, List, [], ap, length, refl, subst, sym, ℕ, IfErr-weaker, err_from_is_err_and, length-map, on_ok_weaker}
use Rattle.dob_dbfile.proofs.Common.{sha256, bytes_of, code_bytes, contents_in, header_in, records, value_of_code, Puts, Writes, change, Second}
use Rattle.dob_dbfile.proofs.CodeBytes.{records-codes}
use Rattle.dob_dbfile.proofs.FileBytes.{digest_is, header_records, length-contents, parts_after}
use Rattle.dob_device.proofs.Sinks.{puts_more, writes_more, writes_none}
use Rattle.dob_dbfile.proofs.Parts.{stops_past, stops_last}
use Rattle.dob_dbfile.proofs.write.put_file.Goals as goal
use Rattle.dob_dbfile.proofs.write.put_file.Goals.{After-codes-codes, After-deref, In_ok-write_records}

-- the records are those of the table
are : (g : _) (c : After-codes-codes g) → code_bytes c.codes-codes.result.now ≡ records c.args.table.now.values
are g c = sym (records-codes c.codes-codes.result.now) ∙ ap records c.codes-codes.ensures

-- the piece is the header
piece_is : (g : _) (c : After-deref g) → c.deref.result.now ≡ header_in Second c.args.table.now
piece_is g c = c.deref.ensures.value ∙ c.requires.header

pub returns-in_err-write_after-clause-part : goal.returns-in_err-write_after-clause-part
returns-in_err-write_after-clause-part g c =
    let p = err_from_is_err_and c.from_residual.result c.from_residual.ensures.1 in
    let is = piece_is g (goal.at.returns-in_err-write_after-clause-part g c).After-deref in
    rw (p.1, p.2) (stops_past (g.W.Sink.state c.args.sink.now) (g.W.Sink.state c.args.sink.now) (g.W.Sink.state c.write_after.new.sink) 0 0
    [] c.deref.result.now _ _ _ (writes_none (g.W.Sink.state c.args.sink.now)) refl (parts_after c.args.table.now c.deref.result.now is)
    c.in_err-write_after.ensures.part)

pub returns-in_err-write_records-clause-part : goal.returns-in_err-write_records-clause-part
returns-in_err-write_records-clause-part g c =
    let p = err_from_is_err_and c.from_residual-in_err-write_records.result c.from_residual-in_err-write_records.ensures.1 in
    let at = goal.at.returns-in_err-write_records-clause-part g c in
    let is = piece_is g at.After-deref in
    let table = c.args.table.now in
    rw (p.1, p.2) (stops_past (g.W.Sink.state c.args.sink.now) (g.W.Sink.state c.write_after.new.sink) (g.W.Sink.state c.write_records.new.sink) 0 21
    c.deref.result.now (code_bytes c.codes-codes.result.now) _ _ _ c.in_ok-write_after.ensures.done (ap length is)
    (parts_after table c.deref.result.now is
    ∙ ap (λ (body : List ℕ). c.deref.result.now ++ (body ++ sha256 (contents_in Second table))) (sym (are g at.After-codes-codes)))
    c.in_err-write_records.ensures.part)

-- before the digest the header and the records went in
before : (g : _) (c : In_ok-write_records g)
    → Writes (change (g.W.Sink.state c.args.sink.now) (g.W.Sink.state c.write_records.new.sink)) (contents_in Second c.args.table.now)
before g c =
    let table = c.args.table.now in
    let codes = c.codes-codes.result.now in
    let piece = c.deref.result.now in
    let all : piece ++ code_bytes codes ≡ contents_in Second table =
    ap (λ (body : List ℕ). piece ++ body) (sym (records-codes codes) ∙ ap records c.codes-codes.ensures)
    ∙ ap (λ (h : List ℕ). h ++ records table.values) (c.deref.ensures.value ∙ c.requires.header)
    ∙ header_records Second table in
    subst (Writes (change (g.W.Sink.state c.args.sink.now) (g.W.Sink.state c.write_records.new.sink))) all
    (writes_more (g.W.Sink.state c.args.sink.now) (g.W.Sink.state c.write_after.new.sink) (g.W.Sink.state c.write_records.new.sink) piece
    (code_bytes codes) c.in_ok-write_after.ensures.done c.in_ok-write_records.ensures.done)

pub returns-clause-done : goal.returns-clause-done
returns-clause-done g c =
    let contents = contents_in Second c.args.table.now in
    on_ok_weaker c.put_after.result
    (λ puts. subst (λ (d : List ℕ). Puts (change (g.W.Sink.state c.args.sink.now) (g.W.Sink.state c.put_after.new.sink)) (contents ++ d))
    (c.requires.digest ∙ digest_is c.args.table.now)
    (puts_more (g.W.Sink.state c.args.sink.now) (g.W.Sink.state c.write_records.new.sink) (g.W.Sink.state c.put_after.new.sink)
    contents c.args.digest.now (before g (goal.at.returns-clause-done g c).In_ok-write_records) puts)) c.put_after.ensures.done

pub returns-clause-part : goal.returns-clause-part
returns-clause-part g c =
    let table = c.args.table.now in
    let codes = c.codes-codes.result.now in
    let count : length table.values ≡ c.len.result = ap length (sym c.codes-codes.ensures) ∙ length-map codes value_of_code ∙ sym c.len.ensures.count in
    let long : length (contents_in Second table) ≡ 21 + 2 * c.len.result = length-contents Second table ∙ ap (λ (n : ℕ). 21 + 2 * n) count in
    let whole : bytes_of table ≡ contents_in Second table ++ c.args.digest.now =
    ap (λ (d : List ℕ). contents_in Second table ++ d) (sym (c.requires.digest ∙ digest_is table)) in
    IfErr-weaker c.put_after.result _ _
    (λ failed. stops_last (g.W.Sink.state c.args.sink.now) (g.W.Sink.state c.write_records.new.sink) (g.W.Sink.state c.put_after.new.sink)
    (21 + 2 * c.len.result) (contents_in Second table) c.args.digest.now (bytes_of table) failed
    (before g (goal.at.returns-clause-part g c).In_ok-write_records) long whole) c.put_after.ensures.part
